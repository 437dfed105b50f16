use Rattle.std.proofs.Common.{◌≡◌, [], rules}
use Rattle.std.proofs.lemmas.Iterator.{cases_from_all, YieldsList-from_slice}
use borrow.Author.Tests.{tests}
use Rattle.flow_data.specs.Flows.{ended}
use Rattle.flow_data.proofs.SoundSeams.{all_iff, joined_none, both_ways}
use Rattle.flow_data.proofs.sound_seams.has_no_end.Goals as goal

pub returns : goal.returns
returns c =
    let walked = cases_from_all _ _ _ (λ e. ended e ≡ []) (λ e. ended e ≡ [] → ⊥) c.all.ensures.ran
    (YieldsList-from_slice c.args.edges.now cc) (λ x q k. search (rules, tests)) (λ x q k. search (rules, tests)) in
    both_ways (all_iff (λ e. ended e ≡ []) c.args.edges.now c.all.result walked) (joined_none ended c.args.edges.now)
