use Rattle.std.proofs.Common.{◌≡◌, [], rules}
use Rattle.std.proofs.lemmas.Iterator.{cases_from_all, YieldsList-from_slice}
use borrow.Author.Tests.{tests}
use Rattle.flow_data.specs.Flows.{started}
use Rattle.flow_data.proofs.SoundSeams.{all_iff, joined_none, both_ways}
use Rattle.flow_data.proofs.sound_seams.has_no_start.Goals as goal

pub returns : goal.returns
returns c =
    let walked = cases_from_all _ _ _ (λ e. started e ≡ []) (λ e. started e ≡ [] → ⊥) c.all.ensures.ran
    (YieldsList-from_slice c.args.edges.now cc) (λ x q k. search (rules, tests)) (λ x q k. search (rules, tests)) in
    both_ways (all_iff (λ e. started e ≡ []) c.args.edges.now c.all.result walked) (joined_none started c.args.edges.now)
