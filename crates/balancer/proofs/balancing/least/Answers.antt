use Rattle.std.proofs.Common.{◌∙◌, ◌+◌, ◌^◌, ◌<◌, ℕ, Option, ap, subst, sym}
use Rattle.std.specs.Prelude.{IfSome}
use Rattle.flow_data.specs.Flows.{row_of}
use Rattle.flow_list.specs.Book.{after_uses}
use Rattle.flow_list.specs.Entries.{uses_in}
use Rattle.frag_pool.proofs.Growth.{given-up, given-up-kept}
use Rattle.inner_rows.proofs.Calls.{extends-refl}
use Rattle.balancer.specs.Balancing.{IsBalanced, balanced_uses}
use Rattle.balancer.proofs.Trials.{row-flow}
use Rattle.balancer.proofs.Wholes.{limit-balanced, limit-small, limit-uses, size-small}
use Rattle.balancer.proofs.balancing.least.Goals as goal

pub balance-requires-clause-available : goal.balance-requires-clause-available
balance-requires-clause-available g c =
    subst (λ (o : Option ℕ). IfSome o (λ a. a + 1 < 2 ^ 64)) (sym c.limit.ensures) (limit-small c.args.available)

pub returns-in-Ok-clause-least : goal.returns-in-Ok-clause-least
returns-in-Ok-clause-least g c =
    let d = c.args.flows.now in
    let sound = c.flow_counts-counts.ensures.sound in
    limit-balanced d c.args.row c.args.from.now
    (c.ranges_account.ensures d sound c.args.row c.requires.row c.args.from.now c.requires.place)
    (size-small d c.args.row c.args.from.now (c.flows_are_sound.ensures d sound (row_of d c.args.row).flow
    (row-flow d c.args.row sound c.requires.row))) c.args.available c.in-Ok.made
    (subst (λ (o : Option ℕ). IsBalanced d c.args.row c.args.from.now o c.in-Ok.made) c.limit.ensures c.in-Ok.ensures.least)

pub returns-in-Ok-clause-uses : goal.returns-in-Ok-clause-uses
returns-in-Ok-clause-uses g c =
    let d = c.args.flows.now in
    let sound = c.flow_counts-counts.ensures.sound in
    c.in-Ok.ensures.uses
    ∙ ap (after_uses d (uses_in c.args.book.now)) (ap (balanced_uses d c.args.row c.args.from.now) c.limit.ensures
    ∙ limit-uses d c.args.row c.args.from.now
    (c.ranges_account.ensures d sound c.args.row c.requires.row c.args.from.now c.requires.place)
    (size-small d c.args.row c.args.from.now (c.flows_are_sound.ensures d sound (row_of d c.args.row).flow
    (row-flow d c.args.row sound c.requires.row))) c.args.available)

pub returns-in-Err-clause-engine : goal.returns-in-Err-clause-engine
returns-in-Err-clause-engine g c =
    g.met.I.InnerRows.stays c.balance.new.inner c.args.flows.now c.balance.new.book c.balance.new.book c.balance.new.pool
    c.release.new.self c.in-Err.ensures.engine (extends-refl _) (given-up-kept _ _ _ c.release.ensures.back)

pub returns-in-Err-clause-refused : goal.returns-in-Err-clause-refused
returns-in-Err-clause-refused g c =
    given-up _ _ _ _ c.mark-mark.ensures.trial c.in-Err.ensures.grown c.release.ensures.back
