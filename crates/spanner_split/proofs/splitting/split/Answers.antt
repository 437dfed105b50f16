use Rattle.std.proofs.Common.{ℕ, ◌-◌, ◌≤◌, List, [], ◌∷◌, ◌++◌, take, drop, sym, ◌∙◌, ap, subst, arith}
use Rattle.std.specs.List.{fold}
use Rattle.spanner_split.specs.declared.event.Part.{Part}
use Rattle.spanner_split.specs.Cut.{IsCut, boxes_after}
use Rattle.spanner_split.proofs.Cuts.{cut_more, boxes_at_to}
use Rattle.spanner_split.proofs.splitting.split.Goals as goal

pub loop-from-preserved : goal.loop-from-preserved
loop-from-preserved c =
    let ordered : c.loop-from.from ≤ c.in_ok-part.part.to =
    omega (arith, c.in_ok-part.ensures.from, c.in_ok-part.ensures.part.some) in
    let longer : IsCut c.args.events.now 0 (c.loop-from.parts ++ c.in_ok-part.part ∷ []) c.in_ok-part.part.to =
    cut_more c.args.events.now 0 c.loop-from.from c.loop-from.parts c.in_ok-part.part c.loop-from.invariant.cut
    c.in_ok-part.ensures.from c.in_ok-part.ensures.part in
    record {
      within = c.in_ok-part.ensures.to;
      cut = subst (λ (parts : List Part). IsCut c.args.events.now 0 parts c.in_ok-part.part.to) (sym c.in_ok-push.ensures.ok)
          longer;
      boxes =
          c.in_ok-follow.ensures
          ∙ (ap (λ (boxes : List ℕ). fold boxes_after boxes
          (take (c.in_ok-part.part.to - c.loop-from.from) (drop c.loop-from.from c.args.events.now)))
          c.loop-from.invariant.boxes
          ∙ boxes_at_to c.args.events.now c.loop-from.from c.in_ok-part.part.to ordered);
    }
