use Rattle.std.proofs.Common.{◌≡◌, true, get_or, length, nat_eq, ◌∙◌}
use Rattle.std.proofs.lemmas.Bool.{eqb-true, both_ways, le-ltb}
use Rattle.css_select.proofs.AttributeLemmas.{dashed_from, front_of_dashed}
use Rattle.css_select.proofs.attributes.begins_dashed.Goals as goal
use Rattle.css_select.proofs.attributes.begins_dashed.Goals.{then-front-text, else-front-text}

pub returns-then-text-front-eq45 : goal.returns-then-text-front-eq45
returns-then-text-front-eq45 c = (
  λ t. elim c.if-front-text.branch [
    | then-front-text w ↦
        let dash : nat_eq (get_or c.args.text.now (length c.args.front.now) 0) 45 ≡ true = cc in
        dashed_from c.args.text.now c.args.front.now w.if-front-text.true (eqb-true _ _ dash) (c.begins_with.ensures.0 t)
    | else-front-text w ↦
        absurd (both_ways c.if-front-text.value
        (w.value-is ∙ le-ltb (length c.args.front.now) (length c.args.text.now) w.if-front-text.false)
        c.if-text-front-eq45.true)
  ],
  λ h. c.begins_with.ensures.1 (front_of_dashed c.args.text.now c.args.front.now h),
)
