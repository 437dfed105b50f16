use Rattle.std.proofs.Common.{refl, length, below_more, sym, ◌∙◌}
use Rattle.std.proofs.lemmas.Bool.{eqb-true, eq-eqb, iff_false}
use Rattle.css_select.proofs.AttributeLemmas.{part_at, empty_part, none_before_end}
use Rattle.css_select.proofs.attributes.has_part.Goals as goal

pub returns-then-begins_at : goal.returns-then-begins_at
returns-then-begins_at c = (
  λ t. part_at c.args.text.now c.args.part.now c.loop-at.at (c.begins_at.ensures.0 c.if-begins_at.true),
  λ h. refl,
)

pub loop-at-preserved : goal.loop-at-preserved
loop-at-preserved c = below_more _ _ c.loop-at.invariant (iff_false c.begins_at.ensures c.if-begins_at.false)

pub returns : goal.returns
returns c = (
  λ t. empty_part c.args.text.now c.args.part.now (eqb-true (length c.args.part.now) 0 (sym c.is_empty.ensures ∙ t)),
  λ h. c.is_empty.ensures ∙ eq-eqb (length c.args.part.now) 0
      (none_before_end c.args.text.now c.args.part.now c.loop-at.at c.loop-at-test.false c.loop-at.invariant h),
)
