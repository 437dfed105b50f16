use Rattle.std.proofs.Common.{◌≡◌, true, ℤ, pos, ap, subst, ◌∙◌, w64, of_z, to_z, arith, rules}
use Rattle.std.specs.Prelude.{unsigned_abs}
use Rattle.std.proofs.lemmas.Int.{ints, to_z-of_z}
use mir.Syntax.{w128}
use Rattle.css_select.specs.Tests.{GoesTheWay}
use Rattle.css_select.proofs.Steps.{steps_if, steps_only}
use Rattle.css_select.proofs.compound.are_steps.Goals as goal

pub returns : goal.returns
returns c =
    let step_is = to_z-of_z w64 c.args.step c.ranges.step in
    let way_is = to_z-of_z w128 c.args.way c.ranges.way in
    let holds : c.goes_the_way.result ≡ true = cc in
    let given : GoesTheWay (to_z w64 (of_z w64 c.args.step)) (to_z w128 (of_z w128 c.args.way)) =
    c.goes_the_way.ensures.0 holds in
    let P : ℤ → Type 0 = λ v. GoesTheWay v (to_z w128 (of_z w128 c.args.way)) in
    let Q : ℤ → Type 0 = λ v. GoesTheWay c.args.step v in
    let goes : GoesTheWay c.args.step c.args.way = subst Q way_is (subst P step_is given) in
    let some : c.args.step ≡ pos 0
    → ⊥ = first_of (
      assumption c.if-step-eq0.false,
      search (rules, c.if-step-eq0.false),
      grind (arith, ints, c.if-step-eq0.false),
    ) in
    let size = c.unsigned_abs.ensures.value ∙ ap unsigned_abs way_is in
    let step_size = c.from.ensures ∙ (c.unsigned_abs-2.ensures.value ∙ ap unsigned_abs step_is) in (
      λ t. steps_if c.args.step c.args.way c.unsigned_abs.result c.from.result size step_size some goes t,
      λ h. steps_only c.args.step c.args.way c.unsigned_abs.result c.from.result size step_size some h,
    )
