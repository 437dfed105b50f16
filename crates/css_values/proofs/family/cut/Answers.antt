use Rattle.std.proofs.Common.{ap, sym, ◌∙◌}
use Rattle.std.specs.List.{list_any}
use Rattle.std.proofs.lemmas.List.{take_all}
use Rattle.css_values.specs.Families.{is_comma}
use Rattle.css_values.proofs.Pieces.{cut_here, no_cut}
use Rattle.css_values.proofs.family.cut.Goals as goal

pub returns-then-is_comma-clause-pieces : goal.returns-then-is_comma-clause-pieces
returns-then-is_comma-clause-pieces c =
    let here = sym c.is_comma.ensures ∙ c.if-is_comma.true in
    rw (c.split_at-then-is_comma.ensures.back, c.split_at.ensures.front, c.split_at.ensures.back)
    (cut_here c.args.value.now c.loop-i.i c.index-value-i.result c.loop-i.invariant c.loop-i-test.true c.index-value-i.is here)

pub returns-clause-pieces : goal.returns-clause-pieces
returns-clause-pieces c =
    let all = take_all c.loop-i.i c.args.value.now c.loop-i-test.false in
    no_cut c.args.value.now (ap (λ tokens. list_any is_comma tokens) (sym all) ∙ c.loop-i.invariant)
