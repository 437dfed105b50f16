use Rattle.std.proofs.Common.{sym, arith}
use Rattle.std.proofs.lemmas.Bool.Decides.{nat_tests}
use Rattle.mc_draw.proofs.ReadLemmas.{first_bad, within_bad, after_bad, all_read}
use Rattle.mc_draw.proofs.AgainLemmas.{alone, good}
use Rattle.mc_draw.proofs.read.read_drawing.Goals as goal

pub returns-in_default-clause-err : goal.returns-in_default-clause-err
returns-in_default-clause-err c = first_bad _ (sym c.in_default.ensures)

pub returns-in_default-past-clause-err : goal.returns-in_default-past-clause-err
returns-in_default-past-clause-err c = within_bad _ _ _ _ _ _ _ (sym c.in-Some.ensures) c.in_ok-shapes.ensures.spelled
    c.in_ok-shapes.ensures.fit c.in_ok-shapes.ensures.all (sym c.in_default-past.ensures) c.len.ensures

pub returns-then-not-is_empty-clause-err : goal.returns-then-not-is_empty-clause-err
returns-then-not-is_empty-clause-err c =
    let empty = c.is_empty.ensures in
    let no = c.if-not-is_empty.true in
    after_bad _ _ _ _ _ _ _ _ (sym c.in-Some.ensures) c.in_ok-shapes.ensures.spelled c.in_ok-shapes.ensures.fit
    (sym c.in-Some-past.ensures) (grind (arith, nat_tests)) c.len-then-not-is_empty.ensures

pub returns-clause-ok : goal.returns-clause-ok
returns-clause-ok c =
    let empty = c.is_empty.ensures in
    let no = c.if-not-is_empty.false in
    all_read _ _ _ _ _ _ _ (sym c.in-Some.ensures) c.in_ok-shapes.ensures.spelled c.in_ok-shapes.ensures.fit
    (sym c.in-Some-past.ensures) (grind (arith, nat_tests))

pub returns-in_default-clause-again : goal.returns-in_default-clause-again
returns-in_default-clause-again c = λ d is. good _ d _ is (returns-in_default-clause-err c)

pub returns-in_default-past-clause-again : goal.returns-in_default-past-clause-again
returns-in_default-past-clause-again c = λ d is. good _ d _ is (returns-in_default-past-clause-err c)

pub returns-then-not-is_empty-clause-again : goal.returns-then-not-is_empty-clause-again
returns-then-not-is_empty-clause-again c = λ d is. good _ d _ is (returns-then-not-is_empty-clause-err c)

pub returns-clause-again : goal.returns-clause-again
returns-clause-again c = λ d is. alone _ _ d (returns-clause-ok c) is
