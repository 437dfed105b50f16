use Rattle.std.proofs.Common.{refl, sym}
use Rattle.std.proofs.lemmas.Result.{err_from_is_err_and}
use Rattle.flow_text.proofs.TextLemmas.{goes_on, bad_line, bad_place, may_end, may_not_end}
use Rattle.flow_text.proofs.reading.lines_in.Goals as goal

pub returns-in_err-line : goal.returns-in_err-line
returns-in_err-line c =
    let p = err_from_is_err_and c.from_residual.result c.from_residual.ensures.1 in
    let k = rw c.split_at.ensures.back at c.len_before.ensures.value in
    let front = rw c.split_at.ensures.back at c.split_at-in-loop-at.ensures.front in
    let behind = rw c.split_at.ensures.back at c.split_at-in-loop-at.ensures.back in
    let fails = rw c.is_empty.ensures at c.in_err-line.ensures in
    rw (p.1, p.2) (bad_line c.in_err-line.field-0.0 c.loop-at.reading c.loop-at.lines c.args.text.now _ _ c.loop-at.at
    c.len_before.result c.loop-at-test.true k front behind fails c.loop-at.invariant)

pub returns-in_err-reading : goal.returns-in_err-reading
returns-in_err-reading c =
    let p = err_from_is_err_and c.from_residual-in_err-reading.result c.from_residual-in_err-reading.ensures.1 in
    let k = rw c.split_at.ensures.back at c.len_before.ensures.value in
    let front = rw c.split_at.ensures.back at c.split_at-in-loop-at.ensures.front in
    let behind = rw c.split_at.ensures.back at c.split_at-in-loop-at.ensures.back in
    let line = rw c.is_empty.ensures at c.in_ok-line.ensures in
    rw (p.1, p.2) (bad_place c.in_err-reading.field-0.0 c.loop-at.reading c.loop-at.lines c.in_ok-line.line c.args.text.now _ _
    c.loop-at.at c.len_before.result c.loop-at-test.true k front behind line c.in_err-reading.ensures c.loop-at.invariant)

pub loop-at-preserved : goal.loop-at-preserved
loop-at-preserved c =
    let k = rw c.split_at.ensures.back at c.len_before.ensures.value in
    let front = rw c.split_at.ensures.back at c.split_at-in-loop-at.ensures.front in
    let behind = rw c.split_at.ensures.back at c.split_at-in-loop-at.ensures.back in
    let line = rw c.is_empty.ensures at c.in_ok-line.ensures in
    rw c.in_ok-push.ensures.ok (goes_on c.loop-at.reading c.in_ok-reading.reading c.loop-at.lines c.in_ok-line.line
    c.args.text.now _ _ c.loop-at.at c.len_before.result _ _ c.loop-at-test.true k front behind
    c.split_at-in-loop-at.ensures.front_len refl line c.in_ok-reading.ensures c.loop-at.invariant)

pub returns-in-Some : goal.returns-in-Some
returns-in-Some c = may_not_end c.loop-at.reading c.loop-at.lines c.args.text.now c.loop-at.at c.in-Some.fault
    c.loop-at-test.false c.loop-at.invariant (sym c.in-Some.ensures)

pub returns : goal.returns
returns c = may_end c.loop-at.reading c.loop-at.lines c.args.text.now c.loop-at.at c.loop-at-test.false c.loop-at.invariant
    (sym c.in_default.ensures)
