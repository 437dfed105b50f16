use Rattle.std.proofs.Common.{refl}
use Rattle.std.proofs.lemmas.Result.{err_from_is_err_and}
use Rattle.edit_script.specs.Lines.{lines_of}
use Rattle.edit_script.proofs.LineLoop.{goes_on, bad_line, all_read, at_front}
use Rattle.edit_script.proofs.reading.lines_in.Goals as goal

pub loop-at-init : goal.loop-at-init
unfolding lines_of
loop-at-init c = rw (c.new-lines.ensures, c.mark_len-at.ensures.value) (at_front c.args.text.now _)

pub returns-in_err-line : goal.returns-in_err-line
returns-in_err-line c =
    let p = err_from_is_err_and c.from_residual.result c.from_residual.ensures.1 in
    let k = rw c.split_at.ensures.back at c.line_len.ensures.value in
    let front = rw c.split_at.ensures.back at c.split_at-in-loop-at.ensures.front in
    let behind = rw c.split_at.ensures.back at c.split_at-in-loop-at.ensures.back in
    let fails = rw c.is_empty.ensures at c.in_err-line.ensures in
    rw (p.1, p.2) (bad_line c.in_err-line.field-0.0 c.loop-at.lines c.args.text.now _ _ c.loop-at.at
    c.line_len.result _ c.loop-at-test.true k front behind fails c.loop-at.invariant)

pub loop-at-preserved : goal.loop-at-preserved
loop-at-preserved c =
    let k = rw c.split_at.ensures.back at c.line_len.ensures.value in
    let front = rw c.split_at.ensures.back at c.split_at-in-loop-at.ensures.front in
    let behind = rw c.split_at.ensures.back at c.split_at-in-loop-at.ensures.back in
    let line = rw c.is_empty.ensures at c.in_ok-line.ensures in
    rw c.in_ok-push.ensures.ok (goes_on c.loop-at.lines c.in_ok-line.line c.args.text.now _ _ c.loop-at.at c.line_len.result
    c.end_len.result _ _ c.loop-at-test.true k front behind
    c.split_at-in-loop-at.ensures.front_len c.end_len.ensures.value refl line c.loop-at.invariant)

pub returns : goal.returns
returns c = all_read c.loop-at.lines c.args.text.now c.loop-at.at _ c.loop-at-test.false c.loop-at.invariant
