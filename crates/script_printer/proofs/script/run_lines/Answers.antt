-- A line runs after those before it, or is the first that isn't done.
use Rattle.std.proofs.Common.{◌∙◌}
use Rattle.std.proofs.lemmas.Result.{err_from_is_err_and}
use Rattle.script_printer.specs.Parts.{setting_in}
use Rattle.script_printer.proofs.Loop.{all_ran, goes_on, stops, room_left}
use Rattle.script_printer.proofs.script.run_lines.Goals as goal

pub returns-in_err-run_line-clause-refused : goal.returns-in_err-run_line-clause-refused
returns-in_err-run_line-clause-refused c = λ tree is.
    let p = err_from_is_err_and c.from_residual.result c.from_residual.ensures.1 in
    rw (p.1, p.2) (stops (setting_in c.args.session) (setting_in c.loop-line.session) c.args.lines.now c.loop-line.line-index
    _ c.line-item.result tree c.loop-line.session c.loop-line.printed c.in_err-run_line.field-0.0 c.loop-line-test.true
    c.line-item.is c.loop-line.invariant.same (c.loop-line.invariant.ran tree is) c.in_err-run_line.ensures.refused)

pub loop-line-preserved : goal.loop-line-preserved
loop-line-preserved c = record {
  ran = λ tree is. goes_on (setting_in c.args.session) (setting_in c.loop-line.session) c.args.lines.now c.loop-line.line-index
      _ c.line-item.result tree c.loop-line.session c.run_line.new.session c.loop-line.printed c.run_line.new.printed
      c.loop-line-test.true c.line-item.is c.loop-line.invariant.same (c.loop-line.invariant.ran tree is)
      c.in_ok-run_line.ensures.done;
  same = c.run_line.ensures.same ∙ c.loop-line.invariant.same;
  room = c.in_ok-run_line.ensures.room _
      (room_left c.args.lines.now c.loop-line.line-index _ c.line-item.result c.loop-line.session.dom c.loop-line-test.true
      c.line-item.is c.loop-line.invariant.room);
  short = c.in_ok-run_line.ensures.short;
}

pub returns-clause-text : goal.returns-clause-text
returns-clause-text c = λ tree is.
    all_ran (setting_in c.args.session) c.args.lines.now c.loop-line.line-index tree c.loop-line.session c.loop-line.printed
    c.loop-line-test.false (c.loop-line.invariant.ran tree is)
