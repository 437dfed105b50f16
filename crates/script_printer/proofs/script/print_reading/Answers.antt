-- The lines that were read are those of the script.
use Rattle.std.proofs.Common.{Ok, ap, sym, ◌∙◌, subst}
use Rattle.std.specs.List.{AllByRecursion}
use Rattle.edit_script.specs.Script.{script_of}
use Rattle.script_runs.specs.Room.{LineIsUtf8}
use Rattle.script_printer.proofs.Readings.{lines_are, reading_refused}
use Rattle.script_printer.proofs.script.print_reading.Goals as goal

pub run_lines-requires-clause-utf8 : goal.run_lines-requires-clause-utf8
run_lines-requires-clause-utf8 c =
    subst (AllByRecursion LineIsUtf8) (sym c.as_slice.ensures)
    (c.scripts_are_bounded.ensures c.args.script.now c.in-Ok.lines
    (lines_are c.in-Ok.lines (script_of c.args.script.now) c.in-Ok.ensures)).1

pub returns-clause-refused : goal.returns-clause-refused
returns-clause-refused c =
    reading_refused c.args.reading c.args.script.now c.args.width c.args.height c.as_slice.result.now c.in_ok-session.session
    c.run_lines.result c.requires.formed.tree c.in_ok-session.ensures c.requires.formed.nodes c.requires.construct
    (lines_are c.in-Ok.lines (script_of c.args.script.now) c.in-Ok.ensures ∙ ap Ok (sym c.as_slice.ensures))
    c.run_lines.ensures.refused
