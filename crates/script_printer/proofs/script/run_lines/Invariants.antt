-- The lines so far ran, and there is room for the edits that are left.
use Rattle.std.proofs.Common.{◌≡◌, ◌≤◌, length, take, drop}
use Rattle.std.specs.Prelude.{sum_by}
use Rattle.html_grammar.specs.Tree.{Forest}
use Rattle.script_runs.specs.Room.{HasRoomFor, line_bytes}
use Rattle.script_runs.specs.Runs.{State, Runs, begun, printed_limit}
use Rattle.script_printer.specs.Shown.{Shows, document_of}
use Rattle.script_printer.specs.Parts.{Stands, setting_in}
use Rattle.script_printer.proofs.script.run_lines.Given as goal

abbrev pub invariant-loop-line : goal.invariant-loop-line
invariant-loop-line l = record {
  ran : (tree : Forest) → l.fn.session.dom ≡ document_of tree
      → (state : State) × Runs (Shows (setting_in l.fn.session)) (take l.line-index l.lines) (begun tree) state
      × Stands l.session l.printed state;
  same : setting_in l.session ≡ setting_in l.fn.session;
  room : HasRoomFor (sum_by line_bytes (drop l.line-index l.lines)) l.session.dom;
  short : length l.printed ≤ printed_limit;
}
