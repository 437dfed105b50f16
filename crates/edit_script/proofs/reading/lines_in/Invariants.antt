use Rattle.std.proofs.Common.{◌≡◌, ◌-◌, drop, length}
use Rattle.edit_script.specs.Lines.{cuts, lines_of}
use Rattle.edit_script.specs.Script.{steps_in}
use Rattle.edit_script.proofs.LineLoop.{after}
use Rattle.edit_script.proofs.reading.lines_in.Given as goal

abbrev pub invariant-loop-at : goal.invariant-loop-at
invariant-loop-at l = after l.lines (steps_in (cuts l.at (drop l.at l.text))) ≡ steps_in (lines_of l.text)

abbrev pub decreases-loop-at : goal.decreases-loop-at
decreases-loop-at l = length l.text - l.at
