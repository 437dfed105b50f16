use Rattle.std.proofs.Common.{◌++◌, ◌-◌, ◌<◌, ◌≤◌, ◌^◌, List, length, All}
use Rattle.line_breaker.specs.declared.line.Line.{Line}
use Rattle.line_breaker.specs.Lines.{AreLines}
use Rattle.line_breaker.proofs.breaking.cut.Given as goal

abbrev pub invariant-loop-from : goal.invariant-loop-from
invariant-loop-from l = record {
  within : l.from ≤ length l.runs.pieces;
  widths : All (λ (line : Line). line.w < 2 ^ 60) l.lines;
  so_far : (more : List Line) → AreLines l.runs l.fonts l.width l.strut l.from more
      → AreLines l.runs l.fonts l.width l.strut 0 (l.lines ++ more);
}

abbrev pub decreases-loop-from : goal.decreases-loop-from
decreases-loop-from l = length l.runs.pieces - l.from
