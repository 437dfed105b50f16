use Rattle.std.proofs.Common.{◌≤◌, length, drop, All}
use Rattle.std.specs.Prelude.{IsTrue}
use Rattle.line_breaker.specs.Lines.{is_chance}
use Rattle.line_breaker.proofs.breaking.lines_end.Given as goal

abbrev pub invariant-loop-at : goal.invariant-loop-at
invariant-loop-at l = record {
  within : l.at ≤ length l.pieces;
  rest : All (λ piece. IsTrue (is_chance piece)) (drop l.at l.pieces);
}

abbrev pub decreases-loop-at : goal.decreases-loop-at
decreases-loop-at l = l.at
