use Rattle.std.proofs.Common.{◌≡◌, drop}
use Rattle.line_breaker.specs.Measures.{greatest_above, greatest_below}
use Rattle.line_breaker.proofs.height.line_height.Given as goal

abbrev pub invariant-loop-piece : goal.invariant-loop-piece
invariant-loop-piece l = record {
  above : greatest_above l.styles l.fonts l.extent.above (drop l.piece-index l.pieces)
      ≡ greatest_above l.styles l.fonts l.fn.strut.above l.pieces;
  below : greatest_below l.styles l.fonts l.extent.below (drop l.piece-index l.pieces)
      ≡ greatest_below l.styles l.fonts l.fn.strut.below l.pieces;
}
