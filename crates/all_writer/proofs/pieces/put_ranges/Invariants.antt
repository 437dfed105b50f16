-- what stands there, and the ranges to come
use Rattle.std.proofs.Common.{◌≡◌, ◌++◌, drop}
use Rattle.all_writer.specs.PieceText.{ranges_text}
use Rattle.all_writer.proofs.pieces.put_ranges.Given as goal

abbrev pub invariant-loop-range : goal.invariant-loop-range
invariant-loop-range l = l.out ++ ranges_text (drop l.range-index l.ranges) ≡ l.initial.out ++ ranges_text l.ranges
