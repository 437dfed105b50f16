use Rattle.std.proofs.Common.{◌≡◌, ◌++◌, ◌≤◌, drop}
use Rattle.box_lines.specs.Sizes.{with_sizes}
use Rattle.box_lines.proofs.pieces.with_sizes.Given as goal

abbrev pub invariant-loop-piece : goal.invariant-loop-piece
invariant-loop-piece l = record {
  so_far : l.made ++ with_sizes (drop l.next l.sizes) (drop l.piece-index l.pieces) ≡ with_sizes l.sizes l.pieces;
  within : l.next ≤ l.piece-index;
}
