use Rattle.std.proofs.Common.{◌≡◌, drop}
use Rattle.box_data.specs.Widths.{first_size, sizes_in}
use Rattle.box_places.proofs.images.first_size.Given as goal

abbrev pub invariant-loop-piece : goal.invariant-loop-piece
invariant-loop-piece l = first_size (sizes_in (drop l.piece-index l.pieces)) ≡ first_size (sizes_in l.pieces)
