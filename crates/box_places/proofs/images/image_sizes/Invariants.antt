use Rattle.std.proofs.Common.{◌≡◌, ◌++◌, map, drop}
use Rattle.box_data.specs.Widths.{sized, sizes_in}
use Rattle.box_places.proofs.images.image_sizes.Given as goal

abbrev pub invariant-loop-piece : goal.invariant-loop-piece
invariant-loop-piece l =
    l.sizes ++ sizes_in (map (sized l.styles l.whole) (drop l.piece-index l.pieces))
    ≡ sizes_in (map (sized l.styles l.whole) l.pieces)
