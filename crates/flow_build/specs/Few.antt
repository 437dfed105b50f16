-- What has more pieces, lines or marks than 32 bits count; no memory holds as many.
use Rattle.std.specs.Prelude.{ℕ, ◌^◌, ◌-◌, Bool, nat_lt, length}
use Rattle.box_data.specs.declared.tree.BoxNode.{BoxNode}
use Rattle.box_data.specs.declared.placed.Placed.{Placed}
use Rattle.box_lines.specs.Sizes.{pieces_of}

abbrev pub most : ℕ
most = 2 ^ 31 - 1

abbrev pub has_long_run : BoxNode → Bool
has_long_run node = nat_lt most (length (pieces_of node.runs))

abbrev pub has_many_lines : Placed → Bool
has_many_lines p = nat_lt most (length p.lines)
