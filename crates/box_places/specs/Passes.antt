-- The boxes of a list in their places, each from the block that the box around it makes. (A list that isn't a tree's has a
-- place for each box too: a box whose parent isn't before it stands in the outermost block.)
use Rattle.std.specs.Prelude.{ℕ, suc, List, [], ◌∷◌, ◌++◌, Option, Some, None, slice_index_or}
use Rattle.box_data.specs.declared.tree.BoxNode.{BoxNode}
use Rattle.box_data.specs.declared.style.BoxStyle.{BoxStyle}
use Rattle.box_data.specs.declared.placed.Placed.{Placed}
use Rattle.box_data.specs.Widths.{placed_one, place_in, outermost}
use Rattle.box_places.specs.declared.place.ContainingBlock.{ContainingBlock}
use Rattle.box_places.specs.Parts.{node_of, place_of, block_of}

unfoldable pub placed_in : List BoxStyle → (number : ℕ) → BoxNode → ContainingBlock → Placed
placed_in styles number node around = placed_one styles [] node.parent number (node_of node) (place_of around)

unfoldable pub inside : Placed → ContainingBlock → ContainingBlock
inside p around = block_of (place_in p (place_of around))

-- the block around a box, by the number of the box that makes it
abbrev pub around_of : (outer : ContainingBlock) → List ContainingBlock → Option ℕ → ContainingBlock
around_of outer blocks None = outer
around_of outer blocks (Some k) = slice_index_or blocks k outer

-- the boxes from number n on, where those before them make these blocks
abbrev pub placed_behind : List BoxStyle → (outer : ContainingBlock) → (blocks : List ContainingBlock) → (n : ℕ)
    → List BoxNode → List Placed
placed_behind styles outer blocks n [] = []
placed_behind styles outer blocks n (node ∷ nodes) =
    let around = around_of outer blocks node.parent in
    let p = placed_in styles n node around in
    p ∷ placed_behind styles outer (blocks ++ inside p around ∷ []) (suc n) nodes

abbrev pub all_placed : List BoxStyle → (width : ℕ) → List BoxNode → List Placed
all_placed styles width nodes = placed_behind styles (block_of (outermost width)) [] 0 nodes
