-- What holds of boxes whose lengths are within the limit, and of boxes and marks by their numbers.
use Rattle.std.specs.Prelude.{◌≡◌, ℕ, suc, ◌+◌, ◌^◌, ◌<◌, ◌≤◌, List, Option, Some, IfSome, slice_get}
use Rattle.std.specs.List.{AllByRecursion}
use Rattle.inline_text.specs.declared.content.Piece.{Piece}
use Rattle.inline_text.specs.declared.content.Piece.TheVariants as pieces
use Rattle.inline_text.specs.declared.content.Runs.{Runs}
use Rattle.box_data.specs.declared.tree.BoxNode.{BoxNode}
use Rattle.box_data.specs.Styles.{Length, auto, units, percent, SideLengths, SideAmounts, BoxStyle, style_of}
use Rattle.box_data.specs.BoxTree.{Boxes, none, box, box_count}
use Rattle.box_data.specs.Widths.{Placed}
use Rattle.box_data.specs.Content.{Leaf, line, image, void, Holder, stack, row, Content, done, opens, closes, leaf, holds, spanner}

-- ---- lengths of styles within the limit

abbrev pub IsShortLength : Length → Type 0
IsShortLength auto = Unit {0}
IsShortLength (units u) = u ≤ 2 ^ 24
IsShortLength (percent p) = Unit {0}

pub record AreShortLengths (sides : SideLengths) : Type 0 where
  pub top : IsShortLength sides.top
  pub right : IsShortLength sides.right
  pub bottom : IsShortLength sides.bottom
  pub left : IsShortLength sides.left

pub record AreShortAmounts (sides : SideAmounts) : Type 0 where
  pub top : sides.top ≤ 2 ^ 24
  pub right : sides.right ≤ 2 ^ 24
  pub bottom : sides.bottom ≤ 2 ^ 24
  pub left : sides.left ≤ 2 ^ 24

-- no length of the style is above the limit
pub record IsShort (s : BoxStyle) : Type 0 where
  pub size : s.size ≤ 2 ^ 24
  pub margin : AreShortLengths s.margin
  pub border : AreShortAmounts s.border
  pub padding : AreShortLengths s.padding
  pub width : IsShortLength s.width
  pub max_width : IsShortLength s.max_width
  pub height : IsShortLength s.height
  pub column_width : IfSome s.column_width (λ w. w ≤ 2 ^ 24)
  pub column_gap : IsShortLength s.column_gap
  -- and a count of columns is one of 32 bits above 0
  pub some_column : IfSome s.column_count (λ n. 0 < n)
  pub column_count : IfSome s.column_count (λ n. n < 2 ^ 32)

abbrev pub IsShortPiece : List BoxStyle → Piece → Type 0
IsShortPiece styles (pieces.Char ch style) = Unit {0}
IsShortPiece styles (pieces.Image w h style) = IsShort (style_of styles style) × (w ≤ 2 ^ 62) × (h ≤ 2 ^ 62)
IsShortPiece styles pieces.Forced = Unit {0}
IsShortPiece styles pieces.Chance = Unit {0}

-- the style of a box, and those of the images in it, have no length above the limit
pub record IsShortNode (styles : List BoxStyle) (node : BoxNode) : Type 0 where
  pub style : IsShort (style_of styles node.element)
  pub images : IfSome node.runs (λ (runs : Runs). AllByRecursion (IsShortPiece styles) runs.pieces)

-- ---- boxes by their numbers

-- each box has its number in document order, from n, and that of the box around it
abbrev pub AreParented : (parent : Option ℕ) → (n : ℕ) → Boxes Placed → Type 0
AreParented parent n none = Unit {0}
AreParented parent n (box p kids next) =
    (p.number ≡ n) × (p.parent ≡ parent) × AreParented (Some n) (suc n) kids × AreParented parent (suc n + box_count kids) next

abbrev pub IsNumbered : List Placed → Placed → Type 0
IsNumbered places p = slice_get places p.number ≡ Some p

abbrev pub LeafIsNumbered : List Placed → Leaf → Type 0
LeafIsNumbered places (line p index l) = IsNumbered places p × (slice_get p.lines index ≡ Some l)
LeafIsNumbered places (image p) = IsNumbered places p
LeafIsNumbered places (void p x) = IsNumbered places p

abbrev pub HolderIsNumbered : List Placed → Holder → Type 0
HolderIsNumbered places (stack p) = IsNumbered places p
HolderIsNumbered places (row p x is_last opened) = IsNumbered places p × AllByRecursion (IsNumbered places) opened

-- each box that the content names stands by its number in the list, and each line by its number in its box
abbrev pub AreNumbered : List Placed → Content → Type 0
AreNumbered places done = Unit {0}
AreNumbered places (opens p next) = IsNumbered places p × AreNumbered places next
AreNumbered places (closes p next) = IsNumbered places p × AreNumbered places next
AreNumbered places (leaf l next) = LeafIsNumbered places l × AreNumbered places next
AreNumbered places (holds h inside next) = HolderIsNumbered places h × AreNumbered places inside × AreNumbered places next
AreNumbered places (spanner inside next) = AreNumbered places inside × AreNumbered places next
