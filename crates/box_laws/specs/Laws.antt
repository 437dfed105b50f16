-- What the boxes of a document name: its shown elements.
use Rattle.std.specs.Prelude.{◌≡◌, ◌⊎◌, ℕ, ◌≤◌, ◌^◌, List, [], ◌∷◌, None, IfSome, All}
use Rattle.std.specs.List.{AllByRecursion}
use Rattle.html_grammar.specs.Tree.{Forest}
use Rattle.inline_text.specs.declared.content.Piece.{Piece}
use Rattle.inline_text.specs.declared.content.Piece.TheVariants as pieces
use Rattle.inline_text.specs.declared.content.Runs.{Runs}
use Rattle.box_data.specs.declared.tree.BoxNode.{BoxNode}
use Rattle.box_data.specs.declared.style.BoxStyle.{BoxStyle}
use Rattle.box_data.specs.BoxTree.{box_nodes, boxes_of, with_characters, shown_from}

-- this holds of the element whose style a piece has; an image is no larger than 2^62 units
abbrev pub PieceHas : (ℕ → Type 0) → Piece → Type 0
PieceHas P (pieces.Char ch style) = P style
PieceHas P (pieces.Image w h style) = P style × (w ≤ 2 ^ 62) × (h ≤ 2 ^ 62)
PieceHas P pieces.Forced = Unit {0}
PieceHas P pieces.Chance = Unit {0}

-- this holds of the element whose style a box has, and of those that its inline content names
pub record NodeHas (P : ℕ → Type 0) (node : BoxNode) : Type 0 where
  pub element : P node.element
  pub pieces : IfSome node.runs (λ (runs : Runs). AllByRecursion (PieceHas P) runs.pieces)

abbrev pub IsIn : List ℕ → ℕ → Type 0
IsIn [] k = ⊥
IsIn (x ∷ xs) k = (k ≡ x) ⊎ IsIn xs k

-- the boxes name shown elements alone
abbrev pub BoxesNameShown : Type 0
BoxesNameShown = (styles : List BoxStyle) (tree : Forest)
    → All (NodeHas (IsIn (shown_from styles 0 tree))) (box_nodes None 0 (boxes_of styles (with_characters tree)))
