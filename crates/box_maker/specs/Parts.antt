-- What the first of some nodes side by side is for the boxes of a document.
use Rattle.std.specs.Prelude.{ℕ, suc, Bool, if◌then◌else◌, List, [], ◌∷◌, ◌++◌, map, chars, Option, Some, None, length}
use Rattle.mc_base.specs.declared.refusal.Found.{Found}
use Rattle.html_grammar.specs.Tree.{Forest, Nil, Element, Words}
use Rattle.inline_text.specs.declared.content.Piece.{Piece}
use Rattle.inline_text.specs.declared.content.Piece.TheVariants as pieces
use Rattle.box_data.specs.declared.tree.BoxNode.{BoxNode}
use Rattle.box_data.specs.declared.style.BoxStyle.{BoxStyle}
use Rattle.box_data.specs.Styles.{style_of}
use Rattle.box_data.specs.BoxTree.{Boxes, Node, box_nodes, boxes_behind, construct_of, construct_from, found_at, front}
use Rattle.box_data.specs.BoxTree.{is_block, is_shown, or_else, run_of, shown_from, with_characters, with_run}

-- the characters of a text in an element of this number
abbrev pub text_pieces : (parent : ℕ) → List ℕ → List Piece
text_pieces parent text = map (λ ch. pieces.Char ch parent) (chars text)

-- the first construct in the first of these nodes, and in it
abbrev pub construct_first : List BoxStyle → (around_is_block : Bool) → (k : ℕ) → Forest → Option Found
construct_first styles around k Nil = None
construct_first styles around k (Words at text next) = None
construct_first styles around k (Element at name attributes kids next) =
    let s = style_of styles k in
    if is_shown s then or_else (found_at at (construct_of s (is_block s) around name attributes)) (construct_from styles
    (is_block s) (suc k) kids) else None

-- the first of these nodes and those in it that are shown elements
abbrev pub shown_first : List BoxStyle → (k : ℕ) → Forest → List ℕ
shown_first styles k Nil = []
shown_first styles k (Words at text next) = []
shown_first styles k (Element at name attributes kids next) =
    if is_shown (style_of styles k) then k ∷ shown_from styles (suc k) kids else []

-- the boxes of these nodes side by side, that of their first run of inline content before the others
abbrev pub boxes_in : List BoxStyle → (parent k : ℕ) → Forest → Boxes Node
boxes_in styles parent k forest =
    with_run parent (run_of styles (front styles parent k (with_characters forest))) (boxes_behind styles parent k
    (with_characters forest))

-- this list, and after it the boxes, numbered on in the box of this number
abbrev pub followed_by : (number : ℕ) → List BoxNode → Boxes Node → List BoxNode
followed_by number out boxes = out ++ box_nodes (Some number) (length out) boxes
