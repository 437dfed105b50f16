-- Which boxes a document has (CSS 2.1, section 9.2; CSS Multi-column 1, sections 2 and 6). The nodes of a tree are numbered
-- in their order: these words speak of nodes side by side, of which the first has number k.
use Rattle.std.specs.Prelude.{ℕ, suc, ◌+◌, ◌*◌, ◌-◌, Bool, true, false, ◌&&◌, ◌||◌, not, if◌then◌else◌, List, [], ◌∷◌, ◌++◌, map, chars, codes, fold, Option, Some, None, is_some, is_none}
use Rattle.std.specs.List.{list_any}
use Rattle.std.specs.Char.{is_ascii_digit}
use Rattle.mc_base.specs.declared.refusal.Found.{Found}
use Rattle.mc_base.specs.declared.refusal.ConstructName.{ConstructName}
use Rattle.mc_base.specs.declared.refusal.ConstructName.TheVariants as names
use Rattle.html_grammar.specs.declared.dom.Attribute.{Attribute}
use Rattle.html_grammar.specs.Names.{same}
use Rattle.html_grammar.specs.Tree.{Forest, Nil, Element, Words}
use Rattle.inline_text.specs.declared.content.Piece.{Piece}
use Rattle.inline_text.specs.declared.content.Piece.TheVariants as pieces
use Rattle.inline_text.specs.WhiteSpace.{collapsed_behind}
use Rattle.line_breaker.specs.Lines.{is_chance}
use Rattle.inline_text.specs.declared.content.Runs.{Runs}
pub use Rattle.box_data.specs.declared.tree.BoxKind.{BoxKind as Kind}
pub use Rattle.box_data.specs.declared.tree.BoxKind.TheVariants.{Block as block_box, Anonymous as anonymous, Container as container, ImageBlock as image_block}
use Rattle.box_data.specs.declared.tree.BoxNode.{BoxNode}
use Rattle.box_data.specs.declared.tree.BoxTree.{BoxTree}
use Rattle.box_data.specs.Styles.{hidden, inline, block, BoxStyle, style_of, texts_of, capped, is_length}

-- ---- trees of boxes

-- boxes side by side: the first, with those in it, and those after it
pub data Boxes (A : Type 0) : Type 0 where
  none : Boxes A
  box : A → (kids next : Boxes A) → Boxes A

-- a box: whose style it has, its kind, and its inline content
pub record Node : Type 0 where
  pub element : ℕ
  pub kind : Kind
  pub run : Option (List Piece)

-- the boxes in document order, in which they are numbered
abbrev pub in_order : {A : Type 0} → Boxes A → List A
in_order none = []
in_order (box a kids next) = a ∷ in_order kids ++ in_order next

abbrev pub box_count : {A : Type 0} → Boxes A → ℕ
box_count none = 0
box_count (box a kids next) = suc (box_count kids + box_count next)

-- ---- elements

abbrev pub node_count : Forest → ℕ
node_count Nil = 0
node_count (Element at name attributes kids next) = suc (node_count kids + node_count next)
node_count (Words at text next) = suc (node_count next)

abbrev pub is_shown : BoxStyle → Bool
is_shown s = elim (s.display) as (λ d. Bool) [ hidden ↦ false | inline ↦ true | block ↦ true ]

abbrev pub is_block : BoxStyle → Bool
is_block s = elim (s.display) as (λ d. Bool) [ hidden ↦ false | inline ↦ false | block ↦ true ]

abbrev pub is_image : List ℕ → Bool
is_image name = same name (codes "img")

-- elements without content of their own
abbrev pub is_empty : List ℕ → Bool
is_empty name = is_image name || (same name (codes "br") || same name (codes "wbr"))

-- a block with columns is a container, unless it is an image
abbrev pub is_container : BoxStyle → List ℕ → Bool
is_container s name = not (is_image name) && (is_some s.column_count || is_some s.column_width)

abbrev pub value_of : List ℕ → List Attribute → Option (List ℕ)
value_of name [] = None
value_of name (a ∷ attributes) = if same name a.name then Some a.value else value_of name attributes

abbrev pub whole_number : List ℕ → ℕ
whole_number digits = fold (λ n digit. 10 * n + (digit - 48)) 0 digits

-- a size attribute is one or more digits; a px has 64 units, of which more than 2^62 count as 2^62
abbrev pub size_given : Option (List ℕ) → Option ℕ
size_given None = None
size_given (Some []) = None
size_given (Some (digit ∷ digits)) = if list_any (λ d. not (is_ascii_digit d)) (digit ∷ digits) then None else Some (capped (64 * whole_number (digit ∷ digits)))

abbrev pub size_attribute : List ℕ → List Attribute → Option ℕ
size_attribute name attributes = size_given (value_of name attributes)

abbrev pub or_zero : Option ℕ → ℕ
or_zero None = 0
or_zero (Some n) = n

-- ---- inline content

-- the tree with its texts as characters, of which all that follows speaks
abbrev pub with_characters : Forest → Forest
with_characters Nil = Nil
with_characters (Element at name attributes kids next) = Element at name attributes (with_characters kids) (with_characters next)
with_characters (Words at text next) = Words at (chars text) (with_characters next)

abbrev pub image_piece : ℕ → List Attribute → Piece
image_piece k attributes = pieces.Image (or_zero (size_attribute (codes "width") attributes)) (or_zero (size_attribute (codes "height") attributes)) k

-- the pieces of inline element k, with these pieces in it
abbrev pub inline_pieces : BoxStyle → ℕ → List ℕ → List Attribute → List Piece → List Piece
inline_pieces s k name attributes inside =
    if not (is_shown s) then [] else
    if is_image name then image_piece k attributes ∷ [] else
    if same name (codes "br") then pieces.Forced ∷ [] else
    if same name (codes "wbr") then pieces.Chance ∷ [] else inside

-- the inline content up to the next block-level box, in an element of this number
abbrev pub front : List BoxStyle → (parent k : ℕ) → Forest → List Piece
front styles parent k Nil = []
front styles parent k (Words at text next) = map (λ ch. pieces.Char ch parent) text ++ front styles parent (suc k) next
front styles parent k (Element at name attributes kids next) =
    if is_block (style_of styles k) then [] else
    inline_pieces (style_of styles k) k name attributes (front styles k (suc k) kids) ++ front styles parent (suc k + node_count kids) next

-- the same with white space collapsed; it makes a line where it has more than break opportunities
abbrev pub run_of : List BoxStyle → List Piece → List Piece
run_of styles ps = collapsed_behind (texts_of styles) [] ps

abbrev pub makes_line : List Piece → Bool
makes_line run = list_any (λ p. not (is_chance p)) run

-- a block-level box stands side by side with this
abbrev pub has_blocks : List BoxStyle → (k : ℕ) → Forest → Bool
has_blocks styles k Nil = false
has_blocks styles k (Words at text next) = has_blocks styles (suc k) next
has_blocks styles k (Element at name attributes kids next) = is_block (style_of styles k) || has_blocks styles (suc k + node_count kids) next

-- ---- boxes

-- an anonymous box holds each maximal run of inline content beside block-level boxes
abbrev pub with_run : (parent : ℕ) → List Piece → Boxes Node → Boxes Node
with_run parent run boxes =
    if makes_line run then box (record { element = parent; kind = anonymous; run = Some run }) none boxes else boxes

abbrev pub kind_of : BoxStyle → List ℕ → Kind
kind_of s name = if is_image name then image_block else if is_container s name then container else block_box

-- the inline content of a block-level element that has no block-level box in it
abbrev pub own_run : List BoxStyle → ℕ → List ℕ → List Attribute → Forest → Option (List Piece)
own_run styles k name attributes kids =
    if is_image name then Some (image_piece k attributes ∷ []) else
    if is_empty name then None else
    if has_blocks styles (suc k) kids then None else Some (run_of styles (front styles k (suc k) kids))

-- the box of block-level element k: with these boxes behind its first run, if it has block-level boxes in it
abbrev pub element_box : List BoxStyle → ℕ → List ℕ → List Attribute → Forest → (inside next : Boxes Node) → Boxes Node
element_box styles k name attributes kids inside next =
    let s = style_of styles k in
    let node : Node = record { element = k; kind = kind_of s name; run = own_run styles k name attributes kids } in
    box node (if is_empty name then none else if has_blocks styles (suc k) kids then with_run k (run_of styles (front styles k (suc k) kids)) inside else none) next

-- the boxes of the block-level elements, and of the runs between and behind them
abbrev pub boxes_behind : List BoxStyle → (parent k : ℕ) → Forest → Boxes Node
boxes_behind styles parent k Nil = none
boxes_behind styles parent k (Words at text next) = boxes_behind styles parent (suc k) next
boxes_behind styles parent k (Element at name attributes kids next) =
    let behind = boxes_behind styles parent (suc k + node_count kids) next in
    if is_block (style_of styles k)
    then element_box styles k name attributes kids (boxes_behind styles k (suc k) kids)
    (with_run parent (run_of styles (front styles parent (suc k + node_count kids) next)) behind)
    else behind

-- the boxes of a document: html has a block's box, unless it isn't shown
abbrev pub boxes_of : List BoxStyle → Forest → Boxes Node
boxes_of styles Nil = none
boxes_of styles (Words at text next) = none
boxes_of styles (Element at name attributes kids next) =
    if is_shown (style_of styles 0)
    then element_box styles 0 name attributes kids (boxes_behind styles 0 1 kids) none
    else none

-- ---- elements that are shown, and the first that isn't laid out

abbrev pub shown_from : List BoxStyle → (k : ℕ) → Forest → List ℕ
shown_from styles k Nil = []
shown_from styles k (Words at text next) = shown_from styles (suc k) next
shown_from styles k (Element at name attributes kids next) =
    (if is_shown (style_of styles k) then k ∷ shown_from styles (suc k) kids else []) ++ shown_from styles (suc k + node_count kids) next

abbrev pub or_else : {A : Type 0} → Option A → Option A → Option A
or_else None other = other
or_else (Some a) other = Some a

abbrev pub named : Bool → ConstructName → Option ConstructName
named holds name = if holds then Some name else None

-- why an element isn't laid out: it is block-level or not, and so is the element around it
abbrev pub construct_of : BoxStyle → (is_block around_is_block : Bool) → List ℕ → List Attribute → Option ConstructName
construct_of s is_block around_is_block name attributes =
    or_else s.refused
    (or_else (named (is_block && not around_is_block) names.BlockInInline)
    (or_else (named (is_block && is_length s.height && not (is_container s name) && not (is_image name)) names.Height)
    (named (is_image name && (is_none (size_attribute (codes "width") attributes) || is_none (size_attribute (codes "height") attributes))) names.ImgSize)))

abbrev pub found_at : ℕ → Option ConstructName → Option Found
found_at at None = None
found_at at (Some name) = Some (record { offset = at; name = name })

abbrev pub construct_from : List BoxStyle → (around_is_block : Bool) → (k : ℕ) → Forest → Option Found
construct_from styles around_is_block k Nil = None
construct_from styles around_is_block k (Words at text next) = construct_from styles around_is_block (suc k) next
construct_from styles around_is_block k (Element at name attributes kids next) =
    let s = style_of styles k in
    or_else (if is_shown s then or_else (found_at at (construct_of s (is_block s) around_is_block name attributes)) (construct_from styles (is_block s) (suc k) kids) else None)
    (construct_from styles around_is_block (suc k + node_count kids) next)

-- the first construct in the document that isn't laid out, html being block-level
abbrev pub first_construct : List BoxStyle → Forest → Option Found
first_construct styles Nil = None
first_construct styles (Words at text next) = None
first_construct styles (Element at name attributes kids next) =
    let s = style_of styles 0 in
    if is_shown s then or_else (found_at at (construct_of s true true name attributes)) (construct_from styles true 1 kids) else None

-- ---- the box tree as a list

-- the inline content of a box, in which pieces name elements
abbrev pub runs_of : Option (List Piece) → Option Runs
runs_of None = None
runs_of (Some pieces) = Some (record { pieces = pieces; styles = [] })

-- the boxes in document order, numbered from n, in the box of this number
abbrev pub box_nodes : (parent : Option ℕ) → (n : ℕ) → Boxes Node → List BoxNode
box_nodes parent n none = []
box_nodes parent n (box node kids next) =
    record { parent = parent; element = node.element; kind = node.kind; runs = runs_of node.run }
    ∷ (box_nodes (Some n) (suc n) kids ++ box_nodes parent (suc n + box_count kids) next)

-- the boxes and the shown elements of a document with this tree, its texts as characters
abbrev pub tree_of : List BoxStyle → Forest → BoxTree
tree_of styles tree = record {
  nodes = box_nodes None 0 (boxes_of styles (with_characters tree));
  shown = shown_from styles 0 tree;
}
