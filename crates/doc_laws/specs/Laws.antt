-- The laws of documents, whatever the tree, its styles, its lines and its width.
use Rattle.std.specs.Prelude.{◌≡◌, ℕ, ◌^◌, ◌<◌, ◌≤◌, List, [], length, All, Option, None}
use Rattle.html_grammar.specs.Grammar.{depth_of}
use Rattle.html_grammar.specs.Tree.{Forest, nodes_from}
use Rattle.line_breaker.specs.declared.line.Line.{Line}
use Rattle.flow_data.specs.Soundness.{IsSound}
use Rattle.box_data.specs.declared.placed.Placed.{Placed}
use Rattle.box_data.specs.declared.style.BoxStyle.{BoxStyle}
use Rattle.box_data.specs.BoxTree.{Boxes, Node, in_order, boxes_of, box_nodes, with_characters}
use Rattle.box_data.specs.Widths.{placed}
use Rattle.box_data.specs.Content.{content_of}
use Rattle.box_data.specs.DocumentFlows.{flows_of_boxes}
use Rattle.box_data.specs.Limits.{long, late_limit, all_used_lengths}
use Rattle.box_data.specs.Bounds.{IsShortNode, AreParented, AreNumbered}
use Rattle.doc_laws.specs.Nesting.{NoSpanner, IsNested}

-- each line is narrower than 2^60
abbrev pub AreNarrow : List (List Line) → Type 0
AreNarrow lines = All (λ (ls : List Line). All (λ (l : Line). l.w < 2 ^ 60) ls) lines

-- The data of a document's flows is sound: where its tree is within the limits of trees, its styles are short, and no length, no
-- height
-- of an item and no other limit of flows is passed.
abbrev pub DocumentsAreSound : Type 0
DocumentsAreSound = (styles : List BoxStyle) (lines : List (List Line)) (width : ℕ) (height : Option ℕ) (tree : Forest)
    → depth_of tree ≤ 64 → length (nodes_from None 0 tree) ≤ 2 ^ 28 → width < 2 ^ 60
    → let boxes = boxes_of styles (with_characters tree) in
    let places = placed styles lines width boxes in
    All (IsShortNode styles) (box_nodes None 0 boxes)
    → long (all_used_lengths (in_order places)) ≡ None
    → late_limit (in_order places) (content_of places) (flows_of_boxes styles lines width height boxes) ≡ None
    → AreNarrow lines
    → IsSound (flows_of_boxes styles lines width height boxes)

-- places and widths of a box that fit into 64 bits with room to add
pub record IsNear (p : Placed) : Type 0 where
  pub x : p.x < 2 ^ 60
  pub outer_w : p.outer_w < 2 ^ 60
  pub content_x : p.content_x < 2 ^ 60
  pub w : p.w < 2 ^ 60
  pub columns_w : p.columns.w < 2 ^ 60
  pub step : p.columns.step < 2 ^ 60
  pub columns_n : p.columns.n < 2 ^ 32

-- each box of such a document is near, whatever its heights and the limits of its flows
abbrev pub BoxesAreNear : Type 0
BoxesAreNear = (styles : List BoxStyle) (lines : List (List Line)) (width : ℕ) (tree : Forest)
    → depth_of tree ≤ 64 → length (nodes_from None 0 tree) ≤ 2 ^ 28 → width < 2 ^ 60
    → let boxes = boxes_of styles (with_characters tree) in
    let places = in_order (placed styles lines width boxes) in
    All (IsShortNode styles) (box_nodes None 0 boxes) → long (all_used_lengths places) ≡ None → All IsNear places

-- The content of each document has no spanner left, and its boxes are nested: from no open box to none.
abbrev pub ContentsAreNested : Type 0
ContentsAreNested = (styles : List BoxStyle) (lines : List (List Line)) (width : ℕ) (tree : Forest)
    → let content = content_of (placed styles lines width (boxes_of styles tree)) in NoSpanner content × IsNested [] [] content

-- Each box of a tree has its number in document order and that of the box around it, and whatever the content names stands in the
-- list
-- of boxes by its number, and each line in its box.
abbrev pub BoxesAreNumbered : Type 0
BoxesAreNumbered = (styles : List BoxStyle) (lines : List (List Line)) (width : ℕ) (boxes : Boxes Node)
    → let places = placed styles lines width boxes in AreParented None 0 places
    × AreNumbered (in_order places) (content_of places)
