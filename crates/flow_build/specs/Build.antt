-- The flows of a document's boxes with their styles, by the faces of a table of metrics, and the first limit that they pass. The
-- limits and their order are this project's own.
use Rattle.std.specs.Prelude.{◌≡◌, ℕ, ◌^◌, ◌<◌, ◌≤◌, List, [], length, Option, None, Some, IfSome}
use Rattle.std.specs.List.{AllByRecursion}
use Rattle.mc_base.specs.declared.refusal.Refusal.{Refusal}
use Rattle.html_grammar.specs.Tree.{Forest, nodes_from}
use Rattle.html_grammar.specs.Grammar.{depth_of}
use Rattle.font_table.specs.declared.fonts.Face.{Face}
use Rattle.inline_text.specs.declared.content.Runs.{Runs}
use Rattle.line_breaker.specs.declared.line.Line.{Line}
use Rattle.css_cascade.specs.declared.styles.NodeStyle.{NodeStyle}
use Rattle.flow_data.specs.declared.data.FlowsData.{FlowsData}
use Rattle.box_data.specs.declared.tree.BoxNode.{BoxNode}
use Rattle.box_data.specs.declared.tree.BoxTree.{BoxTree}
use Rattle.box_data.specs.BoxTree.{Boxes, Node, in_order, boxes_of, with_characters, shown_from, tree_of, or_else}
use Rattle.box_data.specs.declared.placed.Placed.{Placed}
use Rattle.box_data.specs.Widths.{placed}
use Rattle.box_data.specs.Content.{content_of}
use Rattle.box_data.specs.DocumentFlows.{flows_of_boxes}
use Rattle.box_data.specs.Lines.{AreLinesOf}
use Rattle.box_data.specs.Limits.{long, all_used_lengths, late_limit}
use Rattle.box_style.specs.Styles.{styles_in}
use Rattle.box_style.specs.Texts.{run_texts}
use Rattle.box_style.specs.Lengths.{shown_lengths}

-- These are the boxes of a document with this tree and these styles, one entry for each node. At most 64 elements stand one inside
-- another, there are at most 2^28 nodes, and fewer than 2^32 pieces in a run.
pub record AreBoxesOf (entries : List (Option NodeStyle)) (tree : Forest) (boxes : BoxTree) : Type 0 where
  pub depth : depth_of tree ≤ 64
  pub count : length (nodes_from None 0 tree) ≤ 2 ^ 28
  pub each : length entries ≡ length (nodes_from None 0 tree)
  pub same : boxes ≡ tree_of (styles_in entries) tree
  pub few : AllByRecursion (λ (node : BoxNode). IfSome node.runs (λ (runs : Runs). length runs.pieces < 2 ^ 32)) boxes.nodes

-- the boxes of the document
abbrev pub document_boxes : List (Option NodeStyle) → Forest → Boxes Node
document_boxes entries tree = boxes_of (styles_in entries) (with_characters tree)

-- in their places, with these lines
abbrev pub document_places : List (Option NodeStyle) → List (List Line) → (width : ℕ) → Forest → Boxes Placed
document_places entries lines width tree = placed (styles_in entries) lines width (document_boxes entries tree)

-- these are their lines
abbrev pub AreDocumentLines : List Face → List (Option NodeStyle) → (width : ℕ) → Forest → List (List Line) → Type 0
AreDocumentLines faces entries width tree lines =
    AreLinesOf faces (run_texts faces entries) (styles_in entries) width (document_boxes entries tree) lines

-- and the flows' data
abbrev pub document_data : List (Option NodeStyle) → List (List Line) → (width : ℕ) (height : Option ℕ) → Forest → FlowsData
document_data entries lines width height tree =
    flows_of_boxes (styles_in entries) lines width height (document_boxes entries tree)

-- the first computed or used length above the limit, before any line is made
abbrev pub early_limit : List (Option NodeStyle) → (width : ℕ) → Forest → Option Refusal
early_limit entries width tree =
    or_else (long (shown_lengths entries (shown_from (styles_in entries) 0 tree)))
    (long (all_used_lengths (in_order (document_places entries [] width tree))))

-- the first limit that is passed by what has these lines
abbrev pub limit_after : List (Option NodeStyle) → List (List Line) → (width : ℕ) (height : Option ℕ) → Forest → Option Refusal
limit_after entries lines width height tree =
    late_limit (in_order (document_places entries lines width tree)) (content_of (document_places entries lines width tree))
    (document_data entries lines width height tree)

-- a document with this tree and these styles has these flows, within the limits
pub record HasFlows (faces : List Face) (entries : List (Option NodeStyle)) (width : ℕ) (height : Option ℕ) (tree : Forest)
    (d : FlowsData) : Type 0 where
  pub early : early_limit entries width tree ≡ None
  pub lines : List (List Line)
  pub broken : AreDocumentLines faces entries width tree lines
  pub same : d ≡ document_data entries lines width height tree
  pub late : limit_after entries lines width height tree ≡ None

-- it passes this limit, the first in their order
pub data PassesLimit (faces : List Face) (entries : List (Option NodeStyle)) (width : ℕ) (height : Option ℕ) (tree : Forest)
    (refusal : Refusal) : Type 0 where
  early : early_limit entries width tree ≡ Some refusal → PassesLimit faces entries width height tree refusal
  late : early_limit entries width tree ≡ None → (lines : List (List Line)) → AreDocumentLines faces entries width tree lines
      → limit_after entries lines width height tree ≡ Some refusal → PassesLimit faces entries width height tree refusal
