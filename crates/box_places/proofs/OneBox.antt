-- One box in its containing block.
use Rattle.std.proofs.Common.{◌≡◌, ℕ, List, [], ◌∷◌, Option, Some, None, Result, Ok, Err, IfOk, ap, ap₂, ◌∙◌, arith}
use Rattle.std.specs.List.{AllByRecursion}
use Rattle.mc_base.specs.declared.refusal.NoMemory.{NoMemory}
use Rattle.inline_text.specs.declared.content.Piece.{Piece}
use Rattle.inline_text.specs.declared.content.Piece.TheVariants as pieces
use Rattle.inline_text.specs.declared.content.Runs.{Runs}
use Rattle.box_data.specs.declared.style.BoxStyle.{BoxStyle}
use Rattle.box_data.specs.declared.placed.ImageSize.{ImageSize as Size}
use Rattle.box_data.specs.declared.placed.Placed.{Placed}
use Rattle.box_data.specs.declared.tree.BoxNode.{BoxNode}
use Rattle.box_data.specs.declared.tree.BoxKind.{BoxKind as Kind}
use Rattle.box_data.specs.declared.tree.BoxKind.TheVariants.{Block as block_box, Anonymous as anonymous}
use Rattle.box_data.specs.declared.tree.BoxKind.TheVariants.{Container as container, ImageBlock as image_block}
use Rattle.box_data.specs.Styles.{style_of, inherited}
use Rattle.box_data.specs.Bounds.{IsShort, IsShortPiece}
use Rattle.box_data.specs.Widths.{Across, style_in, sizes_in, first_size}
use Rattle.box_places.specs.declared.place.ContainingBlock.{ContainingBlock}
use Rattle.box_places.specs.declared.place.Frame.{Frame}
use Rattle.box_places.specs.Bounds.{IsSize, AreShortPieces}
use Rattle.box_places.specs.Parts.{node_of, place_of, run_of, frame_in, across_by, height_by, attributes_of, placed_by}
use Rattle.box_places.specs.Passes.{placed_in}

-- ---- the style of a box has no length above the limit

short_inherited : (s : BoxStyle) → IsShort s → IsShort (inherited s)
short_inherited s h = record {
  size = h.size;
  margin = record { top = omega arith; right = omega arith; bottom = omega arith; left = omega arith };
  border = record { top = omega arith; right = omega arith; bottom = omega arith; left = omega arith };
  padding = record { top = omega arith; right = omega arith; bottom = omega arith; left = omega arith };
  width = tt;
  max_width = tt;
  height = tt;
  column_width = tt;
  column_gap = tt;
  some_column = tt;
  column_count = tt;
}

short_by : (kind : Kind) (s : BoxStyle) → IsShort s
    → IsShort (elim kind as (λ k. BoxStyle) [ block_box ↦ s | anonymous ↦ inherited s | container ↦ s | image_block ↦ s ])
short_by block_box s h = h
short_by anonymous s h = short_inherited s h
short_by container s h = h
short_by image_block s h = h

pub short_style : (styles : List BoxStyle) (node : BoxNode) → IsShort (style_of styles node.element)
    → IsShort (style_in styles (node_of node))
short_style styles node h = short_by node.kind (style_of styles node.element) h

-- ---- the size of its first image

small_first : (styles : List BoxStyle) (run : List Piece) → AllByRecursion (IsShortPiece styles) run
    → IsSize (first_size (sizes_in run))
small_first styles [] h = record { w = omega arith; h = omega arith }
small_first styles (pieces.Char ch style ∷ run) h = small_first styles run h.1
small_first styles (pieces.Image w height style ∷ run) h = record { w = h.0.1; h = h.0.2 }
small_first styles (pieces.Forced ∷ run) h = small_first styles run h.1
small_first styles (pieces.Chance ∷ run) h = small_first styles run h.1

pub small_attributes : (styles : List BoxStyle) (runs : Option Runs) → AreShortPieces styles runs
    → IsSize (first_size (sizes_in (run_of runs)))
small_attributes styles None h = record { w = omega arith; h = omega arith }
small_attributes styles (Some runs) h = small_first styles runs.pieces h

-- ---- the box

-- by its parts
pub placed_is : (styles : List BoxStyle) (number : ℕ) (node : BoxNode) (around : ContainingBlock) (style : BoxStyle) (f : Frame)
    (attributes : Size) (across : Across) (h : ℕ) → style ≡ style_in styles (node_of node) → f ≡ frame_in style (place_of around)
    → attributes ≡ attributes_of (node_of node) → across ≡ across_by node.kind f attributes → h ≡ height_by node.kind f attributes
    → placed_by styles node.parent number (node_of node) f across h ≡ placed_in styles number node around
unfolding placed_in
placed_is styles number node around style f attributes across h is_style is_frame are_attributes is_across is_height =
    let made : Frame → Size → Placed =
    λ g a. placed_by styles node.parent number (node_of node) g (across_by node.kind g a) (height_by node.kind g a) in
    ap₂ (λ (x : Across) (y : ℕ). placed_by styles node.parent number (node_of node) f x y) is_across is_height
    ∙ ap₂ made (is_frame ∙ ap (λ s. frame_in s (place_of around)) is_style) are_attributes

pub same_answer : (r : Result Placed NoMemory) (a b : Placed) → a ≡ b → IfOk r (λ p. p ≡ a) → IfOk r (λ p. p ≡ b)
same_answer (Ok p) a b e h = h ∙ e
same_answer (Err e) a b _ h = tt
