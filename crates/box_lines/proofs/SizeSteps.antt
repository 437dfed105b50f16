-- The sizes of images, one after another.
use Rattle.std.proofs.Common.{◌≡◌, ℕ, zero, suc, ◌<◌, ◌≤◌, ◌^◌, List, [], ◌∷◌, drop, get_or, All, length, Result, Ok, Err}
use Rattle.std.proofs.Common.{IfOk, refl, sym, ap, subst, arith}
use Rattle.std.specs.List.{AllByRecursion}
use Rattle.std.proofs.lemmas.List.Elements.{All-from_recursion, recursion_from_All}
use Rattle.inline_text.specs.declared.content.Piece.{Piece}
use Rattle.inline_text.specs.declared.content.Piece.TheVariants.{Char, Image, Forced, Chance}
use Rattle.inline_text.specs.declared.content.RunStyle.{RunStyle}
use Rattle.inline_text.specs.WhiteSpace.{HasStyle}
use Rattle.mc_base.specs.declared.refusal.NoMemory.{NoMemory}
use Rattle.line_breaker.specs.declared.line.Line.{Line}
use Rattle.line_breaker.specs.Lines.{IsMeasurable, IsStyle, CanBreak}
use Rattle.font_table.specs.declared.fonts.Face.{Face}
use Rattle.box_data.specs.declared.tree.BoxNode.{BoxNode}
use Rattle.box_data.specs.declared.placed.ImageSize.{ImageSize}
use Rattle.box_data.specs.Widths.{first_size}
use Rattle.box_lines.specs.Sizes.{resized, taken, with_sizes, pieces_of}
use Rattle.box_lines.specs.Made.{IsSmall, IsNamed, AreFew}

abbrev no_size : ImageSize
no_size = record { w = 0; h = 0 }

pub first_at : (sizes : List ImageSize) (place : ℕ) → first_size (drop place sizes) ≡ get_or sizes place no_size
first_at [] zero = refl
first_at [] (suc place) = refl
first_at (size ∷ sizes) zero = refl
first_at (size ∷ sizes) (suc place) = first_at sizes place

-- ---- what the pieces keep, and how large they are

small_first : (sizes : List ImageSize) → AllByRecursion IsSmall sizes → IsSmall (first_size sizes)
small_first [] h = record { w = omega arith; h = omega arith }
small_first (size ∷ sizes) h = h.0

small_rest : (n : ℕ) (sizes : List ImageSize) → AllByRecursion IsSmall sizes → AllByRecursion IsSmall (drop n sizes)
small_rest zero sizes h = h
small_rest (suc n) [] h = tt
small_rest (suc n) (size ∷ sizes) h = small_rest n sizes h.1

measurable_one : (piece : Piece) (size : ImageSize) → IsSmall size → IsMeasurable (resized piece size)
measurable_one (Char ch style) size h = tt
measurable_one (Image w height style) size h = (h.w, h.h)
measurable_one Forced size h = tt
measurable_one Chance size h = tt

measurable_by : (sizes : List ImageSize) (pieces : List Piece) → AllByRecursion IsSmall sizes
    → AllByRecursion IsMeasurable (with_sizes sizes pieces)
measurable_by sizes [] h = tt
measurable_by sizes (piece ∷ pieces) h = (
  measurable_one piece (first_size sizes) (small_first sizes h),
  measurable_by (drop (taken piece) sizes) pieces
      (small_rest (taken piece) sizes h),
)

pub measurable : (sizes : List ImageSize) (pieces : List Piece) → All IsSmall sizes → All IsMeasurable (with_sizes sizes pieces)
measurable sizes pieces h =
    All-from_recursion IsMeasurable (with_sizes sizes pieces) (measurable_by sizes pieces (recursion_from_All IsSmall sizes h))

named_one : (texts : List RunStyle) (piece : Piece) (size : ImageSize) → HasStyle texts piece
    → HasStyle texts (resized piece size)
named_one texts (Char ch style) size h = h
named_one texts (Image w height style) size h = h
named_one texts Forced size h = h
named_one texts Chance size h = h

named_by : (texts : List RunStyle) (sizes : List ImageSize) (pieces : List Piece) → AllByRecursion (HasStyle texts) pieces
    → AllByRecursion (HasStyle texts) (with_sizes sizes pieces)
named_by texts sizes [] h = tt
named_by texts sizes (piece ∷ pieces) h =
    (named_one texts piece (first_size sizes) h.0, named_by texts (drop (taken piece) sizes) pieces h.1)

pub named : (texts : List RunStyle) (sizes : List ImageSize) (pieces : List Piece) → All (HasStyle texts) pieces
    → All (HasStyle texts) (with_sizes sizes pieces)
named texts sizes pieces h =
    All-from_recursion (HasStyle texts) (with_sizes sizes pieces)
    (named_by texts sizes pieces (recursion_from_All (HasStyle texts) pieces h))

pub as_many : (sizes : List ImageSize) (pieces : List Piece) → length (with_sizes sizes pieces) ≡ length pieces
as_many sizes [] = refl
as_many sizes (piece ∷ pieces) = ap suc (as_many (drop (taken piece) sizes) pieces)

-- a box can be broken into lines
pub can_break : (faces : List Face) (texts : List RunStyle) (node : BoxNode) (sizes : List ImageSize) (made : List Piece)
    → All (IsStyle faces) texts → IsNamed texts node → All IsSmall sizes → made ≡ with_sizes sizes (pieces_of node.runs)
    → CanBreak (record { pieces = made; styles = texts }) faces node.element
can_break faces texts node sizes made styles names small is =
    let P : List Piece → Type 0 = λ pieces. CanBreak (record { pieces = pieces; styles = texts }) faces node.element in
    let few : length (with_sizes sizes (pieces_of node.runs)) < 2 ^ 32 =
    omega (arith, as_many sizes (pieces_of node.runs), names.few) in
    subst P (sym is) (record {
      few = few;
      styles = styles;
      named = named texts sizes (pieces_of node.runs) names.pieces;
      images = measurable sizes (pieces_of node.runs) small;
      strut_named = names.element;
    })

-- and then has few
pub few_lines : (texts : List RunStyle) (node : BoxNode) (sizes : List ImageSize) (made : List Piece)
    (r : Result (List Line) NoMemory)
    → IsNamed texts node → made ≡ with_sizes sizes (pieces_of node.runs) → IfOk r (λ lines. length lines ≤ length made)
    → IfOk r AreFew
few_lines texts node sizes made (Ok lines) names is h =
    omega (arith, names.few, ap length is, as_many sizes (pieces_of node.runs), h)
few_lines texts node sizes made (Err e) names is h = tt
