-- How large what stands in the code is, so that sums don't overflow.
use Rattle.std.specs.Prelude.{ℕ, ◌+◌, ◌^◌, ◌<◌, ◌≤◌, List, Option, IfSome}
use Rattle.std.specs.List.{AllByRecursion}
use Rattle.inline_text.specs.declared.content.Runs.{Runs}
use Rattle.box_data.specs.declared.style.SideAmounts.{SideAmounts}
use Rattle.box_data.specs.declared.style.BoxStyle.{BoxStyle}
use Rattle.box_data.specs.Bounds.{IsShort, IsShortPiece}
use Rattle.box_data.specs.declared.placed.ImageSize.{ImageSize as Size}
use Rattle.box_data.specs.declared.placed.Placed.{Placed}
use Rattle.box_places.specs.declared.place.ContainingBlock.{ContainingBlock}
use Rattle.box_places.specs.declared.place.Frame.{Frame}
use Rattle.box_places.specs.declared.across.Extent.{Extent}

pub record AreBelow (sides : SideAmounts) : Type 0 where
  pub top : sides.top ≤ 2 ^ 62
  pub right : sides.right ≤ 2 ^ 62
  pub bottom : sides.bottom ≤ 2 ^ 62
  pub left : sides.left ≤ 2 ^ 62

pub record IsExtent (e : Extent) : Type 0 where
  pub before : e.before ≤ 2 ^ 62
  pub w : e.w ≤ 2 ^ 62
  pub after : e.after ≤ 2 ^ 62

-- nothing in the block begins further right than this
pub record IsWithin (reach : ℕ) (b : ContainingBlock) : Type 0 where
  pub x : b.x ≤ reach
  pub span_x : b.span_x ≤ reach
  pub w : b.w < 2 ^ 60
  pub span_w : b.span_w < 2 ^ 60

pub record IsFrame (reach : ℕ) (f : Frame) : Type 0 where
  pub style : IsShort f.style
  pub padding : AreBelow f.padding
  pub x : f.x ≤ reach
  pub whole : f.whole < 2 ^ 60

pub record IsSize (size : Size) : Type 0 where
  pub w : size.w ≤ 2 ^ 62
  pub h : size.h ≤ 2 ^ 62

abbrev pub AreShortPieces : List BoxStyle → Option Runs → Type 0
AreShortPieces styles runs = IfSome runs (λ (r : Runs). AllByRecursion (IsShortPiece styles) r.pieces)

-- a box in a frame that begins no further right than this
pub record IsFramed (reach : ℕ) (p : Placed) : Type 0 where
  pub content_x : p.content_x ≤ reach + p.margin.left + p.padding.left + 2 ^ 24
  pub columns : p.columns.w ≤ p.w

-- a box of which these lengths are within the limit
pub record IsLow (p : Placed) : Type 0 where
  pub margin : p.margin.left ≤ 2 ^ 24
  pub padding : p.padding.left ≤ 2 ^ 24
  pub w : p.w ≤ 2 ^ 24
