-- Why no height below the least will do for a cut piece: the ranges leave none of them out, and over each range every height has
-- the range's reason (this project's own).
use Rattle.std.specs.Prelude.{◌≡◌, ℕ, ◌-◌, ◌<◌, ◌≤◌, min, true, false, List, [], ◌∷◌, fold, Some, None, All}
use Rattle.flow_list.specs.Column.{Filled}
use Rattle.flow_list.specs.Data.{FlowsData}
use Rattle.flow_list.specs.Tokens.{Token}
use Rattle.flow_laws.specs.LeastHeight.{IsLeast}
use Rattle.piece_data.specs.LeastPiece.{Unfit, unfit, will_do, cut_piece, least_height, UnfitRange, ranges_below, unfit_ranges}

-- each of these ranges begins where the one before it ends, and none is empty
abbrev pub GoOn : (low high : ℕ) → List UnfitRange → Type 0
GoOn low high [] = low ≡ high
GoOn low high (x ∷ xs) = (x.low ≡ low) × (low < x.high) × GoOn x.high high xs

-- every height of a range has its reason
abbrev pub HasReason : FlowsData → (r : ℕ) → (q : Token) → (a : ℕ) → UnfitRange → Type 0
HasReason d r q a x =
    (h : ℕ) → x.low ≤ h → h < x.high → unfit (cut_piece d r q a) (cut_piece d r q h) ≡ Some x.reason

-- The law, of a piece of row r that begins at q and is cut at height a.
pub record PieceHolds (d : FlowsData) (r : ℕ) (q : Token) (a : ℕ) : Type 0 where
  -- its least height will do, and no lesser one does
  pub least : (cut_piece d r q a).overflow ≡ false →
      IsLeast (λ h. will_do (cut_piece d r q a) (cut_piece d r q h)) (least_height d r q a)
  pub no_higher : least_height d r q a ≤ a
  -- the ranges go from 0 up to it, and each has its reason
  pub go_on : (cut_piece d r q a).overflow ≡ false → GoOn 0 (least_height d r q a) (unfit_ranges d r q a)
  pub reasons : All (HasReason d r q a) (unfit_ranges d r q a)

-- the ranges of a piece from a height on
abbrev pub ranges_from : FlowsData → (r : ℕ) → (q : Token) → (a low : ℕ) → List UnfitRange
ranges_from d r q a low =
    let top = least_height d r q a in
    ranges_below (cut_piece d r q) (cut_piece d r q a) top (top - low) low

-- where the range that begins at a height ends: at the least bound of the columns there, or at a where that is less
abbrev pub range_end : FlowsData → (r : ℕ) → (q : Token) → (a low : ℕ) → ℕ
range_end d r q a low = fold min a (cut_piece d r q low).bounds

-- a height at which a range with this reason begins, below the least height
pub record RangeBegins (d : FlowsData) (r : ℕ) (q : Token) (a low : ℕ) (reason : Unfit) : Type 0 where
  pub above : low < range_end d r q a low
  pub no_higher : range_end d r q a low ≤ least_height d r q a
  pub first : ranges_from d r q a low
      ≡ record { low = low; high = range_end d r q a low; reason = reason } ∷ ranges_from d r q a (range_end d r q a low)

-- How a search finds the ranges, which doesn't know the least height: from range to range up to the first height that will do.
pub record SearchGoesOn (d : FlowsData) (r : ℕ) (q : Token) (a : ℕ) : Type 0 where
  pub all : ranges_from d r q a 0 ≡ unfit_ranges d r q a
  pub none_left : ranges_from d r q a (least_height d r q a) ≡ []
  pub rejected : (low : ℕ) (reason : Unfit) → low ≤ least_height d r q a →
      unfit (cut_piece d r q a) (cut_piece d r q low) ≡ Some reason → RangeBegins d r q a low reason
  pub found : (low : ℕ) → low ≤ least_height d r q a → unfit (cut_piece d r q a) (cut_piece d r q low) ≡ None →
      low ≡ least_height d r q a
