-- The least height of a piece of a row that is cut, and why no lesser height will do (CSS Multi-column 1, section 7.1, lets
-- `column-fill: balance-all` balance each piece; what is balanced is this project's own).
use Rattle.std.specs.Prelude.{◌≡◌, ℕ, zero, suc, ◌+◌, ◌<◌, min, Bool, true, false, cond, not, ◌&&◌, List, [], ◌∷◌, nat_lt, nat_le}
use Rattle.std.specs.Prelude.{fold, Option, Some, None}
use Rattle.flow_list.specs.Certificate.{same_token}
use Rattle.flow_list.specs.Column.{Filled}
use Rattle.flow_list.specs.Data.{FlowsData}
use Rattle.flow_list.specs.Rows.{fill_in, all_rows, least}
use Rattle.flow_list.specs.Tokens.{Token}

-- why a height won't do in place of another: its columns overflow, one of them ends at a worse break, or they end elsewhere
pub data Unfit : Type 0 where
  over : Unfit
  worse : Unfit
  other : (at : Token) → Unfit

-- why these columns won't do in place of the wanted ones; none where they do
abbrev pub unfit : (wanted made : Filled) → Option Unfit
unfit wanted made =
    cond made.overflow (Some over)
    (cond (nat_lt wanted.level made.level) (Some worse) (cond (same_token made.end wanted.end) None (Some (other made.end))))

-- whether these columns do in place of the wanted ones: they overflow nowhere, no break is worse, and they end at the same place
abbrev pub will_do : (wanted made : Filled) → Bool
will_do wanted made = not made.overflow && nat_le made.level wanted.level && same_token made.end wanted.end

-- what row r makes of a height from a place on
abbrev pub cut_piece : FlowsData → (r : ℕ) → (q : Token) → (h : ℕ) → Filled
cut_piece d r q h = fill_in (all_rows d) d r q h

-- The least height of a piece of row r that begins at q and is cut at height a: the least whose columns do in place of those at
-- a. A piece that overflows keeps its height.
unfoldable pub least_height : FlowsData → (r : ℕ) → (q : Token) → (a : ℕ) → ℕ
least_height d r q a =
    cond (cut_piece d r q a).overflow a (least (λ h. will_do (cut_piece d r q a) (cut_piece d r q h)) a 0)

-- heights from low up to, but not including, high, none of which will do, for a reason
pub record UnfitRange : Type 0 where
  pub low : ℕ
  pub high : ℕ
  pub reason : Unfit

-- The ranges from a height on up to the top, of which there are n at most: each up to the least bound of the columns where it
-- begins, until a height will do.
unfoldable pub ranges_below : (made : ℕ → Filled) → (wanted : Filled) → (top n low : ℕ) → List UnfitRange
ranges_below made wanted top zero low = []
ranges_below made wanted top (suc n) low = elim (nat_le top low) [
  | true ↦ []
  | false ↦ elim (unfit wanted (made low)) [
    | None ↦ []
    | Some reason ↦
        let high = fold min top (made low).bounds in
        record { low = low; high = high; reason = reason } ∷ ranges_below made wanted top n high
  ]
]

-- The ranges of the piece: from 0 up to its least height. A piece that overflows has none.
unfoldable pub unfit_ranges : FlowsData → (r : ℕ) → (q : Token) → (a : ℕ) → List UnfitRange
unfit_ranges d r q a =
    let top = least_height d r q a in
    cond (cut_piece d r q a).overflow [] (ranges_below (cut_piece d r q) (cut_piece d r q a) top top 0)
