-- Ranges of heights that don't fit a row, with the reason why (this project's own: CSS Multi-column 1, section 7.1, leaves the
-- height of balanced columns open).
use Rattle.std.specs.Prelude.{◌≡◌, ℕ, zero, suc, ◌+◌, ◌-◌, ◌*◌, ◌/◌, ◌<◌, ◌≤◌, max, min, Bool, true, false, cond, List, [], ◌∷◌}
use Rattle.std.specs.Prelude.{◌++◌, length, drop, nat_lt, nat_le, fold, sum_by, Option, Some, None, IfSome, All}
use Rattle.std.specs.List.{flat_map}
use Rattle.flow_list.specs.Data.{Flow, FlowsData, Item, Atom, Row}
use Rattle.flow_list.specs.Atoms.{IsAtom}
use Rattle.flow_data.specs.Flows.{row_of, flow_in, item_of, atom_height}
use Rattle.flow_list.specs.Tokens.{Token, item_number, is_end}
use Rattle.flow_list.specs.Column.{Column, ColumnLine, Inner, loose_need}
use Rattle.flow_list.specs.Rows.{columns, end_of, fails, most_columns, reach, up_to}

-- ---- what is judged

-- the columns up to and with the first that breaks a rule
abbrev pub to_failure : List Column → List Column
to_failure cs = up_to fails cs

-- The columns that are judged at a height from a place on: up to the first that breaks a rule, else as many as may be used.
unfoldable pub judged : Inner → FlowsData → ℕ → Token → ℕ → List Column
judged inner d r q h = to_failure (columns inner d (flow_in d r) (most_columns (row_of d r).n (flow_in d r) q) q h)

-- the greater heights at which one of these columns may change
abbrev pub bounds_of : List Column → List ℕ
bounds_of cs = flat_map (λ (c : Column). c.bounds) cs

-- a height is below a bound, where there is one
abbrev pub IsBelow : ℕ → Option ℕ → Type 0
IsBelow h bound = IfSome bound (λ b. h < b)

-- how these columns came to be
abbrev pub lines_of : List Column → List ColumnLine
lines_of cs = flat_map (λ (c : Column). c.lines) cs

-- ---- reasons

-- Why a height doesn't fit: an atom is too high (tall), there is too much for the columns (area), the columns that may be used
-- leave a place (left), or one of them, counted from 1, ends at a bad break (bad) or overflows (over).
pub data Reason : Type 0 where
  tall : (item : ℕ) → Reason
  area : Reason
  left : (at : Token) → Reason
  bad : (column : ℕ) → Reason
  over : (column : ℕ) → Reason

-- heights from low up to, but not including, high, with the columns judged at low where the reason speaks of columns
pub record Range : Type 0 where
  pub low : ℕ
  pub high : ℕ
  pub reason : Reason
  pub lines : List ColumnLine

-- the heights of the atoms from a place on, all together; a row that is entered is none
abbrev pub atoms_height : Flow → Token → ℕ
atoms_height f q = sum_by atom_height (drop (item_number q) f.items)

-- of these columns, all that were judged, column number c is the first that breaks a rule, by overflowing or not
pub record FailsAt (cs : List Column) (c : ℕ) (overflows : Bool) : Type 0 where
  pub before : List Column
  pub column : Column
  pub judged_are : cs ≡ before ++ column ∷ []
  pub number : c ≡ length before + 1
  pub fail : fails column ≡ true
  pub overflow : column.overflow ≡ overflows

-- these columns from a place on break no rule, and leave a place that isn't the end
pub record LeavesRest (f : Flow) (q : Token) (cs : List Column) (at : Token) : Type 0 where
  pub none_fails : All (λ c. fails c ≡ false) cs
  pub place : end_of q cs ≡ at
  pub rest : is_end f at ≡ false

-- No height from low up to, but not including, high fits row r from a place on, for this reason.
abbrev pub RangeRejects : Inner → FlowsData → (r : ℕ) → (q : Token) → (low high : ℕ) → Reason → Type 0
RangeRejects inner d r q low high (tall k) =
    (item_number q ≤ k) × (k < length (flow_in d r).items) × IsAtom (item_of (flow_in d r) k)
    × (high ≤ loose_need inner d (flow_in d r) k)
RangeRejects inner d r q low high area = most_columns (row_of d r).n (flow_in d r) q * (high - 1) < atoms_height (flow_in d r) q
RangeRejects inner d r q low high (left at) = LeavesRest (flow_in d r) q (judged inner d r q low) at
    × All (λ b. high ≤ b) (bounds_of (judged inner d r q low))
RangeRejects inner d r q low high (bad c) = FailsAt (judged inner d r q low) c false
    × All (λ b. high ≤ b) (bounds_of (judged inner d r q low))
RangeRejects inner d r q low high (over c) = FailsAt (judged inner d r q low) c true
    × All (λ b. high ≤ b) (bounds_of (judged inner d r q low))

-- ---- the search

-- what an item needs alone after an unforced break where it is an atom, and nothing where it is a row
abbrev pub loose_atom : Inner → FlowsData → Flow → ℕ → Item → ℕ
loose_atom inner d f k (Atom height kind) = loose_need inner d f k
loose_atom inner d f k (Row r) = 0

-- the greatest need of these atoms after an unforced break, and the first item that has it
pub record Tallest : Type 0 where
  pub need : ℕ
  pub item : ℕ

abbrev pub taller : Tallest → ℕ → ℕ → Tallest
taller best k need = record { need = max best.need need; item = cond (nat_lt best.need need) k best.item }

abbrev pub tallest_of : Inner → FlowsData → Flow → Tallest → ℕ → List Item → Tallest
tallest_of inner d f best k [] = best
tallest_of inner d f best k (item ∷ items) = tallest_of inner d f (taller best k (loose_atom inner d f k item)) (k + 1) items

abbrev pub tallest_from : Inner → FlowsData → Flow → Token → Tallest
tallest_from inner d f q = tallest_of inner d f (record { need = 0; item = 0 }) (item_number q) (drop (item_number q) f.items)

-- the least height at which this much can stand in n columns
abbrev pub spread : (much n : ℕ) → ℕ
spread much n = (much + n - 1) / n

-- the reason at a height of these judged columns from a place on, the first of which is column c; none where the height fits
abbrev pub reason_of : Flow → (c : ℕ) → Token → List Column → Option Reason
reason_of f c q [] = cond (is_end f q) None (Some (left q))
reason_of f c q (first ∷ cs) =
    cond first.overflow (Some (over c)) (cond (nat_lt 0 first.level) (Some (bad c)) (reason_of f (c + 1) first.end cs))

-- the least of these and of top, where that is given: none where there is neither
abbrev pub least_bound : Option ℕ → List ℕ → Option ℕ
least_bound top [] = top
least_bound None (b ∷ bs) = Some (fold min b bs)
least_bound (Some top) (b ∷ bs) = Some (fold min (min top b) bs)

abbrev pub is_past : Option ℕ → ℕ → Bool
is_past None h = false
is_past (Some top) h = nat_le top h

-- the ranges from a height on, of which there are n at most: each up to the least bound of the columns judged where it begins,
-- until a height fits or the top is reached
unfoldable pub searched : Inner → FlowsData → ℕ → Token → Option ℕ → ℕ → ℕ → List Range
searched inner d r q top zero low = []
searched inner d r q top (suc n) low = elim (is_past top low) [
  | true ↦ []
  | false ↦
      let cs = judged inner d r q low in
      elim (reason_of (flow_in d r) 1 q cs) [
        | None ↦ []
        | Some reason ↦
            elim (least_bound top (bounds_of cs)) [
              | None ↦ []
              | Some high ↦ record { low = low; high = high; reason = reason; lines = lines_of cs } ∷ searched inner d r q top
                  n high
            ]
      ]
]

-- a range from one height up to another, or none where that is empty; cut at the top where that is given
abbrev pub range_up_to : Option ℕ → (low high : ℕ) → Reason → List Range
range_up_to None low high reason = cond (nat_lt low high) (record { low = low; high = high; reason = reason; lines = [] } ∷ []) []
range_up_to (Some top) low high reason =
    cond (nat_lt low (min high top)) (record { low = low; high = min high top; reason = reason; lines = [] } ∷ []) []

-- one above what is available
abbrev pub top_of : Option ℕ → Option ℕ
top_of None = None
top_of (Some available) = Some (available + 1)

-- The ranges of a row from a place on, where this much is available: up to what the highest atom needs, up to where the atoms
-- have room in the columns, and then as the columns tell. They end at the first height that fits, or one above what is available.
unfoldable pub ranges : Inner → FlowsData → ℕ → Token → Option ℕ → List Range
ranges inner d r q available =
    let f = flow_in d r in
    let top = top_of available in
    let tallest = tallest_from inner d f q in
    let wide = spread (atoms_height f q) (most_columns (row_of d r).n f q) in
    range_up_to top 0 tallest.need (tall tallest.item)
    ++ range_up_to top tallest.need wide area
    ++ searched inner d r q top (reach inner d f q + 1) (max tallest.need wide)
