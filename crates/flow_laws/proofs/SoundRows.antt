-- What sound data says of the rows in rows.
use Rattle.std.proofs.Common.{ℕ, zero, suc, ◌+◌, ◌<◌, ◌≤◌, List, [], ◌∷◌, length, arith}
use Rattle.std.specs.Prelude.{All}
use Rattle.std.specs.List.{flat_map}
use Rattle.flow_list.specs.Data.{FlowsData, Item, Atom, Row}
use Rattle.flow_data.specs.Flows.{row_of, flow_in, row_in, rows_in, no_flow, no_row, flow_of}
use Rattle.flow_data.specs.Soundness.{IsSound, IsSoundItem, NestsAtMost}

-- the rows in row r are rows of the data, and have items
abbrev pub IsGoodRow : FlowsData → ℕ → Type 0
IsGoodRow d r = (r < length d.rows) × (0 < length (flow_in d r).items)

pub rows-in-range : (d : FlowsData) (items : List Item) → All (IsSoundItem d) items
    → All (λ r. r < length d.rows) (flat_map row_in items)
rows-in-range d [] all = λ k e lt. absurd (omega arith)
rows-in-range d (Atom height kind ∷ items) all = rows-in-range d items (λ k e lt. all (suc k) e (omega arith))
rows-in-range d (Row r ∷ items) all =
    both (all 0 (Row r) (omega arith)) (rows-in-range d items (λ k e lt. all (suc k) e (omega arith)))
  where
    both : r < length d.rows → All (λ r. r < length d.rows) (flat_map row_in items)
        → All (λ r. r < length d.rows) (r ∷ flat_map row_in items)
    both first rest zero e lt = first
    both first rest (suc k) e lt = rest k e (omega arith)

-- so are those in any flow
pub rows-of-data : (d : FlowsData) → IsSound d → (f : ℕ) → f < length d.flows →
    All (λ r. r < length d.rows) (rows_in (flow_of d f))
rows-of-data d sound f lt = rows-in-range d (flow_of d f).items (sound.flows f no_flow lt).items

pub good-rows : (d : FlowsData) → IsSound d → (r : ℕ) → r < length d.rows → All (IsGoodRow d) (rows_in (flow_in d r))
good-rows d sound r lt =
    let row = sound.rows r no_row lt in
    let range = rows-of-data d sound (row_of d r).flow row.flow in
    λ k e in_rows. (range k e in_rows, (sound.inner_rows r lt k e in_rows).some_item)

pub some-column : (d : FlowsData) → IsSound d → (r : ℕ) → r < length d.rows → 0 < (row_of d r).n
some-column d sound r lt = (sound.rows r no_row lt).some_column

-- a row has the greater number within another one, so no more stand one inside another than there are
pub nests-by-number : (d : FlowsData) → IsSound d → (k r : ℕ) → r < length d.rows → length d.rows ≤ r + k → NestsAtMost d k r
nests-by-number d sound zero r lt le = absurd (omega arith)
nests-by-number d sound (suc k) r lt le =
    let good = good-rows d sound r lt in
    λ i e in_rows. nests-by-number d sound k _ (good i e in_rows).0 (let later = (sound.inner_rows r lt i e in_rows).later
    in omega arith)
