-- The certificate: its sizes are a true book, each entry stands after the sizes that it uses, and each row of a stack has one
-- entry (this project's own).
use Rattle.std.specs.Prelude.{◌≡◌, ℕ, ◌<◌, List, [], ◌∷◌, ◌++◌, length, All, ◌⊎◌}
use Rattle.std.specs.List.{flat_map}
use Rattle.flow_list.specs.Data.{FlowsData, Row}
use Rattle.flow_data.specs.Flows.{flow_of, stack_of, item_of}
use Rattle.flow_data.specs.Soundness.{count_of}
use Rattle.flow_list.specs.Certificate.{Use, Entry, size_entry, row_entry, auto_entry, size_ranges, row_ranges, range_owned}
use Rattle.flow_list.specs.Certificate.{size_uses, row_uses, certificate, book_of}
use Rattle.flow_list.specs.Ranges.{Range}
use Rattle.flow_list.specs.Tokens.{row_start}
use Rattle.flow_list.specs.Book.{AllStand, IsTrueBook}

-- the size that an entry is of, and the row directly in a stack
abbrev pub size_in_entry : Entry → List Use
size_in_entry (size_entry u) = u ∷ []
size_in_entry (row_entry r) = []
size_in_entry (auto_entry r) = []

abbrev pub row_in_entry : Entry → List ℕ
row_in_entry (size_entry u) = []
row_in_entry (row_entry r) = r.row ∷ []
row_in_entry (auto_entry r) = r.row ∷ []

-- the sizes and the rows of these entries, in order
abbrev pub sizes_in_entries : List Entry → List Use
sizes_in_entries es = flat_map size_in_entry es

abbrev pub rows_in_entries : List Entry → List ℕ
rows_in_entries es = flat_map row_in_entry es

-- the sizes that an entry uses
abbrev pub entry_uses : FlowsData → Entry → List Use
entry_uses d (size_entry u) = size_uses d u
entry_uses d (row_entry r) = row_uses d r.row r.available
entry_uses d (auto_entry r) = row_uses d r.row r.available

-- the row and the place that an entry is of, and its ranges
abbrev pub place_in_entry : Entry → Use
place_in_entry (size_entry u) = u
place_in_entry (row_entry r) = (r.row, row_start)
place_in_entry (auto_entry r) = (r.row, row_start)

abbrev pub ranges_in_entry : FlowsData → Entry → List Range
ranges_in_entry d (size_entry u) = size_ranges d u.0 u.1
ranges_in_entry d (row_entry r) = row_ranges d r.row r.available
ranges_in_entry d (auto_entry r) = []

-- each size that a line of these ranges of a row from a place on cites stands in the book
abbrev pub LinesCiteIn : FlowsData → List Use → Use → List Range → Type 0
LinesCiteIn d book u xs = All (λ (x : Range). (x.lines ≡ []) ⊎ All (AllStand book) (range_owned d u.0 u.1 x)) xs

-- The law, of sound flows.
pub record EntriesStandOnce (d : FlowsData) : Type 0 where
  -- the sizes of the entries are the book, and it is true: no size stands twice
  pub sizes : sizes_in_entries (certificate d) ≡ book_of d
  pub true_book : IsTrueBook d (book_of d)
  -- what an entry uses stands before it
  pub uses_before : (first : List Entry) (e : Entry) (rest : List Entry) → certificate d ≡ first ++ e ∷ rest →
      AllStand (sizes_in_entries first) (entry_uses d e)
  -- and so does each size that its column lines cite
  pub cites_before : (first : List Entry) (e : Entry) (rest : List Entry) → certificate d ≡ first ++ e ∷ rest →
      LinesCiteIn d (sizes_in_entries first) (place_in_entry e) (ranges_in_entry d e)
  -- each row directly in a stack has one entry
  pub one_entry : (s k r : ℕ) → s < length d.stacks → k < length (flow_of d (stack_of d s).flow).items →
      item_of (flow_of d (stack_of d s).flow) k ≡ Row r →
      count_of r (rows_in_entries (certificate d)) ≡ 1
