-- How long places are, and how many columns there are, in sound data; so all columns of a row, its fills one after another, and
-- the heights that fit it (this project's own: the limits are).
use Rattle.std.specs.Prelude.{◌≡◌, ℕ, ◌<◌, ◌≤◌, ◌^◌, ◌&&◌, false, not, length, nat_le, Option, Some}
use Rattle.std.specs.List.{list_any}
use Rattle.flow_data.specs.declared.data.FlowsData.{FlowsData}
use Rattle.flow_data.specs.Flows.{row_of, flow_in}
use Rattle.flow_data.specs.Soundness.{NestsAtMost}
use Rattle.flow_list.specs.Tokens.{Token, IsPlaceBefore}
use Rattle.flow_list.specs.Rows.{fails, most_columns, fits, left_in, all_rows}
use Rattle.flow_list.specs.RowHeights.{column_within}
use Rattle.flow_list.specs.Certificate.{columns_from}
use Rattle.flow_list.specs.Fragments.{column_fragment, row_fragments}
use Rattle.flow_laws.specs.Progress.{first_columns}
use Rattle.column_laws.specs.Following.{columns_of_fills, fragments_of_fills}

-- The law: a place in a row of which at most n stand one inside another has n numbers at most.
abbrev pub PlacesAreShort : FlowsData → Type 0
PlacesAreShort d = (n r : ℕ) (q : Token) → NestsAtMost d n r → IsPlaceBefore d (flow_in d r) q → length q ≤ n

-- The law, of row r of sound data.
pub record ColumnsAreFew (d : FlowsData) (r : ℕ) : Type 0 where
  -- so do the places where its columns end, and where its fills do, which are three at most
  pub ends_are_short : (n : ℕ) (t : Token) (h : Option ℕ) → NestsAtMost d n r → IsPlaceBefore d (flow_in d r) t →
      length (column_within d (flow_in d r) h t).end ≤ n
  pub fills_are_short : (n : ℕ) (t : Token) (h : ℕ) → NestsAtMost d n r → IsPlaceBefore d (flow_in d r) t →
      length ((all_rows d).fill r t h).end ≤ n
  -- there are no more columns than items left, and these are fewer than 2^32
  pub no_more_than_left : (n : ℕ) (t : Token) (h : Option ℕ) → IsPlaceBefore d (flow_in d r) t →
      length (first_columns d r n t h) ≤ left_in (all_rows d) (flow_in d r) t
  pub left_is_small : (t : Token) → left_in (all_rows d) (flow_in d r) t < 2 ^ 32
  -- a height fits exactly where all columns are no more than may be used, and none breaks a rule
  pub fits_by_all : (q : Token) (h : ℕ) → IsPlaceBefore d (flow_in d r) q →
      fits (all_rows d) d r q h ≡ (nat_le (length (columns_from d r q h)) (most_columns (row_of d r).n (flow_in d r) q) && not
      (list_any fails (columns_from d r q h)))
  -- all columns are those of its fills one after another, of as many as there are items left
  pub all_by_fills : (n : ℕ) (q : Token) (h : ℕ) → IsPlaceBefore d (flow_in d r) q → left_in (all_rows d) (flow_in d r) q ≤ n →
      columns_of_fills (all_rows d) d r n q h ≡ columns_from d r q h
  -- so the fragments of a row that stands whole are those of its fills
  pub whole_by_fills : (n : ℕ) (q : Token) (height h : ℕ) → IsPlaceBefore d (flow_in d r) q →
      left_in (all_rows d) (flow_in d r) q ≤ n →
      row_fragments d (length d.rows) (record { row = r; from = q; height = height; made_at = Some h; filled = false })
      ≡ fragments_of_fills (column_fragment d r (Some h)) (all_rows d) d r n q h
