-- How many rows stand one inside another doesn't matter, once it is counted deep enough, to fragments, to the sizes that lines
-- rest on, to the content of rows and to what is entered in a book either (this project's own: each of these is defined by
-- recursion on a depth).
use Rattle.std.specs.Prelude.{◌≡◌, ℕ, ◌<◌, ◌≤◌, List, length, All}
use Rattle.flow_data.specs.declared.data.FlowsData.{FlowsData}
use Rattle.flow_data.specs.Flows.{row_of, flow_in}
use Rattle.flow_data.specs.Soundness.{NestsAtMost}
use Rattle.flow_list.specs.Tokens.{Token}
use Rattle.flow_list.specs.Rows.{columns, columns_by, to_overflow, fill_in, left_in, all_rows}
use Rattle.flow_list.specs.RowHeights.{size_of}
use Rattle.flow_list.specs.Placing.{RowLaid}
use Rattle.flow_list.specs.Fragments.{column_made, fragment_of, fragments_from, columns_wanted, row_fragments}
use Rattle.flow_list.specs.Certificate.{Use, column_owned, columns_owned, owned_to, entered}
use Rattle.flow_laws.specs.Progress.{atoms_in, contents_to}

-- The law, of a row of which at most n stand one inside another, at any two depths from n on.
pub record DepthsAlike (d : FlowsData) : Type 0 where
  -- its fragments are the same
  pub fragments_alike : (n a b : ℕ) (r : RowLaid) → NestsAtMost d n r.row → n ≤ a → n ≤ b →
      row_fragments d a r ≡ row_fragments d b r
  -- and the sizes that the lines of its fill rest on
  pub owned_alike : (n r a b : ℕ) (q : Token) (h : ℕ) → NestsAtMost d n r → n ≤ a → n ≤ b →
      (owned_to d a).fill r q h ≡ (owned_to d b).fill r q h
  -- and its atoms
  pub contents_alike : (n r a b : ℕ) (q : Token) → NestsAtMost d n r → n ≤ a → n ≤ b →
      (contents_to d a).atoms r q ≡ (contents_to d b).atoms r q
  -- and what is entered in a book where such rows are used
  pub entered_alike : (n a b : ℕ) (book us : List Use) → All (λ (u : Use). NestsAtMost d n u.0) us → n ≤ a → n ≤ b →
      entered d a book us ≡ entered d b book us

-- The law of sound data: what is told of a row is what the definitions say over all rows, at each depth from the count of rows
-- on.
pub record RowsAreTold (d : FlowsData) : Type 0 where
  pub size_is : (r : ℕ) (q : Token) → r < length d.rows → (all_rows d).size r q ≡ size_of d r q
  pub fill_is : (r : ℕ) (q : Token) (h : ℕ) → r < length d.rows → (all_rows d).fill r q h ≡ fill_in (all_rows d) d r q h
  pub left_is : (r : ℕ) (q : Token) → r < length d.rows → (all_rows d).left r q ≡ left_in (all_rows d) (flow_in d r) q
  -- its fragments are those of its columns
  pub fragments_are : (depth : ℕ) (r : RowLaid) → r.row < length d.rows → length d.rows ≤ depth →
      row_fragments d depth r
      ≡ fragments_from (fragment_of (row_fragments d (length d.rows)) (all_rows d) d (row_of d r.row).flow
      (flow_in d r.row) r.made_at) r.from
      (columns_by (column_made (all_rows d) d (flow_in d r.row) r.made_at) (flow_in d r.row)
      (columns_wanted (all_rows d) d r) r.from)
  -- the lines of its fill rest on the sizes that those of its columns rest on
  pub owned_are : (depth r : ℕ) (q : Token) (h : ℕ) → r < length d.rows → length d.rows ≤ depth →
      (owned_to d depth).fill r q h
      ≡ columns_owned (λ t. column_owned (owned_to d (length d.rows)) (all_rows d) d (flow_in d r) t h) q
      (to_overflow (columns (all_rows d) d (flow_in d r) (row_of d r).n q h))
  -- its atoms are those of its flow
  pub atoms_are : (depth r : ℕ) (q : Token) → r < length d.rows → length d.rows ≤ depth →
      (contents_to d depth).atoms r q ≡ atoms_in (contents_to d (length d.rows)) r (flow_in d r) q
  -- and the same is entered in a book
  pub entered_is : (depth : ℕ) (book us : List Use) → All (λ (u : Use). u.0 < length d.rows) us → length d.rows ≤ depth →
      entered d depth book us ≡ entered d (length d.rows) book us
