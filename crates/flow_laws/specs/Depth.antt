-- How many rows stand one inside another doesn't matter, once it is counted deep enough (this project's own: what is told of rows
-- is defined by recursion on a depth).
use Rattle.std.specs.Prelude.{◌≡◌, ℕ, ◌<◌, ◌≤◌, length}
use Rattle.flow_list.specs.Data.{FlowsData}
use Rattle.flow_list.specs.Tokens.{Token}
use Rattle.flow_list.specs.Column.{Inner}
use Rattle.flow_list.specs.Rows.{rows_to, all_rows, size_in, fill_in}
use Rattle.flow_data.specs.Soundness.{IsSound, NestsAtMost}

-- The same is told of row r.
pub record ToldAlike (a b : Inner) (r : ℕ) : Type 0 where
  pub size : (q : Token) → a.size r q ≡ b.size r q
  pub fill : (q : Token) (h : ℕ) → a.fill r q h ≡ b.fill r q h
  pub left : (q : Token) → a.left r q ≡ b.left r q

-- The law: of a row of which at most n stand one inside another the same is told at each depth from n on. So what is told of
-- all rows is what their own flows give.
pub record DepthChangesNothing (d : FlowsData) : Type 0 where
  pub told_alike : (n r a b : ℕ) → NestsAtMost d n r → n ≤ a → n ≤ b → ToldAlike (rows_to d a) (rows_to d b) r
  pub all_rows_size : (n r : ℕ) (q : Token) → NestsAtMost d n r → n ≤ length d.rows
      → (all_rows d).size r q ≡ size_in (all_rows d) d r q
  pub all_rows_fill : (n r : ℕ) (q : Token) (h : ℕ) → NestsAtMost d n r → n ≤ length d.rows
      → (all_rows d).fill r q h ≡ fill_in (all_rows d) d r q h
  -- in sound data no more rows stand one inside another than there are, so of each the same is told at each depth from their
  -- count on
  pub count_is_deep_enough : IsSound d → (r depth : ℕ) → r < length d.rows → length d.rows ≤ depth
      → ToldAlike (all_rows d) (rows_to d depth) r
