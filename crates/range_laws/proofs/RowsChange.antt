-- At the least bound the lines of columns change, also of those in rows in rows.
use Rattle.std.proofs.Common.{◌≡◌, ℕ, zero, suc, ◌<◌, ◌≤◌, Bool, true, false, List, [], ◌∷◌, ◌++◌, length, map, refl, sym, ◌∙◌}
use Rattle.std.proofs.Common.{ap, arith}
use Rattle.std.specs.Prelude.{nat_lt}
use Rattle.std.proofs.lemmas.Bool.{or_left}
use Rattle.std.proofs.lemmas.Bool.Decides.{nat_tests}
use Rattle.flow_list.specs.Data.{Flow, FlowsData}
use Rattle.flow_data.specs.Flows.{row_of, flow_in}
use Rattle.flow_list.specs.Tokens.{Token, item_number, is_end}
use Rattle.flow_list.specs.Column.{Column, ColumnLine, Inner, deeper, column}
use Rattle.flow_list.specs.Rows.{columns_by, fails, to_overflow, fill_in, rows_to, size_in, most_columns}
use Rattle.flow_list.specs.Ranges.{judged, bounds_of, lines_of}
use Rattle.flow_list.proofs.Fitting.{columns_by-step}
use Rattle.flow_laws.specs.LeastHeight.{SizesAreLeast}
use Rattle.flow_laws.specs.Constant.{ColumnStays, BreaksAreConstant}
use Rattle.range_laws.proofs.Bounds.{Has, NoneBelow}
use Rattle.range_laws.proofs.LineBlocks.{Block, column-block}
use Rattle.range_laws.proofs.ChainChanges.{Steady, chain-changes}
use Rattle.range_laws.proofs.StopChanges.{FillsChange, column-changes}

-- ---- rows in rows

module _ (d : FlowsData) (constant : (depth : ℕ) → BreaksAreConstant d depth) (least : (inner : Inner) →
    SizesAreLeast inner d) (some : (r : ℕ) → 0 < (row_of d r).n) where
  steady-at : (depth : ℕ) (f : Flow) (lo hi : ℕ) (stops : Column → Bool) → lo ≤ hi → FillsChange (rows_to d depth) →
      ((c : Column) → c.overflow ≡ true → stops c ≡ true) →
      ((a b : Column) → a.overflow ≡ false → ColumnStays a b → stops b ≡ stops a) →
      Steady f hi (λ t. column (rows_to d depth) d f t lo) (λ t. column (rows_to d depth) d f t hi) stops
  steady-at depth f lo hi stops le law over same = record {
    block_lo = λ t. column-block (rows_to d depth) d f t lo;
    block_hi = λ t. column-block (rows_to d depth) d f t hi;
    change = λ t open_ below has e. column-changes (rows_to d depth) law d f t lo hi le below has e;
    stay = λ t below. (constant depth).column_stays f t lo hi le below;
    stop_over = over;
    stop_same = same;
  }

  columns-some : (make : Token → Column) (f : Flow) (n : ℕ) (q : Token) → ((t : Token) → Block (make t).lines) → 0 < n →
      is_end f q ≡ false → lines_of (to_overflow (columns_by make f n q)) ≡ [] → ⊥
  columns-some make f zero q block lt open_ e = absurd (omega arith)
  columns-some make f (suc n) q block lt open_ e = first (make q) _ (block q)
      (sym (ap (λ cs. lines_of (to_overflow cs)) (columns_by-step make f n q open_)) ∙ e)
    where
      first : (c : Column) (ls : List ColumnLine) → Block c.lines → c.lines ++ ls ≡ [] → ⊥
      first c ls (l, inside, at, e) k = let w : (l ∷ map deeper inside) ++ ls ≡ [] = sym (ap (λ xs. xs ++ ls) e) ∙ k in cc

  size-open : (inner : Inner) (r : ℕ) (q : Token) → 0 < size_in inner d r q → is_end (flow_in d r) q ≡ false
  size-open inner r q lt = go (is_end (flow_in d r) q) refl
    where
      go : (b : Bool) → is_end (flow_in d r) q ≡ b → is_end (flow_in d r) q ≡ false
      go false e = e
      go true e = let k : length (flow_in d r).items ≤ item_number q = grind (arith, nat_tests) in
          let z = (least inner).size_at_end r q k in absurd (omega arith)

  pub fills-change : (depth : ℕ) → FillsChange (rows_to d depth)
  unfolding rows_to fill_in
  fills-change zero = record { fill_changes = λ r q lo hi le below has e. cc; fill_tells = λ r q h lt e. omega arith }
  fills-change (suc depth) =
      let law = fills-change depth in
      record {
        fill_changes = λ r q lo hi le below has e.
            chain-changes (flow_in d r) hi (λ t. column (rows_to d depth) d (flow_in d r) t lo)
            (λ t. column (rows_to d depth) d (flow_in d r) t hi) (λ (c : Column). c.overflow)
            (steady-at depth (flow_in d r) lo hi (λ (c : Column). c.overflow) le law (λ c o. o) (λ a b o stays. stays.overflow))
            (row_of d r).n q below has e;
        fill_tells = λ r q h lt e.
            columns-some (λ t. column (rows_to d depth) d (flow_in d r) t h) (flow_in d r) (row_of d r).n q
            (λ t. column-block (rows_to d depth) d (flow_in d r) t h) (some r) (size-open (rows_to d depth) r q lt) e;
      }

  fails-over : (c : Column) → c.overflow ≡ true → fails c ≡ true
  fails-over c e = or_left c.overflow (nat_lt 0 c.level) e

  fails-same : (a b : Column) → a.overflow ≡ false → ColumnStays a b → fails b ≡ fails a
  fails-same a b o stays = rw (stays.overflow, stays.level o) refl

  -- at the least bound of the columns that are judged their lines change
  pub judged-changes : (depth r : ℕ) (q : Token) (lo hi : ℕ) → lo ≤ hi →
      NoneBelow hi (bounds_of (judged (rows_to d depth) d r q lo)) → Has hi (bounds_of (judged (rows_to d depth) d r q lo)) →
      lines_of (judged (rows_to d depth) d r q lo) ≡ lines_of (judged (rows_to d depth) d r q hi) → ⊥
  unfolding judged
  judged-changes depth r q lo hi le below has e =
      chain-changes (flow_in d r) hi (λ t. column (rows_to d depth) d (flow_in d r) t lo)
      (λ t. column (rows_to d depth) d (flow_in d r) t hi) fails
      (steady-at depth (flow_in d r) lo hi fails le (fills-change depth) fails-over fails-same)
      (most_columns (row_of d r).n (flow_in d r) q) q below has e
