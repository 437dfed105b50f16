-- The height of a row outside any columns is no more than a column of it may reach, whatever height is available: that comes into
-- play only where a column is broken or reaches beyond it.
use Rattle.std.proofs.Common.{◌≡◌, ℕ, zero, suc, ◌<◌, ◌≤◌, max, Bool, true, false, cond, not, ◌||◌, List, [], ◌∷◌, length, Option}
use Rattle.std.proofs.Common.{Some, None, refl, sym, subst, arith, ◌⊎◌, inl, inr}
use Rattle.std.specs.Prelude.{fold, nat_le, nat_lt}
use Rattle.std.specs.List.{list_any}
use Rattle.std.proofs.lemmas.Bool.{cases_lt}
use Rattle.std.proofs.lemmas.Bool.Decides.{nat_tests}
use Rattle.std.specs.List.{AllByRecursion as Each}
use Rattle.flow_list.specs.Data.{Flow, FlowsData}
use Rattle.flow_data.specs.Flows.{row_of, flow_in, seam_of}
use Rattle.flow_list.specs.Tokens.{Token, row_start, item_number, is_end}
use Rattle.flow_list.specs.Column.{is_forced, Column, column}
use Rattle.flow_list.specs.Rows.{reach, columns_by, left_in, all_rows}
use Rattle.flow_list.specs.RowHeights.{size_of, column_within, row_columns, balanced_height, is_unforced, greatest_extent}
use Rattle.flow_list.specs.RowHeights.{filled_height, row_height}
use Rattle.flow_list.proofs.Fitting.{size-reach}
use Rattle.flow_laws.proofs.Exists.{sizes-least}
use Rattle.flow_laws.proofs.Small.{column-reach, extent-le}

-- what is so of each column that begins before a flow's end is so of columns one after another
pub columns-each : (P : Column → Type 0) (make : Token → Column) (f : Flow) (n : ℕ) (t : Token)
    → ((q : Token) → item_number q < length f.items → P (make q)) → Each P (columns_by make f n t)
unfolding columns_by
columns-each P make f zero t each = tt
columns-each P make f (suc n) t each = go (is_end f t) refl (λ q. columns-each P make f n q each)
  where
    go : (b : Bool) → is_end f t ≡ b → ((q : Token) → Each P (columns_by make f n q))
        → Each P (elim b [ true ↦ [] | false ↦ make t ∷ columns_by make f n (make t).end ])
    go true e more = tt
    go false e more = (each t (grind (arith, nat_tests)), more (make t).end)

greatest-from : (top most : ℕ) (cs : List Column) → most ≤ top → Each (λ (c : Column). c.extent ≤ top) cs
    → fold (λ m (c : Column). max m c.extent) most cs ≤ top
greatest-from top most [] le all = le
greatest-from top most (c ∷ cs) le all = let a = all.0 in greatest-from top (max most c.extent) cs (omega arith) all.1

none-of : (p : Column → Bool) (cs : List Column) → Each (λ c. p c ≡ false) cs → list_any p cs ≡ false
none-of p [] all = refl
none-of p (c ∷ cs) all = go (p c) all.0 (none-of p cs all.1)
  where
    go : (b : Bool) → b ≡ false → list_any p cs ≡ false → (b || list_any p cs) ≡ false
    go true e rest = cc
    go false e rest = rest

one-of : (a b : Bool) → (a ≡ true) ⊎ (b ≡ true) → not (a || b) ≡ false
one-of true b e = refl
one-of false true e = refl
one-of false false (inl e) = cc
one-of false false (inr e) = cc

module _ (d : FlowsData) (r top : ℕ) (reaches : (t : Token) → reach (all_rows d) d (flow_in d r) t ≤ top) where
  extents-le : (h : Option ℕ) → Each (λ (c : Column). c.extent ≤ top) (row_columns d r h)
  unfolding row_columns
  extents-le h = columns-each (λ (c : Column). c.extent ≤ top) (column_within d (flow_in d r) h) (flow_in d r)
      (left_in (all_rows d) (flow_in d r) row_start) row_start (λ q lt. extent-le d (flow_in d r) top h q lt (reaches q))

  -- at a height that no column reaches only forced breaks remain
  stays-within : (h : ℕ) → top < h → (q : Token) → item_number q < length (flow_in d r).items
      → (is_unforced (flow_in d r) (column (all_rows d) d (flow_in d r) q h).end
      || nat_lt h (column (all_rows d) d (flow_in d r) q h).extent) ≡ false
  stays-within h above q lt =
      let c = column (all_rows d) d (flow_in d r) q h in
      let within = reaches q in
      let ends = (sizes-least (all_rows d) d).only_forced_remain (flow_in d r) q h lt (omega arith) in
      let e : c.end ≡ ends.end.0 ∷ [] = ends.end.1 in
      let P : Token → Type 0 = λ t. is_unforced (flow_in d r) t ≡ false in
      let forced : is_unforced (flow_in d r) c.end ≡ false = subst P (sym e) (no-break ends.end.0 ends.end.2.forced) in
      let low = column-reach (all_rows d) d (flow_in d r) top q h lt (reaches q) in
      let low' : nat_lt h c.extent ≡ false = grind (arith, nat_tests) in
      neither (is_unforced (flow_in d r) c.end) (nat_lt h c.extent) forced low'
    where
      no-break : (e : ℕ) → (e ≡ length (flow_in d r).items) ⊎ (is_forced (seam_of (flow_in d r) e).level ≡ true)
          → is_unforced (flow_in d r) (e ∷ []) ≡ false
      no-break e (inl end) = let past : nat_le (length (flow_in d r).items) e ≡ true = grind (arith, nat_tests)
          in one-of (nat_le (length (flow_in d r).items) e) (is_forced (seam_of (flow_in d r) e).level) (inl past)
      no-break e (inr forced) = one-of (nat_le (length (flow_in d r).items) e) (is_forced (seam_of (flow_in d r) e).level)
          (inr forced)

      neither : (a b : Bool) → a ≡ false → b ≡ false → (a || b) ≡ false
      neither true b x y = cc
      neither false b x y = y

  all-stay : (h : ℕ) → top < h → Each (λ (c : Column). (is_unforced (flow_in d r) c.end || nat_lt h c.extent) ≡ false)
      (row_columns d r (Some h))
  unfolding row_columns
  all-stay h above =
      columns-each (λ (c : Column). (is_unforced (flow_in d r) c.end || nat_lt h c.extent) ≡ false)
      (column_within d (flow_in d r) (Some h)) (flow_in d r) (left_in (all_rows d) (flow_in d r) row_start) row_start
      (stays-within h above)

  filled-le : (h : Option ℕ) → filled_height (flow_in d r) h (row_columns d r h) ≤ top
  filled-le None = greatest-from top 0 (row_columns d r None) (omega arith) (extents-le None)
  filled-le (Some h) = go (cases_lt top h)
    where
      greatest : greatest_extent (row_columns d r (Some h)) ≤ top
      greatest = greatest-from top 0 (row_columns d r (Some h)) (omega arith) (extents-le (Some h))

      either : (b : Bool) → h ≤ top → cond b h (greatest_extent (row_columns d r (Some h))) ≤ top
      either true le = le
      either false le = greatest

      go : (top < h) ⊎ (h ≤ top) → cond
          (list_any (λ (c : Column). is_unforced (flow_in d r) c.end || nat_lt h c.extent) (row_columns d r (Some h))) h
          (greatest_extent (row_columns d r (Some h))) ≤ top
      go (inl above) =
          let none = none-of (λ (c : Column). is_unforced (flow_in d r) c.end || nat_lt h c.extent) (row_columns d r (Some h))
          (all-stay h above) in
          let P : Bool → Type 0 = λ b. cond b h (greatest_extent (row_columns d r (Some h))) ≤ top in
          subst P (sym none) greatest
      go (inr le) = either (list_any (λ (c : Column). is_unforced (flow_in d r) c.end || nat_lt h c.extent)
          (row_columns d r (Some h))) le

  pub row-height-le : (available : Option ℕ) → row_height d r available ≤ top
  unfolding row_height size_of
  row-height-le available = go (row_of d r).auto
    where
      size : (h : Option ℕ) → balanced_height h (size_of d r row_start) ≤ top
      size None = let a = size-reach (all_rows d) d r row_start in let b = reaches row_start in omega arith
      size (Some h) = let a = size-reach (all_rows d) d r row_start in let b = reaches row_start in omega arith

      go : (b : Bool) → cond b (filled_height (flow_in d r) available (row_columns d r available))
          (balanced_height available (size_of d r row_start)) ≤ top
      go true = filled-le available
      go false = size available
