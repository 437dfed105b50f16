-- The sizes that a row's columns use are those of rows with greater numbers.
use Rattle.std.proofs.Common.{◌≡◌, ℕ, zero, suc, ◌+◌, ◌-◌, ◌==◌, ◌<◌, List, [], ◌∷◌, length, refl, arith}
use Rattle.std.specs.List.{flat_map}
use Rattle.std.proofs.lemmas.Bool.{cond_both}
use Rattle.flow_list.specs.Data.{Atom, Flow, FlowsData, Item, Row}
use Rattle.flow_data.specs.Flows.{row_of, flow_in, item_of}
use Rattle.flow_list.specs.Tokens.{Token, item_number, within}
use Rattle.flow_list.specs.Column.{Inner, Step, steps_from, start_strip, row_from, row_list, rows_among, column}
use Rattle.flow_list.specs.Rows.{columns, fails, fill_in, rows_to, all_rows, most_columns}
use Rattle.flow_list.specs.Ranges.{Range, judged}
use Rattle.flow_list.specs.Certificate.{Use, uses_of, range_uses, size_uses}
use Rattle.flow_list.proofs.ColumnParts.{EachFrom, steps-each}
use Rattle.column_laws.proofs.Uses.{column-use, columns-use, FillsUse, first-use, HoldsRows, size-use}
use Rattle.range_laws.proofs.Above.{Above, above-less, above-append, Later}

-- the rows that stand in a flow are from b on, and of the data
abbrev pub HoldsAbove : ℕ → ℕ → Flow → Type 0
HoldsAbove b n f = HoldsRows (Later b n) f

row-above : (b n : ℕ) (q : Token) (item : Item) → ((r : ℕ) → item ≡ Row r → Later b n r) → Above b n (row_list (row_from item q))
row-above b n q (Atom h kind) each = tt
row-above b n q (Row r) each = (each r refl, tt)

-- the row that an item of a column is, where it is one
abbrev RowAbove : ℕ → ℕ → ℕ → Step → Type 0
RowAbove b n k s = Above b n (row_list s.row)

rows-above : (b n k : ℕ) (ss : List Step) → EachFrom (RowAbove b n) k ss → Above b n (rows_among ss)
rows-above b n k [] all = tt
rows-above b n k (s ∷ ss) all = above-append b n (row_list s.row) (rows_among ss) all.0 (rows-above b n (k + 1) ss all.1)

pub steps-above : (inner : Inner) (d : FlowsData) (f : Flow) (b n : ℕ) → HoldsAbove b n f → (t : Token) →
    Above b n (rows_among (steps_from inner d f t))
steps-above inner d f b n each t =
    rows-above b n (item_number t) (steps_from inner d f t)
    (steps-each inner d f (λ s k q m. Unit {0}) (RowAbove b n) (λ s k q m known. row-above b n q (item_of f k) (each k))
    (λ s k q m known. tt) (start_strip d f t) (item_number t) (within t) (length f.items - item_number t) tt)

-- what the rows that stand in a flow use
abbrev pub FillsAbove : ℕ → Inner → Type 0
FillsAbove n inner = (r : ℕ) (q : Token) (a : ℕ) → r < n → Above (r + 1) n (inner.fill r q a).uses

fills-use : (inner : Inner) (b n : ℕ) → FillsAbove n inner → FillsUse (Later b n) inner
fills-use inner b n law r q a later =
    let from = later.0 in above-less b (r + 1) n (inner.fill r q a).uses (omega arith) (law r q a later.1)

pub column-above : (inner : Inner) (n : ℕ) → FillsAbove n inner → (d : FlowsData) (f : Flow) (b : ℕ) → HoldsAbove b n f →
    (t : Token) (h : ℕ) → Above b n (column inner d f t h).uses
column-above inner n law d f b each t h = column-use (Later b n) inner (fills-use inner b n law) d f each t h

module _ (d : FlowsData) (n : ℕ) (sound : (r : ℕ) → r < n → HoldsAbove (r + 1) n (flow_in d r)) where
  pub fills-above : (depth : ℕ) → FillsAbove n (rows_to d depth)
  unfolding rows_to fill_in
  fills-above zero r q a lt = tt
  fills-above (suc depth) r q a lt =
      columns-use (Later (r + 1) n) (λ t. column (rows_to d depth) d (flow_in d r) t a) (flow_in d r)
      (λ t. column-above (rows_to d depth) n (fills-above depth) d (flow_in d r) (r + 1) (sound r lt) t a) (row_of d r).n q

  all-above : FillsAbove n (all_rows d)
  unfolding all_rows
  all-above = fills-above (length d.rows)

  judged-use : (r : ℕ) → r < n → (q : Token) (h : ℕ) → Above (r + 1) n (uses_of (judged (all_rows d) d r q h))
  unfolding judged
  judged-use r lt q h =
      let most = most_columns (row_of d r).n (flow_in d r) q in
      first-use (Later (r + 1) n) fails (columns (all_rows d) d (flow_in d r) most q h)
      (columns-use (Later (r + 1) n) (λ t. column (all_rows d) d (flow_in d r) t h) (flow_in d r)
      (λ t. column-above (all_rows d) n all-above d (flow_in d r) (r + 1) (sound r lt) t h) most q)

  pub ranges-use : (r : ℕ) → r < n → (q : Token) (xs : List Range) → Above (r + 1) n (flat_map (range_uses d r q) xs)
  ranges-use r lt q [] = tt
  ranges-use r lt q (x ∷ xs) =
      above-append (r + 1) n (range_uses d r q x) _
      (cond_both (length x.lines == 0) [] (uses_of (judged (all_rows d) d r q x.low)) (Above (r + 1) n) (λ _. tt)
      (λ _. judged-use r lt q x.low)) (ranges-use r lt q xs)

  -- what a size uses
  pub size-deeper : (u : Use) → u.0 < n → Above (u.0 + 1) n (size_uses d u)
  size-deeper u lt = size-use (Later (u.0 + 1) n) d (fills-use (all_rows d) (u.0 + 1) n all-above) u.0 (sound u.0 lt) u.1
