-- Columns one after another hold the atoms between them, and so do the columns of rows, by how many rows stand one inside
-- another.
use Rattle.std.proofs.Common.{◌≡◌, ℕ, zero, suc, ◌+◌, ◌<◌, ◌≤◌, Bool, true, false, List, [], ◌∷◌, ◌++◌, length, get_or, Option}
use Rattle.std.proofs.Common.{Some, refl, sym, subst, ◌∙◌, ap, arith, append_assoc, inl, inr}
use Rattle.std.specs.Prelude.{All}
use Rattle.std.specs.List.{AllByRecursion as Each, flat_map}
use Rattle.std.proofs.lemmas.List.{append-nil, drop_more}
use Rattle.mc_base.specs.PlainTree.{PlainTree, plain_trees}
use Rattle.flow_list.specs.Data.{Flow, FlowsData, Item, Atom, Row}
use Rattle.flow_data.specs.Flows.{row_of, flow_in, row_in, rows_in, no_item, no_row, flow_of}
use Rattle.flow_data.specs.Soundness.{IsSound}
use Rattle.flow_list.specs.Tokens.{Token, item_number, within, is_end, IsPlaceBefore}
use Rattle.flow_list.specs.Column.{Column, Inner}
use Rattle.flow_list.specs.Rows.{columns_by, end_of, items_left, left_in, fill_in, rows_to}
use Rattle.flow_list.specs.Placing.{RowLaid}
use Rattle.flow_list.specs.Fragments.{column_made, fragment_of, fragments_from, row_fragments}
use Rattle.flow_laws.specs.Progress.{Contents, atoms_in, contents_to}
use Rattle.flow_laws.specs.Holding.{atoms_in_tree, atoms_in_trees}
use Rattle.flow_laws.proofs.Places.{in-items, before-end, IsReached}
use Rattle.flow_laws.proofs.SoundRows.{good-rows, rows-of-data}
use Rattle.flow_list.proofs.Fitting.{columns_by-past}
use Rattle.flow_laws.proofs.HoldingColumns.{none-left, item-some, RowHolds, ItemHolds, column-holds, column-reached, column-fewer}

before : (d : FlowsData) (f : Flow) (t : Token) → IsReached d f t → is_end f t ≡ false → IsPlaceBefore d f t
before d f t (inl e) inner = cc
before d f t (inr place) inner = place

module _ (d : FlowsData) (x : Inner) (c : Contents) (columns : RowLaid → List PlainTree) (r : ℕ) (f : Flow)
    (holds : Each (ItemHolds d x c columns) f.items) (h : Option ℕ) where
  -- the first n columns from a place on, and their trees
  abbrev pub columns_from : ℕ → Token → List Column
  columns_from n t = columns_by (column_made x d f h) f n t

  abbrev next : Token → Token
  next t = (column_made x d f h t).end

  pub columns-hold : (number n : ℕ) (t : Token) → IsReached d f t →
      atoms_in_trees r (plain_trees (fragments_from (fragment_of columns x d number f h) t (columns_from n t))) ++ atoms_in c r f
      (end_of t (columns_from n t)) ≡ atoms_in c r f t
  unfolding columns_by atoms_in_tree atoms_in_trees
  columns-hold number zero t at = refl
  columns-hold number (suc n) t at = go (is_end f t) refl (λ u reached. columns-hold number n u reached)
    where
      go : (b : Bool) → is_end f t ≡ b →
          ((u : Token) → IsReached d f u
          → atoms_in_trees r (plain_trees (fragments_from (fragment_of columns x d number f h) u (columns_from n u)))
          ++ atoms_in c r f (end_of u (columns_from n u)) ≡ atoms_in c r f u) →
          atoms_in_trees r (plain_trees
          (fragments_from (fragment_of columns x d number f h) t
          (elim b as (λ _. List Column) [ true ↦ [] | false ↦ column_made x d f h t ∷ columns_from n (next t) ])))
          ++ atoms_in c r f
          (end_of t (elim b as (λ _. List Column) [ true ↦ [] | false ↦ column_made x d f h t ∷ columns_from n (next t) ]))
          ≡ atoms_in c r f t
      go true e again = refl
      go false e again =
          let place = before d f t at e in
          let first = atoms_in_tree r (fragment_of columns x d number f h t) in
          append_assoc first (atoms_in_trees r
          (plain_trees (fragments_from (fragment_of columns x d number f h) (next t) (columns_from n (next t)))))
          (atoms_in c r f (end_of (next t) (columns_from n (next t))))
          ∙ ap (λ us. first ++ us) (again (next t) (column-reached d x c columns r f holds t place h))
          ∙ column-holds d x c columns r f holds t place number h

  pub columns-reached : (n : ℕ) (t : Token) → IsReached d f t → IsReached d f (end_of t (columns_from n t))
  unfolding columns_by
  columns-reached zero t at = at
  columns-reached (suc n) t at = go (is_end f t) refl (λ u reached. columns-reached n u reached)
    where
      go : (b : Bool) → is_end f t ≡ b → ((u : Token) → IsReached d f u → IsReached d f (end_of u (columns_from n u))) →
          IsReached d f
          (end_of t (elim b as (λ _. List Column) [ true ↦ [] | false ↦ column_made x d f h t ∷ columns_from n (next t) ]))
      go true e again = at
      go false e again = again (next t) (column-reached d x c columns r f holds t (before d f t at e) h)

  pub columns-fewer : (n : ℕ) (t : Token) → IsReached d f t → left_in x f (end_of t (columns_from n t)) ≤ left_in x f t
  unfolding columns_by
  columns-fewer zero t at = omega arith
  columns-fewer (suc n) t at = go (is_end f t) refl (λ u reached. columns-fewer n u reached)
    where
      go : (b : Bool) → is_end f t ≡ b
          → ((u : Token) → IsReached d f u → left_in x f (end_of u (columns_from n u)) ≤ left_in x f u) →
          left_in x f
          (end_of t (elim b as (λ _. List Column) [ true ↦ [] | false ↦ column_made x d f h t ∷ columns_from n (next t) ])) ≤
          left_in x f t
      go true e again = omega arith
      go false e again =
          let place = before d f t at e in
          let less = column-fewer d x c columns r f holds t place h in
          let more = again (next t) (column-reached d x c columns r f holds t place h) in
          omega arith

  place-fewer : (n : ℕ) (t : Token) → 0 < n → IsPlaceBefore d f t → is_end f t ≡ false →
      left_in x f (end_of t (columns_from n t)) < left_in x f t
  unfolding columns_by
  place-fewer zero t some place inner = absurd (omega arith)
  place-fewer (suc n) t some place inner = go (is_end f t) inner
    where
      go : (b : Bool) → b ≡ false → left_in x f
          (end_of t (elim b as (λ _. List Column) [ true ↦ [] | false ↦ column_made x d f h t ∷ columns_from n (next t) ])) <
          left_in x f t
      go true e = cc
      go false e =
          let less = column-fewer d x c columns r f holds t place h in
          let more = columns-fewer n (next t) (column-reached d x c columns r f holds t place h) in
          omega arith

  pub some-fewer : (n : ℕ) (t : Token) → 0 < n → IsReached d f t → is_end f (end_of t (columns_from n t)) ≡ false →
      left_in x f (end_of t (columns_from n t)) < left_in x f t
  some-fewer n t some (inl e) inner = let stays : is_end f (end_of t (columns_from n t)) ≡ true =
      rw (columns_by-past (column_made x d f h) f n t e) e in cc
  some-fewer n t some (inr place) inner = place-fewer n t some place (before-end d f t place)

  left-some : (t : Token) → IsPlaceBefore d f t → 0 < left_in x f t
  left-some t place =
      let P : List Item → Type 0 = λ items. 0 < items_left x (within t) items in
      let own = item-some d x c columns (get_or f.items (item_number t) no_item) (within t) in
      subst P (sym (drop_more f.items (item_number t) no_item (in-items d f t place))) (omega arith)

  -- as many columns as there are items left reach the end
  pub columns-end : (n : ℕ) (t : Token) → IsReached d f t → left_in x f t ≤ n → is_end f (end_of t (columns_from n t)) ≡ true
  unfolding columns_by
  columns-end zero t (inl e) le = e
  columns-end zero t (inr place) le = let some = left-some t place in absurd (omega arith)
  columns-end (suc n) t at le = go (is_end f t) refl (λ u reached less. columns-end n u reached less)
    where
      go : (b : Bool) → is_end f t ≡ b
          → ((u : Token) → IsReached d f u → left_in x f u ≤ n → is_end f (end_of u (columns_from n u)) ≡ true) →
          is_end f
          (end_of t (elim b as (λ _. List Column) [ true ↦ [] | false ↦ column_made x d f h t ∷ columns_from n (next t) ]))
          ≡ true
      go true e again = e
      go false e again =
          let place = before d f t at e in
          let less = column-fewer d x c columns r f holds t place h in
          again (next t) (column-reached d x c columns r f holds t place h) (omega arith)

  -- and hold all atoms from a place on
  pub all-hold : (number : ℕ) (t : Token) → IsReached d f t →
      atoms_in_trees r (plain_trees (fragments_from (fragment_of columns x d number f h) t (columns_from (left_in x f t) t)))
      ≡ atoms_in c r f t
  all-hold number t at =
      let trees =
      atoms_in_trees r (plain_trees (fragments_from (fragment_of columns x d number f h) t (columns_from (left_in x f t) t)))
      in
      sym (append-nil trees) ∙ ap (λ us. trees ++ us)
      (sym (none-left c r f (end_of t (columns_from (left_in x f t) t)) (columns-end (left_in x f t) t at (omega arith))))
      ∙ columns-hold number (left_in x f t) t at

-- ---- rows within rows

-- all rows in this flow hold their atoms, where at most m rows stand one inside another
abbrev pub RowsHold : FlowsData → ℕ → Flow → Type 0
RowsHold d m f = Each (ItemHolds d (rows_to d m) (contents_to d m) (row_fragments d m)) f.items

row-holds : (d : FlowsData) (m s : ℕ) → 0 < (row_of d s).n → RowsHold d m (flow_in d s) →
    RowHolds d (rows_to d (suc m)) (contents_to d (suc m)) (row_fragments d (suc m)) s
unfolding rows_to contents_to row_fragments fill_in
row-holds d m s columns holds = record {
  whole = λ q a at. all-hold d (rows_to d m) (contents_to d m) (row_fragments d m) s (flow_in d s) holds (Some a)
      (row_of d s).flow q at;
  part = λ q a at. columns-hold d (rows_to d m) (contents_to d m) (row_fragments d m) s (flow_in d s) holds (Some a)
      (row_of d s).flow (row_of d s).n q at;
  none = λ q a at e. none-left (contents_to d m) s (flow_in d s)
      (end_of q (columns_from d (rows_to d m) (contents_to d m) (row_fragments d m) s (flow_in d s) holds (Some a)
      (row_of d s).n q)) e;
  place = λ q a at e. before d (flow_in d s) (end_of q
      (columns_from d (rows_to d m) (contents_to d m) (row_fragments d m) s (flow_in d s) holds (Some a) (row_of d s).n q))
      (columns-reached d (rows_to d m) (contents_to d m) (row_fragments d m) s (flow_in d s) holds (Some a)
      (row_of d s).n q at) e;
  fewer = λ q a at e. some-fewer d (rows_to d m) (contents_to d m) (row_fragments d m) s (flow_in d s) holds (Some a)
      (row_of d s).n q columns at e;
}

items-hold : (d : FlowsData) (m : ℕ) (P : ℕ → Type 0)
    → ((s : ℕ) → P s → RowHolds d (rows_to d m) (contents_to d m) (row_fragments d m) s) → (items : List Item)
    → All P (flat_map row_in items) →
    Each (ItemHolds d (rows_to d m) (contents_to d m) (row_fragments d m)) items
items-hold d m P made [] all = tt
items-hold d m P made (Atom height kind ∷ items) all = (tt, items-hold d m P made items all)
items-hold d m P made (Row s ∷ items) all =
    (made s (all 0 s (omega arith)), items-hold d m P made items (λ k e lt. all (suc k) e (omega arith)))

module _ (d : FlowsData) (sound : IsSound d) where
  -- a row of the data that has items, and stands in an earlier row
  pub record IsWithin (outer s : ℕ) : Type 0 where
    pub known : s < length d.rows
    pub some : 0 < length (flow_in d s).items
    pub later : outer < s

  pub rows-within : (r : ℕ) → r < length d.rows → All (IsWithin r) (rows_in (flow_in d r))
  rows-within r lt =
      let good = good-rows d sound r lt in
      λ k e in_rows. record {
        known = (good k e in_rows).0;
        some = (good k e in_rows).1;
        later = (sound.inner_rows r lt k e in_rows).later;
      }

  -- a row of the data, where it has no more rows after it
  known-holds : (m s : ℕ) → s < length d.rows → length d.rows ≤ s + m →
      RowHolds d (rows_to d m) (contents_to d m) (row_fragments d m) s
  known-holds zero s lt le = absurd (omega arith)
  known-holds (suc m) s lt le =
      row-holds d m s (sound.rows s no_row lt).some_column
      (items-hold d m (IsWithin s) (λ u w. let later = w.later in known-holds m u w.known (omega arith)) (flow_in d s).items
      (rows-within s lt))

  pub rows-hold : (m r : ℕ) → r < length d.rows → length d.rows ≤ suc (r + m) → RowsHold d m (flow_in d r)
  rows-hold m r lt le = items-hold d m (IsWithin r) (λ s w. let later = w.later in known-holds m s w.known (omega arith))
      (flow_in d r).items (rows-within r lt)

  -- so in any flow of the data
  pub flow-holds : (f : ℕ) → f < length d.flows → RowsHold d (length d.rows) (flow_of d f)
  flow-holds f lt = items-hold d (length d.rows) (λ s. s < length d.rows)
      (λ s known. known-holds (length d.rows) s known (omega arith)) (flow_of d f).items (rows-of-data d sound f lt)
