-- The trees of columns are whole: columns stand in rows and nowhere else, and what stands as an atom is one.
use Rattle.std.proofs.Common.{◌≡◌, ℕ, zero, suc, ◌+◌, ◌-◌, ◌==◌, Bool, true, false, cond, not, ◌||◌, ◌&&◌, List, [], ◌∷◌, ◌++◌}
use Rattle.std.proofs.Common.{length, get_or, Option, Some, None, refl, sym, subst}
use Rattle.std.specs.List.{AllByRecursion as Each, flat_map}
use Rattle.std.proofs.lemmas.List.Concat.{flat_map-append}
use Rattle.mc_base.specs.PlainTree.{PlainTree, PlainTrees, atom as atom_tree, piece, row_piece, column as column_tree, no_trees}
use Rattle.mc_base.specs.PlainTree.{more_trees, plain_trees}
use Rattle.flow_list.specs.Data.{AtomKind, Bound, Edge, Flow, FlowsData, Item, Plain, Line, Void, Image, Bounded, Atom, Row}
use Rattle.flow_data.specs.Flows.{flow_in, flow_of, item_of, no_item, row_of, seam_of, stack_of}
use Rattle.flow_list.specs.ClonedEdges.{open_across, tops}
use Rattle.flow_list.specs.Strip.{Strip, strip_at, put, lay_all, begins}
use Rattle.flow_list.specs.RowHeights.{balanced_height, row_height, size_of}
use Rattle.flow_list.specs.Stacks.{available_to, height_in_stack, stack_strip}
use Rattle.flow_list.specs.Tokens.{Token, item_number, row_start, within}
use Rattle.flow_list.specs.Column.{Column, height_of, Inner, room, row_from, start_strip, Step, steps_from, strip_behind}
use Rattle.flow_list.specs.Column.{is_forced}
use Rattle.flow_list.specs.Rows.{columns_by, rows_to}
use Rattle.flow_list.specs.Placing.{RowLaid, Laid, laid_edges, places_from}
use Rattle.flow_list.specs.Fragments.{all_trees, column_made, columns_wanted, continued_from, continuing, filled_row, fills_item}
use Rattle.flow_list.specs.Fragments.{fragment_of, fragments_from, laid_before, laid_filled, laid_in_stack, laid_item, laid_items}
use Rattle.flow_list.specs.Fragments.{laid_start, laid_to, places_in, row_fragments, stack_fragment, stack_laid, stop_of}
use Rattle.flow_list.specs.Fragments.{strip_after, strip_filled}
use Rattle.flow_list.proofs.ColumnParts.{OfStop, steps-each, cut-stop}
use Rattle.flow_list.proofs.PlaceBounds.{Each-append}
use Rattle.flow_laws.proofs.HoldingTrees.{of_laid, Reads, column-reads, edges-none}

module _ (P : ℕ → Type 0) where
  -- the stack that an atom names is so
  abbrev pub NamesOk : AtomKind → Type 0
  NamesOk Plain = Unit {0}
  NamesOk (Line owner index x w) = Unit {0}
  NamesOk (Void owner x w) = Unit {0}
  NamesOk (Image owner x w) = Unit {0}
  NamesOk (Bounded owner number x) = P number

  -- an atom that names one
  abbrev pub AtomOk : Item → Type 0
  AtomOk (Atom height kind) = NamesOk kind
  AtomOk (Row r) = ⊥

-- ---- trees

abbrev mutual
  -- this may stand in a column of flow f
  pub In : (ℕ → Type 0) → FlowsData → Flow → PlainTree → Type 0
  In P d f (atom_tree k y) = AtomOk P (item_of f k)
  In P d f (piece b starts y bottom kids) = AllIn P d f kids
  In P d f (row_piece r from y height columns) = AllColumns P d columns
  In P d f (column_tree number from end extent kids) = ⊥

  pub AllIn : (ℕ → Type 0) → FlowsData → Flow → PlainTrees → Type 0
  AllIn P d f no_trees = Unit {0}
  AllIn P d f (more_trees tree trees) = In P d f tree × AllIn P d f trees

  -- this may stand in a row
  pub IsColumn : (ℕ → Type 0) → FlowsData → PlainTree → Type 0
  IsColumn P d (atom_tree k y) = ⊥
  IsColumn P d (piece b starts y bottom kids) = ⊥
  IsColumn P d (row_piece r from y height columns) = ⊥
  IsColumn P d (column_tree number from end extent kids) = AllIn P d (flow_of d number) kids

  pub AllColumns : (ℕ → Type 0) → FlowsData → PlainTrees → Type 0
  AllColumns P d no_trees = Unit {0}
  AllColumns P d (more_trees tree trees) = IsColumn P d tree × AllColumns P d trees

abbrev mutual
  -- the trees that stand in these through boxes, as they are but for their places
  pub leaves_of : PlainTree → List PlainTree
  leaves_of (atom_tree k y) = atom_tree k 0 ∷ []
  leaves_of (piece b starts y bottom kids) = all_leaves kids
  leaves_of (row_piece r from y height columns) = row_piece r from 0 None columns ∷ []
  leaves_of (column_tree number from end extent kids) = column_tree number from end extent kids ∷ []

  pub all_leaves : PlainTrees → List PlainTree
  all_leaves no_trees = []
  all_leaves (more_trees tree trees) = leaves_of tree ++ all_leaves trees

pub each-left : {X : Type 0} (Q : X → Type 0) (xs ys : List X) → Each Q (xs ++ ys) → Each Q xs
each-left Q [] ys all = tt
each-left Q (x ∷ xs) ys all = (all.0, each-left Q xs ys all.1)

pub each-right : {X : Type 0} (Q : X → Type 0) (xs ys : List X) → Each Q (xs ++ ys) → Each Q ys
each-right Q [] ys all = all
each-right Q (x ∷ xs) ys all = each-right Q xs ys all.1

module _ (P : ℕ → Type 0) (d : FlowsData) where
  module _ (f : Flow) where
    mutual
      leaf-in : (tree : PlainTree) → Each (In P d f) (leaves_of tree) → In P d f tree
      leaf-in (atom_tree k y) all = all.0
      leaf-in (piece b starts y bottom kids) all = leaves-in kids all
      leaf-in (row_piece r from y height columns) all = all.0
      leaf-in (column_tree number from end extent kids) all = all.0

      leaves-in : (trees : PlainTrees) → Each (In P d f) (all_leaves trees) → AllIn P d f trees
      leaves-in no_trees all = tt
      leaves-in (more_trees tree trees) all = (
        leaf-in tree (each-left (In P d f) (leaves_of tree) (all_leaves trees) all),
        leaves-in trees (each-right (In P d f) (leaves_of tree) (all_leaves trees) all),
      )

  -- ---- what is laid

  module _ (columns : RowLaid → List PlainTree) (f : Flow) where
    abbrev own_atom : ℕ → List PlainTree
    own_atom k = atom_tree k 0 ∷ []

    abbrev own_row : RowLaid → List PlainTree
    own_row r = row_piece r.row r.from 0 None (plain_trees (columns r)) ∷ []

    leaf-reads : Reads PlainTree own_atom own_row all_leaves columns
    leaf-reads = record {
      none = refl;
      an_atom = λ k y trees. refl;
      a_piece = λ b starts y bottom kids trees. refl;
      a_row = λ rl y height trees. refl;
    }

    -- what is laid may stand in a column
    abbrev Fine : List Laid → Type 0
    Fine xs = Each (In P d f) (flat_map (of_laid PlainTree own_atom own_row) xs)

    fine-edges : (s : Strip) (es : List Edge) → Fine (laid_edges s es)
    fine-edges s es = subst (Each (In P d f)) (sym (edges-none PlainTree own_atom own_row s es)) tt

    fine-on : (xs ys : List Laid) → Fine xs → Fine ys → Fine (xs ++ ys)
    fine-on xs ys a b =
        subst (Each (In P d f)) (sym (flat_map-append (of_laid PlainTree own_atom own_row) xs ys))
        (Each-append (In P d f) (flat_map (of_laid PlainTree own_atom own_row) xs)
        (flat_map (of_laid PlainTree own_atom own_row) ys) a b)

    fine-trees : (boxes : List ℕ) (xs : List Laid) → Fine xs →
        AllIn P d f (plain_trees (all_trees columns (continued_from d 0 boxes ++ places_from (length xs + 1) (tops d boxes) xs)))
    fine-trees boxes xs fine = leaves-in f _
        (subst (Each (In P d f)) (sym (column-reads PlainTree own_atom own_row all_leaves columns leaf-reads d boxes xs)) fine)

    -- a row's columns, wherever it is laid
    abbrev RowFine : ℕ → Type 0
    RowFine s = (rl : RowLaid) → rl.row ≡ s → AllColumns P d (plain_trees (columns rl))

    abbrev ItemFine : Item → Type 0
    ItemFine (Atom height kind) = NamesOk P kind
    ItemFine (Row s) = RowFine s

    abbrev RowFrom : Option (ℕ × Token) → Type 0
    RowFrom None = Unit {0}
    RowFrom (Some row) = RowFine row.0

    module _ (known : (k : ℕ) → ItemFine (item_of f k)) where
      fine-cons : (x : Laid) (xs : List Laid) → Fine (x ∷ []) → Fine xs → Fine (x ∷ xs)
      fine-cons x xs a b = fine-on (x ∷ []) xs a b

      atom-fine : (k : ℕ) (height : ℕ) (kind : AtomKind) → item_of f k ≡ Atom height kind → NamesOk P kind →
          In P d f (atom_tree k 0)
      atom-fine k height kind is ok = subst (AtomOk P) (sym is) ok

      row-fine-at : (rl : RowLaid) → RowFine rl.row → In P d f (row_piece rl.row rl.from 0 None (plain_trees (columns rl)))
      row-fine-at rl ok = ok rl refl

      module _ (inner : Inner) where
        item-fine : (k : ℕ) (q : Token) → Fine (laid_item inner (item_of f k) k q ∷ [])
        item-fine k q = go (item_of f k) refl (known k)
          where
            go : (item : Item) → item_of f k ≡ item → ItemFine item → Fine (laid_item inner item k q ∷ [])
            go (Atom height kind) is ok = (atom-fine k height kind is ok, tt)
            go (Row r) is ok = (
              row-fine-at
                  (record { row = r; from = q; height = inner.size r q; made_at = Some (inner.size r q); filled = false }) ok,
              tt,
            )

        items-fine : (s : Strip) (k : ℕ) (q : Token) (n : ℕ) → Fine (laid_items inner f s k q n)
        unfolding laid_items
        items-fine s k q zero = tt
        items-fine s k q (suc zero) =
            fine-cons (laid_item inner (item_of f k) k q)
            (laid_edges (put s (height_of inner (item_of f k) q)) (seam_of f (k + 1)).tail ++ []) (item-fine k q)
            (fine-on (laid_edges (put s (height_of inner (item_of f k) q)) (seam_of f (k + 1)).tail) []
            (fine-edges (put s (height_of inner (item_of f k) q)) (seam_of f (k + 1)).tail) tt)
        items-fine s k q (suc (suc n)) =
            let next = lay_all (strip_behind inner f s k q) (seam_of f (k + 1)).head in
            let head = laid_edges (strip_behind inner f s k q) (seam_of f (k + 1)).head in
            let later = laid_items inner f next (k + 1) row_start (suc n) in
            fine-cons (laid_item inner (item_of f k) k q)
            (laid_edges (put s (height_of inner (item_of f k) q)) (seam_of f (k + 1)).tail ++ (head ++ later)) (item-fine k q)
            (fine-on (laid_edges (put s (height_of inner (item_of f k) q)) (seam_of f (k + 1)).tail) (head ++ later)
            (fine-edges (put s (height_of inner (item_of f k) q)) (seam_of f (k + 1)).tail)
            (fine-on head later (fine-edges (strip_behind inner f s k q) (seam_of f (k + 1)).head)
            (items-fine next (k + 1) row_start (suc n))))

        before-fine : (s : Strip) (k : ℕ) (q : Token) (n : ℕ) → Fine (laid_before inner f s k q n)
        before-fine s k q zero = tt
        before-fine s k q (suc n) = fine-on (laid_items inner f s k q (suc n))
            (laid_edges (strip_after inner f s k q (suc n)) (seam_of f (k + suc n)).head) (items-fine s k q (suc n))
            (fine-edges (strip_after inner f s k q (suc n)) (seam_of f (k + suc n)).head)

        -- the row that is filled
        step-row : (k : ℕ) (q : Token) → RowFrom (row_from (item_of f k) q)
        step-row k q = go (item_of f k) (known k)
          where
            go : (item : Item) → ItemFine item → RowFrom (row_from item q)
            go (Atom height kind) ok = tt
            go (Row r) ok = ok

        abbrev StepFine : Step → Type 0
        StepFine s = RowFrom s.row

        stop-fine : (t : Token) (h : Option ℕ) → OfStop StepFine (stop_of inner d f t h)
        stop-fine t None = tt
        stop-fine t (Some h) =
            cut-stop StepFine h (item_number t) (steps_from inner d f t)
            (steps-each inner d f (λ s k q n. Unit {0}) (λ k s. StepFine s) (λ s k q n b. step-row k q) (λ s k q n b. tt)
            (start_strip d f t) (item_number t) (within t) (length f.items - item_number t) tt)

        filled-row : (row : Option (ℕ × Token)) (a : ℕ) → RowFrom row → Fine (filled_row row a)
        filled-row None a ok = tt
        filled-row (Some r) a ok = (
          row-fine-at
              (record { row = r.0; from = r.1; height = a; made_at = Some a; filled = true }) ok,
          tt,
        )

        filled-fine : (h : Option ℕ) (stop : Option Step) → OfStop StepFine stop → Fine (laid_filled h stop)
        filled-fine None stop ok = tt
        filled-fine (Some h) None ok = tt
        filled-fine (Some h) (Some s) ok = filled-row s.row (room s h) ok

        to-fine : (t : Token) (h : Option ℕ) (stop : Option Step) (end : Token) → OfStop StepFine stop →
            Fine (laid_to inner d f t h stop end)
        to-fine t h stop [] ok = tt
        to-fine t h stop (e ∷ []) ok = go (fills_item h stop (e - 1) && not (e == 0))
          where
            go : (b : Bool) → Fine (cond b
                (laid_before inner f (start_strip d f t) (item_number t) (within t) (e - 1 - item_number t) ++ laid_filled h stop
                ++ laid_edges (strip_filled h stop) (seam_of f e).tail)
                (laid_items inner f (start_strip d f t) (item_number t) (within t) (e - item_number t)))
            go true =
                fine-on (laid_before inner f (start_strip d f t) (item_number t) (within t) (e - 1 - item_number t)
                ++ laid_filled h stop) (laid_edges (strip_filled h stop) (seam_of f e).tail)
                (fine-on (laid_before inner f (start_strip d f t) (item_number t) (within t) (e - 1 - item_number t))
                (laid_filled h stop) (before-fine (start_strip d f t) (item_number t) (within t) (e - 1 - item_number t))
                (filled-fine h stop ok)) (fine-edges (strip_filled h stop) (seam_of f e).tail)
            go false = items-fine (start_strip d f t) (item_number t) (within t) (e - item_number t)
        to-fine t h stop (e ∷ (j ∷ rest)) ok =
            fine-on (laid_before inner f (start_strip d f t) (item_number t) (within t) (e - item_number t)) (laid_filled h stop)
            (before-fine (start_strip d f t) (item_number t) (within t) (e - item_number t)) (filled-fine h stop ok)

        start-fine : (t : Token) → Fine (laid_start d f t)
        start-fine [] = tt
        start-fine (i ∷ []) = fine-edges (strip_at (tops d (open_across f i)) (not (i == 0 || is_forced (seam_of f i).level)))
            (seam_of f i).head
        start-fine (i ∷ (j ∷ rest)) = tt

        -- a column's tree
        column-in : (number : ℕ) → flow_of d number ≡ f → (h : Option ℕ) (t : Token) →
            IsColumn P d (fragment_of columns inner d number f h t)
        column-in number is h t =
            subst (λ (g : Flow). AllIn P d g
            (plain_trees (all_trees columns
            (places_in d f t (laid_start d f t
            ++ laid_to inner d f t h (stop_of inner d f t h) (column_made inner d f h t).end))))) (sym is)
            (fine-trees (continuing f t) (laid_start d f t
            ++ laid_to inner d f t h (stop_of inner d f t h) (column_made inner d f h t).end)
            (fine-on (laid_start d f t) (laid_to inner d f t h (stop_of inner d f t h) (column_made inner d f h t).end)
            (start-fine t) (to-fine t h (stop_of inner d f t h) (column_made inner d f h t).end (stop-fine t h))))

      in-stack-fine : (bound : Bound) (k : ℕ) → Fine (laid_in_stack d bound f k (item_of f k) ∷ [])
      in-stack-fine bound k = go (item_of f k) refl (known k)
        where
          go : (item : Item) → item_of f k ≡ item → ItemFine item → Fine (laid_in_stack d bound f k item ∷ [])
          go (Atom height kind) is ok = (atom-fine k height kind is ok, tt)
          go (Row r) is ok =
              let available = available_to d bound f k in (
                row-fine-at (record {
                  row = r;
                  from = row_start;
                  height = row_height d r available;
                  made_at = cond (row_of d r).auto available (Some (balanced_height available (size_of d r row_start)));
                  filled = false;
                }) ok,
                tt,
              )

      stack-fine : (bound : Bound) (k n : ℕ) → Fine (stack_laid d bound f k n)
      unfolding stack_laid
      stack-fine bound k zero = tt
      stack-fine bound k (suc n) =
          let behind = put (stack_strip d bound f k) (height_in_stack d bound (item_of f k) (begins (stack_strip d bound f k))) in
          let tail = laid_edges behind (seam_of f (k + 1)).tail in
          let head = laid_edges (lay_all behind (seam_of f (k + 1)).tail) (seam_of f (k + 1)).head in
          fine-cons (laid_in_stack d bound f k (item_of f k)) ((tail ++ head) ++ stack_laid d bound f (k + 1) n)
          (in-stack-fine bound k)
          (fine-on (tail ++ head) (stack_laid d bound f (k + 1) n)
          (fine-on tail head (fine-edges behind (seam_of f (k + 1)).tail)
          (fine-edges (lay_all behind (seam_of f (k + 1)).tail) (seam_of f (k + 1)).head)) (stack-fine bound (k + 1) n))

  -- ---- rows in rows

  abbrev pub ItemOk : (ℕ → Type 0) → Item → Type 0
  ItemOk Rows (Atom height kind) = NamesOk P kind
  ItemOk Rows (Row r) = Rows r

  -- the atoms in row r and in the rows in it, fewer than m deep, name stacks that are so
  abbrev pub RowOk : ℕ → ℕ → Type 0
  RowOk zero r = ⊥
  RowOk (suc m) r = Each (ItemOk (RowOk m)) (flow_in d r).items

  fragments-fine : (make : Token → PlainTree) → ((t : Token) → IsColumn P d (make t)) → (t : Token) (cs : List Column) →
      AllColumns P d (plain_trees (fragments_from make t cs))
  fragments-fine make fine t [] = tt
  fragments-fine make fine t (c ∷ cs) = (fine t, fragments-fine make fine c.end cs)

  module _ (columns : RowLaid → List PlainTree) (Rows : ℕ → Type 0) (f : Flow) where
    known-at : ((u : ℕ) → Rows u → RowFine columns f u) → (items : List Item) → Each (ItemOk Rows) items → (k : ℕ) →
        ItemFine columns f (get_or items k no_item)
    known-at fine [] all zero = tt
    known-at fine [] all (suc k) = tt
    known-at fine (Atom height kind ∷ items) all zero = all.0
    known-at fine (Row u ∷ items) all zero = fine u all.0
    known-at fine (item ∷ items) all (suc k) = known-at fine items all.1 k

  no-columns : AllColumns P d no_trees
  no-columns = tt

  row-fine : (m s : ℕ) → RowOk m s → (depth : ℕ) (g : Flow) → RowFine (row_fragments d depth) g s
  unfolding row_fragments
  row-fine zero s ok depth g = absurd ok
  row-fine (suc m) s ok zero g = λ rl is. no-columns
  row-fine (suc m) s ok (suc depth) g = λ rl is.
      let f = flow_in d rl.row in
      let items : Each (ItemOk (RowOk m)) f.items = subst (λ (u : ℕ). Each (ItemOk (RowOk m)) (flow_in d u).items) (sym is) ok in
      let known = known-at (row_fragments d depth) (RowOk m) f (λ u fine. row-fine m u fine depth f) f.items items in
      fragments-fine (fragment_of (row_fragments d depth) (rows_to d depth) d (row_of d rl.row).flow f rl.made_at)
      (λ t. column-in (row_fragments d depth) f known (rows_to d depth) (row_of d rl.row).flow refl rl.made_at t) rl.from
      (columns_by (column_made (rows_to d depth) d f rl.made_at) f (columns_wanted (rows_to d depth) d rl) rl.from)

  -- the tree of a stack in whose flow all rows and atoms are so
  pub stack-column : (m s : ℕ) → Each (ItemOk (RowOk m)) (flow_of d (stack_of d s).flow).items → IsColumn P d (stack_fragment d s)
  unfolding stack_fragment
  stack-column m s ok =
      let f = flow_of d (stack_of d s).flow in
      let bound = (stack_of d s).bound in
      let columns = row_fragments d (suc (length d.rows)) in
      let known = known-at columns (RowOk m) f (λ u fine. row-fine m u fine (suc (length d.rows)) f) f.items ok in
      let laid = laid_edges (strip_at (tops d f.opened) false) (seam_of f 0).head ++ stack_laid d bound f 0 (length f.items) in
      fine-trees columns f f.opened laid
      (fine-on columns f (laid_edges (strip_at (tops d f.opened) false) (seam_of f 0).head)
      (stack_laid d bound f 0 (length f.items)) (fine-edges columns f (strip_at (tops d f.opened) false) (seam_of f 0).head)
      (stack-fine columns f known bound 0 (length f.items)))
