-- The items in the tree of a column are those from its place to its end, and no row stands there twice.
use Rattle.std.proofs.Common.{◌≡◌, ℕ, zero, suc, ◌+◌, ◌-◌, ◌<◌, ◌≤◌, ◌==◌, Bool, true, false, cond, List, [], ◌∷◌, ◌++◌, length}
use Rattle.std.proofs.Common.{take, drop, get_or, Option, Some, None, refl, sym, subst, ◌∙◌, ap, arith, sum_by, inl, inr}
use Rattle.std.specs.Prelude.{AllPairs, ◌≢◌}
use Rattle.std.specs.List.{flat_map}
use Rattle.std.proofs.lemmas.List.{length-drop, get_or-drop, take-append-drop}
use Rattle.std.proofs.lemmas.List.Elements.{All-take, All-drop}
use Rattle.std.proofs.lemmas.List.Concat.{flat_map-append}
use Rattle.std.proofs.lemmas.List.Sums.{sum_by-append, get_or-le-sum_by}
use Rattle.mc_base.specs.PlainTree.{PlainTree}
use Rattle.flow_list.specs.Data.{Flow, FlowsData, Item, Atom, Row}
use Rattle.flow_data.specs.Flows.{row_of, flow_in, item_of, no_item, no_row, no_flow, row_in, rows_in, flow_of}
use Rattle.flow_data.specs.Soundness.{IsSound, IsSoundFlow, IsSoundItem, count_of}
use Rattle.flow_data.proofs.Counts.{distinct-once}
use Rattle.flow_list.specs.Tokens.{Token, row_start, item_number, within}
use Rattle.flow_list.specs.Column.{Inner, Step, room}
use Rattle.flow_list.specs.Placing.{RowLaid}
use Rattle.flow_list.specs.Fragments.{continuing, laid_start, laid_to, stop_of, column_made, fragment_of}
use Rattle.flow_laws.specs.Holding.{Part, atom_part, row_part, parts_in_tree, parts_in_trees, part_of, parts_of, items_before}
use Rattle.flow_laws.specs.Holding.{parts_between, row_of_part}
use Rattle.flow_laws.proofs.SoundRows.{rows-in-range}
use Rattle.flow_laws.proofs.Totals.{sum-flat}
use Rattle.flow_laws.proofs.HoldingTrees.{Reads, column-reads}
use Rattle.flow_laws.proofs.HoldingEnds.{taken_at, taken-start, taken, EndsAtSeam, EndsInRow, EndsFor, column-ends}
use Rattle.flow_laws.proofs.HoldingLaid.{of_items, counted, items_to, seam-laid, row-laid}

abbrev pub own_atom : ℕ → List Part
own_atom k = atom_part k ∷ []

abbrev pub own_row : RowLaid → List Part
own_row rl = row_part rl.row rl.from ∷ []

pub part-reads : (columns : RowLaid → List PlainTree) → Reads Part own_atom own_row parts_in_trees columns
unfolding parts_in_trees parts_in_tree
part-reads columns = record {
  none = refl;
  an_atom = λ k y trees. refl;
  a_piece = λ b starts y bottom kids trees. refl;
  a_row = λ rl y height trees. refl;
}

items-are : (x : Inner) (k : ℕ) (q : Token) (items : List Item) → of_items Part own_atom own_row x k q items ≡ parts_of k q items
items-are x k q [] = refl
items-are x k q (Atom height kind ∷ items) = ap (λ us. atom_part k ∷ us) (items-are x (suc k) row_start items)
items-are x k q (Row r ∷ items) = ap (λ us. row_part r q ∷ us) (items-are x (suc k) row_start items)

-- one item more
one-more : (n k : ℕ) (q : Token) (items : List Item) → n < length items →
    parts_of k q (take n items) ++ part_of (k + n) (get_or items n no_item) (taken_at n q) ∷ []
    ≡ parts_of k q (take (suc n) items)
one-more n k q [] lt = absurd (omega arith)
one-more zero k q (item ∷ items) lt = let e : k + 0 ≡ k = omega arith in ap (λ m. part_of m item q ∷ []) e
one-more (suc n) k q (item ∷ items) lt =
    let e : k + suc n ≡ suc k + n = omega arith in
    ap (λ m. part_of k item q ∷ (parts_of (suc k) row_start (take n items) ++ part_of m (get_or items n no_item) row_start ∷ []))
    e
    ∙ ap (λ u. part_of k item q ∷ (parts_of (suc k) row_start (take n items) ++ part_of (suc k + n) (get_or items n no_item) u
    ∷ [])) (sym (taken-start n))
    ∙ ap (λ us. part_of k item q ∷ us) (one-more n (suc k) row_start items (omega arith))

module _ (d : FlowsData) (x : Inner) (columns : RowLaid → List PlainTree) (f : Flow) (t : Token)
    (inside : item_number t < length f.items) where
  -- a place that a filled row leaves before its end isn't empty
  abbrev pub Leaves : Type 0
  Leaves = (s : ℕ) (q : Token) (a : ℕ) (k : ℕ) → item_number t ≤ k → item_of f k ≡ Row s → q ≡ taken x f t k
      → (x.fill s q a).at_end ≡ false → (j : ℕ) × (rest : Token) × ((x.fill s q a).end ≡ j ∷ rest)

  abbrev laid : Option ℕ → Option Step → Token → List Part
  laid h stop end = counted Part own_atom own_row x (laid_start d f t ++ laid_to x d f t h stop end)

  abbrev from_first : ℕ → List Part
  from_first n = parts_of (item_number t) (within t) (take n (drop (item_number t) f.items))

  seam-parts : (h : Option ℕ) (stop : Option Step) (end : Token) → EndsAtSeam x f t h stop end
      → laid h stop end ≡ parts_between f t end
  seam-parts h stop end e =
      let P : Token → Type 0 = λ u. items_to Part own_atom own_row x f t e.seam ≡ parts_between f t u in
      seam-laid Part own_atom own_row x f d t h stop end e
      ∙ subst P (sym e.is) (items-are x (item_number t) (within t)
      (take (e.seam - item_number t) (drop (item_number t) f.items)))

  row-parts : Leaves → (h : ℕ) (s : Step) (end : Token) → EndsInRow x f t h s end
      → laid (Some h) (Some s) end ≡ parts_between f t end
  row-parts leaves h s end e =
      row-laid Part own_atom own_row x f d t h s end e within_row
      ∙ ap (λ us. us ++ row_part e.row e.from ∷ [])
      (items-are x (item_number t) (within t) (take (s.item - item_number t) (drop (item_number t) f.items)))
      ∙ ap (λ part. from_first (s.item - item_number t) ++ part ∷ []) last
      ∙ one-more (s.item - item_number t) (item_number t) (within t) (drop (item_number t) f.items)
      (let l = length-drop (item_number t) f.items in let later = e.later in let known = e.known in omega arith)
      ∙ ap from_first counts
    where
      within_row : (x.fill e.row e.from (room s h)).at_end ≡ false
          → (j : ℕ) × (rest : Token) × ((x.fill e.row e.from (room s h)).end ≡ j ∷ rest)
      within_row = leaves e.row e.from (room s h) s.item e.later e.item e.taken_from

      number : item_number t + (s.item - item_number t) ≡ s.item
      number = let later = e.later in omega arith

      last : row_part e.row e.from ≡ part_of (item_number t + (s.item - item_number t))
          (get_or (drop (item_number t) f.items) (s.item - item_number t) no_item) (taken_at (s.item - item_number t) (within t))
      last =
          let item : get_or (drop (item_number t) f.items) (s.item - item_number t) no_item ≡ Row e.row =
          get_or-drop (item_number t) f.items (s.item - item_number t) no_item ∙ ap (item_of f) number ∙ e.item in
          ap (λ q. row_part e.row q) e.taken_from
          ∙ ap (λ item. part_of (item_number t + (s.item - item_number t)) item (taken_at (s.item - item_number t) (within t)))
          (sym item)

      before : (u : Token) → ((j : ℕ) × (rest : Token) × (u ≡ j ∷ rest)) → items_before (s.item ∷ u) ≡ s.item + 1
      before [] some = let e = some.2 in cc
      before (j ∷ rest) some = refl

      counts : suc (s.item - item_number t) ≡ items_before end - item_number t
      counts = let P : Token → Type 0 = λ u. suc (s.item - item_number t) ≡ items_before u - item_number t
          in subst P (sym e.is) (go (x.fill e.row e.from (room s h)).at_end refl)
        where
          go : (b : Bool) → (x.fill e.row e.from (room s h)).at_end ≡ b
              → suc (s.item - item_number t)
              ≡ items_before (cond b ((s.item + 1) ∷ []) (s.item ∷ (x.fill e.row e.from (room s h)).end)) - item_number t
          go true is = let later = e.later in omega arith
          go false is = let later = e.later in let n = before (x.fill e.row e.from (room s h)).end (within_row is) in omega arith

  ends-parts : Leaves → (h : Option ℕ) (stop : Option Step) (end : Token) → EndsFor x f t h stop end
      → laid h stop end ≡ parts_between f t end
  ends-parts leaves None stop end e = seam-parts None stop end e
  ends-parts leaves (Some h) None end e = seam-parts (Some h) None end e
  ends-parts leaves (Some h) (Some s) end (inl e) = seam-parts (Some h) (Some s) end e
  ends-parts leaves (Some h) (Some s) end (inr e) = row-parts leaves h s end e

  pub column-parts : Leaves → (number : ℕ) (h : Option ℕ)
      → parts_in_tree (fragment_of columns x d number f h t) ≡ parts_between f t (column_made x d f h t).end
  unfolding parts_in_tree parts_in_trees
  column-parts leaves number h =
      column-reads Part own_atom own_row parts_in_trees columns (part-reads columns) d (continuing f t)
      (laid_start d f t ++ laid_to x d f t h (stop_of x d f t h) (column_made x d f h t).end)
      ∙ ends-parts leaves h (stop_of x d f t h) (column_made x d f h t).end (column-ends x f t d h inside)

-- ---- rows

rows-are : (k : ℕ) (q : Token) (items : List Item) → flat_map row_of_part (parts_of k q items) ≡ flat_map row_in items
rows-are k q [] = refl
rows-are k q (Atom height kind ∷ items) = rows-are (suc k) row_start items
rows-are k q (Row r ∷ items) = ap (λ rs. r ∷ rs) (rows-are (suc k) row_start items)

-- items of a list have no more rows than all
pub split-count : (m n : ℕ) (items : List Item)
    → count_of m (flat_map row_in (take n items)) + count_of m (flat_map row_in (drop n items))
    ≡ count_of m (flat_map row_in items)
split-count m n items =
    sym (sum_by-append (λ k. cond (k == m) 1 0) (flat_map row_in (take n items)) (flat_map row_in (drop n items)))
    ∙ ap (count_of m) (sym (flat_map-append row_in (take n items) (drop n items)))
    ∙ ap (λ xs. count_of m (flat_map row_in xs)) (take-append-drop n items)

-- in sound data a row stands once at most in a flow
pub once-in-flow : (d : FlowsData) → IsSound d → (f : ℕ) → f < length d.flows → (m : ℕ) → m < length d.rows →
    count_of m (rows_in (flow_of d f)) ≤ 1
once-in-flow d sound f lt m known =
    let belongs = sound.row_belongs m known in
    let in_all : count_of m (rows_in (flow_of d f)) ≤ sum_by (λ f. count_of m (rows_in f)) d.flows =
    get_or-le-sum_by (λ f. count_of m (rows_in f)) d.flows f no_flow lt in
    let all = sum-flat (λ k. cond (k == m) 1 0) rows_in d.flows in
    omega arith

-- In sound data no row is twice among items of a flow.
pub rows-apart : (d : FlowsData) → IsSound d → (f : ℕ) → f < length d.flows → (k i n : ℕ) (q : Token) →
    AllPairs (λ a b. a ≢ b) (flat_map row_of_part (parts_of k q (take n (drop i (flow_of d f).items))))
rows-apart d sound f lt k i n q =
    subst (AllPairs (λ a b. a ≢ b)) (sym (rows-are k q (take n (drop i (flow_of d f).items))))
    (distinct-once (length d.rows) (flat_map row_in (take n (drop i (flow_of d f).items)))
    (rows-in-range d (take n (drop i (flow_of d f).items))
    (All-take (IsSoundItem d) n (drop i (flow_of d f).items)
    (All-drop (IsSoundItem d) i (flow_of d f).items flow.items))) once)
  where
    flow : IsSoundFlow d (flow_of d f)
    flow = sound.flows f no_flow lt

    once : (m : ℕ) → m < length d.rows → count_of m (flat_map row_in (take n (drop i (flow_of d f).items))) ≤ 1
    once m known =
        let all = once-in-flow d sound f lt m known in
        let a = split-count m i (flow_of d f).items in
        let b = split-count m n (drop i (flow_of d f).items) in
        omega arith
