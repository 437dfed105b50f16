-- The trees of a layout are settled: by how they are made, from the stack inwards.
use Rattle.std.proofs.Common.{◌≡◌, ℕ, zero, suc, ◌+◌, ◌-◌, ◌<◌, ◌≤◌, ◌^◌, Bool, true, false, cond, List, [], ◌∷◌, ◌++◌, length}
use Rattle.std.proofs.Common.{Option, Some, None, refl, arith}
use Rattle.std.specs.List.{AllByRecursion as Each}
use Rattle.std.proofs.lemmas.Bool.Decides.{nat_tests}
use Rattle.mc_base.specs.PlainTree.{PlainTree, plain_trees}
use Rattle.flow_list.specs.Data.{FlowsData, Item, Plain, Line, Void, Image, Bounded, Atom, Row}
use Rattle.flow_data.specs.Flows.{row_of, stack_of, flow_of, flow_in, item_of, no_flow, no_item, no_row}
use Rattle.flow_data.specs.Soundness.{IsSound, IsSoundItem}
use Rattle.flow_list.specs.Tokens.{Token, item_number, is_end}
use Rattle.flow_list.specs.Column.{Column}
use Rattle.flow_list.specs.Rows.{columns_by, left_in, rows_to, all_rows}
use Rattle.flow_list.specs.RowHeights.{row_height}
use Rattle.flow_list.specs.Placing.{RowLaid, Placed, opens_at, closes_at, atom_at, row_at}
use Rattle.flow_list.specs.Fragments.{closes_here, inside_box, behind_box, bottom_of, place_of, trees_of, column_made}
use Rattle.flow_list.specs.Fragments.{fragment_of, fragments_from, columns_wanted, row_fragments, stack_fragment, places_in}
use Rattle.flow_list.specs.Fragments.{laid_start, laid_to, stop_of, column_fragment}
use Rattle.flow_list.proofs.PlaceBounds.{IsNoLower}
use Rattle.flow_laws.proofs.Descent.{row-known}
use Rattle.flow_laws.proofs.HeldSums.{height_held, items_held, height-rises, size-held, reach-held, left-held}
use Rattle.flow_laws.proofs.LaidSums.{IsRowOf, share}
use Rattle.flow_laws.proofs.PlacedSums.{whole, column-placed, stack-placed}
use Rattle.flow_laws.proofs.RowHeightBounds.{row-height-le}
use Rattle.flow_laws.proofs.Small.{column-reach, endless-reach}
use Rattle.flow_laws.proofs.StackSums.{stack-extent-small}
use Rattle.tree_lines.specs.Shown.{ItemIsInside}
use Rattle.tree_laws.proofs.Named.{IsNamedAt, column-named, stack-named}
use Rattle.piece_data.specs.Lowering.{columns_at}
use Rattle.lowered_laws.proofs.LeastSmall.{reach-small}
use Rattle.lowered_laws.proofs.Settled.{count_of, total, IsWithin, BottomIsWithin, RowIsWithin, HeightIsSmall, AreGood}
use Rattle.lowered_laws.proofs.Settled.{IsSettled, AreSettled, AreColumns, IsColumn}

module _ (d : FlowsData) (sound : IsSound d) where
  -- ---- what is placed in a flow

  -- it stands within the flow, however deep that is counted
  abbrev IsIn : ℕ → Placed → Type 0
  IsIn f p = (n : ℕ) → IsNoLower (share (total d n)) (IsRowOf (flow_of d f)) (whole d (flow_of d f) (total d n)) p

  -- and it is named
  abbrev IsPut : ℕ → Placed → Type 0
  IsPut f p = IsNamedAt d (flow_of d f) p × IsIn f p

  all-put : (f : ℕ) (ps : List Placed) → Each (IsNamedAt d (flow_of d f)) ps
      → ((n : ℕ) → Each (IsNoLower (share (total d n)) (IsRowOf (flow_of d f)) (whole d (flow_of d f) (total d n))) ps)
      → Each (IsPut f) ps
  all-put f [] named all = tt
  all-put f (p ∷ ps) named all = ((named.0, λ n. (all n).0), all-put f ps named.1 (λ n. (all n).1))

  inside-put : (f b : ℕ) (ps : List Placed) → Each (IsPut f) ps → Each (IsPut f) (inside_box b ps)
  inside-put f b [] all = tt
  inside-put f b (p ∷ ps) all = go (closes_here b p) (inside-put f b ps all.1)
    where
      go : (c : Bool) → Each (IsPut f) (inside_box b ps) → Each (IsPut f) (cond c [] (p ∷ inside_box b ps))
      go true rest = tt
      go false rest = (all.0, rest)

  behind-put : (f b : ℕ) (ps : List Placed) → Each (IsPut f) ps → Each (IsPut f) (behind_box b ps)
  behind-put f b [] all = tt
  behind-put f b (p ∷ ps) all = go (closes_here b p) (behind-put f b ps all.1)
    where
      go : (c : Bool) → Each (IsPut f) (behind_box b ps) → Each (IsPut f) (cond c ps (behind_box b ps))
      go true rest = all.1
      go false rest = rest

  place-within : (f : ℕ) (p : Placed) → IsPut f p → IsWithin d f (place_of p)
  place-within f (opens_at b y starts) put = put.1
  place-within f (closes_at b y) put = put.1
  place-within f (atom_at k y) put = put.1
  place-within f (row_at r y) put = λ n. let a = (put.1 n).1 in omega arith

  bottom-within : (f b : ℕ) (ps : List Placed) → Each (IsPut f) ps → BottomIsWithin d f (bottom_of b ps)
  bottom-within f b [] all = tt
  bottom-within f b (p ∷ ps) all = go (closes_here b p) (bottom-within f b ps all.1)
    where
      go : (c : Bool) → BottomIsWithin d f (bottom_of b ps) → BottomIsWithin d f (cond c (Some (place_of p)) (bottom_of b ps))
      go true rest = place-within f p all.0
      go false rest = rest

  -- ---- trees

  item-inside : (item : Item) → IsSoundItem d item → ItemIsInside d item
  item-inside (Atom height Plain) s = tt
  item-inside (Atom height (Line owner index x w)) s = tt
  item-inside (Atom height (Void owner x w)) s = tt
  item-inside (Atom height (Image owner x w)) s = tt
  item-inside (Atom height (Bounded owner number x)) s = s.stack.0
  item-inside (Row r) s = tt

  row-index : (f : ℕ) → f < length d.flows → (r : RowLaid) → IsRowOf (flow_of d f) r → r.row < length d.rows
  row-index f known r of = row-known d sound f of.item r.row known of.lt of.is

  row-within : (f y : ℕ) (r : RowLaid) → IsPut f (row_at r y) → RowIsWithin d f r.row y
  row-within f y r put =
      let of = put.0 in
      record { item = of.item; lt = of.lt; is = of.is; low = λ n. (put.1 n).1 }

  laid-small : (f y : ℕ) (r : RowLaid) → IsPut f (row_at r y) → HeightIsSmall d r.row (cond r.filled None (Some r.height))
  laid-small f y r put = go r.filled
    where
      go : (b : Bool) → HeightIsSmall d r.row (cond b None (Some r.height))
      go true = tt
      go false = let a = (put.1 0).0 in omega arith

  -- what is promised of the columns of rows
  RowsGood : (RowLaid → List PlainTree) → Type 0
  RowsGood columns = (r : RowLaid) → r.row < length d.rows → AreGood d r.row (plain_trees (columns r))

  trees-settled : (columns : RowLaid → List PlainTree) → RowsGood columns → (n f : ℕ) (ps : List Placed) → f < length d.flows
      → Each (IsPut f) ps → AreSettled d f (plain_trees (trees_of columns n ps))
  unfolding IsSettled AreSettled AreColumns IsColumn trees_of RowsGood
  trees-settled columns rows zero f ps known all = tt
  trees-settled columns rows (suc n) f [] known all = tt
  trees-settled columns rows (suc n) f (opens_at b y starts ∷ ps) known all = (
    (
      all.0.0,
      all.0.1,
      bottom-within f b ps all.1,
      trees-settled columns rows n f (inside_box b ps) known (inside-put f b ps all.1),
    ),
    trees-settled columns rows n f (behind_box b ps) known (behind-put f b ps all.1),
  )
  trees-settled columns rows (suc n) f (closes_at b y ∷ ps) known all = trees-settled columns rows n f ps known all.1
  trees-settled columns rows (suc n) f (atom_at k y ∷ ps) known all = (
    (
      known,
      all.0.0,
      item-inside (item_of (flow_of d f) k) ((sound.flows f no_flow known).items k no_item all.0.0),
      all.0.1,
    ),
    trees-settled columns rows n f ps known all.1,
  )
  trees-settled columns rows (suc n) f (row_at r y ∷ ps) known all =
      let index = row-index f known r all.0.0 in
      let good = rows r index in (
        (index, row-within f y r all.0, laid-small f y r all.0, good.few, good.columns),
        trees-settled columns rows n f ps known all.1,
      )

  -- ---- columns of rows, and of rows within rows

  size-total : (m : ℕ) → m ≤ length d.rows → (n r : ℕ) (q : Token) → (rows_to d m).size r q ≤ total d n r
  size-total m le n r q =
      let a = size-held d m r q in
      let b = height-rises d m (n + suc (length d.rows)) (row_of d r).flow (omega arith) in
      omega arith

  extent-small : (dep r : ℕ) → dep ≤ length d.rows → r < length d.rows → (h : Option ℕ) (t : Token)
      → item_number t < length (flow_in d r).items → (column_made (rows_to d dep) d (flow_in d r) h t).extent < 2 ^ 60
  extent-small dep r le known None t lt =
      let low = reach-small d sound r known dep le t in
      let a = endless-reach (rows_to d dep) d (flow_in d r) (2 ^ 60 - 1) t lt (omega arith) in
      omega arith
  extent-small dep r le known (Some h) t lt =
      let low = reach-small d sound r known dep le t in
      let a = column-reach (rows_to d dep) d (flow_in d r) (2 ^ 60 - 1) t h lt (omega arith) in
      omega arith

  -- the columns that a row makes at a height or without end from a place on
  abbrev made_columns : (dep r : ℕ) → Option ℕ → ℕ → Token → List PlainTree
  made_columns dep r h n t =
      fragments_from (fragment_of (row_fragments d dep) (rows_to d dep) d (row_of d r).flow (flow_in d r) h) t
      (columns_by (column_made (rows_to d dep) d (flow_in d r) h) (flow_in d r) n t)

  made-few : (dep r : ℕ) (h : Option ℕ) (n : ℕ) (t : Token) → count_of (plain_trees (made_columns dep r h n t)) ≤ n
  unfolding columns_by
  made-few dep r h zero t = omega arith
  made-few dep r h (suc n) t =
      go (is_end (flow_in d r) t) (made-few dep r h n (column_made (rows_to d dep) d (flow_in d r) h t).end)
    where
      made : Column
      made = column_made (rows_to d dep) d (flow_in d r) h t

      go : (b : Bool) → count_of (plain_trees (made_columns dep r h n made.end)) ≤ n → count_of (plain_trees
          (fragments_from (fragment_of (row_fragments d dep) (rows_to d dep) d (row_of d r).flow (flow_in d r) h) t
          (elim b [
            | true ↦ []
            | false ↦ made ∷ columns_by (column_made (rows_to d dep) d (flow_in d r) h) (flow_in d r) n made.end
          ]))) ≤ suc n
      go true more = omega arith
      go false more = omega arith

  columns-made : (dep r : ℕ) → dep ≤ length d.rows → r < length d.rows → RowsGood (row_fragments d dep)
      → (h : Option ℕ) (n : ℕ) (t : Token) → AreColumns d r (plain_trees (made_columns dep r h n t))
  unfolding columns_by AreColumns IsColumn AreSettled IsSettled
  columns-made dep r le known rows h zero t = tt
  columns-made dep r le known rows h (suc n) t =
      go (is_end (flow_in d r) t) refl (λ q. columns-made dep r le known rows h n q)
    where
      made : Column
      made = column_made (rows_to d dep) d (flow_in d r) h t

      placed : List Placed
      placed = places_in d (flow_in d r) t
          (laid_start d (flow_in d r) t ++ laid_to (rows_to d dep) d (flow_in d r) t h
          (stop_of (rows_to d dep) d (flow_in d r) t h) made.end)

      in_flow : (row_of d r).flow < length d.flows
      in_flow = (sound.rows r no_row known).flow

      go : (b : Bool) → is_end (flow_in d r) t ≡ b
          → ((q : Token) → AreColumns d r (plain_trees (made_columns dep r h n q))) →
          AreColumns d r (plain_trees
          (fragments_from (fragment_of (row_fragments d dep) (rows_to d dep) d (row_of d r).flow (flow_in d r) h) t
          (elim b [
            | true ↦ []
            | false ↦ made ∷ columns_by (column_made (rows_to d dep) d (flow_in d r) h) (flow_in d r) n made.end
          ])))
      go true e more = tt
      go false e more =
          let before : item_number t < length (flow_in d r).items = grind (arith, nat_tests) in
          let put = all-put (row_of d r).flow placed
          (column-named d (flow_in d r) (sound.flows (row_of d r).flow no_flow in_flow) (rows_to d dep) t h before)
          (λ m. column-placed d (flow_in d r) (total d m) (rows_to d dep) (size-total dep le m) t h) in (
            (
              refl,
              extent-small dep r le known h t before,
              trees-settled (row_fragments d dep) rows (length placed) (row_of d r).flow placed in_flow put,
            ),
            more made.end,
          )

  -- how many columns a row has that is laid
  wanted-few : (dep : ℕ) (r : RowLaid) → r.row < length d.rows →
      columns_wanted (rows_to d dep) d r ≤ 32 + items_held d (suc dep) (row_of d r.row).flow
  wanted-few dep r known = go r.filled
    where
      go : (b : Bool) → cond b (row_of d r.row).n (left_in (rows_to d dep) (flow_in d r.row) r.from)
          ≤ 32 + items_held d (suc dep) (row_of d r.row).flow
      go true = let a = (sound.rows r.row no_row known).column_limit in omega arith
      go false = let a = left-held d sound dep r.row r.from known in omega arith

  rows-good : (dep : ℕ) → dep ≤ suc (length d.rows) → RowsGood (row_fragments d dep)
  unfolding row_fragments RowsGood AreColumns
  rows-good zero le r known = record { few = record { deep = 0; le = omega arith }; columns = tt }
  rows-good (suc dep) le r known =
      let wanted = columns_wanted (rows_to d dep) d r in
      let few = wanted-few dep r known in
      let made = made-few dep r.row r.made_at wanted r.from in
      record {
        few = record { deep = suc dep; le = omega arith };
        columns = columns-made dep r.row (omega arith) known (rows-good dep (omega arith)) r.made_at wanted r.from;
      }

  -- the columns that a row makes of a height
  pub columns-good : (r : ℕ) (q : Token) (h : ℕ) → r < length d.rows → AreGood d r (columns_at d r q h)
  unfolding column_fragment all_rows
  columns-good r q h known =
      let limit = (sound.rows r no_row known).column_limit in
      let made = made-few (length d.rows) r (Some h) (row_of d r).n q in
      record {
        few = record { deep = 0; le = omega arith };
        columns = columns-made (length d.rows) r (omega arith) known (rows-good (length d.rows) (omega arith)) (Some h)
            (row_of d r).n q;
      }

  -- ---- stacks

  row-height-total : (n r : ℕ) (available : Option ℕ) → row_height d r available ≤ total d n r
  unfolding all_rows
  row-height-total n r available =
      let a = row-height-le d r (height_held d (suc (length d.rows)) (row_of d r).flow)
      (reach-held d (length d.rows) (row_of d r).flow) available in
      let b = height-rises d (suc (length d.rows)) (n + suc (length d.rows)) (row_of d r).flow (omega arith) in
      omega arith

  -- the tree of a stack
  pub stack-settled : (s : ℕ) → s < length d.stacks → IsSettled d (stack_of d s).flow (stack_fragment d s)
  unfolding stack_fragment IsSettled
  stack-settled s known =
      let g = (stack_of d s).flow in
      let f = flow_of d g in
      let in_flow = (sound.stacks s known).flow in
      let named = stack-named d f (sound.flows g no_flow in_flow) (stack_of d s).bound in
      let put = all-put g _ named
      (λ n. stack-placed d f (total d n) (stack_of d s).bound (rows_to d 0) (row-height-total n)) in (
        refl,
        stack-extent-small d sound s known,
        trees-settled (row_fragments d (suc (length d.rows)))
            (rows-good (suc (length d.rows)) (omega arith)) _ g _ in_flow put,
      )
