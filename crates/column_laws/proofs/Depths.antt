-- What is told of a row's fragments, of what its lines rest on, of its atoms and of what is entered with it is the same at each
-- depth that serves.
use Rattle.std.proofs.Common.{◌≡◌, ℕ, zero, suc, ◌+◌, ◌-◌, ◌==◌, ◌<◌, ◌≤◌, Bool, true, false, cond, not, ◌&&◌, List, [], ◌∷◌}
use Rattle.std.proofs.Common.{◌++◌, length, drop, Option, Some, None, refl, sym, subst, ◌∙◌, ap, arith}
use Rattle.std.specs.Prelude.{All}
use Rattle.std.specs.List.{flat_map, AllByRecursion as Each}
use Rattle.std.proofs.lemmas.List.Elements.{recursion_from_All}
use Rattle.mc_base.specs.PlainTree.{PlainTree, plain_trees, row_piece, atom as atom_tree, piece, column as column_tree}
use Rattle.flow_data.specs.declared.data.Flow.{Flow}
use Rattle.flow_data.specs.declared.data.FlowsData.{FlowsData}
use Rattle.flow_data.specs.declared.data.Item.{Item}
use Rattle.flow_data.specs.declared.data.Item.TheVariants.{Atom, Row}
use Rattle.flow_data.specs.Flows.{row_of, flow_in, item_of, seam_of, row_in, rows_in}
use Rattle.flow_data.specs.Soundness.{IsSound, NestsAtMost}
use Rattle.flow_list.specs.Tokens.{Token, row_start, item_number, within, is_end}
use Rattle.flow_list.specs.Strip.{Strip, lay_all, put}
use Rattle.flow_list.specs.Column.{Column, Inner, Step, cut, steps_from, start_strip, strip_behind, height_of, row_from}
use Rattle.flow_list.specs.Column.{rows_among, room, is_cut, endless_column, unstopped}
use Rattle.flow_list.specs.Rows.{columns, columns_by, left_in, rows_to, all_rows, to_overflow, fill_in}
use Rattle.flow_list.specs.RowHeights.{size_of}
use Rattle.flow_list.specs.Placing.{RowLaid, Placed, opens_at, closes_at, atom_at, row_at, laid_edges, Laid, row}
use Rattle.flow_list.specs.Fragments.{laid_item, laid_items, strip_after, laid_start, stop_of, fills_item, laid_filled}
use Rattle.flow_list.specs.Fragments.{strip_filled, laid_before, laid_to, places_in, closes_here, inside_box, behind_box}
use Rattle.flow_list.specs.Fragments.{bottom_of, trees_of, all_trees, column_made, fragment_of, fragments_from, columns_wanted}
use Rattle.flow_list.specs.Fragments.{row_fragments}
use Rattle.flow_list.specs.Certificate.{Use, Owned, owned_in_fill, owned_by, column_owned, columns_owned, owned_to, stands_in}
use Rattle.flow_list.specs.Certificate.{size_uses, entered_with, entered}
use Rattle.flow_laws.specs.Depth.{ToldAlike}
use Rattle.flow_laws.specs.Progress.{Contents, atoms_of_items, atoms_in, contents_to}
use Rattle.flow_laws.proofs.DepthSame.{ItemAlike, ItemsAlike, item-at, height-same, steps-same, column-same, columns-same}
use Rattle.flow_laws.proofs.DepthSame.{left_in-same, items-alike, told-alike}
use Rattle.flow_list.proofs.ColumnParts.{OfStop}
use Rattle.flow_laws.proofs.FillEnds.{IsStepFrom, stop-from}
use Rattle.flow_laws.proofs.HeldSums.{height_held, size-held}
use Rattle.flow_laws.proofs.LaidSums.{IsRowOf, share}
use Rattle.flow_list.proofs.PlaceBounds.{IsNoLower}
use Rattle.flow_laws.proofs.PlacedSums.{whole, column-placed}
use Rattle.flow_laws.proofs.SoundRows.{nests-by-number}
use Rattle.column_laws.specs.Depths.{DepthsAlike, RowsAreTold}
use Rattle.column_laws.proofs.Uses.{rows-at, nests-to, size-nests}

-- ---- trees by the columns of the rows in them

module _ (c e : RowLaid → List PlainTree) where
  -- what stands at a place is told alike: a row by its columns
  abbrev AlikeAt : Placed → Type 0
  AlikeAt (opens_at b y starts) = Unit {0}
  AlikeAt (closes_at b y) = Unit {0}
  AlikeAt (atom_at k y) = Unit {0}
  AlikeAt (row_at r y) = c r ≡ e r

  inside-alike : (b : ℕ) (ps : List Placed) → Each AlikeAt ps → Each AlikeAt (inside_box b ps)
  inside-alike b [] all = tt
  inside-alike b (p ∷ ps) all = go (closes_here b p) (inside-alike b ps all.1)
    where
      go : (x : Bool) → Each AlikeAt (inside_box b ps) → Each AlikeAt (cond x [] (p ∷ inside_box b ps))
      go true rest = tt
      go false rest = (all.0, rest)

  behind-alike : (b : ℕ) (ps : List Placed) → Each AlikeAt ps → Each AlikeAt (behind_box b ps)
  behind-alike b [] all = tt
  behind-alike b (p ∷ ps) all = go (closes_here b p) (behind-alike b ps all.1)
    where
      go : (x : Bool) → Each AlikeAt (behind_box b ps) → Each AlikeAt (cond x ps (behind_box b ps))
      go true rest = all.1
      go false rest = rest

  trees-alike : (n : ℕ) (ps : List Placed) → Each AlikeAt ps → trees_of c n ps ≡ trees_of e n ps
  unfolding trees_of
  trees-alike zero ps all = refl
  trees-alike (suc n) [] all = refl
  trees-alike (suc n) (opens_at b y starts ∷ ps) all =
      ap (λ kids. piece b starts y (bottom_of b ps) (plain_trees kids) ∷ trees_of c n (behind_box b ps))
      (trees-alike n (inside_box b ps) (inside-alike b ps all.1))
      ∙ ap (λ ts. piece b starts y (bottom_of b ps) (plain_trees (trees_of e n (inside_box b ps))) ∷ ts)
      (trees-alike n (behind_box b ps) (behind-alike b ps all.1))
  trees-alike (suc n) (closes_at b y ∷ ps) all = trees-alike n ps all.1
  trees-alike (suc n) (atom_at k y ∷ ps) all = ap (λ ts. atom_tree k y ∷ ts) (trees-alike n ps all.1)
  trees-alike (suc n) (row_at r y ∷ ps) all =
      ap (λ kids. row_piece r.row r.from y (cond r.filled None (Some r.height)) (plain_trees kids) ∷ trees_of c n ps) all.0
      ∙ ap (λ ts. row_piece r.row r.from y (cond r.filled None (Some r.height)) (plain_trees (e r)) ∷ ts) (trees-alike n ps all.1)

  placed-alike : (f : Flow) (weigh : Laid → ℕ) (top : ℕ) → ((r : RowLaid) → IsRowOf f r → c r ≡ e r) → (ps : List Placed) →
      Each (IsNoLower weigh (IsRowOf f) top) ps → Each AlikeAt ps
  placed-alike f weigh top same [] all = tt
  placed-alike f weigh top same (opens_at b y starts ∷ ps) all = (tt, placed-alike f weigh top same ps all.1)
  placed-alike f weigh top same (closes_at b y ∷ ps) all = (tt, placed-alike f weigh top same ps all.1)
  placed-alike f weigh top same (atom_at k y ∷ ps) all = (tt, placed-alike f weigh top same ps all.1)
  placed-alike f weigh top same (row_at r y ∷ ps) all = (same r all.0.2, placed-alike f weigh top same ps all.1)

-- ---- columns one after another, made alike

by-same : (make other : Token → Column) → ((t : Token) → make t ≡ other t) → (f : Flow) (n : ℕ) (t : Token) →
    columns_by make f n t ≡ columns_by other f n t
unfolding columns_by
by-same make other same f zero t = refl
by-same make other same f (suc n) t = go (is_end f t) (λ u. by-same make other same f n u)
  where
    go : (b : Bool) → ((u : Token) → columns_by make f n u ≡ columns_by other f n u) →
        elim b as (λ _. List Column) [ true ↦ [] | false ↦ make t ∷ columns_by make f n (make t).end ]
        ≡ elim b as (λ _. List Column) [ true ↦ [] | false ↦ other t ∷ columns_by other f n (other t).end ]
    go true again = refl
    go false again = ap (λ (c : Column). c ∷ columns_by make f n c.end) (same t) ∙ ap (λ cs. other t ∷ cs) (again (other t).end)

fragments-same : (make other : Token → PlainTree) → ((t : Token) → make t ≡ other t) → (t : Token) (cs : List Column) →
    fragments_from make t cs ≡ fragments_from other t cs
fragments-same make other same t [] = refl
fragments-same make other same t (c ∷ cs) = ap (λ p. p ∷ fragments_from make c.end cs) (same t)
    ∙ ap (λ ps. other t ∷ ps) (fragments-same make other same c.end cs)

owned-same : (owned other : Token → List (List Use)) → ((t : Token) → owned t ≡ other t) → (t : Token) (cs : List Column) →
    columns_owned owned t cs ≡ columns_owned other t cs
owned-same owned other same t [] = refl
owned-same owned other same t (c ∷ cs) = ap (λ us. us ++ columns_owned owned c.end cs) (same t)
    ∙ ap (λ us. other t ++ us) (owned-same owned other same c.end cs)

-- ---- a column of a flow, by two ways to tell of the rows in it that are alike

module _ (x y : Inner) (d : FlowsData) (f : Flow) (alike : ItemsAlike x y f.items) where
  abbrev height : Inner → ℕ → Token → ℕ
  height z k q = height_of z (item_of f k) q

  height-alike : (k : ℕ) (q : Token) → height x k q ≡ height y k q
  height-alike k q = height-same x y (item_of f k) q (item-at x y f.items k alike)

  behind-same : (s : Strip) (k : ℕ) (q : Token) → strip_behind x f s k q ≡ strip_behind y f s k q
  behind-same s k q = ap (λ h. lay_all (put s h) (seam_of f (k + 1)).tail) (height-alike k q)

  item-same : (k : ℕ) (q : Token) → laid_item x (item_of f k) k q ≡ laid_item y (item_of f k) k q
  item-same k q = go (item_of f k) (item-at x y f.items k alike)
    where
      go : (item : Item) → ItemAlike x y item → laid_item x item k q ≡ laid_item y item k q
      go (Atom h kind) same = refl
      go (Row r) same = ap (λ size. row (record { row = r; from = q; height = size; made_at = Some size; filled = false }))
          (same.size q)

  items-same : (s : Strip) (k : ℕ) (q : Token) (n : ℕ) → laid_items x f s k q n ≡ laid_items y f s k q n
  unfolding laid_items
  items-same s k q zero = refl
  items-same s k q (suc zero) =
      ap (λ l. l ∷ (laid_edges (put s (height x k q)) (seam_of f (k + 1)).tail ++ [])) (item-same k q)
      ∙ ap (λ h. laid_item y (item_of f k) k q ∷ (laid_edges (put s h) (seam_of f (k + 1)).tail ++ [])) (height-alike k q)
  items-same s k q (suc (suc m)) =
      ap (λ l. l ∷ (laid_edges (put s (height x k q)) (seam_of f (k + 1)).tail ++ more x (height x k q))) (item-same k q)
      ∙ ap (λ h. laid_item y (item_of f k) k q ∷ (laid_edges (put s h) (seam_of f (k + 1)).tail ++ more x h)) (height-alike k q)
      ∙ ap (λ ls. laid_item y (item_of f k) k q ∷ (laid_edges (put s (height y k q)) (seam_of f (k + 1)).tail ++
      (laid_edges (strip_behind y f s k q) (seam_of f (k + 1)).head ++ ls)))
      (items-same (lay_all (strip_behind y f s k q) (seam_of f (k + 1)).head) (k + 1) row_start (suc m))
    where
      more : Inner → ℕ → List Laid
      more z h = laid_edges (lay_all (put s h) (seam_of f (k + 1)).tail) (seam_of f (k + 1)).head
          ++ laid_items z f (lay_all (lay_all (put s h) (seam_of f (k + 1)).tail) (seam_of f (k + 1)).head) (k + 1) row_start
          (suc m)

  after-same : (s : Strip) (k : ℕ) (q : Token) (n : ℕ) → strip_after x f s k q n ≡ strip_after y f s k q n
  unfolding strip_after
  after-same s k q zero = refl
  after-same s k q (suc zero) = behind-same s k q
  after-same s k q (suc (suc m)) =
      ap (λ b. strip_after x f (lay_all b (seam_of f (k + 1)).head) (k + 1) row_start (suc m)) (behind-same s k q)
      ∙ after-same (lay_all (strip_behind y f s k q) (seam_of f (k + 1)).head) (k + 1) row_start (suc m)

  before-same : (s : Strip) (k : ℕ) (q : Token) (n : ℕ) → laid_before x f s k q n ≡ laid_before y f s k q n
  before-same s k q zero = refl
  before-same s k q (suc n) =
      ap (λ ls. ls ++ laid_edges (strip_after x f s k q (suc n)) (seam_of f (k + (suc n))).head) (items-same s k q (suc n))
      ∙ ap (λ b. laid_items y f s k q (suc n) ++ laid_edges b (seam_of f (k + (suc n))).head) (after-same s k q (suc n))

  to-same : (t : Token) (h : Option ℕ) (stop : Option Step) (end : Token) →
      laid_to x d f t h stop end ≡ laid_to y d f t h stop end
  to-same t h stop [] = refl
  to-same t h stop (e ∷ []) =
      ap (λ ls. cond (fills_item h stop (e - 1) && not (e == 0))
      (ls ++ laid_filled h stop ++ laid_edges (strip_filled h stop) (seam_of f e).tail)
      (laid_items x f (start_strip d f t) (item_number t) (within t) (e - item_number t)))
      (before-same (start_strip d f t) (item_number t) (within t) (e - 1 - item_number t))
      ∙ ap (λ ls. cond (fills_item h stop (e - 1) && not (e == 0))
      (laid_before y f (start_strip d f t) (item_number t) (within t) (e - 1 - item_number t) ++ laid_filled h stop
      ++ laid_edges (strip_filled h stop) (seam_of f e).tail) ls)
      (items-same (start_strip d f t) (item_number t) (within t) (e - item_number t))
  to-same t h stop (e ∷ (j ∷ rest)) = ap (λ ls. ls ++ laid_filled h stop)
      (before-same (start_strip d f t) (item_number t) (within t) (e - item_number t))

  from-same : (t : Token) → steps_from x d f t ≡ steps_from y d f t
  from-same t = steps-same x y d f alike (start_strip d f t) (item_number t) (within t) (length f.items - item_number t)

  stop-same : (t : Token) (h : Option ℕ) → stop_of x d f t h ≡ stop_of y d f t h
  stop-same t None = refl
  stop-same t (Some h) = ap (λ ss. (cut h ss).stop) (from-same t)

  made-same : (h : Option ℕ) (t : Token) → column_made x d f h t ≡ column_made y d f h t
  unfolding endless_column
  made-same None t = ap unstopped (from-same t)
  made-same (Some h) t = column-same x y d f alike t h

  -- a column's fragment, where the fragments of the rows placed in it are alike
  fragment-same : (c e : RowLaid → List PlainTree) (number : ℕ) (h : Option ℕ) (t : Token) →
      Each (AlikeAt c e) (places_in d f t (laid_start d f t ++ laid_to y d f t h (stop_of y d f t h)
      (column_made y d f h t).end)) → fragment_of c x d number f h t ≡ fragment_of e y d number f h t
  fragment-same c e number h t all =
      let made = column_made y d f h t in
      let laid : laid_to x d f t h (stop_of x d f t h) made.end ≡ laid_to y d f t h (stop_of y d f t h) made.end =
      to-same t h (stop_of x d f t h) made.end ∙ ap (λ stop. laid_to y d f t h stop made.end) (stop-same t h) in
      let places = places_in d f t (laid_start d f t ++ laid_to y d f t h (stop_of y d f t h) made.end) in
      ap (λ (m : Column). column_tree number t m.end m.extent
      (plain_trees (all_trees c (places_in d f t (laid_start d f t ++ laid_to x d f t h (stop_of x d f t h) m.end)))))
      (made-same h t)
      ∙ ap (λ ls. column_tree number t made.end made.extent
      (plain_trees (all_trees c (places_in d f t (laid_start d f t ++ ls))))) laid
      ∙ ap (λ ts. column_tree number t made.end made.extent (plain_trees ts)) (trees-alike c e (length places) places all)

  -- what its lines rest on, where that is alike of the rows in it
  own-same : (a b : Owned) (t : Token) (h : ℕ) → ((s : ℕ) (q : Token) (room : ℕ) → (k : ℕ) → item_of f k ≡ Row s →
      a.fill s q room ≡ b.fill s q room) → column_owned a x d f t h ≡ column_owned b y d f t h
  own-same a b t h same =
      ap (λ ss. owned_by a h (cut h ss).before (cut h ss).stop) (from-same t)
      ∙ go (cut h (steps_from y d f t)).stop (stop-from y d f t h)
    where
      in-row : (s : Step) → IsStepFrom y f (item_number t) s → (u : Option Use) → s.row ≡ u →
          owned_in_fill a u (room s h) ≡ owned_in_fill b u (room s h)
      in-row s of None is = refl
      in-row s of (Some u) is = at (item_of f s.item) refl (sym of.row ∙ is)
        where
          at : (item : Item) → item_of f s.item ≡ item → row_from item of.from ≡ Some u →
              a.fill u.0 u.1 (room s h) ≡ b.fill u.0 u.1 (room s h)
          at (Atom high kind) here e = cc
          at (Row r) here e = let number : r ≡ u.0 = ap first e in same u.0 u.1 (room s h) s.item (here ∙ ap Row number)
            where
              first : Option Use → ℕ
              first None = r
              first (Some v) = v.0

      go : (stop : Option Step) → OfStop (IsStepFrom y f (item_number t)) stop →
          owned_by a h (cut h (steps_from y d f t)).before stop ≡ owned_by b h (cut h (steps_from y d f t)).before stop
      go None of = refl
      go (Some s) of = ap (λ us. rows_among ((cut h (steps_from y d f t)).before ++ s ∷ []) ∷ cond (is_cut s h) us [])
          (in-row s of s.row refl)

-- ---- one row deeper

module _ (d : FlowsData) (a b : ℕ) (r : ℕ) (P : ℕ → Type 0) (all : All P (rows_in (flow_in d r)))
    (told : (s : ℕ) → P s → ToldAlike (rows_to d a) (rows_to d b) s) where
  abbrev x : Inner
  x = rows_to d a

  abbrev y : Inner
  y = rows_to d b

  alike : ItemsAlike x y (flow_in d r).items
  alike = items-alike x y P told (flow_in d r).items all

  fragments-deeper : ((s : RowLaid) → P s.row → row_fragments d a s ≡ row_fragments d b s) → (l : RowLaid) → l.row ≡ r →
      row_fragments d (suc a) l ≡ row_fragments d (suc b) l
  unfolding row_fragments
  fragments-deeper same l is = go l.row is l.from l.made_at (columns_wanted x d l) (columns_wanted y d l) (wanted l is)
    where
      wanted : (l : RowLaid) → l.row ≡ r → columns_wanted x d l ≡ columns_wanted y d l
      wanted l is =
          let P : ℕ → Type 0 = λ n. left_in x (flow_in d n) l.from ≡ left_in y (flow_in d n) l.from in
          ap (λ n. cond l.filled (row_of d l.row).n n) (subst P (sym is) (left_in-same x y d (flow_in d r) alike l.from))

      placed : (h : Option ℕ) (t : Token) → Each (AlikeAt (row_fragments d a) (row_fragments d b))
          (places_in d (flow_in d r) t (laid_start d (flow_in d r) t ++ laid_to y d (flow_in d r) t h
          (stop_of y d (flow_in d r) t h) (column_made y d (flow_in d r) h t).end))
      placed h t =
          let total : ℕ → ℕ = λ s. height_held d b (row_of d s).flow in
          placed-alike (row_fragments d a) (row_fragments d b) (flow_in d r) (share total) (whole d (flow_in d r) total)
          (λ l of. same l (rows-at P (flow_in d r).items all of.item l.row of.is)) _
          (column-placed d (flow_in d r) total y (λ s q. size-held d b s q) t h)

      go : (n : ℕ) → n ≡ r → (from : Token) (h : Option ℕ) (most other : ℕ) → most ≡ other →
          fragments_from (fragment_of (row_fragments d a) x d (row_of d n).flow (flow_in d n) h) from
          (columns_by (column_made x d (flow_in d n) h) (flow_in d n) most from)
          ≡ fragments_from (fragment_of (row_fragments d b) y d (row_of d n).flow (flow_in d n) h) from
          (columns_by (column_made y d (flow_in d n) h) (flow_in d n) other from)
      go n is from h most other e =
          let Q : ℕ → Type 0 = λ n. fragments_from (fragment_of (row_fragments d a) x d (row_of d n).flow (flow_in d n) h) from
          (columns_by (column_made x d (flow_in d n) h) (flow_in d n) most from)
          ≡ fragments_from (fragment_of (row_fragments d b) y d (row_of d n).flow (flow_in d n) h) from
          (columns_by (column_made y d (flow_in d n) h) (flow_in d n) other from) in
          let f = flow_in d r in
          let number = (row_of d r).flow in
          let here : Q r =
          fragments-same (fragment_of (row_fragments d a) x d number f h) (fragment_of (row_fragments d b) y d number f h)
          (λ t. fragment-same x y d f alike (row_fragments d a) (row_fragments d b) number h t (placed h t)) from
          (columns_by (column_made x d f h) f most from)
          ∙ ap (fragments_from (fragment_of (row_fragments d b) y d number f h) from)
          (by-same (column_made x d f h) (column_made y d f h) (made-same x y d f alike h) f most from
          ∙ ap (λ m. columns_by (column_made y d f h) f m from) e) in
          subst Q (sym is) here

  owned-deeper : ((s : ℕ) (q : Token) (h : ℕ) → P s → (owned_to d a).fill s q h ≡ (owned_to d b).fill s q h) →
      (q : Token) (h : ℕ) → (owned_to d (suc a)).fill r q h ≡ (owned_to d (suc b)).fill r q h
  unfolding owned_to
  owned-deeper same q h =
      let f = flow_in d r in
      owned-same (λ t. column_owned (owned_to d a) x d f t h) (λ t. column_owned (owned_to d b) y d f t h)
      (λ t. own-same x y d f alike (owned_to d a) (owned_to d b) t h
      (λ s p room k is. same s p room (rows-at P f.items all k s is))) q (to_overflow (columns x d f (row_of d r).n q h))
      ∙ ap (λ cs. columns_owned (λ t. column_owned (owned_to d b) y d f t h) q (to_overflow cs))
      (columns-same x y d f alike (row_of d r).n q h)

-- ---- content

atoms-alike : (c e : Contents) (r k : ℕ) (q : Token) (P : ℕ → Type 0) → ((s : ℕ) (p : Token) → P s → c.atoms s p ≡ e.atoms s p) →
    (items : List Item) → All P (flat_map row_in items) →
    atoms_of_items c r k q items ≡ atoms_of_items e r k q items
atoms-alike c e r k q P same [] all = refl
atoms-alike c e r k q P same (Atom height kind ∷ items) all =
    ap (λ as_. record { row = r; item = k } ∷ as_) (atoms-alike c e r (suc k) row_start P same items all)
atoms-alike c e r k q P same (Row s ∷ items) all =
    ap (λ as_. as_ ++ atoms_of_items c r (suc k) row_start items) (same s q (all 0 s (omega arith)))
    ∙ ap (λ as_. e.atoms s q ++ as_) (atoms-alike c e r (suc k) row_start P same items (λ j z lt. all (suc j) z (omega arith)))

all-drop : (P : ℕ → Type 0) (n : ℕ) (items : List Item) → All P (flat_map row_in items) → All P (flat_map row_in (drop n items))
all-drop P zero items all = all
all-drop P (suc n) [] all = all
all-drop P (suc n) (Atom height kind ∷ items) all = all-drop P n items all
all-drop P (suc n) (Row s ∷ items) all = all-drop P n items (λ j z lt. all (suc j) z (omega arith))

-- ---- books

entered-same : (first other : List Use → Use → List Use) (us : List Use) →
    Each (λ u. (book : List Use) → first book u ≡ other book u) us → (book : List Use) →
    entered_with first book us ≡ entered_with other book us
entered-same first other [] same book = refl
entered-same first other (u ∷ us) same book =
    ap (λ b. entered_with first (cond (stands_in book u) book (b ++ u ∷ [])) us) (same.0 book)
    ∙ entered-same first other us same.1 (cond (stands_in book u) book (other book u ++ u ∷ []))

each-use : (P : Use → Type 0) (Q : Use → Type 0) → ((u : Use) → P u → Q u) → (us : List Use) → Each P us → Each Q us
each-use P Q make [] all = tt
each-use P Q make (u ∷ us) all = (make u all.0, each-use P Q make us all.1)

-- ---- the law

fragments-alike : (d : FlowsData) (n a b : ℕ) (r : RowLaid) → NestsAtMost d n r.row → n ≤ a → n ≤ b →
    row_fragments d a r ≡ row_fragments d b r
fragments-alike d zero a b r nests le ge = absurd nests
fragments-alike d (suc n) zero b r nests le ge = absurd (omega arith)
fragments-alike d (suc n) (suc a) zero r nests le ge = absurd (omega arith)
fragments-alike d (suc n) (suc a) (suc b) r nests le ge =
    fragments-deeper d a b r.row (NestsAtMost d n) nests (λ s k. told-alike d n s a b k (omega arith) (omega arith))
    (λ s k. fragments-alike d n a b s k (omega arith) (omega arith)) r refl

owned-alike : (d : FlowsData) (n r a b : ℕ) (q : Token) (h : ℕ) → NestsAtMost d n r → n ≤ a → n ≤ b →
    (owned_to d a).fill r q h ≡ (owned_to d b).fill r q h
owned-alike d zero r a b q h nests le ge = absurd nests
owned-alike d (suc n) r zero b q h nests le ge = absurd (omega arith)
owned-alike d (suc n) r (suc a) zero q h nests le ge = absurd (omega arith)
owned-alike d (suc n) r (suc a) (suc b) q h nests le ge =
    owned-deeper d a b r (NestsAtMost d n) nests (λ s k. told-alike d n s a b k (omega arith) (omega arith))
    (λ s p room k. owned-alike d n s a b p room k (omega arith) (omega arith)) q h

contents-alike : (d : FlowsData) (n r a b : ℕ) (q : Token) → NestsAtMost d n r → n ≤ a → n ≤ b →
    (contents_to d a).atoms r q ≡ (contents_to d b).atoms r q
unfolding contents_to
contents-alike d zero r a b q nests le ge = absurd nests
contents-alike d (suc n) r zero b q nests le ge = absurd (omega arith)
contents-alike d (suc n) r (suc a) zero q nests le ge = absurd (omega arith)
contents-alike d (suc n) r (suc a) (suc b) q nests le ge =
    atoms-alike (contents_to d a) (contents_to d b) r (item_number q) (within q) (NestsAtMost d n)
    (λ s p k. contents-alike d n s a b p k (omega arith) (omega arith))
    (drop (item_number q) (flow_in d r).items) (all-drop (NestsAtMost d n) (item_number q) (flow_in d r).items nests)

entered-alike : (d : FlowsData) (n a b : ℕ) (book us : List Use) → Each (λ (u : Use). NestsAtMost d n u.0) us → n ≤ a → n ≤ b →
    entered d a book us ≡ entered d b book us
unfolding entered
entered-alike d zero zero zero book us nests le ge = refl
entered-alike d zero zero (suc b) book [] nests le ge = refl
entered-alike d zero zero (suc b) book (u ∷ us) nests le ge = absurd nests.0
entered-alike d zero (suc a) zero book [] nests le ge = refl
entered-alike d zero (suc a) zero book (u ∷ us) nests le ge = absurd nests.0
entered-alike d zero (suc a) (suc b) book [] nests le ge = refl
entered-alike d zero (suc a) (suc b) book (u ∷ us) nests le ge = absurd nests.0
entered-alike d (suc n) zero b book us nests le ge = absurd (omega arith)
entered-alike d (suc n) (suc a) zero book us nests le ge = absurd (omega arith)
entered-alike d (suc n) (suc a) (suc b) book us nests le ge =
    entered-same (λ k u. entered d a k (size_uses d u)) (λ k u. entered d b k (size_uses d u)) us
    (each-use (λ u. NestsAtMost d (suc n) u.0) (λ u. (k : List Use) → entered d a k (size_uses d u) ≡ entered d b k
    (size_uses d u))
    (λ u deep k. entered-alike d n a b k (size_uses d u) (size-nests d n u deep) (omega arith) (omega arith)) us nests) book

pub depths-alike : (d : FlowsData) → DepthsAlike d
depths-alike d = record {
  fragments_alike = fragments-alike d;
  owned_alike = owned-alike d;
  contents_alike = contents-alike d;
  entered_alike = λ n a b book us nests. entered-alike d n a b book us
      (recursion_from_All (λ u. NestsAtMost d n u.0) us nests);
}

-- ---- sound data

module _ (d : FlowsData) (sound : IsSound d) where
  deep : (r : ℕ) → r < length d.rows → NestsAtMost d (length d.rows) r
  deep r lt = nests-to d (length d.rows - r) (length d.rows) r (omega arith)
      (nests-by-number d sound (length d.rows - r) r lt (omega arith))

  size-is : (r : ℕ) (q : Token) → r < length d.rows → (all_rows d).size r q ≡ size_of d r q
  unfolding size_of all_rows rows_to
  size-is r q lt = (told-alike d (length d.rows) r (length d.rows) (suc (length d.rows)) (deep r lt) (omega arith)
      (omega arith)).size q

  fill-is : (r : ℕ) (q : Token) (h : ℕ) → r < length d.rows → (all_rows d).fill r q h ≡ fill_in (all_rows d) d r q h
  unfolding all_rows rows_to
  fill-is r q h lt = (told-alike d (length d.rows) r (length d.rows) (suc (length d.rows)) (deep r lt) (omega arith)
      (omega arith)).fill q h

  left-is : (r : ℕ) (q : Token) → r < length d.rows → (all_rows d).left r q ≡ left_in (all_rows d) (flow_in d r) q
  unfolding all_rows rows_to
  left-is r q lt = (told-alike d (length d.rows) r (length d.rows) (suc (length d.rows)) (deep r lt) (omega arith)
      (omega arith)).left q

  pub fragments-are : (depth : ℕ) (r : RowLaid) → r.row < length d.rows → length d.rows ≤ depth →
      row_fragments d depth r
      ≡ fragments_from (fragment_of (row_fragments d (length d.rows)) (all_rows d) d (row_of d r.row).flow
      (flow_in d r.row) r.made_at) r.from
      (columns_by (column_made (all_rows d) d (flow_in d r.row) r.made_at) (flow_in d r.row)
      (columns_wanted (all_rows d) d r) r.from)
  unfolding all_rows row_fragments
  fragments-are depth r lt le = fragments-alike d (length d.rows) depth (suc (length d.rows)) r (deep r.row lt) le (omega arith)

  owned-are : (depth r : ℕ) (q : Token) (h : ℕ) → r < length d.rows → length d.rows ≤ depth →
      (owned_to d depth).fill r q h
      ≡ columns_owned (λ t. column_owned (owned_to d (length d.rows)) (all_rows d) d (flow_in d r) t h) q
      (to_overflow (columns (all_rows d) d (flow_in d r) (row_of d r).n q h))
  unfolding all_rows owned_to
  owned-are depth r q h lt le = owned-alike d (length d.rows) r depth (suc (length d.rows)) q h (deep r lt) le (omega arith)

  atoms-are : (depth r : ℕ) (q : Token) → r < length d.rows → length d.rows ≤ depth →
      (contents_to d depth).atoms r q ≡ atoms_in (contents_to d (length d.rows)) r (flow_in d r) q
  unfolding contents_to
  atoms-are depth r q lt le = contents-alike d (length d.rows) r depth (suc (length d.rows)) q (deep r lt) le (omega arith)

  entered-is : (depth : ℕ) (book us : List Use) → All (λ (u : Use). u.0 < length d.rows) us → length d.rows ≤ depth →
      entered d depth book us ≡ entered d (length d.rows) book us
  entered-is depth book us known le =
      entered-alike d (length d.rows) depth (length d.rows) book us
      (each-use (λ u. u.0 < length d.rows) (λ u. NestsAtMost d (length d.rows) u.0) (λ u lt. deep u.0 lt) us
      (recursion_from_All (λ u. u.0 < length d.rows) us known)) le (omega arith)

pub rows-are-told : (d : FlowsData) → IsSound d → RowsAreTold d
rows-are-told d sound = record {
  size_is = size-is d sound;
  fill_is = fill-is d sound;
  left_is = left-is d sound;
  fragments_are = fragments-are d sound;
  owned_are = owned-are d sound;
  atoms_are = atoms-are d sound;
  entered_is = entered-is d sound;
}
