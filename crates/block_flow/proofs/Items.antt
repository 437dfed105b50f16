-- The items of a column up to its stop: that it ends among them, and that the rows in it are theirs.
use Rattle.std.proofs.Common.{◌≡◌, ℕ, zero, suc, ◌+◌, ◌-◌, ◌<◌, ◌≤◌, Bool, true, false, cond, ◌&&◌, List, [], ◌∷◌, ◌++◌, length}
use Rattle.std.proofs.Common.{Option, Some, None, refl, sym, subst, ◌∙◌, ap, arith}
use Rattle.std.specs.Prelude.{nat_lt, nat_le, not, is_some, ◌==◌}
use Rattle.std.specs.List.{AllByRecursion as Each}
use Rattle.std.proofs.lemmas.List.{length-append}
use Rattle.flow_data.specs.declared.data.Flow.{Flow}
use Rattle.flow_data.specs.declared.data.FlowsData.{FlowsData}
use Rattle.flow_data.specs.Flows.{item_of}
use Rattle.flow_list.specs.Certificate.{Use}
use Rattle.flow_list.specs.Column.{Filled, Inner, Place, Step, alone_place, avoids_at, choose, column, column_over}
use Rattle.flow_list.specs.Column.{column_up_to, cut, fills, inside, inside_place, is_cut, last_place}
use Rattle.flow_list.specs.Column.{room, row_from, row_list, rows_among, seams_before, seams_between, start_strip, steps_from}
use Rattle.flow_list.specs.Column.{stopped, unstopped, whole_place}
use Rattle.flow_list.specs.Looks.{looks, stop_count}
use Rattle.flow_list.specs.Rows.{all_rows}
use Rattle.flow_list.specs.Tokens.{IsPlaceBefore, Token, item_number, row_start, within}
use Rattle.flow_list.proofs.ColumnParts.{EachFrom, best-each, cut-each, cut-some, last-each, some-steps, steps-each, stopped-each}
use Rattle.flow_list.proofs.ColumnParts.{through}
use Rattle.flow_list.proofs.PlaceBounds.{Each-append}
use Rattle.column_maker.specs.Making.{items_in, last_item}
use Rattle.column_maker.specs.Walking.{whole_rows}
use Rattle.column_maker.proofs.Ending.{first-taken, next-taken, taken_of}
use Rattle.column_walk.specs.Deciding.{fills_to}
use Rattle.column_walk.proofs.Stopped.{at-seam}

each-weaker : {X : Type 0} (P Q : X → Type 0) → ((x : X) → P x → Q x) → (xs : List X) → Each P xs → Each Q xs
each-weaker P Q make [] all = tt
each-weaker P Q make (x ∷ xs) all = (make x all.0, each-weaker P Q make xs all.1)

front : {X : Type 0} (P : X → Type 0) (xs ys : List X) → Each P (xs ++ ys) → Each P xs
front P [] ys a = tt
front P (x ∷ xs) ys a = (a.0, front P xs ys a.1)

pub back : {X : Type 0} (P : X → Type 0) (xs ys : List X) → Each P (xs ++ ys) → Each P ys
back P [] ys a = a
back P (x ∷ xs) ys a = back P xs ys a.1

-- ---- seams

-- a seam before item k, or before one before that
pub record IsSeamTo (k : ℕ) (p : Place) : Type 0 where
  pub seam : ℕ
  pub le : seam ≤ k
  pub is : p.end ≡ seam ∷ []

-- ---- the row that it fills

-- an item whose room serves fills no row
unfilled : (h : ℕ) (s : Step) → nat_lt (room s h) s.height ≡ false → fills_to h (Some s) ((s.item + 1) ∷ []) ≡ false
unfilled h s low = rw low (go (s.item == (s.item + 1 - 1)) (is_some s.row) ((s.item + 1) == 0))
  where
    go : (a b c : Bool) → (((a && b) && false) && not c) ≡ false
    go true true c = refl
    go true false c = refl
    go false b c = refl

whole-there : (avoids : Bool) (h : ℕ) (s : Step) (filled : Option Filled) → nat_lt (room s h) s.height ≡ false →
    choose (inside avoids s h filled) (alone_place avoids s h filled) ≡ whole_place s
whole-there avoids h s None low = refl
whole-there avoids h s (Some made) low = go (nat_le (s.y + s.bottoms) h) refl
  where
    go : (begins : Bool) → nat_le (s.y + s.bottoms) h ≡ begins →
        choose (inside avoids s h (Some made)) (alone_place avoids s h (Some made)) ≡ whole_place s
    go true y = rw (low, y) refl
    go false y = rw (low, y) refl

none-inside : (avoids : Bool) (h : ℕ) (s : Step) (filled : Option Filled) → is_cut s h ≡ false →
    inside avoids s h filled ≡ []
none-inside avoids h s None uncut = refl
none-inside avoids h s (Some made) uncut = rw uncut refl

seam-chosen : (n : ℕ) (p : Place) (ps qs : List Place) (other : Place) → qs ≡ [] → Each (IsSeamTo n) (p ∷ ps) →
    IsSeamTo n (choose ((p ∷ ps) ++ qs) other)
seam-chosen n p ps qs other none all =
    let P : List Place → Type 0 = λ qs. IsSeamTo n (choose ((p ∷ ps) ++ qs) other) in
    subst P (sym none) (best-each (IsSeamTo n) p (ps ++ []) all.0 (Each-append (IsSeamTo n) ps [] all.1 tt))

-- a column that ends in or after its stop, a row that is filled, uses what the row does
pub stop-fills : (avoids : Bool) (h : ℕ) (before : List Step) (s : Step) (filled : Option Filled) →
    Each (IsSeamTo s.item) (seams_between (before ++ s ∷ [])) →
    fills_to h (Some s) (stopped avoids h before s filled).end ≡ true → fills before s h ≡ true
stop-fills avoids h [] s filled seams e = go (nat_lt (room s h) s.height) refl
  where
    go : (b : Bool) → nat_lt (room s h) s.height ≡ b → b ≡ true
    go true low = refl
    go false low =
        let there = ap (λ (p : Place). fills_to h (Some s) p.end) (whole-there avoids h s filled low) in
        let no = unfilled h s low in
        absurd (cc)
stop-fills avoids h (b ∷ before) s filled seams e = go (is_cut s h) refl
  where
    some : (need : ℕ) (ss : List Step) → Each (IsSeamTo s.item) (seams_before need (ss ++ s ∷ [])) → is_cut s h ≡ false →
        (other : Place) → IsSeamTo s.item (choose (seams_before need (ss ++ s ∷ []) ++ inside avoids s h filled) other)
    some need [] all uncut other = seam-chosen s.item _ [] (inside avoids s h filled) other (none-inside avoids h s filled uncut)
        all
    some need (z ∷ ss) all uncut other = seam-chosen s.item _ (seams_before z.need (ss ++ s ∷ [])) (inside avoids s h filled)
        other (none-inside avoids h s filled uncut) all

    go : (c : Bool) → is_cut s h ≡ c → c ≡ true
    go true cuts = refl
    go false uncut =
        let there = some b.need before seams uncut (alone_place avoids s h filled) in
        let at = ap (fills_to h (Some s)) there.is in
        let no = at-seam h s there.seam there.le in
        absurd (cc)

-- ---- the items of a column

-- item k, and as a row taken from where that stands in the column
module _ (d : FlowsData) (f : Flow) (t : Token) where
  abbrev x : Inner
  x = all_rows d

  abbrev i : ℕ
  i = item_number t

  abbrev pub IsItem : ℕ → Step → Type 0
  IsItem k s = (s.item ≡ k) × (s.row ≡ row_from (item_of f k) (taken_of d f t k))

  pub items : EachFrom IsItem i (steps_from x d f t)
  items = steps-each x d f (λ s k q n. (i ≤ k) × (q ≡ taken_of d f t k)) IsItem
      (λ s k q n b. (refl, ap (row_from (item_of f k)) b.1))
      (λ s k q n b. let le = b.0 in (omega arith, next-taken d f t k b.0))
      (start_strip d f t) i (within t) (length f.items - i) (omega arith, first-taken d f t)

  seams-to : (n need k : ℕ) (ss : List Step) → k + length ss ≤ n + 1 → EachFrom IsItem k ss →
      Each (IsSeamTo n) (seams_before need ss)
  seams-to n need k [] le of = tt
  seams-to n need k (z ∷ ss) le of = (
    record { seam = z.item; le = let e = of.0.0 in omega arith; is = refl },
    seams-to n z.need (k + 1) ss (omega arith) of.1,
  )

  between-to : (n k : ℕ) (ss : List Step) → k + length ss ≤ n + 1 → EachFrom IsItem k ss → Each (IsSeamTo n) (seams_between ss)
  between-to n k [] le of = tt
  between-to n k (z ∷ ss) le of = seams-to n z.need (k + 1) ss (omega arith) of.1

  -- those up to the stop, which is the last of these items
  pub stop-seams : (k : ℕ) (before : List Step) (s : Step) → EachFrom IsItem k (before ++ s ∷ []) →
      (s.item ≡ k + length before) × Each (IsSeamTo s.item) (seams_between (before ++ s ∷ []))
  stop-seams k before s of =
      let last = last-each IsItem k before s of in
      let e = last.0 in
      let n = length-append before (s ∷ []) in
      (e, between-to s.item k (before ++ s ∷ []) (omega arith) of)

  -- ---- where a column ends

  last-seam : (n : ℕ) (p : Place) → IsSeamTo n p → last_item p.end ≤ n
  last-seam n p s = let le = s.le in rw s.is (omega arith)

  last-inside : (avoids : Bool) (s : Step) (a : ℕ) (filled : Filled) → last_item (inside_place avoids s a filled).end ≤ s.item
  last-inside avoids s a filled = go filled.at_end filled.end
    where
      go : (b : Bool) (u : Token) → last_item (cond b ((s.item + 1) ∷ []) (s.item ∷ u)) ≤ s.item
      go true u = omega arith
      go false [] = omega arith
      go false (j ∷ rest) = omega arith

  last-later : (p : Place) (k : ℕ) (ss : List Step) → EachFrom IsItem k ss → last_item p.end < k →
      last_item (last_place p ss).end < k + length ss
  last-later p k [] of lt = omega arith
  last-later p k (s ∷ ss) of lt =
      let e = of.0.0 in
      let rest = last-later (record { level = 0; end = (s.item + 1) ∷ []; extent = s.need; overflow = false }) (k + 1) ss of.1
      (omega arith) in
      omega arith

  up_to-within : (avoids : ℕ → Bool) (h k : ℕ) (before : List Step) (stop : Option Step) →
      (stop ≡ None → (s : Step) × (ss : List Step) × (before ≡ s ∷ ss)) → EachFrom IsItem k (through before stop) →
      last_item (column_up_to x avoids h before stop).end < k + (length before + stop_count stop)
  up_to-within avoids h k before None some of =
      let P : List Step → Type 0 = λ ss. EachFrom IsItem k ss → last_item (unstopped ss).end < k + (length ss + 0) in
      let e = some refl in
      let at_cons : P (e.0 ∷ e.1) = λ of. let at = of.0.0 in
      let rest = last-later (record { level = 0; end = (e.0.item + 1) ∷ []; extent = e.0.need; overflow = false }) (k + 1) e.1
      of.1 (omega arith) in omega arith in
      subst P (sym e.2) at_cons of
  up_to-within avoids h k before (Some s) some of =
      let at = stop-seams k before s of in
      let e = at.0 in
      let there = stopped-each (λ (p : Place). last_item p.end ≤ s.item) x (avoids s.item) h s before s.row
      (each-weaker (IsSeamTo s.item) (λ (p : Place). last_item p.end ≤ s.item) (last-seam s.item)
      (seams_between (before ++ s ∷ [])) at.1)
      (λ which. omega arith)
      (λ r over is low. last-inside (avoids s.item) s (room s h) (x.fill r.0 r.1 (room s h))) in
      omega arith

  over-within : (avoids : ℕ → Bool) (h : ℕ) (ss : List Step) → ((s : Step) × (more : List Step) × (ss ≡ s ∷ more)) →
      EachFrom IsItem i ss →
      last_item (column_over x avoids h ss).end < i + (length (cut h ss).before + stop_count (cut h ss).stop)
  over-within avoids h ss some =
      let P : List Step → Type 0 = λ ss. EachFrom IsItem i ss →
      last_item (column_over x avoids h ss).end < i + (length (cut h ss).before + stop_count (cut h ss).stop) in
      let at_cons : P (some.0 ∷ some.1) =
      λ of. up_to-within avoids h i (cut h (some.0 ∷ some.1)).before (cut h (some.0 ∷ some.1)).stop
      (cut-some h some.0 some.1) (cut-each IsItem h i (some.0 ∷ some.1) of) in
      subst P (sym some.2) at_cons

  -- a column ends among the items that it is asked for
  pub ends-within : (h : ℕ) → i < length f.items → last_item (column x d f t h).end < i + looks x d f t h
  unfolding column looks
  ends-within h lt = over-within (avoids_at d f) h (steps_from x d f t)
      (some-steps x d f (start_strip d f t) i (within t) (length f.items - i) (omega arith)) items

  pub begins-inside : IsPlaceBefore d f t → i < length f.items
  begins-inside before = go t before
    where
      go : (t : Token) → IsPlaceBefore d f t → item_number t < length f.items
      go [] b = absurd b
      go (k ∷ []) b = b
      go (k ∷ (j ∷ rest)) b = b.0

  -- so no more items stand in it
  pub items-few : (h : ℕ) → IsPlaceBefore d f t → items_in t (column x d f t h).end ≤ looks x d f t h
  items-few h before = let lt = ends-within h (begins-inside before) in omega arith

  -- ---- what it uses

  module _ (P : Use → Type 0) where
    abbrev Are : List Use → Type 0
    Are us = Each P us

    rows-are : (ss : List Step) (k : ℕ) (q : Token) (m : ℕ) → i ≤ k → q ≡ taken_of d f t k → EachFrom IsItem k ss →
        Are (rows_among ss) → m ≤ length ss → Are (whole_rows f k q m)
    unfolding whole_rows
    rows-are ss k q zero from at of all le = tt
    rows-are [] k q (suc m) from at of all le = absurd (omega arith)
    rows-are (s ∷ ss) k q (suc m) from at of all le =
        Each-append P (row_list (row_from (item_of f k) q)) (whole_rows f (k + 1) row_start m)
        (subst (λ (o : Option (ℕ × Token)). Are (row_list o)) (of.0.1 ∙ ap (row_from (item_of f k)) (sym at))
        (front P (row_list s.row) (rows_among ss) all))
        (rows-are ss (k + 1) row_start m (omega arith) (next-taken d f t k from) of.1
        (back P (row_list s.row) (rows_among ss) all) (omega arith))

    up_to-rows : (avoids : ℕ → Bool) (h : ℕ) (before : List Step) (stop : Option Step) →
        Are (column_up_to x avoids h before stop).uses → Are (rows_among (through before stop))
    up_to-rows avoids h before None all = all
    up_to-rows avoids h before (Some s) all = front P (rows_among (before ++ s ∷ [])) _ all

    through-length : (before : List Step) (stop : Option Step) → length (through before stop) ≡ length before + stop_count stop
    through-length before None = omega arith
    through-length before (Some s) = length-append before (s ∷ [])

    -- the rows that stand whole in it are among what it uses
    pub rows-used : (h m : ℕ) → Are (column x d f t h).uses → m ≤ looks x d f t h → Are (whole_rows f i (within t) m)
    unfolding column looks
    rows-used h m all le =
        let n = through-length (cut h (steps_from x d f t)).before (cut h (steps_from x d f t)).stop in
        rows-are (through (cut h (steps_from x d f t)).before (cut h (steps_from x d f t)).stop) i (within t) m (omega arith)
        (first-taken d f t) (cut-each IsItem h i (steps_from x d f t) items)
        (up_to-rows (avoids_at d f) h (cut h (steps_from x d f t)).before (cut h (steps_from x d f t)).stop all)
        (omega arith)
