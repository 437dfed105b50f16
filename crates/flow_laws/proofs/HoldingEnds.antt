-- Where a column ends, and what that says of the row at its stop: at a seam where no row is filled, or in or after a row that is
-- filled.
use Rattle.std.proofs.Common.{◌≡◌, ℕ, zero, suc, ◌+◌, ◌-◌, ◌<◌, ◌≤◌, ◌==◌, Bool, true, false, cond, ◌&&◌, List, [], ◌∷◌, ◌++◌}
use Rattle.std.proofs.Common.{length, Option, Some, None, refl, sym, subst, ap, arith, ◌⊎◌, inl, inr}
use Rattle.std.specs.Prelude.{nat_lt, is_some}
use Rattle.std.proofs.lemmas.Bool.Decides.{nat_tests}
use Rattle.std.specs.List.{AllByRecursion as Each}
use Rattle.std.proofs.lemmas.List.{length-append}
use Rattle.flow_list.specs.Data.{Flow, FlowsData, Item, Atom, Row}
use Rattle.flow_data.specs.Flows.{item_of}
use Rattle.flow_list.specs.Tokens.{Token, row_start, item_number, within}
use Rattle.flow_list.specs.Strip.{Strip}
use Rattle.flow_list.specs.Column.{Inner, Step, Place, cut, row_from, steps, steps_from, start_strip, inside_place, whole_place}
use Rattle.flow_list.specs.Column.{room, seams_before, seams_between, last_place, column, endless_column, unstopped, column_up_to}
use Rattle.flow_list.specs.Column.{column_over, avoids_at}
use Rattle.flow_list.specs.Fragments.{fills_item, stop_of, column_made}
use Rattle.flow_list.proofs.ColumnParts.{EachFrom, steps-each, some-steps, through, cut-each, last-each, cut-some, stopped-each}

-- the place in an item from which it is taken, where n items stand before it in the column, which begins at q in its first one
abbrev pub taken_at : ℕ → Token → Token
taken_at zero q = q
taken_at (suc n) q = row_start

pub taken-start : (n : ℕ) → taken_at n row_start ≡ row_start
taken-start zero = refl
taken-start (suc n) = refl

none-and : (a b c : Bool) → b ≡ false → ((a && b) && c) ≡ false
none-and true true c e = cc
none-and true false c e = refl
none-and false b c e = refl

and-none : (a b : Bool) → b ≡ false → (a && b) ≡ false
and-none true b e = e
and-none false b e = refl

first-none : (a b c : Bool) → a ≡ false → ((a && b) && c) ≡ false
first-none true b c e = cc
first-none false b c e = refl

-- In the column of flow f that begins at t.
module _ (x : Inner) (f : Flow) (t : Token) where
  abbrev pub taken : ℕ → Token
  taken k = taken_at (k - item_number t) (within t)

  -- a column ends at a seam after its first item, and the item before that isn't filled
  pub record EndsAtSeam (h : Option ℕ) (stop : Option Step) (end : Token) : Type 0 where
    pub seam : ℕ
    pub is : end ≡ seam ∷ []
    pub later : item_number t < seam
    pub known : seam ≤ length f.items
    pub unfilled : fills_item h stop (seam - 1) ≡ false

  -- a column ends in its stop, a row that is filled, or after it where it reaches its end
  pub record EndsInRow (h : ℕ) (s : Step) (end : Token) : Type 0 where
    pub row : ℕ
    pub from : Token
    pub later : item_number t ≤ s.item
    pub known : s.item < length f.items
    pub item : item_of f s.item ≡ Row row
    pub taken_from : from ≡ taken s.item
    pub step_row : s.row ≡ Some (row, from)
    pub low : room s h < s.height
    pub is : end ≡ cond (x.fill row from (room s h)).at_end ((s.item + 1) ∷ []) (s.item ∷ (x.fill row from (room s h)).end)

  abbrev pub EndsFor : Option ℕ → Option Step → Token → Type 0
  EndsFor None stop end = EndsAtSeam None stop end
  EndsFor (Some h) None end = EndsAtSeam (Some h) None end
  EndsFor (Some h) (Some s) end = EndsAtSeam (Some h) (Some s) end ⊎ EndsInRow h s end

  -- ---- the steps of the column

  -- a row that an item is, with the place from which it is taken
  abbrev RowAt : ℕ → Option (ℕ × Token) → Type 0
  RowAt k None = Unit {0}
  RowAt k (Some row) = (item_of f k ≡ Row row.0) × (row.1 ≡ taken k)

  record IsStepOf (s : Step) : Type 0 where
    later : item_number t ≤ s.item
    known : s.item < length f.items
    row : RowAt s.item s.row

  abbrev IsItem : ℕ → Step → Type 0
  IsItem k s = (s.item ≡ k) × IsStepOf s

  row-at : (k : ℕ) (q : Token) (item : Item) → item_of f k ≡ item → q ≡ taken k → RowAt k (row_from item q)
  row-at k q (Atom height kind) is e = tt
  row-at k q (Row r) is e = (is, e)

  taken-next : (k : ℕ) → item_number t ≤ k → row_start ≡ taken (k + 1)
  taken-next k le = let P : ℕ → Type 0 = λ n. row_start ≡ taken_at n (within t)
      in let e : suc (k - item_number t) ≡ k + 1 - item_number t = omega arith in subst P e refl

  module _ (d : FlowsData) where
    steps-of : (s : Strip) (k : ℕ) (q : Token) (n : ℕ) → (item_number t ≤ k) × (k + n ≡ length f.items) × (q ≡ taken k)
        → EachFrom IsItem k (steps x d f s k q n)
    steps-of =
        steps-each x d f (λ s k q n. (item_number t ≤ k) × (k + n ≡ length f.items) × (q ≡ taken k)) IsItem
        (λ s k q n b. let le = b.0 in let e = b.1
        in (refl, record { later = le; known = omega arith; row = row-at k q (item_of f k) refl b.2 }))
        (λ s k q n b. let le = b.0 in let e = b.1 in (omega arith, omega arith, taken-next k le))

  -- ---- a column with a stop

  module _ (h : ℕ) (s : Step) where
    abbrev IsRight : Place → Type 0
    IsRight p = EndsFor (Some h) (Some s) p.end

    seams-right : (need k : ℕ) (ss : List Step) → item_number t < k → k + length ss ≤ s.item + 1 → EachFrom IsItem k ss
        → Each IsRight (seams_before need ss)
    seams-right need k [] lt le of = tt
    seams-right need k (z ∷ ss) lt le of =
        let e = of.0.0 in
        let apart : (s.item == (z.item - 1)) ≡ false = grind (arith, nat_tests) in (
          inl (record {
            seam = z.item;
            is = refl;
            later = omega arith;
            known = let a = of.0.1.known in omega arith;
            unfilled = first-none (s.item == (z.item - 1)) (is_some s.row) (nat_lt (room s h) s.height) apart;
          }),
          seams-right z.need (k + 1) ss (omega arith) (omega arith) of.1,
        )

    between-right : (k : ℕ) (ss : List Step) → item_number t ≤ k → k + length ss ≤ s.item + 1 → EachFrom IsItem k ss
        → Each IsRight (seams_between ss)
    between-right k [] lt le of = tt
    between-right k (z ∷ ss) lt le of = seams-right z.need (k + 1) ss (omega arith) (omega arith) of.1

    whole-right : IsStepOf s → ((s.item == (s.item + 1 - 1) && is_some s.row) && nat_lt (room s h) s.height) ≡ false
        → IsRight (whole_place s)
    whole-right of e =
        inl (record {
          seam = s.item + 1;
          is = refl;
          later = let a = of.later in omega arith;
          known = let a = of.known
              in omega arith;
          unfilled = e;
        })

    inside-right : (avoids : Bool) (row : ℕ × Token) → IsStepOf s → s.row ≡ Some row → RowAt s.item (Some row)
        → room s h < s.height → IsRight (inside_place avoids s (room s h) (x.fill row.0 row.1 (room s h)))
    inside-right avoids row of is at lt =
        inr (record {
          row = row.0;
          from = row.1;
          later = of.later;
          known = of.known;
          item = at.0;
          taken_from = at.1;
          step_row = is;
          low = lt;
          is = refl;
        })

  -- ---- a column that has room for all its items

  module _ (h : Option ℕ) (free : (k : ℕ) → fills_item h None k ≡ false) where
    at-seam : (s : Step) → IsStepOf s → EndsAtSeam h None ((s.item + 1) ∷ [])
    at-seam s of = record {
      seam = s.item + 1;
      is = refl;
      later = let a = of.later in omega arith;
      known = let a = of.known
          in omega arith;
      unfilled = free (s.item + 1 - 1);
    }

    last-right : (p : Place) (k : ℕ) (ss : List Step) → EndsAtSeam h None p.end → EachFrom IsItem k ss
        → EndsAtSeam h None (last_place p ss).end
    last-right p k [] a of = a
    last-right p k (s ∷ ss) a of = last-right (record { level = 0; end = (s.item + 1) ∷ []; extent = s.need; overflow = false })
        (k + 1) ss (at-seam s of.0.1) of.1

    all-right : (k : ℕ) (ss : List Step) → ((s : Step) × (more : List Step) × (ss ≡ s ∷ more)) → EachFrom IsItem k ss
        → EndsAtSeam h None (unstopped ss).end
    all-right k ss some =
        let P : List Step → Type 0 = λ ss. EachFrom IsItem k ss → EndsAtSeam h None (unstopped ss).end in
        let at_cons : P (some.0 ∷ some.1) = λ of. last-right _ (k + 1) some.1 (at-seam some.0 of.0.1) of.1 in
        subst P (sym some.2) at_cons

  -- ---- columns

  up_to-right : (avoids : ℕ → Bool) (h k : ℕ) (before : List Step) (stop : Option Step) → item_number t ≤ k
      → (stop ≡ None → (s : Step) × (ss : List Step) × (before ≡ s ∷ ss)) → EachFrom IsItem k (through before stop) →
      EndsFor (Some h) stop (column_up_to x avoids h before stop).end
  up_to-right avoids h k before None le some of = all-right (Some h) (λ n. refl) k before (some refl) of
  up_to-right avoids h k before (Some s) le some of =
      let last = last-each IsItem k before s of in
      let e = last.0 in
      let n = length-append before (s ∷ []) in
      stopped-each (IsRight h s) x (avoids s.item) h s before s.row (between-right h s k (before ++ s ∷ []) le (omega arith) of)
      (λ which. whole-right h s last.1 (unfilled which))
      (λ row over is low. inside-right h s (avoids s.item) row last.1 is (subst (RowAt s.item) is last.1.row) low)
    where
      unfilled : (s.row ≡ None) ⊎ (nat_lt (room s h) s.height ≡ false)
          → ((s.item == (s.item + 1 - 1) && is_some s.row) && nat_lt (room s h) s.height) ≡ false
      unfilled (inl none) = none-and (s.item == (s.item + 1 - 1)) (is_some s.row) (nat_lt (room s h) s.height) (ap is_some none)
      unfilled (inr whole) = and-none (s.item == (s.item + 1 - 1) && is_some s.row) (nat_lt (room s h) s.height) whole

  over-right : (avoids : ℕ → Bool) (h : ℕ) (ss : List Step) → ((s : Step) × (more : List Step) × (ss ≡ s ∷ more))
      → EachFrom IsItem (item_number t) ss → EndsFor (Some h) (cut h ss).stop (column_over x avoids h ss).end
  over-right avoids h ss some =
      let P : List Step → Type 0 = λ ss. EachFrom IsItem (item_number t) ss
      → EndsFor (Some h) (cut h ss).stop (column_over x avoids h ss).end in
      let at_cons : P (some.0 ∷ some.1) =
      λ of. up_to-right avoids h (item_number t) (cut h (some.0 ∷ some.1)).before (cut h (some.0 ∷ some.1)).stop (omega arith)
      (cut-some h some.0 some.1) (cut-each IsItem h (item_number t) (some.0 ∷ some.1) of) in
      subst P (sym some.2) at_cons

  pub column-ends : (d : FlowsData) (h : Option ℕ) → item_number t < length f.items
      → EndsFor h (stop_of x d f t h) (column_made x d f h t).end
  unfolding column endless_column
  column-ends d h lt = go h
    where
      first-taken : within t ≡ taken (item_number t)
      first-taken = let P : ℕ → Type 0 = λ n. within t ≡ taken_at n (within t)
          in let e : 0 ≡ item_number t - item_number t = omega arith in subst P e refl

      of : EachFrom IsItem (item_number t) (steps_from x d f t)
      of = steps-of d (start_strip d f t) (item_number t) (within t) (length f.items - item_number t)
          (omega arith, omega arith, first-taken)

      some : (s : Step) × (more : List Step) × (steps_from x d f t ≡ s ∷ more)
      some = some-steps x d f (start_strip d f t) (item_number t) (within t) (length f.items - item_number t) (omega arith)

      go : (h : Option ℕ) → EndsFor h (stop_of x d f t h) (column_made x d f h t).end
      go None = all-right None (λ n. refl) (item_number t) (steps_from x d f t) some of
      go (Some h) = over-right (avoids_at d f) h (steps_from x d f t) some of
