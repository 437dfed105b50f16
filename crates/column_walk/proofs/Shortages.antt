-- How far the least bound of a stop is above a column's height.
use Rattle.std.proofs.Common.{◌≡◌, ℕ, ◌+◌, ◌-◌, ◌<◌, ◌≤◌, min, Bool, true, false, cond, ◌&&◌, List, [], ◌∷◌, ◌++◌, map, Option}
use Rattle.std.proofs.Common.{Some, None, refl, sym, ◌∙◌, ap, arith}
use Rattle.std.specs.Prelude.{fold, nat_lt, nat_le}
use Rattle.std.proofs.lemmas.Bool.Decides.{nat_tests}
use Rattle.flow_list.specs.Column.{Filled, Step, bounds_at, is_cut, room}
use Rattle.flow_list.specs.Folds.{shortage}
use Rattle.column_walk.specs.Stopping.{least_of}

fold-out : (a b : ℕ) (xs : List ℕ) → fold min (min a b) xs ≡ min a (fold min b xs)
fold-out a b [] = refl
fold-out a b (x ∷ xs) = let e : min (min a b) x ≡ min a (min b x) = omega arith in ap (λ n. fold min n xs) e
    ∙ fold-out a (min b x) xs

fold-both : (a : ℕ) (xs ys : List ℕ) → fold min a (xs ++ ys) ≡ fold min (fold min a xs) ys
fold-both a [] ys = refl
fold-both a (x ∷ xs) ys = fold-both (min a x) xs ys

fold-shift : (y b : ℕ) (bs : List ℕ) → fold min (y + b) (map (λ c. y + c) bs) ≡ y + fold min b bs
fold-shift y b [] = refl
fold-shift y b (c ∷ bs) = let e : min (y + b) (y + c) ≡ y + min b c = omega arith in ap (λ n. fold min n (map (λ c. y + c) bs)) e
    ∙ fold-shift y (min b c) bs

-- bounds of a row that begins y above, within the height h, counted from the row's room
shifted : (h y a m : ℕ) (bs : List ℕ) → y ≤ h → a ≡ h - y
    → fold min m (map (λ c. y + c) bs) - h ≡ least_of (m - h) (shortage a bs)
shifted h y a m [] le e = refl
shifted h y a m (b ∷ bs) le e =
    let o = fold-out m (y + b) (map (λ c. y + c) bs) in
    let s = fold-shift y b bs in
    omega arith

module _ (s : Step) (h : ℕ) (above : h < s.need) where
  abbrev begin : ℕ
  begin = s.y + s.bottoms

  begins : (b : Bool) → fold min s.need (cond b (begin ∷ []) []) - h ≡ least_of (s.need - h) (cond b (Some (begin - h)) None)
  begins true = omega arith
  begins false = refl

  cuts : (c : Bool) (made : Filled) (m : ℕ) (inner : Option ℕ) → is_cut s h ≡ c
      → (c ≡ true → inner ≡ shortage (room s h) made.bounds) →
      fold min m (cond c ((begin + s.height) ∷ map (λ b. begin + b) made.bounds) []) - h
      ≡ cond c (least_of (min (m - h) (begin + s.height - h)) inner) (m - h)
  cuts true made m inner is same =
      let low = within (nat_le begin h) (nat_lt (room s h) s.height) refl is in
      let e : room s h ≡ h - begin = omega arith in
      let sub : min m (begin + s.height) - h ≡ min (m - h) (begin + s.height - h) = omega arith in
      shifted h begin (room s h) (min m (begin + s.height)) made.bounds low e
      ∙ ap (λ o. least_of (min m (begin + s.height) - h) o) (sym (same refl)) ∙ ap (λ n. least_of n inner) sub
    where
      within : (a b : Bool) → nat_le begin h ≡ a → (a && b) ≡ true → begin ≤ h
      within true b is e = grind (arith, nat_tests)
      within false b is e = absurd (cc)
  cuts false made m inner is same = refl

  pub row-short : (made : Filled) (inner : Option ℕ) → (is_cut s h ≡ true → inner ≡ shortage (room s h) made.bounds) →
      shortage h (bounds_at s h (Some made))
      ≡ Some (cond (is_cut s h) (least_of
      (min (least_of (s.need - h) (cond (nat_lt 0 s.height && nat_lt h begin) (Some (begin - h)) None))
      (begin + s.height - h)) inner)
      (least_of (s.need - h) (cond (nat_lt 0 s.height && nat_lt h begin) (Some (begin - h)) None)))
  row-short made inner same =
      ap Some (ap (λ n. n - h) (fold-both s.need (cond (nat_lt 0 s.height && nat_lt h begin) (begin ∷ []) [])
      (cond (is_cut s h) ((begin + s.height) ∷ map (λ b. begin + b) made.bounds) []))
      ∙ cuts (is_cut s h) made (fold min s.need (cond (nat_lt 0 s.height && nat_lt h begin) (begin ∷ []) [])) inner refl same
      ∙ ap (λ n. cond (is_cut s h) (least_of (min n (begin + s.height - h)) inner) n)
      (begins (nat_lt 0 s.height && nat_lt h begin)))

  -- as code finds it
  pub cut-short : (made : Filled) (inner : Option ℕ) → is_cut s h ≡ true → inner ≡ shortage (room s h) made.bounds
      → (first : Option ℕ) (least lower least_all : ℕ) →
      first ≡ cond (nat_lt 0 s.height && nat_lt h begin) (Some (begin - h)) None → least ≡ least_of (s.need - h) first
      → lower ≡ min least (begin + s.height - h) → least_all ≡ least_of lower inner →
      Some least_all ≡ shortage h (bounds_at s h (Some made))
  cut-short made inner is same first least lower least_all f l m a =
      ap Some (a ∙ ap (λ n. least_of n inner)
      (m ∙ ap (λ n. min n (begin + s.height - h)) (l ∙ ap (λ o. least_of (s.need - h) o) f)))
      ∙ sym (row-short made inner (λ e. same) ∙ rw is refl)

  pub whole-short : (made : Filled) (inner : Option ℕ) → is_cut s h ≡ false → (first : Option ℕ) (least : ℕ) →
      first ≡ cond (nat_lt 0 s.height && nat_lt h begin) (Some (begin - h)) None → least ≡ least_of (s.need - h) first
      → Some least ≡ shortage h (bounds_at s h (Some made))
  whole-short made inner is first least f l =
      ap Some (l ∙ ap (λ o. least_of (s.need - h) o) f) ∙ sym (row-short made inner (λ e. absurd (cc)) ∙ rw is refl)
