-- What stands in the list of the places where a column may end: the seams between its items, and the place inside its stop.
use Rattle.std.proofs.Common.{◌≡◌, ℕ, zero, suc, ◌+◌, ◌≤◌, Bool, true, false, cond, not, ◌&&◌, List, [], ◌∷◌, ◌++◌, length, take}
use Rattle.std.proofs.Common.{Option, Some, None, refl, sym, ◌∙◌, ap, subst, arith, ◌⊎◌, inl, inr}
use Rattle.std.specs.Prelude.{nat_lt, nat_le, slice_get}
use Rattle.std.proofs.lemmas.Bool.Decides.{nat_tests}
use Rattle.flow_list.specs.Tokens.{Token}
use Rattle.flow_list.specs.Column.{Cut, cut, fill_in_room, inside, inside_place, Inner, is_cut, longer, Place, room, seams_before}
use Rattle.flow_list.specs.Column.{seams_between, Step}
use Rattle.piece_laws.specs.Choice.{IsInside, IsStop, seam_place}

-- ---- lists

pub get-left : {X : Type 0} (xs ys : List X) (k : ℕ) (x : X) → slice_get xs k ≡ Some x → slice_get (xs ++ ys) k ≡ Some x
get-left [] ys k x e = absurd cc
get-left (z ∷ xs) ys zero x e = e
get-left (z ∷ xs) ys (suc k) x e = get-left xs ys k x e

pub get-right : {X : Type 0} (xs ys : List X) (k n : ℕ) (x : X) → k ≡ length xs + n → slice_get ys n ≡ Some x →
    slice_get (xs ++ ys) k ≡ Some x
get-right {X} [] ys k n x is e = let same : n ≡ k = omega arith in subst (λ (m : ℕ). slice_get ys m ≡ Some x) same e
get-right (z ∷ xs) ys zero n x is e = absurd (omega arith)
get-right (z ∷ xs) ys (suc k) n x is e = get-right xs ys k n x (omega arith) e

pub get-which : {X : Type 0} (xs ys : List X) (k : ℕ) (x : X) → slice_get (xs ++ ys) k ≡ Some x →
    (slice_get xs k ≡ Some x) ⊎ ((n : ℕ) × (k ≡ length xs + n) × (slice_get ys n ≡ Some x))
get-which [] ys k x e = inr (k, omega arith, e)
get-which (z ∷ xs) ys zero x e = inl e
get-which {X} (z ∷ xs) ys (suc k) x e = go (get-which xs ys k x e)
  where
    go : (slice_get xs k ≡ Some x) ⊎ ((n : ℕ) × (k ≡ length xs + n) × (slice_get ys n ≡ Some x)) →
        (slice_get xs k ≡ Some x) ⊎ ((n : ℕ) × (suc k ≡ length (z ∷ xs) + n) × (slice_get ys n ≡ Some x))
    go (inl a) = inl a
    go (inr (n, is, b)) = inr (n, omega arith, b)

-- ---- the items up to the stop

pub cut-is : (h j : ℕ) (s : Step) (ss : List Step) → IsStop h ss j s → cut h ss ≡ record { before = take j ss; stop = Some s }
cut-is h zero s [] i = absurd (let e = i.among in cc)
cut-is h zero s (x ∷ ss) i = go (nat_lt h x.need) refl
  where
    same : x ≡ s
    same = let e = i.among in cc

    go : (b : Bool) → nat_lt h x.need ≡ b →
        cond b (record { before = []; stop = Some x }) (longer x (cut h ss))
        ≡ (let c : Cut = record { before = []; stop = Some s } in c)
    go true e = ap (λ (y : Step). let c : Cut = record { before = []; stop = Some y } in c) same
    go false e = absurd (let n : x.need ≡ s.need = ap (λ (y : Step). y.need) same in let above = i.above in
        grind (arith, nat_tests))
cut-is h (suc j) s [] i = absurd (let e = i.among in cc)
cut-is h (suc j) s (x ∷ ss) i =
    go (nat_lt h x.need) refl (cut-is h j s ss
    (record { among = i.among; above = i.above; first = λ k z lt e. i.first (suc k) z (omega arith) e }))
  where
    go : (b : Bool) → nat_lt h x.need ≡ b → cut h ss ≡ record { before = take j ss; stop = Some s } →
        cond b (record { before = []; stop = Some x }) (longer x (cut h ss))
        ≡ (let c : Cut = record { before = x ∷ take j ss; stop = Some s } in c)
    go true e later = absurd (let low = i.first 0 x (omega arith) refl in grind (arith, nat_tests))
    go false e later = ap (longer x) later

-- these items up to the stop
abbrev pub up_to : List Step → ℕ → Step → List Step
up_to ss j s = take j ss ++ s ∷ []

pub prefix-to : (ss : List Step) (j : ℕ) (s : Step) → slice_get ss j ≡ Some s → (k : ℕ) (b : Step) →
    slice_get (up_to ss j s) k ≡ Some b → (k ≤ j) × (slice_get ss k ≡ Some b)
prefix-to [] j s e k b h = absurd cc
prefix-to (x ∷ ss) zero s e zero b h = (omega arith, e ∙ h)
prefix-to (x ∷ ss) zero s e (suc k) b h = absurd cc
prefix-to (x ∷ ss) (suc j) s e zero b h = (omega arith, h)
prefix-to (x ∷ ss) (suc j) s e (suc k) b h = let r = prefix-to ss j s e k b h in let le = r.0 in (omega arith, r.1)

pub prefix-from : (ss : List Step) (j : ℕ) (s : Step) → slice_get ss j ≡ Some s → (k : ℕ) (b : Step) → k ≤ j →
    slice_get ss k ≡ Some b → slice_get (up_to ss j s) k ≡ Some b
prefix-from [] j s e k b le h = absurd cc
prefix-from (x ∷ ss) zero s e zero b le h = sym e ∙ h
prefix-from (x ∷ ss) zero s e (suc k) b le h = absurd (omega arith)
prefix-from (x ∷ ss) (suc j) s e zero b le h = h
prefix-from (x ∷ ss) (suc j) s e (suc k) b le h = prefix-from ss j s e k b (omega arith) h

pub prefix-length : (ss : List Step) (j : ℕ) (s : Step) → slice_get ss j ≡ Some s → length (up_to ss j s) ≡ suc j
prefix-length [] j s e = absurd cc
prefix-length (x ∷ ss) zero s e = refl
prefix-length (x ∷ ss) (suc j) s e = ap suc (prefix-length ss j s e)

-- ---- the seams between items

before-length : (need : ℕ) (xs : List Step) → length (seams_before need xs) ≡ length xs
before-length need [] = refl
before-length need (x ∷ xs) = ap suc (before-length x.need xs)

pub between-length : (xs : List Step) (j : ℕ) → length xs ≡ suc j → length (seams_between xs) ≡ j
between-length [] j e = absurd (omega arith)
between-length (x ∷ xs) j e = let n = before-length x.need xs in omega arith

-- the seam before an item of these
pub record IsBetween (xs : List Step) (k : ℕ) (p : Place) : Type 0 where
  pub before : Step
  pub behind : Step
  pub before_is : slice_get xs k ≡ Some before
  pub behind_is : slice_get xs (suc k) ≡ Some behind
  pub is : p ≡ seam_place before behind

seams-to : (a : Step) (xs : List Step) (k : ℕ) (p : Place) → slice_get (seams_before a.need xs) k ≡ Some p →
    IsBetween (a ∷ xs) k p
seams-to a [] k p e = absurd cc
seams-to a (s ∷ ss) zero p e = record {
  before = a;
  behind = s;
  before_is = refl;
  behind_is = refl;
  is = let same : seam_place a s ≡ p = cc in sym same;
}
seams-to a (s ∷ ss) (suc k) p e = let r = seams-to s ss k p e in
    record { before = r.before; behind = r.behind; before_is = r.before_is; behind_is = r.behind_is; is = r.is }

pub between-to : (xs : List Step) (k : ℕ) (p : Place) → slice_get (seams_between xs) k ≡ Some p → IsBetween xs k p
between-to [] k p e = absurd cc
between-to (x ∷ xs) k p e = seams-to x xs k p e

seams-from : (a : Step) (xs : List Step) (k : ℕ) (b c : Step) → slice_get (a ∷ xs) k ≡ Some b → slice_get xs k ≡ Some c →
    slice_get (seams_before a.need xs) k ≡ Some (seam_place b c)
seams-from a [] k b c e h = absurd cc
seams-from a (s ∷ ss) zero b c e h =
    let first : a ≡ b = cc in let second : s ≡ c = cc in
    ap (λ (x : Step). Some (seam_place x s)) first ∙ ap (λ (y : Step). Some (seam_place b y)) second
seams-from a (s ∷ ss) (suc k) b c e h = seams-from s ss k b c e h

pub between-from : (xs : List Step) (k : ℕ) (b c : Step) → slice_get xs k ≡ Some b → slice_get xs (suc k) ≡ Some c →
    slice_get (seams_between xs) k ≡ Some (seam_place b c)
between-from [] k b c e h = absurd cc
between-from (x ∷ xs) k b c e h = seams-from x xs k b c e h

-- ---- the place inside the stop

module _ (inner : Inner) (avoids : Bool) (h : ℕ) (s : Step) where
  both-parts : (a b c : Bool) → ((a && b) && not c) ≡ true → (a ≡ true) × (b ≡ true) × (c ≡ false)
  both-parts true true true e = cc
  both-parts true true false e = (refl, refl, refl)
  both-parts true false c e = cc
  both-parts false b c e = cc

  all-true : (a b c : Bool) → a ≡ true → b ≡ true → c ≡ false → ((a && b) && not c) ≡ true
  all-true a b c x y z = rw (x, y, z) refl

  pub inside-to : (row : Option (ℕ × Token)) → s.row ≡ row → (n : ℕ) (p : Place) →
      slice_get (inside avoids s h (fill_in_room inner row (room s h))) n ≡ Some p → (n ≡ 0) × IsInside inner avoids h s p
  inside-to None is n p e = absurd cc
  inside-to (Some r) is n p e = go (is_cut s h && not (inner.fill r.0 r.1 (room s h)).overflow) refl n e
    where
      go : (b : Bool) → (is_cut s h && not (inner.fill r.0 r.1 (room s h)).overflow) ≡ b → (n : ℕ) →
          slice_get (cond b (inside_place avoids s (room s h) (inner.fill r.0 r.1 (room s h)) ∷ []) []) n ≡ Some p →
          (n ≡ 0) × IsInside inner avoids h s p
      go true t zero e =
          let parts = both-parts (nat_le (s.y + s.bottoms) h) (nat_lt (room s h) s.height)
          (inner.fill r.0 r.1 (room s h)).overflow t in
          let a = parts.0 in
          let b = parts.1 in
          let same : inside_place avoids s (room s h) (inner.fill r.0 r.1 (room s h)) ≡ p = cc in (
            refl,
            record {
              row = r;
              row_is = is;
              begins = grind (arith, nat_tests);
              low = grind (arith, nat_tests);
              fits = parts.2;
              is = sym same;
            },
          )
      go true t (suc n) e = absurd cc
      go false t n e = absurd cc

  pub inside-from : (row : Option (ℕ × Token)) → s.row ≡ row → (p : Place) → IsInside inner avoids h s p →
      slice_get (inside avoids s h (fill_in_room inner row (room s h))) 0 ≡ Some p
  inside-from None is p i = absurd (let some = i.row_is in cc)
  inside-from (Some r) is p i =
      let same : i.row ≡ r = (let some = i.row_is in cc) in
      let fits = subst (λ (r : ℕ × Token). (inner.fill r.0 r.1 (room s h)).overflow ≡ false) same i.fits in
      let place = subst (λ (r : ℕ × Token). p ≡ inside_place avoids s (room s h) (inner.fill r.0 r.1 (room s h))) same i.is in
      let begins = i.begins in
      let low = i.low in
      let a : nat_le (s.y + s.bottoms) h ≡ true = grind (arith, nat_tests) in
      let b : nat_lt (room s h) s.height ≡ true = grind (arith, nat_tests) in
      let t = all-true (nat_le (s.y + s.bottoms) h) (nat_lt (room s h) s.height)
      (inner.fill r.0 r.1 (room s h)).overflow a b fits in
      ap (λ (t : Bool). slice_get (cond t (inside_place avoids s (room s h) (inner.fill r.0 r.1 (room s h)) ∷ []) []) 0) t
      ∙ ap Some (sym place)
