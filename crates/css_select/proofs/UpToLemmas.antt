-- The part of a selector up to its last compound is the selector.
use Rattle.std.proofs.Common.{◌≡◌, ℕ, zero, suc, ◌+◌, ◌<◌, ◌≤◌, true, List, [], ◌∷◌, length, drop, Option, Some, refl, sym, ap}
use Rattle.std.proofs.Common.{subst, arith}
use Rattle.std.specs.Prelude.{slice_get, IsSomeAnd}
use Rattle.std.proofs.lemmas.Option.{slice_get_within}
use Rattle.html_grammar.specs.declared.dom.Dom.{Dom}
use Rattle.css_data.specs.declared.selector.Compound.{Compound}
use Rattle.css_data.specs.declared.selector.Join.{Join}
use Rattle.css_data.specs.declared.selector.Selector.{Selector}
use Rattle.css_select.specs.Matching.{Stands, Leads, LeadsFromFirst}
use Rattle.css_select.specs.Tests.{Meets}
use Rattle.css_select.specs.Walking.{any_join, MeetsAt, UpTo}

-- an element and what stands after it
split_at : {X : Type 0} (xs : List X) (i : ℕ) (P : X → Type 0) → IsSomeAnd (slice_get xs i) P
    → (x : X) × (drop i xs ≡ x ∷ drop (suc i) xs) × P x
split_at [] i P h = absurd h
split_at (x ∷ xs) zero P h = (x, refl, h)
split_at (x ∷ xs) (suc i) P h = split_at xs i P h

at_split : {X : Type 0} (xs : List X) (i : ℕ) (x : X) (rest : List X) → drop i xs ≡ x ∷ rest → slice_get xs i ≡ Some x
at_split [] zero x rest h = absurd cc
at_split [] (suc i) x rest h = absurd cc
at_split (y ∷ xs) zero x rest h = ap Some cc
at_split (y ∷ xs) (suc i) x rest h = at_split xs i x rest h

behind_split : {X : Type 0} (xs : List X) (i : ℕ) (x : X) (rest : List X) → drop i xs ≡ x ∷ rest → drop (suc i) xs ≡ rest
behind_split [] zero x rest h = absurd cc
behind_split [] (suc i) x rest h = absurd cc
behind_split (y ∷ xs) zero x rest h = cc
behind_split (y ∷ xs) (suc i) x rest h = behind_split xs i x rest h

none_behind : {X : Type 0} (xs : List X) (i : ℕ) → length xs ≤ i → drop i xs ≡ []
none_behind [] zero h = refl
none_behind [] (suc i) h = refl
none_behind (x ∷ xs) zero h = absurd (omega arith)
none_behind (x ∷ xs) (suc i) h = none_behind xs i (omega arith)

behind_none : {X : Type 0} (xs : List X) (i : ℕ) → drop i xs ≡ [] → length xs ≤ i
behind_none [] i h = omega arith
behind_none (x ∷ xs) zero h = absurd cc
behind_none (x ∷ xs) (suc i) h = let more = behind_none xs i h in omega arith

module _ (dom : Dom) (js : List Join) (cs : List Compound) (n : ℕ) where
  abbrev s : Selector
  s = record { compounds = cs; joins = js }

  first : (m : ℕ) → MeetsAt dom s zero m → Leads dom js (drop 1 cs) m n → LeadsFromFirst dom js cs n
  first m meets leads = from cs m meets leads
    where
      from : (cs : List Compound) (m : ℕ) → IsSomeAnd (slice_get cs zero) (λ c. Meets dom c m) → Leads dom js (drop 1 cs) m n
          → LeadsFromFirst dom js cs n
      from [] m meets leads = absurd meets
      from (c ∷ cs) m meets leads = (m, meets, leads)

  back : (i m : ℕ) → UpTo dom s i m → Leads dom (drop i js) (drop (suc i) cs) m n → LeadsFromFirst dom js cs n
  back zero m up leads = first m up leads
  back (suc i) m (k, meets, joined, up) leads =
      let here = split_at js i (λ j. (any_join j ≡ true) × Stands dom j k m) joined in
      let there = split_at cs (suc i) (λ c. Meets dom c m) meets in
      let P : List Join → Type 0 = λ v. Leads dom v (drop (suc i) cs) k n in
      let Q : List Compound → Type 0 = λ v. Leads dom (here.0 ∷ drop (suc i) js) v k n in
      back i k up (subst P (sym here.1) (subst Q (sym there.1) (m, here.2.1, there.2, leads)))

  forth : (left : List Join) (more : List Compound) (i m : ℕ) → drop i js ≡ left → drop (suc i) cs ≡ more → i < length cs
      → UpTo dom s i m → Leads dom left more m n → (k : ℕ) → length cs ≡ suc k → UpTo dom s k n
  forth [] [] i m e f fits up leads k is =
      let past = behind_none cs (suc i) f in
      let same : i ≡ k = omega arith in
      let P : ℕ → Type 0 = λ v. UpTo dom s i v in
      let Q : ℕ → Type 0 = λ v. UpTo dom s v n in
      subst Q same (subst P leads up)
  forth [] (c ∷ more) i m e f fits up leads k is = absurd leads
  forth (j ∷ left) [] i m e f fits up leads k is = absurd leads
  forth (j ∷ left) (c ∷ more) i m e f fits up (l, stands, meets, leads) k is =
      let P : Option Join → Type 0 = λ o. IsSomeAnd o (λ v. (any_join v ≡ true) × Stands dom v m l) in
      let Q : Option Compound → Type 0 = λ o. IsSomeAnd o (λ v. Meets dom v l) in
      let at = at_split cs (suc i) c more f in
      let within = slice_get_within cs (suc i) c at in
      forth left more (suc i) l (behind_split js i j left e) (behind_split cs (suc i) c more f) within
      (m, subst Q (sym at) meets, subst P (sym (at_split js i j left e)) (refl, stands), up) leads k is

-- the selector matches where the part up to its last compound does
pub matches_from_last : (dom : Dom) (selector : Selector) (k n : ℕ) → length selector.joins + 1 ≡ length selector.compounds
    → length selector.compounds ≡ suc k → UpTo dom selector k n → LeadsFromFirst dom selector.joins selector.compounds n
matches_from_last dom selector k n ready is up =
    let P : List Join → Type 0 = λ v. Leads dom v (drop (suc k) selector.compounds) n n in
    let Q : List Compound → Type 0 = λ v. Leads dom [] v n n in
    let no_joins : drop k selector.joins ≡ [] = none_behind selector.joins k (omega arith) in
    let no_compounds : drop (suc k) selector.compounds ≡ [] = none_behind selector.compounds (suc k) (omega arith) in
    back dom selector.joins selector.compounds n k n up (subst P (sym no_joins) (subst Q (sym no_compounds) refl))

last_from : (dom : Dom) (js : List Join) (cs : List Compound) (k n : ℕ) → length cs ≡ suc k → LeadsFromFirst dom js cs n
    → UpTo dom (record { compounds = cs; joins = js }) k n
last_from dom js [] k n is h = absurd h
last_from dom js (c ∷ cs) k n is (m, meets, leads) = forth dom js (c ∷ cs) n js cs zero m refl refl (omega arith) meets leads k is

pub last_from_matches : (dom : Dom) (selector : Selector) (k n : ℕ) → length selector.compounds ≡ suc k
    → LeadsFromFirst dom selector.joins selector.compounds n → UpTo dom selector k n
last_from_matches dom selector k n is h = last_from dom selector.joins selector.compounds k n is h

-- lists of other lengths have no path
lead_lengths : (dom : Dom) (js : List Join) (cs : List Compound) (m n : ℕ) → Leads dom js cs m n → length js ≡ length cs
lead_lengths dom [] [] m n h = refl
lead_lengths dom [] (c ∷ cs) m n h = absurd h
lead_lengths dom (j ∷ js) [] m n h = absurd h
lead_lengths dom (j ∷ js) (c ∷ cs) m n (l, stands, meets, h) = ap suc (lead_lengths dom js cs l n h)

pub match_lengths : (dom : Dom) (js : List Join) (cs : List Compound) (n : ℕ) → LeadsFromFirst dom js cs n
    → length js + 1 ≡ length cs
match_lengths dom js [] n h = absurd h
match_lengths dom js (c ∷ cs) n (m, meets, h) = let same = lead_lengths dom js cs m n h in omega arith
