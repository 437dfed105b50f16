-- Tests of each item of a list, and of the edges of seams.
use Rattle.std.proofs.Common.{◌≡◌, ℕ, ◌<◌, Bool, true, false, List, [], ◌∷◌, ◌++◌, length, refl, arith, All, flat_map}
use Rattle.std.specs.Prelude.{◌↔◌, MatchBool}
use Rattle.std.specs.List.{AllWithin, HoldsAt}
use Rattle.std.proofs.lemmas.List.Elements.{All-from_all_within, All-nil, All-cons, All-head, All-tail}

-- a walk that stops at the first item that fails tells whether all pass
pub all_iff : {X : Type 0} (P : X → Type 0) (xs : List X) (r : Bool)
    → MatchBool r (AllWithin P xs 0 (length xs)) ((k : ℕ) × (k < length xs) × HoldsAt (λ x. P x → ⊥) xs k) → (r ≡ true) ↔ All P xs
all_iff P [] true h = (λ _. All-from_all_within P [] h, λ _. refl)
all_iff P (x ∷ xs) true h = (λ _. All-from_all_within P (x ∷ xs) h, λ _. refl)
all_iff P [] false (k, lt, fails) = absurd (omega arith)
all_iff P (x ∷ xs) false (k, lt, fails) = (λ e. absurd cc, λ all. absurd (fails x (all k x lt)))

-- what is joined of empty lists is empty, and of no others
pub joined_none : {A B : Type 0} (f : A → List B) (xs : List A) → All (λ x. f x ≡ []) xs ↔ (flat_map f xs ≡ [])
joined_none {A = A} {B = B} f xs = (none xs, each xs)
  where
    none : (xs : List A) → All (λ x. f x ≡ []) xs → flat_map f xs ≡ []
    none [] all = refl
    none (x ∷ xs) all = rw (All-head (λ x. f x ≡ []) x xs all) (none xs (All-tail (λ x. f x ≡ []) x xs all))

    left : (ys zs : List B) → ys ++ zs ≡ [] → (ys ≡ []) × (zs ≡ [])
    left [] zs e = (refl, e)
    left (y ∷ ys) zs e = absurd cc

    each : (xs : List A) → flat_map f xs ≡ [] → All (λ x. f x ≡ []) xs
    each [] e = All-nil _
    each (x ∷ xs) e = All-cons (λ x. f x ≡ []) x xs (left (f x) (flat_map f xs) e).0 (each xs (left (f x) (flat_map f xs) e).1)

pub both_ways : {A B C : Type 0} → A ↔ B → B ↔ C → A ↔ C
both_ways ab bc = (λ a. bc.0 (ab.0 a), λ c. ab.1 (bc.1 c))
