-- The first number above a limit, number by number.
use Rattle.std.proofs.Common.{◌≡◌, ℕ, ◌+◌, ◌<◌, true, false, List, [], ◌∷◌, ◌++◌, length, get_or, drop, Option, Some, None}
use Rattle.std.proofs.Common.{refl, sym, ap, ◌∙◌}
use Rattle.std.specs.Prelude.{flat_map, is_some, nat_lt, if◌then◌else◌}
use Rattle.std.proofs.lemmas.List.{at_drop_more}
use Rattle.std.proofs.lemmas.Bool.{true≢false, false≢true}
use Rattle.box_data.specs.BoxTree.{or_else}
use Rattle.box_data.specs.Limits.{first_above}

first_append : (limit : ℕ) (xs ys : List ℕ) → first_above limit (xs ++ ys) ≡ or_else (first_above limit xs) (first_above limit ys)
first_append limit [] ys = refl
first_append limit (x ∷ xs) ys =
    elim (nat_lt limit x) as (λ b. (if b then Some x else first_above limit (xs ++ ys))
    ≡ or_else (if b then Some x else first_above limit xs) (first_above limit ys))
    [ true ↦ refl | false ↦ first_append limit xs ys ]

-- What is left from item i on has the first number above the limit.
abbrev pub IsFirstFrom : {A : Type 0} → (ℕ) → (A → List ℕ) → List A → ℕ → Type 0
IsFirstFrom limit f xs i = first_above limit (flat_map f (drop i xs)) ≡ first_above limit (flat_map f xs)

-- where d is what stands there, and o the first number above the limit in it
pub first_in : {A : Type 0} (limit : ℕ) (f : A → List ℕ) (xs : List A) (i : ℕ) (d : A) (o : Option ℕ) → i < length xs
    → d ≡ get_or xs i d → o ≡ first_above limit (f d) → is_some o ≡ true → IsFirstFrom limit f xs i
    → o ≡ first_above limit (flat_map f xs)
first_in limit f xs i d None inside here found some h = absurd (false≢true some)
first_in limit f xs i d (Some n) inside here found some h =
    ap (λ o. or_else o (first_above limit (flat_map f (drop (i + 1) xs)))) (found ∙ ap (λ x. first_above limit (f x)) here)
    ∙ sym (first_append limit (f (get_or xs i d)) (flat_map f (drop (i + 1) xs)))
    ∙ sym (at_drop_more (λ left. first_above limit (flat_map f left)) xs i d inside) ∙ h

pub first_more : {A : Type 0} (limit : ℕ) (f : A → List ℕ) (xs : List A) (i : ℕ) (d : A) (o : Option ℕ) → i < length xs
    → d ≡ get_or xs i d → o ≡ first_above limit (f d) → is_some o ≡ false → IsFirstFrom limit f xs i
    → IsFirstFrom limit f xs (i + 1)
first_more limit f xs i d (Some n) inside here found none h = absurd (true≢false none)
first_more limit f xs i d None inside here found none h =
    ap (λ o. or_else o (first_above limit (flat_map f (drop (i + 1) xs)))) (found ∙ ap (λ x. first_above limit (f x)) here)
    ∙ sym (first_append limit (f (get_or xs i d)) (flat_map f (drop (i + 1) xs)))
    ∙ sym (at_drop_more (λ left. first_above limit (flat_map f left)) xs i d inside) ∙ h
