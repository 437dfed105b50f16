-- Boxes that are named once, and nesting along a walk over edges.
use Rattle.std.proofs.Common.{◌≡◌, ◌≢◌, ℕ, ◌+◌, ◌<◌, Bool, true, false, cond, ◌||◌, List, [], ◌∷◌, ◌++◌, length, take, get_or}
use Rattle.std.proofs.Common.{sym, subst, ap, ◌∙◌, arith, eqb-true, eq-eqb, length-take}
use Rattle.std.specs.Prelude.{AllPairs, ◌==◌}
use Rattle.std.specs.BTreeMap.{is_at}
use Rattle.std.specs.Ordering.{nat_cmp}
use Rattle.std.proofs.lemmas.Bool.Decides.{nat_tests}
use Rattle.std.proofs.lemmas.List.{take_more, get_or-take}
use Rattle.std.proofs.lemmas.List.Folds.{Any-from_list_any, list_any_at, list_any_more}
use Rattle.std.proofs.lemmas.List.Quantifiers.{all_pairs_push}
use Rattle.flow_data.specs.Flows.{is_among}

-- a number that stood before stands twice
pub twice : (xs : List ℕ) (i x : ℕ) → i < length xs → x ≡ get_or xs i x → is_among (take i xs) x ≡ true
    → AllPairs (λ a b. a ≢ b) xs → ⊥
twice xs i x lt here among pairs = go (Any-from_list_any (λ c. c == x) (take i xs) among)
  where
    go : (k : ℕ) × (y : ℕ) × (k < length (take i xs)) × (get_or (take i xs) k y ≡ y) × ((y == x) ≡ true) → ⊥
    go (k, y, within, at, same) =
        let before : k < i = omega (arith, length-take i xs) in
        let first : get_or xs k y ≡ y = sym (get_or-take i xs k y before) ∙ at in
        let is : y ≡ x = eqb-true y x same in
        pairs k i y before lt (first ∙ is ∙ (rw is here))

-- one that didn't stands apart from all
pub apart : (xs : List ℕ) (i x : ℕ) → i < length xs → x ≡ get_or xs i x → is_among (take i xs) x ≡ false
    → AllPairs (λ a b. a ≢ b) (take i xs) → AllPairs (λ a b. a ≢ b) (take (i + 1) xs)
apart xs i x lt here among pairs =
    let more : take (i + 1) xs ≡ take i xs ++ x ∷ [] = take_more xs i x lt ∙ ap (λ y. take i xs ++ y ∷ []) (sym here) in
    subst (AllPairs (λ a b. a ≢ b)) (sym more) (all_pairs_push (λ a b. a ≢ b) (take i xs) x pairs (λ k d within same.
    let twice : is_among (take i xs) x ≡ true =
    list_any_at (λ c. c == x) (take i xs) k d within (eq-eqb (get_or (take i xs) k d) x same) in
    absurd cc))

-- what a set has seen once it has x too
pub seen_more : (xs : List ℕ) (i x q : ℕ) (was : Bool) → i < length xs → x ≡ get_or xs i x → was ≡ is_among (take i xs) q
    → cond (is_at (nat_cmp x) q) true was ≡ is_among (take (i + 1) xs) q
seen_more xs i x q was lt here so_far =
    let more : is_among (take (i + 1) xs) q ≡ (is_among (take i xs) q || (x == q)) = list_any_more (λ c. c == q) xs i x lt
    ∙ ap (λ y. is_among (take i xs) q || (y == q)) (sym here) in
    let step : cond (is_at (nat_cmp x) q) true was ≡ (was || (x == q)) = go was in
    step ∙ ap (λ b. b || (x == q)) so_far ∙ sym more
  where
    go : (b : Bool) → cond (is_at (nat_cmp x) q) true b ≡ (b || (x == q))
    go true = grind (arith, nat_tests)
    go false = grind (arith, nat_tests)
