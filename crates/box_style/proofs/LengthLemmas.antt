-- The first length above a limit, in lists that stand one after the other.
use Rattle.std.proofs.Common.{◌≡◌, ℕ, suc, zero, ◌+◌, ◌<◌, List, [], ◌∷◌, ◌++◌, Bool, true, false, cond, drop, length, get_or}
use Rattle.std.proofs.Common.{refl, sym, ◌∙◌}
use Rattle.std.specs.Prelude.{Some, None, IfSome, nat_lt, flat_map, slice_get}
use Rattle.std.proofs.lemmas.List.{at_drop_more}
use Rattle.box_data.specs.Limits.{first_above}

pub above_after_none : (limit : ℕ) (xs ys : List ℕ) → first_above limit xs ≡ None
    → first_above limit (xs ++ ys) ≡ first_above limit ys
above_after_none limit [] ys e = refl
above_after_none limit (x ∷ xs) ys e = by (nat_lt limit x) e (above_after_none limit xs ys)
  where
    by : (b : Bool) → cond b (Some x) (first_above limit xs) ≡ None
        → (first_above limit xs ≡ None → first_above limit (xs ++ ys) ≡ first_above limit ys)
        → cond b (Some x) (first_above limit (xs ++ ys)) ≡ first_above limit ys
    by true e more = cc
    by false e more = more e

pub above_before_some : (limit : ℕ) (xs ys : List ℕ) (u : ℕ) → first_above limit xs ≡ Some u
    → first_above limit (xs ++ ys) ≡ Some u
above_before_some limit [] ys u e = cc
above_before_some limit (x ∷ xs) ys u e = by (nat_lt limit x) e (above_before_some limit xs ys u)
  where
    by : (b : Bool) → cond b (Some x) (first_above limit xs) ≡ Some u
        → (first_above limit xs ≡ Some u → first_above limit (xs ++ ys) ≡ Some u)
        → cond b (Some x) (first_above limit (xs ++ ys)) ≡ Some u
    by true e more = e
    by false e more = more e

pub none_above_first : (limit : ℕ) (xs ys : List ℕ) → first_above limit (xs ++ ys) ≡ None → first_above limit xs ≡ None
none_above_first limit [] ys e = refl
none_above_first limit (x ∷ xs) ys e = by (nat_lt limit x) e (none_above_first limit xs ys)
  where
    by : (b : Bool) → cond b (Some x) (first_above limit (xs ++ ys)) ≡ None
        → (first_above limit (xs ++ ys) ≡ None → first_above limit xs ≡ None) → cond b (Some x) (first_above limit xs) ≡ None
    by true e more = cc
    by false e more = more e

-- the first element of a list with a length above the limit has the first such length of the list
pub long_here : {X : Type 0} (f : X → List ℕ) (limit : ℕ) (xs : List X) (i : ℕ) (d : X) (u : ℕ) → i < length xs
    → first_above limit (f (get_or xs i d)) ≡ Some u → first_above limit (flat_map f (drop i xs)) ≡ Some u
long_here f limit xs i d u h e =
    at_drop_more (λ ys. first_above limit (flat_map f ys)) xs i d h
    ∙ above_before_some limit (f (get_or xs i d)) (flat_map f (drop (i + 1) xs)) u e

pub long_later : {X : Type 0} (f : X → List ℕ) (limit : ℕ) (xs : List X) (i : ℕ) (d : X) → i < length xs
    → first_above limit (f (get_or xs i d)) ≡ None
    → first_above limit (flat_map f (drop (i + 1) xs)) ≡ first_above limit (flat_map f (drop i xs))
long_later f limit xs i d h e =
    sym (at_drop_more (λ ys. first_above limit (flat_map f ys)) xs i d h
    ∙ above_after_none limit (f (get_or xs i d)) (flat_map f (drop (i + 1) xs)) e)

-- where none has, each has none
pub each_low : {X : Type 0} (f : X → List ℕ) (limit : ℕ) (xs : List X) → first_above limit (flat_map f xs) ≡ None → (n : ℕ)
    → IfSome (slice_get xs n) (λ x. first_above limit (f x) ≡ None)
each_low f limit [] e n = tt
each_low f limit (x ∷ xs) e zero = none_above_first limit (f x) (flat_map f xs) e
each_low f limit (x ∷ xs) e (suc n) =
    each_low f limit xs
    (sym (above_after_none limit (f x) (flat_map f xs) (none_above_first limit (f x) (flat_map f xs) e)) ∙ e) n
