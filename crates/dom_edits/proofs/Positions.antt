-- The first item that passes a test.
use Rattle.std.proofs.Common.{◌≡◌, ℕ, suc, ◌<◌, List, [], ◌∷◌, ◌++◌, length, Bool, true, false, ◌||◌}
use Rattle.std.proofs.Common.{None, Some, nat_lt, refl, ap, arith, length-append}
use Rattle.std.specs.List.{list_any, position, position_or_len}

-- miss item passes, or a first one does
pub data Split {X : Type 0} (p : X → Bool) (xs : List X) : Type 0 where
  none : list_any p xs ≡ false → Split p xs
  at : (pre : List X) (x : X) (rest : List X) → xs ≡ pre ++ x ∷ rest → list_any p pre ≡ false → p x ≡ true → Split p xs

pub split : {X : Type 0} (p : X → Bool) (xs : List X) → Split p xs
split p [] = none refl
split p (x ∷ xs) = by_test (p x) refl (split p xs)
  where
    by_test : (t : Bool) → p x ≡ t → Split p xs → Split p (x ∷ xs)
    by_test true is rest = at [] x xs refl refl is
    by_test false is (none miss) = none (rw (is, miss) refl)
    by_test false is (at pre y rest all miss hit) = at (x ∷ pre) y rest (ap (λ ys. x ∷ ys) all) (rw (is, miss) refl) hit

len_front : {X : Type 0} (p : X → Bool) (pre : List X) (x : X) (rest : List X) → list_any p pre ≡ false → p x ≡ true
    → position_or_len p (pre ++ x ∷ rest) ≡ length pre
len_front p [] x rest miss hit = rw hit refl
len_front p (y ∷ pre) x rest miss hit = by_test (p y) refl miss (len_front p pre x rest)
  where
    by_test : (t : Bool) → p y ≡ t → (t || list_any p pre) ≡ false
        → (list_any p pre ≡ false → p x ≡ true → position_or_len p (pre ++ x ∷ rest) ≡ length pre)
        → position_or_len p (y ∷ (pre ++ x ∷ rest)) ≡ suc (length pre)
    by_test true is e below = absurd (let n : true ≡ false = e in cc)
    by_test false is e below = rw (is, below e hit) (omega arith)

len_none : {X : Type 0} (p : X → Bool) (xs : List X) → list_any p xs ≡ false → position_or_len p xs ≡ length xs
len_none p [] miss = refl
len_none p (y ∷ xs) miss = by_test (p y) refl miss (len_none p xs)
  where
    by_test : (t : Bool) → p y ≡ t → (t || list_any p xs) ≡ false
        → (list_any p xs ≡ false → position_or_len p xs ≡ length xs) → position_or_len p (y ∷ xs) ≡ suc (length xs)
    by_test true is e below = absurd (let n : true ≡ false = e in cc)
    by_test false is e below = rw (is, below e) (omega arith)

below_it : (n m : ℕ) → n < m → nat_lt n m ≡ true
below_it n m lt = grind arith

not_below : (n : ℕ) → nat_lt n n ≡ false
not_below n = grind arith

pub position_front : {X : Type 0} (p : X → Bool) (pre : List X) (x : X) (rest : List X) → list_any p pre ≡ false → p x ≡ true
    → position p (pre ++ x ∷ rest) ≡ Some (length pre)
position_front p pre x rest miss hit =
    let all = length-append pre (x ∷ rest) in
    let lt : length pre < length (pre ++ x ∷ rest) = omega (arith, all) in
    rw (len_front p pre x rest miss hit, below_it _ _ lt) refl

pub position_none : {X : Type 0} (p : X → Bool) (xs : List X) → list_any p xs ≡ false → position p xs ≡ None
position_none p xs miss = rw (len_none p xs miss, not_below (length xs)) refl
