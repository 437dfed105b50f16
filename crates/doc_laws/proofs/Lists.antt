-- What holds of each element of a list, by recursion on it.
use Rattle.std.proofs.Common.{◌≡◌, List, [], ◌∷◌, ◌++◌, sym, subst}
use Rattle.std.specs.Prelude.{reverse, drop}
use Rattle.std.specs.List.{AllByRecursion}
use Rattle.std.proofs.lemmas.List.{reverse-append}

pub join_all : {A : Type 0} (P : A → Type 0) (xs ys : List A) → AllByRecursion P xs → AllByRecursion P ys
    → AllByRecursion P (xs ++ ys)
join_all {A} P [] ys h k = k
join_all {A} P (x ∷ xs) ys h k = (h.0, join_all P xs ys h.1 k)

pub split_all : {A : Type 0} (P : A → Type 0) (xs ys : List A) → AllByRecursion P (xs ++ ys)
    → AllByRecursion P xs × AllByRecursion P ys
split_all {A} P [] ys h = (tt, h)
split_all {A} P (x ∷ xs) ys h = let r = split_all P xs ys h.1 in ((h.0, r.0), r.1)

pub all_weaker : {A : Type 0} (P Q : A → Type 0) → ((a : A) → P a → Q a) → (xs : List A) → AllByRecursion P xs
    → AllByRecursion Q xs
all_weaker {A} P Q f [] h = tt
all_weaker {A} P Q f (x ∷ xs) h = (f x h.0, all_weaker P Q f xs h.1)

pub all_reverse : {A : Type 0} (P : A → Type 0) (xs : List A) → AllByRecursion P xs → AllByRecursion P (reverse xs)
all_reverse {A} P [] h = tt
all_reverse {A} P (x ∷ xs) h =
    let front : reverse (x ∷ xs) ≡ reverse xs ++ x ∷ [] = reverse-append (x ∷ []) xs in
    subst (λ (ys : List A). AllByRecursion P ys) (sym front) (join_all P (reverse xs) (x ∷ []) (all_reverse P xs h.1) (h.0, tt))

pub all_drop : {A : Type 0} (P : A → Type 0) (xs : List A) → AllByRecursion P xs → AllByRecursion P (drop 1 xs)
all_drop {A} P [] h = h
all_drop {A} P (x ∷ xs) h = h.1
