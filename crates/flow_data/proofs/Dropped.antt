-- What stands at a place of a list, and after it.
use Rattle.std.proofs.Common.{◌≡◌, ℕ, suc, ◌+◌, List, ◌∷◌, ◌++◌, length, get_or, drop, sym, ap, ◌∙◌, subst, arith}
use Rattle.std.proofs.lemmas.List.{drop-drop, drop_at, get_or-drop}

pub first_at : {X : Type 0} (xs ys : List X) (k : ℕ) (x d : X) → drop k xs ≡ x ∷ ys → get_or xs k d ≡ x
first_at {X} xs ys k x d e =
    let at : k + 0 ≡ k = omega arith in
    let here = subst (λ (i : ℕ). get_or (drop k xs) 0 d ≡ get_or xs i d) at (get_or-drop k xs 0 d) in
    sym here ∙ ap (λ (l : List X). get_or l 0 d) e

pub behind_first : {X : Type 0} (xs ys : List X) (k : ℕ) (x : X) → drop k xs ≡ x ∷ ys → drop (suc k) xs ≡ ys
behind_first {X} xs ys k x e =
    let at : k + 1 ≡ suc k = omega arith in
    let here = subst (λ (i : ℕ). drop 1 (drop k xs) ≡ drop i xs) at (drop-drop 1 k xs) in
    sym here ∙ ap (λ (l : List X). drop 1 l) e

pub behind_front : {X : Type 0} (xs front ys : List X) (k n : ℕ) → length front ≡ n → drop k xs ≡ front ++ ys
    → drop (k + n) xs ≡ ys
behind_front {X} xs front ys k n len e = sym (drop-drop n k xs) ∙ ap (λ (l : List X). drop n l) e ∙ drop_at front ys n len
