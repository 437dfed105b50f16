-- What is found in a list.
use Rattle.std.proofs.Common.{◌≡◌, List, [], ◌∷◌, Bool, true, false, cond, subst}
use Rattle.std.specs.Prelude.{Some, find}
use Rattle.std.specs.List.{AllByRecursion}

pub found_has : {X : Type 0} (P : X → Type 0) (test : X → Bool) (xs : List X) (x : X) → find test xs ≡ Some x
    → AllByRecursion P xs → P x
found_has P test [] x e all = absurd cc
found_has P test (y ∷ xs) x e all = by (test y) e (λ rest. found_has P test xs x rest all.1)
  where
    by : (b : Bool) → cond b (Some y) (find test xs) ≡ Some x → (find test xs ≡ Some x → P x) → P x
    by true e rest = let same : y ≡ x = cc in subst P same all.0
    by false e rest = rest e
