-- A leaf that holds a point is one of the lines.
use Rattle.std.proofs.Common.{◌≡◌, ℕ, suc, ◌+◌, ◌<◌, Bool, true, false, cond, List, [], ◌∷◌, length, Option, Some, None}
use Rattle.std.proofs.Common.{IfSome, subst, arith}
use Rattle.hit_index.specs.declared.mark.Mark.{Mark}
use Rattle.hit_index.specs.Scan.{holds, hit, leaves_from, leaves_of}
use Rattle.hit_index.specs.Bands.{later, best}
use Rattle.hit_index.proofs.Best.{best-hit}

later-below : (n end : ℕ) (c : Bool) (rest : Option ℕ) → n < end → IfSome rest (λ j. j < end)
    → IfSome (later (cond c (Some n) None) rest) (λ k. k < end)
later-below n end false rest below more = more
later-below n end true None below more = below
later-below n end true (Some j) below more = omega arith

module _ (px py : ℕ) where
  best-below : (n : ℕ) (marks : List Mark) → IfSome (best px py (leaves_from n marks)) (λ k. k < n + length marks)
  best-below n [] = tt
  best-below n (m ∷ marks) =
      let e : n + 1 + length marks ≡ n + suc (length marks) = omega arith in
      go m.leaf (subst (λ end. IfSome (best px py (leaves_from (n + 1) marks)) (λ k. k < end)) e (best-below (n + 1) marks))
    where
      go : (b : Bool) → IfSome (best px py (leaves_from (n + 1) marks)) (λ k. k < n + suc (length marks))
          → IfSome (best px py (cond b (record { number = n; rect = m.rect } ∷ leaves_from (n + 1) marks)
          (leaves_from (n + 1) marks))) (λ k. k < n + suc (length marks))
      go false more = more
      go true more = later-below n (n + suc (length marks)) (holds m.rect px py) (best px py (leaves_from (n + 1) marks))
          (omega arith) more

  pub hit-known : (marks : List Mark) → IfSome (hit marks px py) (λ k. k < length marks)
  hit-known marks =
      let e : 0 + length marks ≡ length marks = omega arith in
      let below : IfSome (best px py (leaves_of marks)) (λ k. k < 0 + length marks) = best-below 0 marks in
      let same : best px py (leaves_of marks) ≡ hit marks px py = best-hit px py marks in
      subst (λ o. IfSome o (λ k. k < length marks)) same
      (subst (λ end. IfSome (best px py (leaves_of marks)) (λ k. k < end)) e below)
