-- The search for a least number finds it where one passes.
use Rattle.std.proofs.Common.{◌≡◌, ℕ, zero, suc, ◌+◌, ◌<◌, ◌≤◌, Bool, true, false, refl, arith, ◌⊎◌, inl, inr, below_more}
use Rattle.std.proofs.lemmas.Bool.{cases_lt, cases_order}
use Rattle.flow_list.specs.Rows.{least}

-- this is the least number that passes
pub record IsLeast (passes : ℕ → Bool) (h : ℕ) : Type 0 where
  pub itself : passes h ≡ true
  pub below : (k : ℕ) → k < h → passes k ≡ false

pub least-is : (p : ℕ → Bool) (n lo top : ℕ) → ((k : ℕ) → k < lo → p k ≡ false) → lo ≤ top → top ≤ lo + n → p top ≡ true
    → IsLeast p (least p n lo)
unfolding least
least-is p zero lo top none a b t = record { itself = let e : top ≡ lo = omega arith in rw e at t; below = none }
least-is p (suc n) lo top none a b t = go (λ x y z. least-is p n (lo + 1) top x y z t) (p lo) refl
  where
    differs : (a b : ℕ) → a ≤ b → p a ≡ false → p b ≡ true → a + 1 ≤ b
    differs a b le x y = which (cases_lt a b)
      where
        which : (a < b) ⊎ (b ≤ a) → a + 1 ≤ b
        which (inl l) = omega arith
        which (inr g) = let e : a ≡ b = omega arith in let z : p a ≡ true = rw e y in cc

    go : (((k : ℕ) → k < lo + 1 → p k ≡ false) → lo + 1 ≤ top → top ≤ lo + 1 + n → IsLeast p (least p n (lo + 1))) → (x : Bool)
        → p lo ≡ x → IsLeast p (elim x [ true ↦ lo | false ↦ least p n (lo + 1) ])
    go again true e = record { itself = e; below = none }
    go again false e = again (below_more (λ k. p k ≡ false) lo none e) (differs lo top a e t) (omega arith)

pub least-unique : (p : ℕ → Bool) (h k : ℕ) → IsLeast p h → IsLeast p k → h ≡ k
least-unique p h k a b = tri (cases_order h k)
  where
    tri : (h ≡ k) ⊎ ((h < k) ⊎ (k < h)) → h ≡ k
    tri (inl x) = x
    tri (inr (inl x)) = let u = b.below h x in let v = a.itself in cc
    tri (inr (inr x)) = let u = a.below k x in let v = b.itself in cc
