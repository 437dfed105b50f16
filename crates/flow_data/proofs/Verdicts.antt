-- Answers of tests: what a test that says no, or yes, shows of the fact that it tells.
use Rattle.std.proofs.Common.{◌≡◌, ◌↔◌, Bool, true, false, refl, Result, Ok, Err, IfOk}

pub refused : (P : Type 0) → (P → ⊥) → (false ≡ true) ↔ P
refused P h = (λ e. absurd cc, λ p. absurd (h p))

pub accepted : (P : Type 0) → P → (true ≡ true) ↔ P
accepted P p = (λ e. p, λ q. refl)

pub not_so : {P : Type 0} {b : Bool} → (b ≡ true) ↔ P → b ≡ false → P → ⊥
not_so says fails p = let holds = says.1 p in cc

pub same_fact : {P : Type 0} {b : Bool} (Q : Type 0) → (b ≡ true) ↔ P → (P → Q) → (Q → P) → (b ≡ true) ↔ Q
same_fact Q says there back = (λ e. there (says.0 e), λ q. says.1 (back q))

pub ok_same : {E P : Type 0} (Q : Type 0) (r : Result Bool E) → IfOk r (λ found. (found ≡ true) ↔ P) → (P → Q) → (Q → P)
    → IfOk r (λ found. (found ≡ true) ↔ Q)
ok_same Q (Ok found) says there back = same_fact Q says there back
ok_same Q (Err e) says there back = tt

pub refused_by : (P : Type 0) (b : Bool) → b ≡ false → (P → ⊥) → (b ≡ true) ↔ P
refused_by P b fails h = (λ e. absurd cc, λ p. absurd (h p))
