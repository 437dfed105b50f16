-- What is known of reading in steps.
use Rattle.std.proofs.Common.{◌≡◌, ℕ, Bool, true, false, cond, Result, Ok, Err, refl, ◌⊎◌, inl, inr}
use Rattle.mc_base.specs.declared.read_error.Fault.{Fault}
use Rattle.mc_base.specs.Reading.{◌>>=◌, fault}

-- what was read, and what was not
abbrev pub given : {A : Type 0} → A → Result A Fault
given x = Ok x

abbrev pub failed : {A : Type 0} → Fault → Result A Fault
failed f = Err f

pub given_is : {A : Type 0} (x y : A) → given x ≡ given y → x ≡ y
given_is x y e = cc

pub failed_is : {A : Type 0} (f g : Fault) → failed {A = A} f ≡ failed g → f ≡ g
failed_is f g e = cc

pub fault_is : {A : Type 0} (at rule : ℕ) (f : Fault) → fault {A = A} at rule ≡ Err f → f ≡ record { at = at; rule = rule }
fault_is at rule f e = cc

-- what a step gave, as a value with its equation
pub seen : {A : Type 0} (r : Result A Fault) → ((x : A) × (r ≡ Ok x)) ⊎ ((f : Fault) × (r ≡ Err f))
seen (Ok x) = inl (x, refl)
seen (Err f) = inr (f, refl)

-- the first of two steps that were made
pub step : {A B P : Type 0} (r : Result A Fault) (f : A → Result B Fault) (y : B) → (r >>= f) ≡ Ok y
    → ((x : A) → r ≡ Ok x → f x ≡ Ok y → P) → P
step (Ok x) f y e go = go x refl e
step (Err d) f y e go = absurd cc

-- a test that stood before what was read
pub no_fault : {A : Type 0} (b : Bool) (f : Fault) (r : Result A Fault) (y : A) → cond b (Err f) r ≡ Ok y → r ≡ Ok y
no_fault true f r y e = absurd cc
no_fault false f r y e = e
