-- What is known of finding in steps.
use Rattle.std.proofs.Common.{◌≡◌, Option, Some, None, refl}
use Rattle.mc_base.specs.Finding.{◌>>=◌}

-- the first of two steps that gave something
pub some_step : {A B P : Type 0} (r : Option A) (f : A → Option B) (y : B) → (r >>= f) ≡ Some y
    → ((x : A) → r ≡ Some x → f x ≡ Some y → P) → P
some_step (Some x) f y e go = go x refl e
some_step None f y e go = absurd cc
