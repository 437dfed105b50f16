-- Finding something in steps, each of which gives something or nothing.
use Rattle.std.specs.Prelude.{Option, Some, None}

-- a step, and what follows on what it gives
infixl 10 ◌>>=◌
abbrev pub ◌>>=◌ : {A B : Type 0} → Option A → (A → Option B) → Option B
None >>= f = None
(Some x) >>= f = f x
