-- Values that may be missing.
use Rattle.std.specs.Prelude.{Bool, true, false, List, ◌∷◌, Option, Some, None}

-- the first that is there
abbrev pub or_else : {A : Type 0} → Option A → Option A → Option A
or_else None other = other
or_else (Some x) other = Some x

-- a list with one more in front, where both are there
abbrev pub onto : {A : Type 0} → Option A → Option (List A) → Option (List A)
onto None rest = None
onto (Some x) None = None
onto (Some x) (Some xs) = Some (x ∷ xs)

abbrev pub when : {A : Type 0} → Bool → A → Option A
when true x = Some x
when false x = None

infixl 10 ◌>>=◌
abbrev pub ◌>>=◌ : {A B : Type 0} → Option A → (A → Option B) → Option B
None >>= f = None
(Some x) >>= f = f x
