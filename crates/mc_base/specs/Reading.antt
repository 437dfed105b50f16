-- Reading a text in steps: the first that can't be made is the text's first fault. All exact readers share this.
use Rattle.std.specs.Prelude.{◌≡◌, ℕ, Result, Ok, Err}
use Rattle.mc_base.specs.declared.read_error.Fault.{Fault}
use Rattle.mc_base.specs.declared.read_error.ReadError.{ReadError}
use Rattle.mc_base.specs.declared.read_error.ReadError.TheVariants as errors

-- a step, and what follows on what it gives
infixl 10 ◌>>=◌
abbrev pub ◌>>=◌ : {A B E : Type 0} → Result A E → (A → Result B E) → Result B E
(Ok x) >>= f = f x
(Err e) >>= f = Err e

-- a fault at a byte, by the number of its rule
abbrev pub fault : {A : Type 0} → ℕ → ℕ → Result A Fault
fault at rule = Err (record { at = at; rule = rule })

-- What a call answered is what reading gives, unless memory ran out.
abbrev pub Fails : {A : Type 0} → ReadError Fault → Result A Fault → Type 0
Fails errors.Memory read = Unit {0}
Fails (errors.Fault f) read = read ≡ Err f

abbrev pub Gives : {A : Type 0} → Result A (ReadError Fault) → Result A Fault → Type 0
Gives (Ok x) read = read ≡ Ok x
Gives (Err e) read = Fails e read
