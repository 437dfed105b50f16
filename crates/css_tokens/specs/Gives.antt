-- What a reader gives is what the function on lists gives.
use Rattle.std.specs.Prelude.{◌≡◌, Result, Ok, Err}
use Rattle.css_tokens.specs.declared.lexeme.Fault.{Fault}
use Rattle.mc_base.specs.declared.read_error.ReadError.{ReadError}
use Rattle.mc_base.specs.declared.read_error.ReadError.TheVariants as errors

abbrev pub Fails : {Y : Type 0} → ReadError Fault → Result Y Fault → Type 0
Fails errors.Memory read = Unit {0}
Fails (errors.Fault f) read = read ≡ Err f

-- What a function returned, seen by view, is what reading gives, unless memory ran out.
abbrev pub Gives : {X Y : Type 0} → (X → Y) → Result X (ReadError Fault) → Result Y Fault → Type 0
Gives view (Ok x) read = read ≡ Ok (view x)
Gives view (Err e) read = Fails e read
