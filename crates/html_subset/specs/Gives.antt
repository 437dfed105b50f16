-- What a reader gives is what the function on lists gives.
use Rattle.std.specs.Prelude.{◌≡◌, ◌⊎◌, Result, Ok, Err}
use Rattle.mc_base.specs.declared.refusal.Refusal.{Refusal}
use Rattle.mc_base.specs.declared.refusal.Refusal.TheVariants as refusals
use Rattle.mc_base.specs.declared.read_error.Fault.{Fault}
use Rattle.mc_base.specs.declared.read_error.ReadError.{ReadError}
pub use Rattle.mc_base.specs.Reading.{Fails}

-- What a function returned, seen by view, is what reading gives, unless memory ran out.
abbrev pub Gives : {X Y : Type 0} → (X → Y) → Result X (ReadError Fault) → Result Y Fault → Type 0
Gives view (Ok x) read = read ≡ Ok (view x)
Gives view (Err e) read = Fails e read

-- This is the answer, unless memory ran out.
abbrev pub IsUnlessMemory : {X : Type 0} → Result X Refusal → Result X Refusal → Type 0
IsUnlessMemory result answer = (result ≡ Err refusals.NoMemory) ⊎ (result ≡ answer)
