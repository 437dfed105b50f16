-- What a reader answers.
use Rattle.std.specs.Prelude.{◌≡◌, ◌⊎◌, Result, Err}
use Rattle.mc_base.specs.declared.refusal.Refusal.{Refusal}
use Rattle.mc_base.specs.declared.refusal.Refusal.TheVariants as refusals

-- This is the answer, unless memory ran out.
abbrev pub IsUnlessMemory : {X : Type 0} → Result X Refusal → Result X Refusal → Type 0
IsUnlessMemory result answer = (result ≡ Err refusals.NoMemory) ⊎ (result ≡ answer)
