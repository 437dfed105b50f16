-- Why the reading of an input stops a command.
use Rattle.std.specs.Prelude.{◌≡◌, ℕ, ◌<◌, ◌≤◌, ◌⊎◌, List, length, Option, IfSome}
use Rattle.mc_base.specs.declared.outside.FileFault.{FileFault}
use Rattle.mc_base.specs.declared.outside.FileFault.TheVariants.{Failed, TooLong, NoMemory as FileMemory}
use Rattle.mc_base.specs.declared.refusal.Input.{Input}
use Rattle.mc_base.specs.declared.refusal.Refusal.TheVariants.{NoMemory}
use Rattle.mc_run.specs.declared.stop.Stop.{Stop}
use Rattle.mc_run.specs.declared.stop.Stop.TheVariants.{Usage, Read, Write, Refused}
use Rattle.mc_run.specs.Inputs.{NamedInput, Contents, AreHeld, IsTooLong, HasFault, byte_limit, too_many_bytes}

abbrev pub stop_for : Input → FileFault → Stop
stop_for input Failed = Read input
stop_for input (TooLong limit) = Refused (too_many_bytes input)
stop_for input FileMemory = Refused NoMemory

-- a read of this input failed, it has too many bytes, or memory ran out
abbrev pub IsReadCause : NamedInput → (List ℕ → Option (List ℕ)) → (List ℕ → ℕ) → (List ℕ → ℕ) → Stop → Type 0
IsReadCause i held before now Usage = ⊥
IsReadCause i held before now (Read input) = (i.input ≡ input) × (before i.name < now i.name)
IsReadCause i held before now Write = ⊥
IsReadCause i held before now (Refused refusal) =
    (refusal ≡ NoMemory)
    ⊎ ((refusal ≡ too_many_bytes i.input) × IfSome (held i.name) (λ bytes. byte_limit i.input < length bytes))

-- these bytes are what an input holds, as far as the files tell it, and no more than it may have
abbrev pub IsContent : NamedInput → (List ℕ → Option (List ℕ)) → List ℕ → Type 0
IsContent i held bytes = (length bytes ≤ byte_limit i.input) × IfSome (held i.name) (λ told. bytes ≡ told)

-- a read of one of these inputs failed, the first that is too long has too many bytes, or memory ran out
abbrev pub IsReadingCause : List NamedInput → (List ℕ → Option (List ℕ)) → (List ℕ → ℕ) → (List ℕ → ℕ) → Stop → Type 0
IsReadingCause inputs held before now Usage = ⊥
IsReadingCause inputs held before now (Read input) = HasFault before now inputs input
IsReadingCause inputs held before now Write = ⊥
IsReadingCause inputs held before now (Refused refusal) =
    (refusal ≡ NoMemory) ⊎ ((contents : Contents) × AreHeld held contents inputs × IsTooLong contents inputs refusal)
