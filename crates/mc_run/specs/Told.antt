-- What a sink got of a line.
use Rattle.std.specs.Prelude.{ℕ, ◌⊎◌, List, Option}
use Rattle.std.specs.Io.KnownBytes.{Appends}
use Rattle.mc_base.specs.Outside.{HasRisen, AppendsPart}

-- the whole line, or, where the count of faults rose, a first part of it
abbrev pub Tells : Option (List ℕ) → Option (List ℕ) → ℕ → ℕ → List ℕ → Type 0
Tells old new before now line = Appends old new line ⊎ (HasRisen before now × AppendsPart old new line)
