-- What a program reads from and writes to. Both are this project's own: content that is told or not told, and counts of
-- faults that never fall.
use Rattle.std.specs.Prelude.{◌≡◌, ℕ, ◌+◌, ◌-◌, ◌^◌, ◌≤◌, min, List, ◌∷◌, [], ◌++◌, length, take, Option, count_by}
use Rattle.std.specs.Str.{bytes_eq}
use Rattle.std.specs.Io.KnownBytes.{Appends}
use Rattle.mc_base.specs.declared.outside.FileFault.{FileFault}
use Rattle.mc_base.specs.declared.outside.FileFault.TheVariants.{Failed, TooLong, NoMemory}

-- a count rose, or stands at the greatest number that it can have
abbrev pub HasRisen : ℕ → ℕ → Type 0
HasRisen before now = min (before + 1) (2 ^ 64 - 1) ≤ now

-- some bytes were added, at most `limit` of them
abbrev pub AppendsAtMost : ℕ → List ℕ → List ℕ → Type 0
AppendsAtMost limit old new = (bytes : List ℕ) × (new ≡ old ++ bytes) × (length bytes ≤ limit)

-- where the content is told, a first part of these bytes was added
abbrev pub AppendsPart : Option (List ℕ) → Option (List ℕ) → List ℕ → Type 0
AppendsPart old new bytes = (n : ℕ) × Appends old new (take n bytes)

-- how often a name stands among these
abbrev pub times_of : List ℕ → List (List ℕ) → ℕ
times_of name names = count_by (bytes_eq name) names

-- a failed read of this name was noted, or there was no memory to note it
abbrev pub IsNoted : FileFault → List (List ℕ) → List (List ℕ) → List ℕ → Type 0
IsNoted Failed old new name = new ≡ old ++ name ∷ []
IsNoted NoMemory old new name = new ≡ old
IsNoted (TooLong limit) old new name = ⊥
