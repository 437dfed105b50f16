-- What the files and the sink in memory do, call by call. These forms are this project's own.
use Rattle.std.specs.Prelude.{◌≡◌, ℕ, ◌+◌, ◌-◌, ◌^◌, ◌<◌, ◌≤◌, min, Bool, true, false, ◌==◌, List, ◌++◌, length, take, Option}
use Rattle.std.specs.Prelude.{None, Some, Result, Ok, Err, IsErr, IsErrOf, find, ⊤}
use Rattle.std.specs.List.{list_any}
use Rattle.std.specs.Option.{option_map}
use Rattle.std.specs.Str.{bytes_eq}
use Rattle.mc_base.specs.declared.outside.FileFault.{FileFault}
use Rattle.mc_base.specs.declared.outside.FileFault.TheVariants.{Failed, TooLong, NoMemory}
use Rattle.mc_base.specs.declared.outside.SinkFailed.{SinkFailed}
use Rattle.mc_base.specs.declared.memory.HeldFile.{HeldFile}
use Rattle.mc_base.specs.declared.memory.SinkFail.{SinkFail}

-- the number of the call after this many calls: numbers of calls end at the greatest `u64`
abbrev pub next_call : ℕ → ℕ
next_call calls = min (calls + 1) (2 ^ 64 - 1)

-- files in memory: the files, the numbers of the calls that fail, how many calls there were, and the names of the failed reads
pub record FilesInMemory : Type 0 where
  pub files : List HeldFile
  pub fails : List ℕ
  pub calls : ℕ
  pub failed : List (List ℕ)

-- the bytes of the first of these files that has this name
abbrev pub held_bytes : List HeldFile → List ℕ → Option (List ℕ)
held_bytes files name = option_map (λ file. file.bytes) (find (λ file. bytes_eq file.name name) files)

-- what the call of this number answers for a name: it fails where it is to fail or no file has the name, and else the
-- number of held bytes decides
abbrev pub IsAnswer : Bool → Option (List ℕ) → ℕ → Result (Unit {0}) FileFault → Type 0
IsAnswer true held limit answer = IsErrOf answer Failed
IsAnswer false None limit answer = IsErrOf answer Failed
IsAnswer false (Some bytes) limit (Ok _) = length bytes ≤ limit
IsAnswer false (Some bytes) limit (Err fault) = (limit < length bytes) × (fault ≡ TooLong limit)

-- out of memory, or this answer
abbrev pub IsAnswerUnlessNoMemory : Bool → Option (List ℕ) → ℕ → Result (Unit {0}) FileFault → Type 0
IsAnswerUnlessNoMemory planned held limit (Err NoMemory) = ⊤
IsAnswerUnlessNoMemory planned held limit answer = IsAnswer planned held limit answer

-- the call of this number is to fail
abbrev pub is_planned : List ℕ → ℕ → Bool
is_planned fails call = list_any (λ number. number == call) fails

-- a sink in memory: what was written, how many bytes it can hold, the calls that fail, how many calls there were, and
-- how many faults
pub record SinkInMemory : Type 0 where
  pub bytes : List ℕ
  pub room : ℕ
  pub fails : List SinkFail
  pub calls : ℕ
  pub faults : ℕ

-- how many bytes the call of this number is to take before it fails, if it is to fail
abbrev pub planned_takes : List SinkFail → ℕ → Option ℕ
planned_takes fails call = option_map (λ fail. fail.takes) (find (λ fail. fail.call == call) fails)

-- what a call does with its piece: a planned failure takes so many bytes, or fewer where the piece or the room ends; a
-- piece that has no room fails after the bytes that have
abbrev pub Puts : Option ℕ → ℕ → List ℕ → List ℕ → List ℕ → Result (Unit {0}) SinkFailed → Type 0
Puts (Some takes) left piece old new answer = IsErr answer × (new ≡ old ++ take (min takes left) piece)
Puts None left piece old new (Ok _) = (length piece ≤ left) × (new ≡ old ++ piece)
Puts None left piece old new (Err _) = (left < length piece) × (new ≡ old ++ take left piece)
