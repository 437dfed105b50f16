-- Reading a table byte by byte, with the first fault that is met.
use Rattle.std.specs.Prelude.{◌≡◌, ℕ, ◌+◌, nat_lt, nat_le, ◌==◌, if◌then◌else◌, List, [], ◌∷◌, ◌++◌, length, codes, Option, Some}
use Rattle.std.specs.Prelude.{None, option_to_list, Result, Ok, Err}
use Rattle.std.specs.Str.{bytes_eq}
use Rattle.mc_base.specs.declared.refusal.Refusal.{Refusal}
use Rattle.mc_base.specs.declared.refusal.Refusal.TheVariants as refusals
use Rattle.mc_base.specs.declared.refusal.Input.TheVariants as inputs
use Rattle.font_table.specs.declared.fonts.Advance.{Advance}
use Rattle.font_table.specs.declared.fonts.Face.{Face}
use Rattle.font_table.specs.declared.reading.Building.{Building}
use Rattle.mc_base.specs.SoundText.{sound_len}
use Rattle.mc_base.specs.Reading.{fault, ◌>>=◌}
use Rattle.mc_base.specs.declared.read_error.Fault.{Fault}
use Rattle.font_table.specs.Table.{is_plain, IsFirstFault}
use Rattle.font_table.specs.Forms.{face_at, character_at}

-- a fault of a metrics table
abbrev pub refusal : ℕ → ℕ → Refusal
refusal offset number = refusals.Grammar inputs.Metrics offset (record { letter = 102; number = number })

-- what a function returned, seen by view, is what reading gives, unless memory ran out
abbrev pub Fails : {Y : Type 0} → Refusal → Result Y Fault → Type 0
Fails refusals.NoMemory read = Unit {0}
Fails (refusals.Grammar input offset rule) read = (input ≡ inputs.Metrics) × (rule.letter ≡ 102)
    × (read ≡ fault offset rule.number)
Fails (refusals.Construct input offset name) read = ⊥
Fails (refusals.Limit name reached limit) read = ⊥

abbrev pub Gives : {X Y : Type 0} → (X → Y) → Result X Refusal → Result Y Fault → Type 0
Gives view (Ok x) read = read ≡ Ok (view x)
Gives view (Err e) read = Fails e read

-- the refusal of a text: out of memory, or its first fault
abbrev pub IsRefusalOf : List ℕ → Refusal → Type 0
IsRefusalOf text refusals.NoMemory = Unit {0}
IsRefusalOf text (refusals.Grammar input offset rule) = (input ≡ inputs.Metrics) × (rule.letter ≡ 102)
    × IsFirstFault text offset rule.number
IsRefusalOf text (refusals.Construct input offset name) = ⊥
IsRefusalOf text (refusals.Limit name reached limit) = ⊥

-- the faces so far
abbrev pub faces_of : Building → List Face
faces_of b = b.done ++ option_to_list b.last

abbrev pub nothing_yet : Building
nothing_yet = record { done = []; last = None; least = 0 }

abbrev pub face_begun : Building → Face → Building
face_begun b face = record { done = faces_of b; last = Some face; least = 0 }

abbrev pub with_advance : Face → Advance → Face
with_advance face a = record face { advances = face.advances ++ a ∷ [] }

abbrev pub character_taken : ℕ → Building → Option Face → Advance → Result Building Fault
character_taken at b None a = fault at 5
character_taken at b (Some face) a =
    if nat_le b.least a.ch then Ok (record { done = b.done; last = Some (with_advance face a); least = a.ch + 1 }) else fault at 5

abbrev pub form_taken : ℕ → Building → Option Face → Option Advance → Result Building Fault
form_taken at b (Some face) character = Ok (face_begun b face)
form_taken at b None (Some a) = character_taken at b b.last a
form_taken at b None None = fault at 4

-- a line that begins at an offset, the first at 0
unfoldable pub line_taken : ℕ → Building → List ℕ → Result Building Fault
line_taken at b line =
    if at == 0 then (if bytes_eq line (codes "metrics 1") then Ok b else fault at 3)
    else form_taken at b (face_at line) (character_at line)

-- the bytes from here on, in a line that begins at an offset and of which the bytes of `line` are read
unfoldable pub read_from : ℕ → List ℕ → Building → List ℕ → Result Building Fault
read_from start line b [] = if length line == 0 then Ok b else fault start 2
read_from start line b (byte ∷ bytes) =
    if byte == 10 then (line_taken start b line >>= λ next. read_from (start + length line + 1) [] next bytes)
    else (if is_plain byte then read_from start (line ++ byte ∷ []) b bytes else fault (start + length line) 2)

abbrev pub ended : ℕ → List Face → Result (List Face) Fault
ended size [] = if size == 0 then fault 0 3 else fault size 6
ended size (face ∷ faces) = Ok (face ∷ faces)

-- all of the text
unfoldable pub all_of : List ℕ → Result (List Face) Fault
all_of text =
    if nat_lt (sound_len text) (length text) then fault (sound_len text) 1
    else (read_from 0 [] nothing_yet text >>= λ b. ended (length text) (faces_of b))
