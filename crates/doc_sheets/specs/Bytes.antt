-- The byte of a document at which a place of one of its texts stands. CR LF and CR stand in the text as LF.
use Rattle.std.specs.Prelude.{ℕ, zero, suc, ◌+◌, ◌==◌, ◌&&◌, List, [], ◌∷◌, drop, if◌then◌else◌}

-- how many bytes the first place of these takes: none after the end, two at CR LF
abbrev pub width_of : List ℕ → ℕ
width_of [] = 0
width_of (b ∷ []) = 1
width_of (b ∷ (c ∷ rest)) = if (b == 13) && (c == 10) then 2 else 1

-- The first place stands at the byte where the text begins, and each other one where the place before it ends.
abbrev pub byte_of : (document : List ℕ) → (begins : ℕ) → (place : ℕ) → ℕ
byte_of document begins zero = begins
byte_of document begins (suc k) = byte_of document begins k + width_of (drop (byte_of document begins k) document)
