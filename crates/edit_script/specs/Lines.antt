-- The lines of a text: a line feed, a carriage return, or both in this order end a line.
use Rattle.std.specs.Prelude.{ℕ, ◌+◌, ◌==◌, List, [], ◌∷◌, drop, Bool, true, false, not, ◌&&◌, ◌||◌, if◌then◌else◌}

-- a line as it stands: the byte at which it begins, its bytes, and whether it is ended
pub record Cut : Type 0 where
  pub at : ℕ
  pub text : List ℕ
  pub ended : Bool

-- a byte in front of a line
abbrev pub grown : ℕ → ℕ → List Cut → List Cut
grown at b [] = record { at = at; text = b ∷ []; ended = false } ∷ []
grown at b (c ∷ cuts) = record { at = at; text = b ∷ c.text; ended = c.ended } ∷ cuts

-- a line that begins here
abbrev pub begun : ℕ → List Cut → List Cut
begun at [] = []
begun at (c ∷ cuts) = record { at = at; text = c.text; ended = c.ended } ∷ cuts

abbrev pub begins_feed : List ℕ → Bool
begins_feed [] = false
begins_feed (b ∷ bytes) = b == 10

-- a byte ends a line: a line feed, or a carriage return that no line feed follows
abbrev pub ends_line : ℕ → List ℕ → Bool
ends_line b bytes = (b == 10) || ((b == 13) && not (begins_feed bytes))

-- the lines of bytes that begin at this offset
unfoldable pub cuts : ℕ → List ℕ → List Cut
cuts at [] = []
cuts at (b ∷ bytes) =
    if ends_line b bytes then (record { at = at; text = []; ended = true } ∷ cuts (at + 1) bytes)
    else (if b == 13 then begun at (cuts (at + 1) bytes) else grown at b (cuts (at + 1) bytes))

-- a byte order mark in front is skipped
unfoldable pub mark_len : List ℕ → ℕ
mark_len [] = 0
mark_len (a ∷ []) = 0
mark_len (a ∷ b ∷ []) = 0
mark_len (a ∷ b ∷ c ∷ bytes) = if (a == 0xEF) && ((b == 0xBB) && (c == 0xBF)) then 3 else 0

-- the lines of a text
unfoldable pub lines_of : List ℕ → List Cut
lines_of text = cuts (mark_len text) (drop (mark_len text) text)
