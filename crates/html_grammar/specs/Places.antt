-- The characters of a text, with the bytes at which they begin.
use Rattle.std.specs.Prelude.{ℕ, ◌+◌, ◌==◌, List, [], ◌∷◌, Bool, false, ◌&&◌, if◌then◌else◌, Option, Some, None}
use Rattle.std.specs.Char.{len_utf8}
use Rattle.html_grammar.specs.declared.place.Place.{Place}

-- a carriage return is a line feed
abbrev pub plain : ℕ → ℕ
plain c = if c == 13 then 10 else c

-- the places of characters that begin at a byte, right after a carriage return or not: CR LF is one line feed
unfoldable pub places : Bool → ℕ → List ℕ → List Place
places behind at [] = []
places behind at (c ∷ cs) =
    if behind && (c == 10) then places false (at + 1) cs
    else (record { at = at; character = plain c } ∷ places (c == 13) (at + len_utf8 c) cs)

-- the places of a text: a byte order mark in front is skipped
unfoldable pub places_of : List ℕ → List Place
places_of [] = []
places_of (c ∷ cs) = if c == 0xFEFF then places false 3 cs else places false 0 (c ∷ cs)

abbrev pub first : List Place → Option Place
first [] = None
first (p ∷ ps) = Some p

abbrev pub behind_first : List Place → List Place
behind_first [] = []
behind_first (p ∷ ps) = ps

-- the byte at which the first begins
abbrev pub place_or : ℕ → List Place → ℕ
place_or d [] = d
place_or d (p ∷ ps) = p.at

-- the characters in front that pass a test
abbrev pub codes_while : (ℕ → Bool) → List Place → List ℕ
codes_while test [] = []
codes_while test (p ∷ ps) = if test p.character then (p.character ∷ codes_while test ps) else []

-- what stands after them
abbrev pub behind_while : (ℕ → Bool) → List Place → List Place
behind_while test [] = []
behind_while test (p ∷ ps) = if test p.character then behind_while test ps else (p ∷ ps)

-- whether the first passes a test
abbrev pub begins_with : (ℕ → Bool) → List Place → Bool
begins_with test [] = false
begins_with test (p ∷ ps) = test p.character

-- whether the first is this character
abbrev pub begins : ℕ → List Place → Bool
begins c [] = false
begins c (p ∷ ps) = p.character == c
