-- The names of characters that a reference may have (HTML, "named character references"; this profile's table).
use Rattle.std.specs.Prelude.{ℕ, List, [], ◌∷◌, Option, Some, None, if◌then◌else◌, codes}
use Rattle.html_grammar.specs.Names.{same}

abbrev pub named_in : List ℕ → List (List ℕ × ℕ) → Option ℕ
named_in name [] = None
named_in name (entry ∷ more) = if same name entry.0 then Some entry.1 else named_in name more

-- the character of a name, with its case
unfoldable pub named_character : List ℕ → Option ℕ
named_character name = named_in name (
    (codes "amp", 0x26) ∷ (codes "lt", 0x3C) ∷ (codes "gt", 0x3E) ∷ (codes "quot", 0x22) ∷ (codes "apos", 0x27)
    ∷ (codes "nbsp", 0xA0) ∷ (codes "laquo", 0xAB) ∷ (codes "copy", 0xA9) ∷ (codes "shy", 0xAD) ∷ (codes "reg", 0xAE)
    ∷ (codes "deg", 0xB0) ∷ (codes "middot", 0xB7) ∷ (codes "raquo", 0xBB) ∷ (codes "times", 0xD7) ∷ (codes "szlig", 0xDF)
    ∷ (codes "agrave", 0xE0) ∷ (codes "aacute", 0xE1) ∷ (codes "auml", 0xE4) ∷ (codes "ccedil", 0xE7) ∷ (codes "egrave", 0xE8)
    ∷ (codes "eacute", 0xE9) ∷ (codes "ntilde", 0xF1) ∷ (codes "ouml", 0xF6) ∷ (codes "uuml", 0xFC)
    ∷ (codes "ndash", 0x2013) ∷ (codes "mdash", 0x2014) ∷ (codes "lsquo", 0x2018) ∷ (codes "rsquo", 0x2019)
    ∷ (codes "ldquo", 0x201C) ∷ (codes "rdquo", 0x201D) ∷ (codes "bull", 0x2022) ∷ (codes "hellip", 0x2026)
    ∷ (codes "euro", 0x20AC) ∷ (codes "trade", 0x2122) ∷ [])
