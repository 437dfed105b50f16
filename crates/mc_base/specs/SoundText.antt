-- How far bytes are a text of characters: UTF-8 (RFC 3629) without U+0000.
use Rattle.std.specs.Prelude.{ℕ, ◌==◌, not, Bool, min, List, length, take_while}
use Rattle.std.specs.Str.Lossy.{utf8_valid_len}

abbrev pub is_nonzero : ℕ → Bool
is_nonzero b = not (b == 0)

-- where the first U+0000 or the first bad sequence of UTF-8 begins, or the text's length
abbrev pub sound_len : List ℕ → ℕ
sound_len text = min (utf8_valid_len text) (length (take_while is_nonzero text))
