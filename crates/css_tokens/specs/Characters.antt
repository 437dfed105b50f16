-- The kinds of characters of style sheets (CSS Syntax 3, section 4.2). White space is space, tab and line feed.
use Rattle.std.specs.Prelude.{ℕ, ◌==◌, Bool, ◌&&◌, ◌||◌, not, nat_lt}
use Rattle.std.specs.Char.{is_ascii_alphanumeric, is_ascii_digit}

-- a letter, a digit, - or _, or any character above U+007F
abbrev pub is_name : ℕ → Bool
is_name c = is_ascii_alphanumeric c || ((c == 45) || ((c == 95) || nat_lt 127 c))

-- one of these but a digit
abbrev pub is_start : ℕ → Bool
is_start c = is_name c && not (is_ascii_digit c)

abbrev pub is_sign : ℕ → Bool
is_sign c = (c == 43) || (c == 45)
