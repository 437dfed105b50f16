-- Texts that are UTF-8: the first bad byte is the first zero.
use Rattle.std.proofs.Common.{◌≡◌, ℕ, ◌≤◌, ◌<◌, List, length, chars, None, refl, arith}
use Rattle.std.specs.Prelude.{take_while}
use Rattle.std.specs.Str.{IsUtf8}
use Rattle.std.proofs.lemmas.Str.{utf8_valid_len-IsUtf8}
use Rattle.std.proofs.lemmas.Bool.{lt-ltb, le-ltb}
use Rattle.mc_base.specs.Reading.{fault}
use Rattle.mc_base.specs.SoundText.{sound_len, is_nonzero}
use Rattle.html_grammar.specs.Machine.{opening_state}
use Rattle.html_grammar.specs.Places.{places_of}
use Rattle.html_grammar.specs.Whole.{read_from, read_text}

pub text_with_zero : (bytes : List ℕ) (free : ℕ) → IsUtf8 bytes → free ≡ length (take_while is_nonzero bytes)
    → free < length bytes → read_text bytes ≡ fault free 1
unfolding read_text
text_with_zero bytes free utf8 is lt =
    let whole = utf8_valid_len-IsUtf8 bytes utf8 in
    let least : sound_len bytes ≡ free = omega arith in
    rw (least, lt-ltb free (length bytes) lt) refl

pub text_without_zero : (bytes : List ℕ) (free : ℕ) → IsUtf8 bytes → free ≡ length (take_while is_nonzero bytes)
    → length bytes ≤ free → read_text bytes ≡ read_from (length bytes) (length bytes) None opening_state (places_of (chars bytes))
unfolding read_text
text_without_zero bytes free utf8 is le =
    let whole = utf8_valid_len-IsUtf8 bytes utf8 in
    let least : sound_len bytes ≡ length bytes = omega arith in
    let off = le-ltb (length bytes) (length bytes) (omega arith) in
    rw (least, off) refl
