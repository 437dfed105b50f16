-- Which bytes are a text of characters to their end.
use Rattle.std.proofs.Common.{◌≡◌, ℕ, suc, ◌<◌, true, not, cond, List, [], ◌∷◌, length, refl, ap, ◌∙◌, arith}
use Rattle.std.specs.Prelude.{take_while}
use Rattle.std.specs.List.{AllByRecursion}
use Rattle.std.proofs.lemmas.Bool.{ne_eqb}
use Rattle.std.proofs.lemmas.List.Sums.{take_while-cons}
use Rattle.std.proofs.lemmas.List.Elements.{All-from_recursion}
use Rattle.std.proofs.lemmas.Str.{utf8_valid_len-IsUtf8, IsUtf8-from_ascii}
use Rattle.std.proofs.lemmas.Str.Ascii.{IsAscii-from_all}
use Rattle.mc_base.specs.SoundText.{is_nonzero, sound_len}

-- a byte of ASCII that isn't zero
abbrev pub IsSafe : ℕ → Type 0
IsSafe b = (0 < b) × (b < 128)

low_bytes : (bytes : List ℕ) → AllByRecursion IsSafe bytes → AllByRecursion (λ b. b < 128) bytes
low_bytes [] safe = tt
low_bytes (b ∷ bytes) safe = (safe.0.1, low_bytes bytes safe.1)

no_nul : (bytes : List ℕ) → AllByRecursion IsSafe bytes → length (take_while is_nonzero bytes) ≡ length bytes
no_nul [] safe = refl
no_nul (b ∷ bytes) safe =
    let other : is_nonzero b ≡ true = ap not (ne_eqb b 0 (λ same. omega (arith, same, safe.0.0))) in
    ap length (take_while-cons is_nonzero b bytes ∙ ap (λ t. cond t (b ∷ take_while is_nonzero bytes) []) other)
    ∙ ap suc (no_nul bytes safe.1)

pub sound_text : (bytes : List ℕ) → AllByRecursion IsSafe bytes → sound_len bytes ≡ length bytes
sound_text bytes safe =
    let valid = utf8_valid_len-IsUtf8 bytes
    (IsUtf8-from_ascii bytes (IsAscii-from_all bytes (All-from_recursion (λ b. b < 128) bytes (low_bytes bytes safe)))) in
    omega (arith, valid, no_nul bytes safe)
