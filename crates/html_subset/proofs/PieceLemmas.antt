-- A text is empty only where it has no characters.
use Rattle.std.proofs.Common.{◌≡◌, ℕ, List, [], ◌∷◌, length, None, refl, ap, arith, length-append}
use Rattle.std.specs.Prelude.{encode_utf8, encode_utf8_all}
use Rattle.std.proofs.lemmas.Str.{length-encode, len_utf8_bounds}
use Rattle.html_grammar.specs.Lexing.{raw_piece}

pub piece_none : (at : ℕ) (text cs : List ℕ) → length text ≡ 0 → text ≡ encode_utf8_all cs → None ≡ raw_piece at cs
piece_none at text [] none e = refl
piece_none at text (c ∷ cs) none e =
    let some = len_utf8_bounds c in
    let len = length-encode c in
    let both = length-append (encode_utf8 c) (encode_utf8_all cs) in
    let all : length text ≡ length (encode_utf8_all (c ∷ cs)) = ap length e in
    absurd (omega (arith, some.0))
