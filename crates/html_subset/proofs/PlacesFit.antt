-- The characters of a UTF-8 text are characters, and take no more bytes than the text.
use Rattle.std.proofs.Common.{◌≡◌, ℕ, ◌+◌, ◌≤◌, List, [], ◌∷◌, length, Bool, true, false, cond, eqb, ◌&&◌, refl, ap, subst, ◌∙◌}
use Rattle.std.proofs.Common.{arith, length-append, chars}
use Rattle.std.specs.Prelude.{encode_utf8, encode_utf8_all, IsUtf8}
use Rattle.std.specs.Char.{IsScalar, len_utf8}
use Rattle.std.proofs.lemmas.Str.{length-encode, len_utf8_bounds, scalars-chars, encodes-chars}
use lib.Utf8.{scalar, scalars, low_scalar}
use Rattle.html_grammar.specs.declared.place.Place.{Place}
use Rattle.html_grammar.specs.Places.{plain, places, places_of}
use Rattle.html_subset.proofs.TextsFit.{weight, AllScalar}

-- these places are characters, and take at most so many bytes
pub record PlacesFit (ps : List Place) (most : ℕ) : Type 0 where
  pub scalars : AllScalar ps
  pub bound : weight ps ≤ most

pick : (b : Bool) (xs ys : List Place) (n : ℕ) → PlacesFit xs n → PlacesFit ys n → PlacesFit (cond b xs ys) n
pick true xs ys n f g = f
pick false xs ys n f g = g

more : (xs : List Place) (m n : ℕ) → PlacesFit xs m → m ≤ n → PlacesFit xs n
more xs m n f le = record { scalars = f.scalars; bound = omega (arith, f.bound) }

both : (a b : Bool) → (a && b) ≡ true → (a ≡ true) × (b ≡ true)
both true b h = (refl, h)
both false b h = absurd cc

plain_by : (b : Bool) (c : ℕ) → IsScalar c → IsScalar (cond b 10 c) × (len_utf8 (cond b 10 c) ≤ len_utf8 c)
plain_by true c h = (low_scalar 10 (omega arith), (len_utf8_bounds c).0)
plain_by false c h = (h, omega arith)

one_more : (p : Place) (ps : List Place) (m n : ℕ) → IsScalar p.character → len_utf8 p.character ≤ m → PlacesFit ps n
    → PlacesFit (p ∷ ps) (m + n)
one_more p ps m n h le f = record { scalars = (h, f.scalars); bound = omega (arith, le, f.bound) }

places_fit : (behind : Bool) (at : ℕ) (cs : List ℕ) → scalars cs ≡ true
    → PlacesFit (places behind at cs) (length (encode_utf8_all cs))
unfolding places
places_fit behind at [] h = record { scalars = tt; bound = omega arith }
places_fit behind at (c ∷ cs) h =
    let parts = both (scalar c) (scalars cs) h in
    let own = plain_by (eqb c 13) c parts.0 in
    let long : length (encode_utf8_all (c ∷ cs)) ≡ len_utf8 c + length (encode_utf8_all cs) =
    length-append (encode_utf8 c) (encode_utf8_all cs) ∙ ap (λ (n : ℕ). n + length (encode_utf8_all cs)) (length-encode c) in
    pick (behind && eqb c 10) (places false (at + 1) cs)
    (record { at = at; character = plain c } ∷ places (eqb c 13) (at + len_utf8 c) cs) (length (encode_utf8_all (c ∷ cs)))
    (more (places false (at + 1) cs) (length (encode_utf8_all cs)) (length (encode_utf8_all (c ∷ cs)))
    (places_fit false (at + 1) cs parts.1) (omega (arith, long)))
    (more (record { at = at; character = plain c } ∷ places (eqb c 13) (at + len_utf8 c) cs)
    (len_utf8 c + length (encode_utf8_all cs)) (length (encode_utf8_all (c ∷ cs)))
    (one_more (record { at = at; character = plain c }) (places (eqb c 13) (at + len_utf8 c) cs) (len_utf8 c)
    (length (encode_utf8_all cs)) own.0 own.1 (places_fit (eqb c 13) (at + len_utf8 c) cs parts.1))
    (omega (arith, long)))

whole_fit : (cs : List ℕ) → scalars cs ≡ true → PlacesFit (places_of cs) (length (encode_utf8_all cs))
unfolding places_of
whole_fit [] h = record { scalars = tt; bound = omega arith }
whole_fit (c ∷ cs) h =
    let parts = both (scalar c) (scalars cs) h in
    pick (eqb c 0xFEFF) (places false 3 cs) (places false 0 (c ∷ cs)) (length (encode_utf8_all (c ∷ cs)))
    (more (places false 3 cs) (length (encode_utf8_all cs)) (length (encode_utf8_all (c ∷ cs))) (places_fit false 3 cs parts.1)
    (omega (arith, length-append (encode_utf8 c) (encode_utf8_all cs))))
    (places_fit false 0 (c ∷ cs) h)

pub text_places_fit : (bytes : List ℕ) → IsUtf8 bytes → PlacesFit (places_of (chars bytes)) (length bytes)
text_places_fit bytes utf8 = subst (λ (n : ℕ). PlacesFit (places_of (chars bytes)) n) (ap length (encodes-chars bytes utf8))
    (whole_fit (chars bytes) (scalars-chars bytes utf8))
