-- Texts that are UTF-8 and no longer than what spells them.
use Rattle.std.proofs.Common.{◌≡◌, ℕ, ◌+◌, ◌<◌, ◌≤◌, List, [], ◌∷◌, ◌++◌, length, Bool, true, false, cond, ltb, ◌⊎◌, inl, inr}
use Rattle.std.proofs.Common.{refl, sym, ap, subst, ◌∙◌, arith, zero-add, add_assoc, length-append}
use Rattle.std.specs.Prelude.{map, encode_utf8, encode_utf8_all, IsUtf8}
use Rattle.std.specs.Char.{IsScalar, len_utf8, to_ascii_lowercase}
use Rattle.std.proofs.lemmas.Str.{IsUtf8-nil, IsUtf8-append, IsUtf8-encode, length-encode, len_utf8_bounds, len_utf8_ascii}
use Rattle.std.proofs.lemmas.Str.{encode_ascii}
use Rattle.std.proofs.lemmas.Bool.{ltb-true}
use Rattle.std.proofs.lemmas.Bool.Decides.{nat_tests}
use lib.Utf8.{low_scalar}
use Rattle.html_grammar.specs.declared.place.Place.{Place}
use Rattle.html_grammar.specs.Spelling.{codes_of, Passes}
use Rattle.html_grammar.specs.Lexing.{is_name_char}

-- how many bytes these characters take
abbrev pub weight : List Place → ℕ
weight [] = 0
weight (p ∷ ps) = len_utf8 p.character + weight ps

abbrev pub AllScalar : List Place → Type 0
AllScalar [] = Unit {0}
AllScalar (p ∷ ps) = IsScalar p.character × AllScalar ps

-- UTF-8 of at most so many bytes
pub record Fits (text : List ℕ) (most : ℕ) : Type 0 where
  pub utf8 : IsUtf8 text
  pub bound : length text ≤ most

pub weight-append : (xs ys : List Place) → weight (xs ++ ys) ≡ weight xs + weight ys
weight-append [] ys = sym (zero-add (weight ys))
weight-append (x ∷ xs) ys = ap (λ (n : ℕ). len_utf8 x.character + n) (weight-append xs ys)
    ∙ sym (add_assoc (len_utf8 x.character) (weight xs) (weight ys))

pub scalar-append : (xs ys : List Place) → AllScalar (xs ++ ys) → AllScalar xs × AllScalar ys
scalar-append [] ys h = (tt, h)
scalar-append (x ∷ xs) ys h = let more = scalar-append xs ys h.1 in ((h.0, more.0), more.1)

pub length-le-weight : (ps : List Place) → length ps ≤ weight ps
length-le-weight [] = omega arith
length-le-weight (p ∷ ps) = omega (arith, (len_utf8_bounds p.character).0, length-le-weight ps)

pub fits_none : (n : ℕ) → Fits [] n
fits_none n = record { utf8 = IsUtf8-nil; bound = omega arith }

pub fits_char : (c w : ℕ) → IsScalar c → len_utf8 c ≤ w → Fits (encode_utf8 c) w
fits_char c w h le = record { utf8 = IsUtf8-encode c h; bound = omega (arith, length-encode c) }

pub fits_append : (xs ys : List ℕ) (m n : ℕ) → Fits xs m → Fits ys n → Fits (xs ++ ys) (m + n)
fits_append xs ys m n f g = record {
  utf8 = IsUtf8-append xs ys f.utf8 g.utf8;
  bound = omega (arith, length-append xs ys, f.bound, g.bound);
}

pub fits_more : (xs : List ℕ) (m n : ℕ) → Fits xs m → m ≤ n → Fits xs n
fits_more xs m n f le = record { utf8 = f.utf8; bound = omega (arith, f.bound) }

lower_by : (b d : Bool) (c : ℕ) → (d ≡ true → c < 91)
    → (cond b c (cond d (c + 32) c) ≡ c) ⊎ ((cond b c (cond d (c + 32) c) < 128) × (c < 128))
lower_by true d c h = inl refl
lower_by false true c h = let lt = h refl in inr (omega arith, omega arith)
lower_by false false c h = inl refl

lower_cases : (c : ℕ) → (to_ascii_lowercase c ≡ c) ⊎ ((to_ascii_lowercase c < 128) × (c < 128))
lower_cases c = lower_by (ltb c 65) (ltb c 91) c (ltb-true c 91)

fits_by : (c d : ℕ) → IsScalar c → (d ≡ c) ⊎ ((d < 128) × (c < 128)) → IsScalar d × (len_utf8 d ≤ len_utf8 c)
fits_by c d h (inl e) = (rw e h, rw e (omega arith))
fits_by c d h (inr small) = (
  low_scalar d (omega (arith, small.0)),
  omega (arith, len_utf8_ascii d small.0, (len_utf8_bounds c).0),
)

lower_fits : (c : ℕ) → IsScalar c → IsScalar (to_ascii_lowercase c) × (len_utf8 (to_ascii_lowercase c) ≤ len_utf8 c)
lower_fits c h = fits_by c (to_ascii_lowercase c) h (lower_cases c)

pub key_fits : (ps : List Place) → AllScalar ps → Fits (encode_utf8_all (map to_ascii_lowercase (codes_of ps))) (weight ps)
key_fits [] h = fits_none 0
key_fits (p ∷ ps) h =
    let low = lower_fits p.character h.0 in
    fits_append (encode_utf8 (to_ascii_lowercase p.character)) (encode_utf8_all (map to_ascii_lowercase (codes_of ps)))
    (len_utf8 p.character) (weight ps)
    (fits_char (to_ascii_lowercase p.character) (len_utf8 p.character) low.0 low.1) (key_fits ps h.1)

pub plain_fits : (ps : List Place) → AllScalar ps → Fits (encode_utf8_all (codes_of ps)) (weight ps)
plain_fits [] h = fits_none 0
plain_fits (p ∷ ps) h = fits_append (encode_utf8 p.character) (encode_utf8_all (codes_of ps)) (len_utf8 p.character) (weight ps)
    (fits_char p.character (len_utf8 p.character) h.0 (omega arith)) (plain_fits ps h.1)

name_small : (c : ℕ) → is_name_char c ≡ true → c < 128
name_small c h = grind (arith, nat_tests)

small_by : (c d : ℕ) → c < 128 → (d ≡ c) ⊎ ((d < 128) × (c < 128)) → d < 128
small_by c d lt (inl e) = omega arith
small_by c d lt (inr small) = small.0

lower_small : (c : ℕ) → c < 128 → to_ascii_lowercase c < 128
lower_small c lt = small_by c (to_ascii_lowercase c) lt (lower_cases c)

pub byte_fits : (x : ℕ) → x < 128 → Fits (x ∷ []) 1
byte_fits x h = subst (λ (text : List ℕ). Fits text 1) (encode_ascii x h)
    (fits_char x 1 (low_scalar x (omega arith)) (omega (arith, len_utf8_ascii x h)))

pub name_fits : (ps : List Place) → Passes is_name_char ps → Fits (map to_ascii_lowercase (codes_of ps)) (weight ps)
name_fits [] h = fits_none 0
name_fits (p ∷ ps) h =
    fits_append (to_ascii_lowercase p.character ∷ []) (map to_ascii_lowercase (codes_of ps)) (len_utf8 p.character) (weight ps)
    (fits_more (to_ascii_lowercase p.character ∷ []) 1 (len_utf8 p.character)
    (byte_fits (to_ascii_lowercase p.character) (lower_small p.character (name_small p.character h.0)))
    (len_utf8_bounds p.character).0)
    (name_fits ps h.1)
