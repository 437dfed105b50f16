-- The texts of a token are UTF-8, and no longer than the characters that spell it.
use Rattle.std.proofs.Common.{◌≡◌, ℕ, ◌+◌, ◌<◌, ◌≤◌, List, [], ◌∷◌, ◌++◌, length, Bool, true, false, cond, ltb, leb, ◌&&◌, ◌||◌}
use Rattle.std.proofs.Common.{Option, Some, None, ◌⊎◌, inl, inr, refl, sym, ap, subst, arith, length-append}
use Rattle.std.specs.Prelude.{encode_utf8, IsUtf8, codes, sum_by}
use Rattle.std.specs.List.{AllByRecursion}
use Rattle.std.specs.Char.{IsScalar, len_utf8, is_ascii_alphanumeric}
use Rattle.std.proofs.lemmas.Str.{len_utf8_bounds, len_utf8_ascii}
use Rattle.std.proofs.lemmas.List.Sums.{sum_by-cons}
use Rattle.std.proofs.lemmas.Bool.{ltb-true, lt-ltb, le-ltb, leb-true, le-leb}
use lib.Utf8.{scalar, low_scalar}
use Rattle.html_grammar.specs.declared.dom.Attribute.{Attribute}
use Rattle.html_grammar.specs.declared.place.Place.{Place}
use Rattle.html_grammar.specs.declared.token.Piece.{Piece}
use Rattle.html_grammar.specs.declared.token.Tag.{Tag}
use Rattle.html_grammar.specs.declared.token.Token.{Token}
use Rattle.html_grammar.specs.declared.token.Token.TheVariants.{Start, Raw, End, Comment, Doctype, Char}
use Rattle.html_grammar.specs.declared.token.Spelled.{Spelled}
use Rattle.html_grammar.specs.declared.token.Spelled.TheVariants.{Plain, Reference, Unknown}
use Rattle.html_grammar.specs.Names.{same}
use Rattle.html_grammar.specs.References.{named_in, named_character}
use Rattle.html_grammar.specs.Places.{place_or}
use Rattle.html_grammar.specs.Grammar.{run_text}
use Rattle.html_grammar.specs.Lexing.{is_character, raw_piece, is_radix_digit}
use Rattle.html_grammar.specs.Spelling.{codes_of, SomePass, IsNumeral, IsNumberReference, IsNameReference, IsReference}
use Rattle.html_grammar.specs.Spelling.{IsCharacter, IsPiece, IsText, IsQuoted, IsValue, IsAssigned, IsAttribute, IsAttributes}
use Rattle.html_grammar.specs.Spelling.{IsTagName, IsTag, IsStart, IsToken, IsLexed}
use Rattle.html_subset.specs.WellFormed.{AttributeIsUtf8, attribute_bytes}
use Rattle.html_subset.proofs.TextsFit.{weight, AllScalar, Fits, weight-append, scalar-append, length-le-weight, fits_none}
use Rattle.html_subset.proofs.TextsFit.{fits_char, fits_append, fits_more, key_fits, plain_fits, name_fits}

-- References.

some_length : (test : ℕ → Bool) (ps : List Place) → SomePass test ps → 1 ≤ length ps
some_length test [] h = absurd h
some_length test (p ∷ ps) h = omega arith

numeral_length : (radix n : ℕ) (form : List Place) → IsNumeral radix n form → 2 ≤ length form
numeral_length radix n form h =
    omega (arith, some_length (is_radix_digit radix) h.digits h.some, ap length h.whole, length-append h.digits (h.last ∷ []))

number_length : (n : ℕ) (form : List Place) → IsNumberReference n form → 3 ≤ length form
number_length n form (hash, more, is, inl (whole, numeral)) = omega (arith, ap length whole, numeral_length 10 n more numeral)
number_length n form (hash, more, is, inr (ex, whole, marked, numeral)) =
    omega (arith, ap length whole, numeral_length 16 n more numeral)

name_length : (name : List ℕ) (form : List Place) → IsNameReference name form → 2 ≤ length form
name_length name form h = omega
    (arith, some_length is_ascii_alphanumeric h.letters h.some, ap length h.whole, length-append h.letters (h.last ∷ []))

both : (a b : Bool) → (a && b) ≡ true → (a ≡ true) × (b ≡ true)
both true b h = (refl, h)
both false b h = absurd cc

either : (a b : Bool) → (a || b) ≡ true → (a ≡ true) ⊎ (b ≡ true)
either true b h = inl refl
either false b h = inr h

high_scalar : (c : ℕ) → 57344 ≤ c → c < 1114112 → IsScalar c
high_scalar c le lt = rw (le-ltb c 55296 (omega arith), le-leb 57344 c le, lt-ltb c 1114112 lt) refl

character_by : (c : ℕ) → (ltb c 0xD800 ≡ true) ⊎ ((ltb 0xDFFF c && ltb c 0x110000) ≡ true) → IsScalar c
character_by c (inl low) = low_scalar c (ltb-true c 0xD800 low)
character_by c (inr high) =
    let parts = both (ltb 0xDFFF c) (ltb c 0x110000) high in
    let above = ltb-true 0xDFFF c parts.0 in
    high_scalar c (omega arith) (ltb-true c 0x110000 parts.1)

character_scalar : (c : ℕ) → is_character c ≡ true → IsScalar c
character_scalar c h = character_by c
    (either (ltb c 0xD800) (ltb 0xDFFF c && ltb c 0x110000)
    (both (ltb 0 c) (ltb c 0xD800 || (ltb 0xDFFF c && ltb c 0x110000)) h).1)

-- a table all of whose characters are scalar values of at most three bytes
abbrev all_short : List (List ℕ × ℕ) → Bool
all_short [] = true
all_short (e ∷ es) = (scalar e.1 && leb (len_utf8 e.1) 3) && all_short es

abbrev IsShort : ℕ → Type 0
IsShort c = IsScalar c × (len_utf8 c ≤ 3)

found_by : (b : Bool) (d c : ℕ) (rest : Option ℕ) → cond b (Some d) rest ≡ Some c → IsShort d → (rest ≡ Some c → IsShort c)
    → IsShort c
found_by true d c rest h short more = let e : d ≡ c = cc in subst IsShort e short
found_by false d c rest h short more = more h

named_short : (name : List ℕ) (es : List (List ℕ × ℕ)) (c : ℕ) → all_short es ≡ true → named_in name es ≡ Some c → IsShort c
named_short name [] c all h = absurd cc
named_short name (e ∷ es) c all h =
    let parts = both (scalar e.1 && leb (len_utf8 e.1) 3) (all_short es) all in
    let own = both (scalar e.1) (leb (len_utf8 e.1) 3) parts.0 in
    found_by (same name e.0) e.1 c (named_in name es) h (own.0, leb-true (len_utf8 e.1) 3 own.1) (named_short name es c parts.1)

abbrev table : List (List ℕ × ℕ)
table =
    (codes "amp", 0x26) ∷ (codes "lt", 0x3C) ∷ (codes "gt", 0x3E) ∷ (codes "quot", 0x22) ∷ (codes "apos", 0x27)
    ∷ (codes "nbsp", 0xA0) ∷ (codes "laquo", 0xAB) ∷ (codes "copy", 0xA9) ∷ (codes "shy", 0xAD) ∷ (codes "reg", 0xAE)
    ∷ (codes "deg", 0xB0) ∷ (codes "middot", 0xB7) ∷ (codes "raquo", 0xBB) ∷ (codes "times", 0xD7) ∷ (codes "szlig", 0xDF)
    ∷ (codes "agrave", 0xE0) ∷ (codes "aacute", 0xE1) ∷ (codes "auml", 0xE4) ∷ (codes "ccedil", 0xE7) ∷ (codes "egrave", 0xE8)
    ∷ (codes "eacute", 0xE9) ∷ (codes "ntilde", 0xF1) ∷ (codes "ouml", 0xF6) ∷ (codes "uuml", 0xFC)
    ∷ (codes "ndash", 0x2013) ∷ (codes "mdash", 0x2014) ∷ (codes "lsquo", 0x2018) ∷ (codes "rsquo", 0x2019)
    ∷ (codes "ldquo", 0x201C) ∷ (codes "rdquo", 0x201D) ∷ (codes "bull", 0x2022) ∷ (codes "hellip", 0x2026)
    ∷ (codes "euro", 0x20AC) ∷ (codes "trade", 0x2122) ∷ []

character_named : (name : List ℕ) (c : ℕ) → named_character name ≡ Some c → IsShort c
unfolding named_character
character_named name c h = named_short name table c refl h

-- a reference is longer than its character
reference_fits : (c : ℕ) (form : List Place) → IsReference c form → IsScalar c × (len_utf8 c ≤ 1 + length form)
reference_fits c form (inl (number, is)) =
    (character_scalar c is, omega (arith, number_length c form number, (len_utf8_bounds c).1))
reference_fits c form (inr (name, named, is)) = let short = character_named name c is
    in (short.0, omega (arith, name_length name form named, short.1))

-- a character of a text, and the characters that spell it
pub character_fits : (at c : ℕ) (s : Spelled) (one rest : List Place) → IsCharacter at c s one rest → AllScalar one
    → IsScalar c × (len_utf8 c ≤ weight one)
character_fits at c Plain one rest (p, whole, stands, is, free) all =
    let own = subst AllScalar whole all in
    (subst IsScalar is own.0, omega (arith, ap weight whole, ap len_utf8 is))
character_fits at c Reference one rest (p, form, whole, stands, is, ref) all =
    let fits = reference_fits c form ref in
    (fits.0, omega (arith, ap weight whole, fits.1, length-le-weight form, (len_utf8_bounds p.character).0))
character_fits at c Unknown one rest (p, whole, stands, is, own, unknown) all = (
  subst IsScalar (sym own) (low_scalar 38 (omega arith)),
  omega (arith, ap weight whole, (len_utf8_bounds p.character).0, len_utf8_ascii c (omega arith)),
)

-- a piece of a value
piece_fits : (at c : ℕ) (s : Spelled) (bad : Option ℕ) (one rest : List Place) → IsPiece at c s bad one rest → AllScalar one
    → IsScalar c × (len_utf8 c ≤ weight one)
piece_fits at c s None one rest h all = character_fits at c s one rest h all
piece_fits at c s (Some bad) one rest (p, whole, stands, is, own, spelled, marked, begins) all = (
  subst IsScalar (sym own) (low_scalar 38 (omega arith)),
  omega (arith, ap weight whole, (len_utf8_bounds p.character).0, len_utf8_ascii c (omega arith)),
)

-- a text in an attribute's value
pub text_fits : (test : ℕ → Bool) (toks : List Token) (bad : Option ℕ) (one rest : List Place) → IsText test toks bad one rest
    → AllScalar one → Fits (run_text toks) (weight one)
text_fits test [] bad one rest h all = fits_none (weight one)
text_fits test (Char at c s ∷ ts) bad one rest (here, more, whole, now, later, marked, is, begins, others) all =
    let parts = scalar-append here more (subst AllScalar whole all) in
    let own = piece_fits at c s now here (more ++ rest) is parts.0 in
    fits_more (encode_utf8 c ++ run_text ts) (weight here + weight more) (weight one)
    (fits_append (encode_utf8 c) (run_text ts) (weight here) (weight more) (fits_char c (weight here) own.0 own.1)
    (text_fits test ts later more rest others parts.1))
    (omega (arith, ap weight whole, weight-append here more))
text_fits test _ bad one rest h all = absurd h

-- Attributes.

quoted_fits : (q : ℕ) (toks : List Token) (bad : Option ℕ) (at : ℕ) (form rest : List Place) → IsQuoted q toks bad at form rest
    → AllScalar form → Fits (run_text toks) (weight form)
quoted_fits q toks bad at form rest h all =
    let own = subst AllScalar h.whole all in
    let parts = scalar-append h.inner (h.closing ∷ []) own.1 in
    fits_more (run_text toks) (weight h.inner) (weight form) (text_fits _ toks bad h.inner (h.closing ∷ rest) h.text parts.0)
    (omega (arith, ap weight h.whole, weight-append h.inner (h.closing ∷ [])))

value_fits : (toks : List Token) (bad : Option ℕ) (at : ℕ) (form rest : List Place) → IsValue toks bad at form rest
    → AllScalar form → Fits (run_text toks) (weight form)
value_fits toks bad at form rest (inl h) all = quoted_fits 34 toks bad at form rest h all
value_fits toks bad at form rest (inr (inl h)) all = quoted_fits 39 toks bad at form rest h all
value_fits toks bad at form rest (inr (inr h)) all = text_fits _ toks bad form rest h.0 all

assigned_fits : (at : ℕ) (a : Attribute) (unknown bad : Option ℕ) (tail rest : List Place) → IsAssigned at a unknown bad tail rest
    → AllScalar tail → Fits a.value (weight tail)
assigned_fits at a unknown bad tail rest (inl h) all =
    subst (λ (text : List ℕ). Fits text (weight tail)) (sym h.2) (fits_none (weight tail))
assigned_fits at a unknown bad tail rest (inr (equals, form, toks, whole, is, value, text, first)) all =
    let own = subst AllScalar whole all in
    subst (λ (t : List ℕ). Fits t (weight tail)) (sym text)
    (fits_more (run_text toks) (weight form) (weight tail) (value_fits toks bad a.offset form rest value own.1)
    (omega (arith, ap weight whole)))

pub record AttributesFit (attributes : List Attribute) (most : ℕ) : Type 0 where
  pub utf8 : AllByRecursion AttributeIsUtf8 attributes
  pub bound : sum_by attribute_bytes attributes ≤ most

attribute_fits : (a : Attribute) (unknown bad : Option ℕ) (one rest : List Place) → IsAttribute a unknown bad one rest
    → AllScalar one → AttributeIsUtf8 a × (attribute_bytes a ≤ weight one)
attribute_fits a unknown bad one rest h all =
    let own = subst AllScalar h.whole all in
    let parts = scalar-append (h.first ∷ h.more) h.tail own in
    let name = subst (λ (t : List ℕ). Fits t (weight (h.first ∷ h.more))) (sym h.name_is) (key_fits (h.first ∷ h.more) parts.0) in
    let value = assigned_fits h.first.at a unknown bad h.tail rest h.value_is parts.1 in
    ((name.utf8, value.utf8), omega (arith, name.bound, value.bound, ap weight h.whole, weight-append h.more h.tail))

pub attributes_fit : (attributes : List Attribute) (unknown bad : Option ℕ) (one rest : List Place)
    → IsAttributes attributes unknown bad one rest → AllScalar one → AttributesFit attributes (weight one)
attributes_fit [] unknown bad one rest h all = record { utf8 = tt; bound = omega arith }
attributes_fit (a ∷ others) unknown bad one rest (
  here,
  later,
  now,
  then,
  white,
  spelled,
  more,
  whole,
  spaces,
  split,
  marked,
  is,
  others_are,
) all =
    let own = scalar-append white (spelled ++ more) (subst AllScalar whole all) in
    let parts = scalar-append spelled more own.1 in
    let first = attribute_fits a here now spelled (more ++ rest) is parts.0 in
    let next = attributes_fit others later then more rest others_are parts.1 in
    record {
      utf8 = (first.0, next.utf8);
      bound = omega (
        arith,
        first.1,
        next.bound,
        sum_by-cons attribute_bytes a others,
        ap weight whole,
        weight-append white (spelled ++ more),
        weight-append spelled more,
      );
    }

-- Tokens.

-- the texts of a tag are UTF-8 and have at most so many bytes
pub record TagFits (tag : Tag) (most : ℕ) : Type 0 where
  pub name : IsUtf8 tag.name
  pub attributes : AllByRecursion AttributeIsUtf8 tag.attributes
  pub bound : length tag.name + sum_by attribute_bytes tag.attributes ≤ most

tag_name_fits : (named : List Place) (name : List ℕ) → IsTagName named name → Fits name (weight named)
tag_name_fits [] name h = absurd h
tag_name_fits (p ∷ ps) name h = subst (λ (t : List ℕ). Fits t (weight (p ∷ ps))) (sym h.2) (name_fits (p ∷ ps) h.1)

tag_fits : (tag : Tag) (one rest : List Place) → IsTag tag one rest → AllScalar one → TagFits tag (weight one)
tag_fits tag one rest h all =
    let own = subst AllScalar h.whole all in
    let parts = scalar-append h.named h.more own.1 in
    let name = tag_name_fits h.named tag.name h.name_is in
    let others = attributes_fit tag.attributes tag.unknown h.bad h.more rest h.attributes_are parts.1 in
    record {
      name = name.utf8;
      attributes = others.utf8;
      bound = omega (arith, name.bound, others.bound, ap weight h.whole, weight-append h.named h.more);
    }

tag_more : (tag : Tag) (m n : ℕ) → TagFits tag m → m ≤ n → TagFits tag n
tag_more tag m n f le = record { name = f.name; attributes = f.attributes; bound = omega (arith, f.bound) }

-- how many bytes the text of a raw element has
abbrev pub piece_bytes : Option Piece → ℕ
piece_bytes None = 0
piece_bytes (Some p) = length p.text

abbrev pub PieceIsUtf8 : Option Piece → Type 0
PieceIsUtf8 None = Unit {0}
PieceIsUtf8 (Some p) = IsUtf8 p.text

pub record PieceFits (text : Option Piece) (most : ℕ) : Type 0 where
  pub utf8 : PieceIsUtf8 text
  pub bound : piece_bytes text ≤ most

raw_piece_fits : (at : ℕ) (ps : List Place) → AllScalar ps → PieceFits (raw_piece at (codes_of ps)) (weight ps)
raw_piece_fits at [] h = record { utf8 = tt; bound = omega arith }
raw_piece_fits at (p ∷ ps) h = let fits = plain_fits (p ∷ ps) h in record { utf8 = fits.utf8; bound = fits.bound }

-- the texts of a token are UTF-8
abbrev pub TokenIsUtf8 : Token → Type 0
TokenIsUtf8 (Start tag) = IsUtf8 tag.name × AllByRecursion AttributeIsUtf8 tag.attributes
TokenIsUtf8 (Raw tag text) = IsUtf8 tag.name × AllByRecursion AttributeIsUtf8 tag.attributes × PieceIsUtf8 text
TokenIsUtf8 (End at m) = Unit {0}
TokenIsUtf8 (Comment at) = Unit {0}
TokenIsUtf8 (Doctype at) = Unit {0}
TokenIsUtf8 (Char at c s) = IsScalar c

-- how many bytes they have
abbrev pub token_bytes : Token → ℕ
token_bytes (Start tag) = length tag.name + sum_by attribute_bytes tag.attributes
token_bytes (Raw tag text) = length tag.name + sum_by attribute_bytes tag.attributes + piece_bytes text
token_bytes (End at m) = 0
token_bytes (Comment at) = 0
token_bytes (Doctype at) = 0
token_bytes (Char at c s) = len_utf8 c

start_fits : (tag : Tag) (one rest : List Place) → IsStart tag one rest → AllScalar one → TagFits tag (weight one)
start_fits tag one rest (inl h) all = tag_fits tag one rest h.0 all
start_fits tag one rest (inr (tagged, feed, whole, is, takes)) all =
    let parts = scalar-append tagged (feed ∷ []) (subst AllScalar whole all) in
    tag_more tag (weight tagged) (weight one) (tag_fits tag tagged (feed ∷ rest) is parts.0)
    (omega (arith, ap weight whole, weight-append tagged (feed ∷ [])))

pub token_fits : (t : Token) (one rest : List Place) → IsToken t one rest → AllScalar one
    → TokenIsUtf8 t × (token_bytes t ≤ weight one)
token_fits (Start tag) one rest h all = let fits = start_fits tag one rest h.1 all in ((fits.name, fits.attributes), fits.bound)
token_fits (Raw tag text) one rest h all =
    let raw = h.1 in
    let own = subst AllScalar raw.whole all in
    let parts = scalar-append raw.tagged (raw.inner ++ raw.ending) own in
    let inside = scalar-append raw.inner raw.ending parts.1 in
    let fits = tag_fits tag raw.tagged (raw.inner ++ (raw.ending ++ rest)) raw.tag_is parts.0 in
    let piece = subst (λ (p : Option Piece). PieceFits p (weight raw.inner)) (sym raw.text_is)
    (raw_piece_fits (place_or 0 raw.inner) raw.inner inside.0) in (
      (fits.name, fits.attributes, piece.utf8),
      omega (
        arith,
        fits.bound,
        piece.bound,
        ap weight raw.whole,
        weight-append raw.tagged (raw.inner ++ raw.ending),
        weight-append raw.inner raw.ending,
      ),
    )
token_fits (End at m) one rest h all = (tt, omega arith)
token_fits (Comment at) one rest h all = (tt, omega arith)
token_fits (Doctype at) one rest h all = (tt, omega arith)
token_fits (Char at c s) one rest h all = character_fits at c s one rest h.0 all

pub lexed_fit : (toks : List Token) (ps : List Place) → IsLexed toks ps → AllScalar ps
    → AllByRecursion TokenIsUtf8 toks × (sum_by token_bytes toks ≤ weight ps)
lexed_fit [] ps h all = (tt, omega arith)
lexed_fit (t ∷ ts) ps (one, rest, whole, is, others) all =
    let parts = scalar-append one rest (subst AllScalar whole all) in
    let own = token_fits t one rest is parts.0 in
    let next = lexed_fit ts rest others parts.1 in
    ((own.0, next.0), omega (arith, own.1, next.1, sum_by-cons token_bytes t ts, ap weight whole, weight-append one rest))
