-- What is read has its form.
use Rattle.std.proofs.Common.{◌≡◌, ℕ, zero, suc, ◌≤◌, List, [], ◌∷◌, ◌++◌, length, Bool, true, false, cond, not, ◌&&◌, ◌||◌, refl}
use Rattle.std.proofs.Common.{sym, ap, subst, ◌∙◌, append_assoc, append-nil, arith, length-append, inl, inr}
use Rattle.std.specs.Prelude.{◌⊎◌, ◌==◌, Option, Some, None, encode_utf8, encode_utf8_all}
use Rattle.std.specs.Char.{is_ascii_digit}
use Rattle.std.proofs.lemmas.Bool.{true≢false, eq-eqb, eqb-true, and_parts, or_parts}
use Rattle.html_grammar.specs.declared.place.Place.{Place}
use Rattle.html_grammar.specs.Places.{behind_first, place_or, behind_while, begins_with, begins}
use Rattle.html_grammar.specs.Tokens.{is_space}
use Rattle.html_grammar.specs.Spelling.{Passes, SomePass, NoneBegins}
use Rattle.css_tokens.specs.Characters.{is_name, is_start, is_sign}
use Rattle.css_tokens.specs.declared.lexeme.Lexeme.{Lexeme}
use Rattle.css_tokens.specs.declared.lexeme.Symbol.{Symbol}
use Rattle.css_tokens.specs.declared.lexeme.Symbol.TheVariants.{Ident, Hash, Quoted, Number, Percent, Dimension, Function, Delim}
use Rattle.css_tokens.specs.declared.lexeme.Symbol.TheVariants.{Space, Broken}
use Rattle.css_tokens.specs.Lexing.{text_while, begins_ident, name_text, behind_name, begins_point, begins_digits, behind_sign}
use Rattle.css_tokens.specs.Lexing.{begins_number, sign_text, fraction_text, behind_fraction, number_text, behind_number}
use Rattle.css_tokens.specs.Lexing.{ident_at, numeric_at, hash_at, quoted_text, behind_quoted, string_at, other_at, symbol_at}
use Rattle.css_tokens.specs.Lexing.{from_end, comment_at, piece_at}
use Rattle.css_laws.specs.Forms.{text_of, IsIdent, IsSign, IsFraction, IsNumber, is_quote, Part, Plain, Escaped, spelled}
use Rattle.css_laws.specs.Forms.{AreParts, IsLone, IsOpenString, ends_comment, IsOpenComment, is_other, IsForm, IsPiece}
use Rattle.css_laws.proofs.Runs.{Span, span, begins_first, some_pass, text_append, same_place}

abbrev pub pair : Symbol → List Place → Symbol × List Place
pair s rest = (s, rest)

abbrev pub piece : Option Lexeme → List Place → Option Lexeme × List Place
piece x rest = (x, rest)

-- a symbol that was read from these places
pub record HasSymbol (all : List Place) (r : Symbol × List Place) : Type 0 where
  pub one : List Place
  pub whole : all ≡ one ++ r.1
  pub is : IsForm r.0 one r.1

-- Identifiers.

start_is_name : (c : ℕ) → is_start c ≡ true → is_name c ≡ true
start_is_name c h = (and_parts (is_name c) (not (is_ascii_digit c)) h).0

no_start : (rest : List Place) → begins_with is_name rest ≡ false → begins_with is_start rest ≡ true → ⊥
no_start [] stops h = absurd cc
no_start (p ∷ rest) stops h = true≢false (sym (start_is_name p.character h) ∙ stops)

front_starts : (front rest : List Place) → begins_with is_name rest ≡ false → begins_with is_start (front ++ rest) ≡ true
    → begins_with is_start front ≡ true
front_starts [] rest stops h = absurd (no_start rest stops h)
front_starts (p ∷ front) rest stops h = h

pub ident_front : (ps front rest : List Place) → ps ≡ front ++ rest → Passes is_name front → begins_with is_name rest ≡ false
    → begins_ident ps ≡ true → IsIdent front
ident_front ps [] rest e passes stops h =
    let a = and_parts (begins_with is_start ps) (not (begins 45 ps) || begins_with is_start (behind_first ps)) h in
    no_start rest stops (sym (ap (begins_with is_start) e) ∙ a.0)
ident_front ps (p ∷ front) rest e passes stops h =
    let g : begins_ident (p ∷ (front ++ rest)) ≡ true = sym (ap begins_ident e) ∙ h in
    let a = and_parts (is_start p.character) (not (p.character == 45) || begins_with is_start (front ++ rest)) g in (
      a.0,
      passes.1,
      λ dash. front_starts front rest stops
          (sym (ap (λ (b : Bool). not b || begins_with is_start (front ++ rest)) (eq-eqb p.character 45 dash)) ∙ a.1),
    )

pub ident_has : (ps : List Place) → begins_ident ps ≡ true → HasSymbol ps (ident_at ps)
unfolding ident_at
ident_has ps h = by_paren (begins 40 (behind_name ps)) refl
  where
    s : Span is_name ps
    s = span is_name ps

    named : IsIdent s.front
    named = ident_front ps s.front (behind_name ps) s.whole s.passes s.stops h

    by_paren : (b : Bool) → begins 40 (behind_name ps) ≡ b
        → HasSymbol ps (cond b (Function (name_text ps) (place_or 0 (behind_name ps)), behind_first (behind_name ps))
        (Ident (name_text ps), behind_name ps))
    by_paren true e =
        let f = begins_first 40 (behind_name ps) e in
        record {
          one = s.front ++ f.place ∷ [];
          whole = s.whole ∙ ap (λ (x : List Place). s.front ++ x) f.whole
              ∙ sym (append_assoc s.front (f.place ∷ []) (behind_first (behind_name ps)));
          is = (s.front, f.place, refl, named, f.is, ap encode_utf8_all s.codes_are, ap (place_or 0) f.whole);
        }
    by_paren false e = record { one = s.front; whole = s.whole; is = (named, ap encode_utf8_all s.codes_are) }

-- Numbers.

record SignFront (ps : List Place) : Type 0 where
  sign : List Place
  whole : ps ≡ sign ++ behind_sign ps
  signed : IsSign sign
  text : sign_text ps ≡ text_of sign
  begun : begins_number ps ≡ begins_digits (behind_sign ps)

sign_front : (ps : List Place) → SignFront ps
sign_front [] = record { sign = []; whole = refl; signed = tt; text = refl; begun = refl }
sign_front (p ∷ ps) = by_sign (is_sign p.character) refl
  where
    by_sign : (b : Bool) → is_sign p.character ≡ b → SignFront (p ∷ ps)
    by_sign true is = record {
      sign = p ∷ [];
      whole = sym (ap (λ (b : Bool). p ∷ cond b ps (p ∷ ps)) is);
      signed = (is, refl);
      text = ap (λ (b : Bool). cond b (encode_utf8 p.character) []) is ∙ sym (append-nil (encode_utf8 p.character));
      begun = ap (λ (b : Bool). cond b (begins_digits ps) (begins_digits (p ∷ ps))) is
          ∙ sym (ap (λ (b : Bool). begins_digits (cond b ps (p ∷ ps))) is);
    }
    by_sign false is = record {
      sign = [];
      whole = sym (ap (λ (b : Bool). cond b ps (p ∷ ps)) is);
      signed = tt;
      text = ap (λ (b : Bool). cond b (encode_utf8 p.character) []) is;
      begun = ap (λ (b : Bool). cond b (begins_digits ps) (begins_digits (p ∷ ps))) is
          ∙ sym (ap (λ (b : Bool). begins_digits (cond b ps (p ∷ ps))) is);
    }

record FractionFront (ps : List Place) : Type 0 where
  fraction : List Place
  whole : ps ≡ fraction ++ behind_fraction ps
  pointed : IsFraction fraction
  text : fraction_text ps ≡ text_of fraction
  none : fraction ≡ [] → begins_point ps ≡ false

fraction_front : (ps : List Place) → FractionFront ps
fraction_front ps = by_point (begins_point ps) refl
  where
    not_empty : (p : Place) (more : List Place) → p ∷ more ≡ [] → ⊥
    not_empty p more e = cc

    by_point : (b : Bool) → begins_point ps ≡ b → FractionFront ps
    by_point true is =
        let a = and_parts (begins 46 ps) (begins_with is_ascii_digit (behind_first ps)) is in
        let f = begins_first 46 ps a.0 in
        let s = span is_ascii_digit (behind_first ps) in
        let some = some_pass is_ascii_digit s.front (behind_while is_ascii_digit (behind_first ps)) (behind_first ps) s.whole
        s.passes s.stops a.1 in
        record {
          fraction = f.place ∷ s.front;
          whole = f.whole ∙ ap (λ (x : List Place). f.place ∷ x) s.whole
              ∙ sym (ap (λ (b : Bool). (f.place ∷ s.front) ++ cond b (behind_while is_ascii_digit (behind_first ps)) ps) is);
          pointed = (f.is, some);
          text = ap (λ (b : Bool). cond b (encode_utf8 46 ++ text_while is_ascii_digit (behind_first ps)) []) is
              ∙ ap (λ (x : List ℕ). encode_utf8 46 ++ encode_utf8_all x) s.codes_are
              ∙ ap (λ (c : ℕ). encode_utf8 c ++ text_of s.front) (sym f.is);
          none = λ e. absurd (not_empty f.place s.front e);
        }
    by_point false is = record {
      fraction = [];
      whole = sym (ap (λ (b : Bool). cond b (behind_while is_ascii_digit (behind_first ps)) ps) is);
      pointed = tt;
      text = ap (λ (b : Bool). cond b (encode_utf8 46 ++ text_while is_ascii_digit (behind_first ps)) []) is;
      none = λ e. is;
    }

both_empty : (a b : List Place) → a ++ b ≡ [] → (a ≡ []) × (b ≡ [])
both_empty [] b e = (refl, e)
both_empty (p ∷ a) b e = absurd cc

pub record NumberFront (ps : List Place) : Type 0 where
  pub number : List Place
  pub whole : ps ≡ number ++ behind_number ps
  pub is : IsNumber number
  pub text : number_text ps ≡ text_of number

number_front : (ps : List Place) → begins_number ps ≡ true → NumberFront ps
number_front ps h =
    let g = sign_front ps in
    let unsigned = behind_sign ps in
    let s = span is_ascii_digit unsigned in
    let behind = behind_while is_ascii_digit unsigned in
    let f = fraction_front behind in
    record {
      number = g.sign ++ (s.front ++ f.fraction);
      whole = g.whole ∙ ap (λ (x : List Place). g.sign ++ x) (s.whole ∙ ap (λ (x : List Place). s.front ++ x) f.whole
          ∙ sym (append_assoc s.front f.fraction (behind_number ps)))
          ∙ sym (append_assoc g.sign (s.front ++ f.fraction) (behind_number ps));
      is = record {
        sign = g.sign;
        digits = s.front;
        fraction = f.fraction;
        whole = refl;
        signed = g.signed;
        counted = s.passes;
        pointed = f.pointed;
        some = λ e.
            let empty = both_empty s.front f.fraction e in
            let none : begins_digits behind ≡ false = ap (λ (b : Bool). b || begins_point behind) s.stops ∙ f.none empty.1 in
            let same : unsigned ≡ behind = s.whole ∙ ap (λ (x : List Place). x ++ behind) empty.0 in
            true≢false (sym h ∙ g.begun ∙ ap begins_digits same ∙ none);
      };
      text = ap (λ (x : List ℕ). (x ++ text_while is_ascii_digit unsigned) ++ fraction_text behind) g.text
          ∙ ap (λ (x : List ℕ). (text_of g.sign ++ encode_utf8_all x) ++ fraction_text behind) s.codes_are
          ∙ ap (λ (x : List ℕ). (text_of g.sign ++ text_of s.front) ++ x) f.text
          ∙ append_assoc (text_of g.sign) (text_of s.front) (text_of f.fraction)
          ∙ sym (text_append g.sign (s.front ++ f.fraction)
          ∙ ap (λ (x : List ℕ). text_of g.sign ++ x) (text_append s.front f.fraction));
    }

pub numeric_has : (ps : List Place) → begins_number ps ≡ true → HasSymbol ps (numeric_at ps)
unfolding numeric_at
numeric_has ps h = by_percent (begins 37 rest) refl
  where
    n : NumberFront ps
    n = number_front ps h

    rest : List Place
    rest = behind_number ps

    by_unit : (b : Bool) → begins_ident rest ≡ b
        → HasSymbol ps (cond b (Dimension (number_text ps) (name_text rest), behind_name rest) (Number (number_text ps), rest))
    by_unit true e =
        let s = span is_name rest in
        record {
          one = n.number ++ s.front;
          whole = n.whole ∙ ap (λ (x : List Place). n.number ++ x) s.whole
              ∙ sym (append_assoc n.number s.front (behind_name rest));
          is = (
            n.number,
            s.front,
            refl,
            n.is,
            ident_front rest s.front (behind_name rest) s.whole s.passes s.stops e,
            n.text,
            ap encode_utf8_all s.codes_are,
          );
        }
    by_unit false e = record { one = n.number; whole = n.whole; is = (n.is, n.text) }

    by_percent : (b : Bool) → begins 37 rest ≡ b
        → HasSymbol ps (cond b (Percent (number_text ps), behind_first rest)
        (cond (begins_ident rest) (Dimension (number_text ps) (name_text rest), behind_name rest)
        (Number (number_text ps), rest)))
    by_percent true e =
        let f = begins_first 37 rest e in
        record {
          one = n.number ++ f.place ∷ [];
          whole = n.whole ∙ ap (λ (x : List Place). n.number ++ x) f.whole
              ∙ sym (append_assoc n.number (f.place ∷ []) (behind_first rest));
          is = (n.number, f.place, refl, n.is, f.is, n.text);
        }
    by_percent false e = by_unit (begins_ident rest) refl

-- Strings.

abbrev EndsAt : ℕ → List Place → Type 0
EndsAt q [] = Unit {0}
EndsAt q (p ∷ ps) = ((p.character == q) || (p.character == 10)) ≡ true

record StringFront (q : ℕ) (ps : List Place) : Type 0 where
  parts : List Part
  lone : List Place
  whole : ps ≡ spelled parts ++ (lone ++ behind_quoted q false ps)
  inner : AreParts q parts
  lone_is : (lone ≡ []) ⊎ (IsLone lone × (behind_quoted q false ps ≡ []))
  text : lone ≡ [] → quoted_text q false ps ≡ text_of (spelled parts)
  stops : EndsAt q (behind_quoted q false ps)

-- the same behind a backslash, which takes a character with it
abbrev EscapedFront : ℕ → List Place → Type 0
EscapedFront q [] = Unit {0}
EscapedFront q (p ∷ ps) = StringFront q ps

string_front : (q : ℕ) (p : Place) (ps : List Place) → StringFront q ps × EscapedFront q ps → StringFront q (p ∷ ps)
string_front q p ps more = by_end ((p.character == q) || (p.character == 10)) refl
  where
    c : ℕ
    c = p.character

    behind_is : (x : Bool) → ((c == q) || (c == 10)) ≡ false → (c == 92) ≡ x
        → behind_quoted q false (p ∷ ps) ≡ behind_quoted q x ps
    behind_is x h e = ap (λ (b : Bool). cond b (p ∷ ps) (behind_quoted q (c == 92) ps)) h
        ∙ ap (λ (b : Bool). behind_quoted q b ps) e

    text_is : (x : Bool) → ((c == q) || (c == 10)) ≡ false → (c == 92) ≡ x
        → quoted_text q false (p ∷ ps) ≡ encode_utf8 c ++ quoted_text q x ps
    text_is x h e = ap (λ (b : Bool). cond b [] (encode_utf8 c ++ quoted_text q (c == 92) ps)) h
        ∙ ap (λ (b : Bool). encode_utf8 c ++ quoted_text q b ps) e

    plain : ((c == q) || (c == 10)) ≡ false → (c == 92) ≡ false → StringFront q (p ∷ ps)
    plain h e =
        let f = more.0 in
        let behind = behind_is false h e in
        let parts_are = or_parts (c == q) (c == 10) h in
        record {
          parts = Plain p ∷ f.parts;
          lone = f.lone;
          whole = ap (λ (x : List Place). p ∷ x) f.whole
              ∙ ap (λ (x : List Place). p ∷ (spelled f.parts ++ (f.lone ++ x))) (sym behind);
          inner = (
            ap (λ (b : Bool). not b && (not (c == 10) && not (c == 92))) parts_are.0
                ∙ ap (λ (b : Bool). not b && not (c == 92)) parts_are.1 ∙ ap not e,
            f.inner,
          );
          lone_is = by_lone f.lone_is behind;
          text = λ none. text_is false h e ∙ ap (λ (x : List ℕ). encode_utf8 c ++ x) (f.text none);
          stops = subst (EndsAt q) (sym behind) f.stops;
        }
      where
        by_lone : (more.0.lone ≡ []) ⊎ (IsLone more.0.lone × (behind_quoted q false ps ≡ []))
            → behind_quoted q false (p ∷ ps) ≡ behind_quoted q false ps
            → (more.0.lone ≡ []) ⊎ (IsLone more.0.lone × (behind_quoted q false (p ∷ ps) ≡ []))
        by_lone (inl none) behind = inl none
        by_lone (inr l) behind = inr (l.0, behind ∙ l.1)

    escaped : (tail : List Place) → ps ≡ tail → EscapedFront q tail → ((c == q) || (c == 10)) ≡ false → (c == 92) ≡ true
        → StringFront q (p ∷ ps)
    escaped [] e f h slash =
        let behind : behind_quoted q false (p ∷ ps) ≡ [] = behind_is true h slash ∙ ap (behind_quoted q true) e in
        record {
          parts = [];
          lone = p ∷ [];
          whole = ap (λ (x : List Place). p ∷ x) (e ∙ sym behind);
          inner = tt;
          lone_is = inr ((eqb-true c 92 slash, refl), behind);
          text = λ none. absurd (not_empty p [] none);
          stops = subst (EndsAt q) (sym behind) tt;
        }
      where
        not_empty : (p : Place) (more : List Place) → p ∷ more ≡ [] → ⊥
        not_empty p more e = cc
    escaped (r ∷ tail) e f h slash =
        let behind : behind_quoted q false (p ∷ ps) ≡ behind_quoted q false tail = behind_is true h slash
        ∙ ap (behind_quoted q true) e in
        record {
          parts = Escaped p r ∷ f.parts;
          lone = f.lone;
          whole = ap (λ (x : List Place). p ∷ x) (e ∙ ap (λ (x : List Place). r ∷ x) f.whole)
              ∙ ap (λ (x : List Place). p ∷ (r ∷ (spelled f.parts ++ (f.lone ++ x)))) (sym behind);
          inner = (eqb-true c 92 slash, f.inner);
          lone_is = by_lone f.lone_is behind;
          text = λ none. text_is true h slash ∙ ap (λ (x : List Place). encode_utf8 c ++ quoted_text q true x) e
              ∙ ap (λ (x : List ℕ). encode_utf8 c ++ (encode_utf8 r.character ++ x)) (f.text none);
          stops = subst (EndsAt q) (sym behind) f.stops;
        }
      where
        by_lone : (f.lone ≡ []) ⊎ (IsLone f.lone × (behind_quoted q false tail ≡ []))
            → behind_quoted q false (p ∷ ps) ≡ behind_quoted q false tail
            → (f.lone ≡ []) ⊎ (IsLone f.lone × (behind_quoted q false (p ∷ ps) ≡ []))
        by_lone (inl none) behind = inl none
        by_lone (inr l) behind = inr (l.0, behind ∙ l.1)

    by_slash : (b : Bool) → (c == 92) ≡ b → ((c == q) || (c == 10)) ≡ false → StringFront q (p ∷ ps)
    by_slash true e h = escaped ps refl more.1 h e
    by_slash false e h = plain h e

    by_end : (b : Bool) → ((c == q) || (c == 10)) ≡ b → StringFront q (p ∷ ps)
    by_end true h =
        let behind : behind_quoted q false (p ∷ ps) ≡ p ∷ ps =
        ap (λ (b : Bool). cond b (p ∷ ps) (behind_quoted q (c == 92) ps)) h in
        record {
          parts = [];
          lone = [];
          whole = sym behind;
          inner = tt;
          lone_is = inl refl;
          text = λ _. ap (λ (b : Bool). cond b [] (encode_utf8 c ++ quoted_text q (c == 92) ps)) h;
          stops = subst (EndsAt q) (sym behind) h;
        }
    by_end false h = by_slash (c == 92) refl h

string_fronts : (q : ℕ) (ps : List Place) → StringFront q ps × EscapedFront q ps
string_fronts q [] =
    (record { parts = []; lone = []; whole = refl; inner = tt; lone_is = inl refl; text = λ _. refl; stops = tt }, tt)
string_fronts q (p ∷ ps) = let more = string_fronts q ps in (string_front q p ps more, more.0)

string_has : (p : Place) (ps : List Place) → is_quote p.character ≡ true → HasSymbol (p ∷ ps) (string_at p.character ps)
unfolding string_at
string_has p ps quote = by_close (begins q behind) refl
  where
    q : ℕ
    q = p.character

    behind : List Place
    behind = behind_quoted q false ps

    f : StringFront q ps
    f = (string_fronts q ps).0

    -- where something stands behind, no backslash is left over
    no_lone : (r : Place) (more : List Place) → behind ≡ r ∷ more → f.lone ≡ []
    no_lone r more e = by_lone f.lone_is
      where
        not_empty : (x : List Place) → x ≡ [] → x ≡ r ∷ more → ⊥
        not_empty x a b = cc

        by_lone : (f.lone ≡ []) ⊎ (IsLone f.lone × (behind ≡ [])) → f.lone ≡ []
        by_lone (inl none) = none
        by_lone (inr l) = absurd (not_empty behind l.1 e)

    whole_is : (r : Place) (more : List Place) → behind ≡ r ∷ more → ps ≡ (spelled f.parts ++ r ∷ []) ++ more
    whole_is r more e = f.whole ∙ ap (λ (x : List Place). spelled f.parts ++ (x ++ behind)) (no_lone r more e)
        ∙ ap (λ (x : List Place). spelled f.parts ++ x) e ∙ sym (append_assoc (spelled f.parts) (r ∷ []) more)

    by_behind : (rest : List Place) → behind ≡ rest → begins q behind ≡ false → EndsAt q rest
        → HasSymbol (p ∷ ps) (Broken 3, behind_first rest)
    by_behind [] e h stops = record {
      one = p ∷ (spelled f.parts ++ f.lone);
      whole = ap (λ (x : List Place). p ∷ x) (f.whole ∙ ap (λ (x : List Place). spelled f.parts ++ (f.lone ++ x)) e
          ∙ sym (append_assoc (spelled f.parts) f.lone []));
      is = inr (
        record {
          opening = p;
          parts = f.parts;
          tail = f.lone;
          whole = refl;
          quoted = quote;
          inner = f.inner;
          ends = inr (lone_is f.lone_is, refl);
        },
        refl,
      );
    }
      where
        lone_is : (f.lone ≡ []) ⊎ (IsLone f.lone × (behind ≡ [])) → IsLone f.lone
        lone_is (inl none) = subst IsLone (sym none) tt
        lone_is (inr l) = l.0
    by_behind (r ∷ more) e h stops = record {
      one = p ∷ (spelled f.parts ++ r ∷ []);
      whole = ap (λ (x : List Place). p ∷ x) (whole_is r more e);
      is = inr (
        record {
          opening = p;
          parts = f.parts;
          tail = r ∷ [];
          whole = refl;
          quoted = quote;
          inner = f.inner;
          ends = inl (r, refl, feed);
        },
        refl,
      );
    }
      where
        feed : r.character ≡ 10
        feed = eqb-true r.character 10 (sym (ap (λ (b : Bool). b || (r.character == 10)) (sym (ap (begins q) e) ∙ h)) ∙ stops)

    by_close : (b : Bool) → begins q behind ≡ b
        → HasSymbol (p ∷ ps) (cond b (Quoted (quoted_text q false ps), behind_first behind) (Broken 3, behind_first behind))
    by_close true h =
        let r = begins_first q behind h in
        record {
          one = p ∷ (spelled f.parts ++ r.place ∷ []);
          whole = ap (λ (x : List Place). p ∷ x) (whole_is r.place (behind_first behind) r.whole);
          is = record {
            opening = p;
            parts = f.parts;
            closing = r.place;
            whole = refl;
            quoted = quote;
            closes = r.is;
            inner = f.inner;
            text_is = f.text (no_lone r.place (behind_first behind) r.whole);
          };
        }
    by_close false h = by_behind behind refl h f.stops

-- What stands for itself.

hash_has : (p : Place) (ps : List Place) → p.character ≡ 35 → HasSymbol (p ∷ ps) (hash_at ps)
unfolding hash_at
hash_has p ps e = by_name (begins_with is_name ps) refl
  where
    by_name : (b : Bool) → begins_with is_name ps ≡ b
        → HasSymbol (p ∷ ps) (cond b (Hash (name_text ps), behind_name ps) (Delim 35, ps))
    by_name true h =
        let s = span is_name ps in
        record {
          one = p ∷ s.front;
          whole = ap (λ (x : List Place). p ∷ x) s.whole;
          is = (
            p,
            s.front,
            refl,
            e,
            some_pass is_name s.front (behind_name ps) ps s.whole s.passes s.stops h,
            ap encode_utf8_all s.codes_are,
          );
        }
    by_name false h = record { one = p ∷ []; whole = refl; is = (p, refl, e, refl) }

sign_is_no_digit : (c : ℕ) → is_sign c ≡ true → is_ascii_digit c ≡ false
sign_is_no_digit c h = by_plus (c == 43) refl h
  where
    by_plus : (b : Bool) → (c == 43) ≡ b → (b || (c == 45)) ≡ true → is_ascii_digit c ≡ false
    by_plus true e h = ap is_ascii_digit (eqb-true c 43 e)
    by_plus false e h = ap is_ascii_digit (eqb-true c 45 h)

no_digit : (p : Place) (ps : List Place) → begins_number (p ∷ ps) ≡ false → is_ascii_digit p.character ≡ false
no_digit p ps h = by_sign (is_sign p.character) refl h
  where
    by_sign : (b : Bool) → is_sign p.character ≡ b → cond b (begins_digits ps) (begins_digits (p ∷ ps)) ≡ false
        → is_ascii_digit p.character ≡ false
    by_sign true e h = sign_is_no_digit p.character e
    by_sign false e h = (or_parts (is_ascii_digit p.character) (begins_point (p ∷ ps)) h).0

no_ident : (p : Place) (ps : List Place) → begins_ident (p ∷ ps) ≡ false
    → (not (is_start p.character) || (p.character == 45)) ≡ true
no_ident p ps h = by_start (is_start p.character) (p.character == 45) h
  where
    by_start : (a b : Bool) → (a && (not b || begins_with is_start ps)) ≡ false → (not a || b) ≡ true
    by_start true true h = refl
    by_start true false h = absurd cc
    by_start false b h = refl

other_is : (p : Place) (ps : List Place) → is_space p.character ≡ false → begins_ident (p ∷ ps) ≡ false
    → begins_number (p ∷ ps) ≡ false → is_quote p.character ≡ false → is_other p.character ≡ true
other_is p ps space ident number quote =
    ap (λ (b : Bool). not b && (not (is_ascii_digit p.character)
    && (not (is_quote p.character) && (not (is_start p.character) || (p.character == 45))))) space
    ∙ ap (λ (b : Bool). not b && (not (is_quote p.character) && (not (is_start p.character) || (p.character == 45))))
    (no_digit p ps number)
    ∙ ap (λ (b : Bool). not b && (not (is_start p.character) || (p.character == 45))) quote
    ∙ no_ident p ps ident

other_has : (p : Place) (ps : List Place) → is_space p.character ≡ false → begins_ident (p ∷ ps) ≡ false
    → begins_number (p ∷ ps) ≡ false → HasSymbol (p ∷ ps) (other_at (p ∷ ps))
unfolding other_at
other_has p ps space ident number = by_hash (p.character == 35) refl
  where
    by_quote : (b : Bool) → is_quote p.character ≡ b
        → HasSymbol (p ∷ ps) (cond b (string_at p.character ps) (Delim p.character, ps))
    by_quote true h = string_has p ps h
    by_quote false h = record { one = p ∷ []; whole = refl; is = (p, refl, refl, other_is p ps space ident number h) }

    by_hash : (b : Bool) → (p.character == 35) ≡ b
        → HasSymbol (p ∷ ps) (cond b (hash_at ps)
        (cond (is_quote p.character) (string_at p.character ps) (Delim p.character, ps)))
    by_hash true h = hash_has p ps (eqb-true p.character 35 h)
    by_hash false h = by_quote (is_quote p.character) refl

symbol_has : (p : Place) (ps : List Place) → HasSymbol (p ∷ ps) (symbol_at (p ∷ ps))
unfolding symbol_at
symbol_has p ps = by_space (is_space p.character) refl
  where
    all : List Place
    all = p ∷ ps

    by_number : (b : Bool) → begins_number all ≡ b → is_space p.character ≡ false → begins_ident all ≡ false
        → HasSymbol all (cond b (numeric_at all) (other_at all))
    by_number true h space ident = numeric_has all h
    by_number false h space ident = other_has p ps space ident h

    by_ident : (b : Bool) → begins_ident all ≡ b → is_space p.character ≡ false
        → HasSymbol all (cond b (ident_at all) (cond (begins_number all) (numeric_at all) (other_at all)))
    by_ident true h space = ident_has all h
    by_ident false h space = by_number (begins_number all) refl space h

    by_space : (b : Bool) → is_space p.character ≡ b
        → HasSymbol all (cond b (Space, behind_while is_space all)
        (cond (begins_ident all) (ident_at all) (cond (begins_number all) (numeric_at all) (other_at all))))
    by_space true h =
        let s = span is_space all in
        record {
          one = s.front;
          whole = s.whole;
          is = some_pass is_space s.front (behind_while is_space all) all s.whole s.passes s.stops h;
        }
    by_space false h = by_ident (begins_ident all) refl h

-- Comments, and all together.

record CommentFront (ps : List Place) : Type 0 where
  inner : List Place
  whole : ps ≡ inner ++ from_end ps
  not_over : NoneBegins ends_comment inner (from_end ps)
  over : (from_end ps ≡ []) ⊎ (ends_comment (from_end ps) ≡ true)

comment_front : (ps : List Place) → CommentFront ps
comment_front [] = record { inner = []; whole = refl; not_over = tt; over = inl refl }
comment_front (p ∷ ps) = by_end (comment_front ps) (ends_comment (p ∷ ps)) refl
  where
    by_over : (from_end ps ≡ []) ⊎ (ends_comment (from_end ps) ≡ true) → from_end (p ∷ ps) ≡ from_end ps
        → (from_end (p ∷ ps) ≡ []) ⊎ (ends_comment (from_end (p ∷ ps)) ≡ true)
    by_over (inl h) e = inl (e ∙ h)
    by_over (inr h) e = inr (ap ends_comment e ∙ h)

    by_end : CommentFront ps → (b : Bool) → ends_comment (p ∷ ps) ≡ b → CommentFront (p ∷ ps)
    by_end f true h =
        let e : from_end (p ∷ ps) ≡ p ∷ ps = ap (λ (b : Bool). cond b (p ∷ ps) (from_end ps)) h in
        record { inner = []; whole = sym e; not_over = tt; over = inr (ap ends_comment e ∙ h) }
    by_end f false h =
        let e : from_end (p ∷ ps) ≡ from_end ps = ap (λ (b : Bool). cond b (p ∷ ps) (from_end ps)) h in
        record {
          inner = p ∷ f.inner;
          whole = ap (λ (x : List Place). p ∷ x) f.whole ∙ ap (λ (x : List Place). p ∷ (f.inner ++ x)) (sym e);
          not_over = subst (λ (x : List Place). (ends_comment (p ∷ (f.inner ++ x)) ≡ false) × NoneBegins ends_comment f.inner x)
              (sym e) (ap (λ (x : List Place). ends_comment (p ∷ x)) (sym f.whole) ∙ h, f.not_over);
          over = by_over f.over e;
        }

-- a token or a comment that was read from these places
pub record Has (all : List Place) (r : Option Lexeme × List Place) : Type 0 where
  pub one : List Place
  pub whole : all ≡ one ++ r.1
  pub is : IsPiece r.0 one r.1

-- whether */ comes next is told by two characters
pub none_begins : (inner : List Place) (last end : Place) (a b : List Place) → NoneBegins ends_comment inner (last ∷ (end ∷ a))
    → NoneBegins ends_comment inner (last ∷ (end ∷ b))
none_begins [] last end a b h = tt
none_begins (p ∷ []) last end a b h = (h.0, tt)
none_begins (p ∷ (q ∷ inner)) last end a b h = (h.0, none_begins (q ∷ inner) last end a b h.1)

comment_has : (slash star : Place) (ps : List Place) → slash.character ≡ 47 → star.character ≡ 42
    → Has (slash ∷ (star ∷ ps)) (comment_at slash.at ps)
unfolding comment_at
comment_has slash star ps opens opens_too = by_end (begins 42 (from_end ps)) refl
  where
    f : CommentFront ps
    f = comment_front ps

    closed : (behind : List Place) → from_end ps ≡ behind → ends_comment behind ≡ true
        → Has (slash ∷ (star ∷ ps)) (None, behind_first (behind_first behind))
    closed [] e h = absurd cc
    closed (last ∷ []) e h = absurd (true≢false (sym (and_parts (last.character == 42) false h).1))
    closed (last ∷ (end ∷ rest)) e h =
        let a = and_parts (last.character == 42) (end.character == 47) h in
        let inside : ps ≡ (f.inner ++ (last ∷ (end ∷ []))) ++ rest = f.whole ∙ ap (λ (x : List Place). f.inner ++ x) e
        ∙ sym (append_assoc f.inner (last ∷ (end ∷ [])) rest) in
        record {
          one = slash ∷ (star ∷ (f.inner ++ (last ∷ (end ∷ []))));
          whole = ap (λ (x : List Place). slash ∷ (star ∷ x)) inside;
          is = record {
            slash = slash;
            star = star;
            inner = f.inner;
            last = last;
            end = end;
            whole = refl;
            opens = opens;
            opens_too = opens_too;
            closes = eqb-true last.character 42 a.0;
            closes_too = eqb-true end.character 47 a.1;
            not_over = none_begins f.inner last end rest [] (subst (NoneBegins ends_comment f.inner) e f.not_over);
          };
        }

    not_ended : (behind : List Place) → begins 42 behind ≡ false → ends_comment behind ≡ false
    not_ended [] h = refl
    not_ended (p ∷ more) h = ap (λ (b : Bool). b && begins 47 more) h

    by_over : (from_end ps ≡ []) ⊎ (ends_comment (from_end ps) ≡ true) → begins 42 (from_end ps) ≡ false
        → Has (slash ∷ (star ∷ ps)) (Some (record { at = slash.at; symbol = Broken 2 }), from_end ps)
    by_over (inl e) h = record {
      one = slash ∷ (star ∷ f.inner);
      whole = ap (λ (x : List Place). slash ∷ (star ∷ x)) f.whole;
      is = (
        refl,
        inl (
          record {
            slash = slash;
            star = star;
            inner = f.inner;
            whole = refl;
            opens = opens;
            opens_too = opens_too;
            not_over = subst (NoneBegins ends_comment f.inner) e f.not_over;
            ends = e;
          },
          refl,
        ),
      );
    }
    by_over (inr over) h = absurd (true≢false (sym over ∙ not_ended (from_end ps) h))

    over_true : (from_end ps ≡ []) ⊎ (ends_comment (from_end ps) ≡ true) → begins 42 (from_end ps) ≡ true
        → ends_comment (from_end ps) ≡ true
    over_true (inl e) h = absurd (true≢false (sym h ∙ ap (begins 42) e))
    over_true (inr over) h = over

    by_end : (b : Bool) → begins 42 (from_end ps) ≡ b
        → Has (slash ∷ (star ∷ ps)) (cond b (None, behind_first (behind_first (from_end ps)))
        (Some (record { at = slash.at; symbol = Broken 2 }), from_end ps))
    by_end true h = closed (from_end ps) refl (over_true f.over h)
    by_end false h = by_over f.over h

-- no form is empty
pub some_places : (x : Option Lexeme) (one rest : List Place) → IsPiece x one rest → suc zero ≤ length one
some_places None one rest h = let l = ap length h.whole in omega (arith, l)
some_places (Some x) one rest h = by_symbol x.symbol h.1
  where
    at_end : (front : List Place) (p : Place) → suc zero ≤ length (front ++ p ∷ [])
    at_end front p = let l = length-append front (p ∷ []) in omega (arith, l)

    ident : (one : List Place) → IsIdent one → suc zero ≤ length one
    ident [] h = absurd h
    ident (p ∷ ps) h = omega arith

    number : (one : List Place) (n : IsNumber one) → suc zero ≤ length one
    number [] n = absurd (n.some ((both_empty n.sign (n.digits ++ n.fraction) (sym n.whole)).1))
    number (p ∷ ps) n = omega arith

    spaces : (one : List Place) → SomePass is_space one → suc zero ≤ length one
    spaces [] h = absurd h
    spaces (p ∷ ps) h = omega arith

    by_broken : (rule : ℕ) → (IsOpenComment one rest × (rule ≡ 2)) ⊎ (IsOpenString one rest × (rule ≡ 3)) → suc zero ≤ length one
    by_broken rule (inl h) = let l = ap length h.0.whole in omega (arith, l)
    by_broken rule (inr h) = let l = ap length h.0.whole in omega (arith, l)

    by_symbol : (s : Symbol) → IsForm s one rest → suc zero ≤ length one
    by_symbol (Ident text) h = ident one h.0
    by_symbol (Hash text) h = let l = ap length h.2 in omega (arith, l)
    by_symbol (Quoted text) h = let l = ap length h.whole in omega (arith, l)
    by_symbol (Number digits) h = number one h.0
    by_symbol (Percent digits) h = let l = ap length h.2 ∙ length-append h.0 (h.1 ∷ []) in omega (arith, l)
    by_symbol (Dimension digits unit) h = let l = ap length h.2 ∙ length-append h.0 h.1 in let k = number h.0 h.3
        in omega (arith, l, k)
    by_symbol (Function name paren) h = let l = ap length h.2 ∙ length-append h.0 (h.1 ∷ []) in omega (arith, l)
    by_symbol (Delim c) h = let l = ap length h.1 in omega (arith, l)
    by_symbol Space h = spaces one h
    by_symbol (Broken rule) h = by_broken rule h

abbrev pub placed : ℕ → Symbol × List Place → Option Lexeme × List Place
placed at r = (Some (record { at = at; symbol = r.0 }), r.1)

-- what is read in front of places has its form
pub piece_has : (p : Place) (ps : List Place) → Has (p ∷ ps) (piece_at (p ∷ ps))
unfolding piece_at
piece_has p ps = by_comment (begins 47 (p ∷ ps) && begins 42 ps) refl
  where
    symbol : HasSymbol (p ∷ ps) (symbol_at (p ∷ ps))
    symbol = symbol_has p ps

    by_comment : (b : Bool) → (begins 47 (p ∷ ps) && begins 42 ps) ≡ b
        → Has (p ∷ ps) (cond b (comment_at p.at (behind_first ps)) (placed p.at (symbol_at (p ∷ ps))))
    by_comment true h =
        let a = and_parts (p.character == 47) (begins 42 ps) h in
        let star = begins_first 42 ps a.1 in
        subst (λ (x : List Place). Has (p ∷ x) (comment_at p.at (behind_first ps))) (sym star.whole)
        (comment_has p star.place (behind_first ps) (eqb-true p.character 47 a.0) star.is)
    by_comment false h =
        let form : IsPiece (Some (record { at = place_or 0 symbol.one; symbol = (symbol_at (p ∷ ps)).0 })) symbol.one
        (symbol_at (p ∷ ps)).1 = (refl, symbol.is) in
        let some = some_places (Some (record { at = place_or 0 symbol.one; symbol = (symbol_at (p ∷ ps)).0 })) symbol.one
        (symbol_at (p ∷ ps)).1 form in
        record {
          one = symbol.one;
          whole = symbol.whole;
          is = (same_place symbol.one (symbol_at (p ∷ ps)).1 (p ∷ ps) symbol.whole some, symbol.is);
        }
