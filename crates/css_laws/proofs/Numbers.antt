-- Numbers, with what belongs to them, as they are read.
use Rattle.std.proofs.Common.{◌≡◌, ℕ, zero, suc, ◌≤◌, List, [], ◌∷◌, ◌++◌, length, Bool, true, false, cond, not, ◌&&◌, ◌||◌, refl}
use Rattle.std.proofs.Common.{sym, ap, ◌∙◌, append_assoc, append-nil, arith}
use Rattle.std.specs.Prelude.{◌==◌, Option, Some, encode_utf8, encode_utf8_all}
use Rattle.std.specs.Char.{is_ascii_digit}
use Rattle.std.proofs.lemmas.Bool.{eq-eqb, eqb-true, and_parts}
use Rattle.html_grammar.specs.declared.place.Place.{Place}
use Rattle.html_grammar.specs.Places.{behind_first, place_or, behind_while, begins_with, begins}
use Rattle.html_grammar.specs.Spelling.{Passes}
use Rattle.css_tokens.specs.Characters.{is_name, is_start, is_sign}
use Rattle.css_tokens.specs.declared.lexeme.Lexeme.{Lexeme}
use Rattle.css_tokens.specs.declared.lexeme.Symbol.TheVariants.{Number, Percent, Dimension}
use Rattle.css_tokens.specs.Lexing.{code_or, text_while, begins_ident, name_text, behind_name, begins_point, begins_digits}
use Rattle.css_tokens.specs.Lexing.{behind_sign, begins_number, sign_text, fraction_text, behind_fraction, number_text}
use Rattle.css_tokens.specs.Lexing.{behind_number, numeric_at}
use Rattle.css_tokens.specs.Lexing.{piece_at}
use Rattle.css_laws.specs.Forms.{text_of, IsIdent, IsSign, IsFraction, IsNumber}
use Rattle.css_laws.proofs.Runs.{behind_through, behind_back, codes_back, stays, behind_le, first_le, begins_back, other_char}
use Rattle.css_laws.proofs.Runs.{begins_other, begins_some, all_pass, text_append, same_place}
use Rattle.css_laws.proofs.Found.{placed, pair, some_places}
use Rattle.css_laws.proofs.Branches.{SymbolReaches, and_false, or_true, not_true, begins_no_space, to_symbol, to_number}
use Rattle.css_laws.proofs.Branches.{ident_passes, ident_begins, ident_starts}

-- with what a number begins
abbrev pub numeral : ℕ → Bool
numeral c = is_ascii_digit c || ((c == 46) || is_sign c)

pub digits_begin : (ps : List Place) → begins_digits ps ≡ true
    → (begins_with numeral ps ≡ true) × (begins_with is_start ps ≡ false)
    × (begins_with is_sign ps ≡ false)
digits_begin [] h = absurd cc
digits_begin (p ∷ ps) h = by_digit (is_ascii_digit p.character) refl h
  where
    by_digit : (b : Bool) → is_ascii_digit p.character ≡ b → (b || begins_point (p ∷ ps)) ≡ true
        → (numeral p.character ≡ true) × (is_start p.character ≡ false) × (is_sign p.character ≡ false)
    by_digit true e h = (
      ap (λ (b : Bool). b || ((p.character == 46) || is_sign p.character)) e,
      ap (λ (b : Bool). is_name p.character && not b) e ∙ and_false (is_name p.character),
      ap (λ (b : Bool). b || (p.character == 45)) (other_char is_ascii_digit p.character 43 e refl)
          ∙ other_char is_ascii_digit p.character 45 e refl,
    )
    by_digit false e h =
        let point = eqb-true p.character 46 (and_parts (p.character == 46) (begins_with is_ascii_digit ps) h).0 in
        (ap numeral point, ap is_start point, ap is_sign point)

pub fraction_begins : (fraction rest : List Place) → IsFraction fraction → (fraction ≡ [] → ⊥)
    → begins_digits (fraction ++ rest) ≡ true
fraction_begins [] rest h some = absurd (some refl)
fraction_begins (p ∷ ds) rest h some =
    ap (λ (b : Bool). is_ascii_digit p.character || (b && begins_with is_ascii_digit (ds ++ rest))) (eq-eqb p.character 46 h.0)
    ∙ ap (λ (b : Bool). is_ascii_digit p.character || b) (begins_some is_ascii_digit ds rest h.1)
    ∙ or_true (is_ascii_digit p.character)

pub digits_first : (digits fraction rest : List Place) → Passes is_ascii_digit digits → IsFraction fraction
    → (digits ++ fraction ≡ [] → ⊥) → begins_digits (digits ++ (fraction ++ rest)) ≡ true
digits_first [] fraction rest h f some = fraction_begins fraction rest f some
digits_first (p ∷ digits) fraction rest h f some = ap (λ (b : Bool). b || begins_point (p ∷ (digits ++ (fraction ++ rest)))) h.0

-- a number, and what stands behind it
pub record Numbered (sign unsigned : List Place) : Type 0 where
  pub begun : begins_number (sign ++ unsigned) ≡ true
  pub first : begins_with numeral (sign ++ unsigned) ≡ true
  pub no_ident : begins_ident (sign ++ unsigned) ≡ false
  pub behind : behind_sign (sign ++ unsigned) ≡ unsigned
  pub text : sign_text (sign ++ unsigned) ≡ text_of sign

pub numbered : (sign unsigned : List Place) → IsSign sign → begins_digits unsigned ≡ true → Numbered sign unsigned
numbered [] unsigned h d =
    let b = digits_begin unsigned d in
    record {
      begun = ap (λ (b : Bool). cond b (begins_digits (behind_first unsigned)) (begins_digits unsigned)) b.2 ∙ d;
      first = b.0;
      no_ident = ap (λ (x : Bool). x && (not (begins 45 unsigned) || begins_with is_start (behind_first unsigned))) b.1;
      behind = ap (λ (x : Bool). cond x (behind_first unsigned) unsigned) b.2;
      text = ap (λ (x : Bool). cond x (encode_utf8 (code_or 0 unsigned)) []) b.2;
    }
numbered (p ∷ []) unsigned h d =
    let b = digits_begin unsigned d in
    record {
      begun = ap (λ (b : Bool). cond b (begins_digits unsigned) (begins_digits (p ∷ unsigned))) h.0 ∙ d;
      first = ap (λ (x : Bool). is_ascii_digit p.character || ((p.character == 46) || x)) h.0
          ∙ ap (λ (x : Bool). is_ascii_digit p.character || x) (or_true (p.character == 46))
          ∙ or_true (is_ascii_digit p.character);
      no_ident = by_plus (p.character == 43) refl h.0 b.1;
      behind = ap (λ (x : Bool). cond x unsigned (p ∷ unsigned)) h.0;
      text = ap (λ (x : Bool). cond x (encode_utf8 p.character) []) h.0 ∙ sym (append-nil (encode_utf8 p.character));
    }
  where
    by_plus : (x : Bool) → (p.character == 43) ≡ x → (x || (p.character == 45)) ≡ true → begins_with is_start unsigned ≡ false
        → begins_ident (p ∷ unsigned) ≡ false
    by_plus true e h none = ap (λ (b : Bool). b && (not (p.character == 45) || begins_with is_start unsigned))
        (ap is_start (eqb-true p.character 43 e))
    by_plus false e h none =
        ap (λ (b : Bool). is_start p.character && (not b || begins_with is_start unsigned)) h
        ∙ ap (λ (b : Bool). is_start p.character && b) none ∙ and_false (is_start p.character)
numbered (p ∷ (q ∷ more)) unsigned h d = absurd (not_empty q more h.1)
  where
    not_empty : (q : Place) (more : List Place) → q ∷ more ≡ [] → ⊥
    not_empty q more e = cc

pub number_whole : (number rest : List Place) (n : IsNumber number)
    → number ++ rest ≡ n.sign ++ (n.digits ++ (n.fraction ++ rest))
number_whole number rest n =
    ap (λ (x : List Place). x ++ rest) n.whole ∙ append_assoc n.sign (n.digits ++ n.fraction) rest
    ∙ ap (λ (x : List Place). n.sign ++ x) (append_assoc n.digits n.fraction rest)

pub fraction_le : (ps : List Place) → length (behind_fraction ps) ≤ length ps
fraction_le ps = by_point (begins_point ps)
  where
    by_point : (b : Bool) → length (cond b (behind_while is_ascii_digit (behind_first ps)) ps) ≤ length ps
    by_point true = let k = behind_le is_ascii_digit (behind_first ps) in let f = first_le ps in omega (arith, k, f)
    by_point false = omega arith

pub fraction_behind : (p : Place) (ds rest : List Place) → IsFraction (p ∷ ds)
    → behind_fraction (behind_while is_ascii_digit (p ∷ (ds ++ rest))) ≡ behind_while is_ascii_digit rest
fraction_behind p ds rest h =
    let stop : behind_while is_ascii_digit (p ∷ (ds ++ rest)) ≡ p ∷ (ds ++ rest) =
    stays is_ascii_digit (p ∷ (ds ++ rest)) (ap is_ascii_digit h.0) in
    ap behind_fraction stop
    ∙ ap (λ (b : Bool). cond (b && begins_with is_ascii_digit (ds ++ rest)) (behind_while is_ascii_digit (ds ++ rest))
    (p ∷ (ds ++ rest))) (eq-eqb p.character 46 h.0)
    ∙ ap (λ (b : Bool). cond b (behind_while is_ascii_digit (ds ++ rest)) (p ∷ (ds ++ rest)))
    (begins_some is_ascii_digit ds rest h.1)
    ∙ behind_through is_ascii_digit ds rest (all_pass is_ascii_digit ds h.1)

pub fraction_spelled : (p : Place) (ds rest : List Place) → IsFraction (p ∷ ds) → begins_with is_ascii_digit rest ≡ false
    → fraction_text (behind_while is_ascii_digit (p ∷ (ds ++ rest))) ≡ text_of (p ∷ ds)
fraction_spelled p ds rest h stops =
    let stop : behind_while is_ascii_digit (p ∷ (ds ++ rest)) ≡ p ∷ (ds ++ rest) =
    stays is_ascii_digit (p ∷ (ds ++ rest)) (ap is_ascii_digit h.0) in
    ap fraction_text stop
    ∙ ap (λ (b : Bool). cond (b && begins_with is_ascii_digit (ds ++ rest))
    (encode_utf8 46 ++ text_while is_ascii_digit (ds ++ rest)) []) (eq-eqb p.character 46 h.0)
    ∙ ap (λ (b : Bool). cond b (encode_utf8 46 ++ text_while is_ascii_digit (ds ++ rest)) [])
    (begins_some is_ascii_digit ds rest h.1)
    ∙ ap (λ (x : List ℕ). encode_utf8 46 ++ encode_utf8_all x)
    (codes_back is_ascii_digit ds rest (all_pass is_ascii_digit ds h.1) stops)
    ∙ ap (λ (c : ℕ). encode_utf8 c ++ text_of ds) (sym h.0)

pub fraction_reach : (fraction rest : List Place) → IsFraction fraction
    → length (behind_fraction (behind_while is_ascii_digit (fraction ++ rest))) ≤ length rest
fraction_reach [] rest h = let f = fraction_le (behind_while is_ascii_digit rest) in let k = behind_le is_ascii_digit rest
    in omega (arith, f, k)
fraction_reach (p ∷ ds) rest h = let e = ap length (fraction_behind p ds rest h) in let k = behind_le is_ascii_digit rest
    in omega (arith, e, k)

pub no_point : (rest : List Place) → begins 46 rest ≡ false → begins_point rest ≡ false
no_point rest h = ap (λ (b : Bool). b && begins_with is_ascii_digit (behind_first rest)) h

pub fraction_stops : (fraction rest : List Place) → IsFraction fraction → begins_with is_ascii_digit rest ≡ false
    → begins_with is_ascii_digit (fraction ++ rest) ≡ false
fraction_stops [] rest h stops = stops
fraction_stops (p ∷ ds) rest h stops = ap is_ascii_digit h.0

pub fraction_exact : (fraction rest : List Place) → IsFraction fraction → begins_with is_ascii_digit rest ≡ false
    → begins 46 rest ≡ false
    → (behind_fraction (behind_while is_ascii_digit (fraction ++ rest)) ≡ rest)
    × (fraction_text (behind_while is_ascii_digit (fraction ++ rest)) ≡ text_of fraction)
fraction_exact [] rest h stops point =
    let stop = stays is_ascii_digit rest stops in
    let none = no_point rest point in (
      ap behind_fraction stop ∙ ap (λ (b : Bool). cond b (behind_while is_ascii_digit (behind_first rest)) rest) none,
      ap fraction_text stop ∙ ap (λ (b : Bool). cond b (encode_utf8 46 ++ text_while is_ascii_digit (behind_first rest)) []) none,
    )
fraction_exact (p ∷ ds) rest h stops point =
    (fraction_behind p ds rest h ∙ stays is_ascii_digit rest stops, fraction_spelled p ds rest h stops)

pub number_tail : (number rest : List Place) (n : IsNumber number)
    → behind_number (number ++ rest) ≡ behind_fraction (behind_while is_ascii_digit (n.fraction ++ rest))
number_tail number rest n =
    let unsigned = n.digits ++ (n.fraction ++ rest) in
    let s = numbered n.sign unsigned n.signed (digits_first n.digits n.fraction rest n.counted n.pointed n.some) in
    ap behind_number (number_whole number rest n)
    ∙ ap (λ (x : List Place). behind_fraction (behind_while is_ascii_digit x)) s.behind
    ∙ ap behind_fraction (behind_through is_ascii_digit n.digits (n.fraction ++ rest) n.counted)

pub number_exact : (number rest : List Place) → IsNumber number → begins_with is_ascii_digit rest ≡ false → begins 46 rest ≡ false
    → (behind_number (number ++ rest) ≡ rest) × (number_text (number ++ rest) ≡ text_of number)
number_exact number rest n stops point =
    let behind = n.fraction ++ rest in
    let unsigned = n.digits ++ behind in
    let s = numbered n.sign unsigned n.signed (digits_first n.digits n.fraction rest n.counted n.pointed n.some) in
    let f = fraction_exact n.fraction rest n.pointed stops point in
    let codes_are = codes_back is_ascii_digit n.digits behind n.counted (fraction_stops n.fraction rest n.pointed stops) in (
      number_tail number rest n ∙ f.0,
      ap number_text (number_whole number rest n)
          ∙ ap (λ (x : List ℕ). (x ++ text_while is_ascii_digit (behind_sign (n.sign ++ unsigned))) ++ fraction_text
          (behind_while is_ascii_digit (behind_sign (n.sign ++ unsigned)))) s.text
          ∙ ap (λ (x : List Place). (text_of n.sign ++ text_while is_ascii_digit x) ++ fraction_text
          (behind_while is_ascii_digit x)) s.behind
          ∙ ap (λ (x : List ℕ). (text_of n.sign ++ encode_utf8_all x) ++ fraction_text (behind_while is_ascii_digit unsigned))
          codes_are
          ∙ ap (λ (x : List Place). (text_of n.sign ++ text_of n.digits) ++ fraction_text x)
          (behind_through is_ascii_digit n.digits behind n.counted)
          ∙ ap (λ (x : List ℕ). (text_of n.sign ++ text_of n.digits) ++ x) f.1
          ∙ append_assoc (text_of n.sign) (text_of n.digits) (text_of n.fraction)
          ∙ sym (text_append n.sign (n.digits ++ n.fraction)
          ∙ ap (λ (x : List ℕ). text_of n.sign ++ x) (text_append n.digits n.fraction))
          ∙ ap text_of (sym n.whole),
    )

pub to_numeric : (number rest : List Place) → IsNumber number
    → piece_at (number ++ rest) ≡ placed (place_or 0 (number ++ rest)) (numeric_at (number ++ rest))
to_numeric number rest n =
    let ps = number ++ rest in
    let e = number_whole number rest n in
    let s = numbered n.sign (n.digits ++ (n.fraction ++ rest)) n.signed
    (digits_first n.digits n.fraction rest n.counted n.pointed n.some) in
    let first : begins_with numeral ps ≡ true = ap (begins_with numeral) e ∙ s.first in
    to_symbol ps (begins_other numeral 47 ps first refl)
    ∙ ap (placed (place_or 0 ps))
    (to_number ps (begins_no_space numeral ps refl refl refl first) (ap begins_ident e ∙ s.no_ident)
    (ap begins_number e ∙ s.begun))

pub numeric_le : (ps : List Place) → length (numeric_at ps).1 ≤ length (behind_number ps)
unfolding numeric_at
numeric_le ps = by_percent (begins 37 rest)
  where
    rest : List Place
    rest = behind_number ps

    by_unit : (b : Bool) → length
        (cond b (pair (Dimension (number_text ps) (name_text rest)) (behind_name rest)) (pair (Number (number_text ps)) rest)).1 ≤
        length rest
    by_unit true = behind_le is_name rest
    by_unit false = omega arith

    by_percent : (b : Bool) → length
        (cond b (pair (Percent (number_text ps)) (behind_first rest))
        (cond (begins_ident rest) (pair (Dimension (number_text ps) (name_text rest)) (behind_name rest))
        (pair (Number (number_text ps)) rest))).1 ≤ length rest
    by_percent true = first_le rest
    by_percent false = by_unit (begins_ident rest)

-- what is read behind a number that is over
pub numeric_by : (ps rest : List Place) (text : List ℕ) → behind_number ps ≡ rest → number_text ps ≡ text
    → numeric_at ps ≡ cond (begins 37 rest) (pair (Percent text) (behind_first rest))
    (cond (begins_ident rest) (pair (Dimension text (name_text rest)) (behind_name rest)) (pair (Number text) rest))
unfolding numeric_at
numeric_by ps rest text behind text_is =
    ap (λ (x : List Place). cond (begins 37 x) (pair (Percent (number_text ps)) (behind_first x))
    (cond (begins_ident x) (pair (Dimension (number_text ps) (name_text x)) (behind_name x))
    (pair (Number (number_text ps)) x))) behind
    ∙ ap (λ (t : List ℕ). cond (begins 37 rest) (pair (Percent t) (behind_first rest))
    (cond (begins_ident rest) (pair (Dimension t (name_text rest)) (behind_name rest)) (pair (Number t) rest))) text_is

pub some_number : (number : List Place) → IsNumber number → suc zero ≤ length number
some_number number n = some_places (Some (record { at = place_or 0 number; symbol = Number (text_of number) })) number []
    (refl, (n, refl))

pub number_place : (number rest : List Place) → IsNumber number → place_or 0 (number ++ rest) ≡ place_or 0 number
number_place number rest n = same_place number rest (number ++ rest) refl (some_number number n)

pub number_read : (number rest : List Place) → IsNumber number
    → piece_at (number ++ rest) ≡ placed (place_or 0 number) (numeric_at (number ++ rest))
number_read number rest n = to_numeric number rest n
    ∙ ap (λ (a : ℕ). placed a (numeric_at (number ++ rest))) (number_place number rest n)

pub number_reach : (digits : List ℕ) (one rest : List Place) → IsNumber one → digits ≡ text_of one
    → SymbolReaches (Number digits) one rest
number_reach digits one rest n t =
    let l = ap (λ (y : Option Lexeme × List Place). length y.1) (number_read one rest n) in
    let k = numeric_le (one ++ rest) in
    let e = ap length (number_tail one rest n) in
    let f = fraction_reach n.fraction rest n.pointed in
    let x = number_exact one [] n refl refl in (
      omega (arith, l, k, e, f),
      number_read one [] n
          ∙ ap (placed (place_or 0 one)) (numeric_by (one ++ []) [] digits x.0 (x.1 ∙ sym t)),
    )

pub percent_read : (number rest : List Place) (p : Place) → IsNumber number → p.character ≡ 37
    → piece_at ((number ++ p ∷ []) ++ rest) ≡ placed (place_or 0 (number ++ p ∷ [])) (pair (Percent (text_of number)) rest)
percent_read number rest p n e =
    let x = number_exact number (p ∷ rest) n (ap is_ascii_digit e) (ap (λ (c : ℕ). c == 46) e) in
    ap piece_at (append_assoc number (p ∷ []) rest) ∙ number_read number (p ∷ rest) n
    ∙ ap (λ (a : ℕ). placed a (numeric_at (number ++ (p ∷ rest)))) (sym (number_place number (p ∷ []) n))
    ∙ ap (placed (place_or 0 (number ++ p ∷ []))) (numeric_by (number ++ (p ∷ rest)) (p ∷ rest) (text_of number) x.0 x.1
    ∙ ap (λ (b : Bool). cond b (pair (Percent (text_of number)) rest)
    (cond (begins_ident (p ∷ rest)) (pair (Dimension (text_of number) (name_text (p ∷ rest))) (behind_name (p ∷ rest)))
    (pair (Number (text_of number)) (p ∷ rest)))) (begins_back 37 p rest e))

pub start_no_digit : (ps : List Place) → begins_with is_start ps ≡ true → begins_with is_ascii_digit ps ≡ false
start_no_digit [] h = refl
start_no_digit (p ∷ ps) h = not_true (is_ascii_digit p.character)
    (and_parts (is_name p.character) (not (is_ascii_digit p.character)) h).1

pub unit_read : (number name rest : List Place) → IsNumber number → IsIdent name
    → piece_at ((number ++ name) ++ rest) ≡ placed (place_or 0 (number ++ name))
    (pair (Dimension (text_of number) (name_text (name ++ rest))) (behind_name (name ++ rest)))
unit_read number name rest n i =
    let ps = name ++ rest in
    let starts = ident_starts name rest i in
    let x = number_exact number ps n (start_no_digit ps starts) (begins_other is_start 46 ps starts refl) in
    ap piece_at (append_assoc number name rest) ∙ number_read number ps n
    ∙ ap (λ (a : ℕ). placed a (numeric_at (number ++ ps))) (sym (number_place number name n))
    ∙ ap (placed (place_or 0 (number ++ name))) (numeric_by (number ++ ps) ps (text_of number) x.0 x.1
    ∙ ap (λ (b : Bool). cond b (pair (Percent (text_of number)) (behind_first ps))
    (cond (begins_ident ps) (pair (Dimension (text_of number) (name_text ps)) (behind_name ps))
    (pair (Number (text_of number)) ps))) (begins_other is_start 37 ps starts refl)
    ∙ ap (λ (b : Bool). cond b (pair (Dimension (text_of number) (name_text ps)) (behind_name ps))
    (pair (Number (text_of number)) ps)) (ident_begins name rest i))

pub unit_reach : (number name rest : List Place) → IsNumber number → IsIdent name
    → SymbolReaches (Dimension (text_of number) (text_of name)) (number ++ name) rest
unit_reach number name rest n i =
    let passes = ident_passes name i in
    let l = ap (λ (y : Option Lexeme × List Place). length y.1) (unit_read number name rest n i) in
    let e = ap length (behind_through is_name name rest passes) in
    let k = behind_le is_name rest in (
      omega (arith, l, e, k),
      unit_read number name [] n i
          ∙ ap (λ (x : List ℕ). placed (place_or 0 (number ++ name))
          (pair (Dimension (text_of number) (encode_utf8_all x)) (behind_name (name ++ []))))
          (codes_back is_name name [] passes refl)
          ∙ ap (λ (x : List Place). placed (place_or 0 (number ++ name)) (pair (Dimension (text_of number) (text_of name)) x))
          (behind_back is_name name [] passes refl),
    )
