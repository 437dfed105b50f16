-- Characters and values, as they are read and by their forms.
use Rattle.std.proofs.Common.{◌≡◌, ℕ, zero, suc, ◌+◌, ◌≤◌, List, [], ◌∷◌, ◌++◌, length, Option, Some, None, Bool, true, false}
use Rattle.std.proofs.Common.{cond, refl, sym, ap, subst, ◌∙◌, append_assoc, arith, length-append, inl, inr}
use Rattle.std.specs.Prelude.{encode_utf8, ◌==◌}
use Rattle.std.proofs.lemmas.List.{append-nil}
use Rattle.std.proofs.lemmas.Bool.{true≢false, eq-eqb, eqb-true}
use Rattle.html_grammar.specs.declared.place.Place.{Place}
use Rattle.html_grammar.specs.declared.token.Meaning.{Meaning}
use Rattle.html_grammar.specs.declared.token.Meaning.TheVariants as meanings
use Rattle.html_grammar.specs.declared.token.Spelled.{Spelled}
use Rattle.html_grammar.specs.declared.token.Spelled.TheVariants.{Plain, Reference, Unknown}
use Rattle.html_grammar.specs.declared.token.Token.{Token}
use Rattle.html_grammar.specs.declared.token.Token.TheVariants.{Start, Raw, End, Comment, Doctype, Char}
use Rattle.html_grammar.specs.declared.token.Value.{Value}
use Rattle.html_grammar.specs.Places.{begins_with}
use Rattle.html_grammar.specs.Grammar.{run_text}
use Rattle.html_grammar.specs.Lexing.{meaning_at, first_of, with_char, by_meaning, added, value_from, or_first}
use Rattle.html_grammar.specs.Spelling.{IsReference, BeginsReference, BeginsBad, BeginsUnknown, IsCharacter, IsPiece, IsText}
use Rattle.html_grammar.specs.Spelling.{unknown_here, first_unknown}
use Rattle.html_grammar.proofs.ReferenceForms.{Meant, meant, not_plain, reference_back, bad_back, unknown_back}

abbrev as_meant : Meaning → List Place → Meaning × List Place
as_meant m rest = (m, rest)

-- a & that begins no reference
pub plain_back : (ps : List Place) → (BeginsReference ps → ⊥) → meaning_at ps ≡ (meanings.Plain, ps)
plain_back ps none = by_meaning' (meaning_at ps).0 (meaning_at ps).1 (meant ps)
  where
    by_form : (c : ℕ) (form rest : List Place) → ps ≡ form ++ rest → IsReference c form → ⊥
    by_form c form rest e (inl g) = none (form, rest, e, inl (c, g.0))
    by_form c form rest e (inr g) = none (form, rest, e, inr (g.0, g.1))

    by_meaning' : (m : Meaning) (rest : List Place) → Meant m rest ps → as_meant m rest ≡ as_meant meanings.Plain ps
    by_meaning' meanings.Plain rest h = ap (λ (x : List Place). (meanings.Plain, x)) h
    by_meaning' meanings.Unknown rest h = absurd (none (h.1.0, h.1.1, h.1.2, inr (h.1.3.0, h.1.3.1)))
    by_meaning' meanings.Bad rest h = absurd (none (h.1.0, h.1.1, h.1.2, inl (h.1.3.0, h.1.3.1)))
    by_meaning' (meanings.Character c) rest h = absurd (by_form c h.0 rest h.1 h.2)

abbrev pub value_as : List ℕ → Option ℕ → Option ℕ → Value
value_as text unknown bad = record { text = text; unknown = unknown; bad = bad }

-- a value with a character, and with a text
abbrev pub with_token : Value → ℕ → ℕ → Spelled → Option ℕ → Value
with_token v at c s bad = value_as (v.text ++ encode_utf8 c) (or_first v.unknown (unknown_here at s)) (or_first v.bad bad)

abbrev pub with_text : Value → List Token → Option ℕ → Value
with_text v toks bad = value_as (v.text ++ run_text toks) (or_first v.unknown (first_unknown toks)) (or_first v.bad bad)

or_none : (x : Option ℕ) → or_first x None ≡ x
or_none None = refl
or_none (Some x) = refl

or_assoc : (x y z : Option ℕ) → or_first (or_first x y) z ≡ or_first x (or_first y z)
or_assoc None y z = refl
or_assoc (Some x) y z = refl

first_or : (x : Option ℕ) (at : ℕ) → first_of x at ≡ or_first x (Some at)
first_or None at = refl
first_or (Some x) at = refl

with_nothing : (v : Value) → with_text v [] None ≡ v
with_nothing v =
    ap (λ (x : List ℕ). value_as x (or_first v.unknown None) (or_first v.bad None)) (append-nil v.text)
    ∙ ap (λ (x : Option ℕ). value_as v.text x (or_first v.bad None)) (or_none v.unknown)
    ∙ ap (λ (x : Option ℕ). value_as v.text v.unknown x) (or_none v.bad)

with_more : (v : Value) (at c : ℕ) (s : Spelled) (now later : Option ℕ) (ts : List Token)
    → with_text (with_token v at c s now) ts later ≡ with_text v (Char at c s ∷ ts) (or_first now later)
with_more v at c s now later ts =
    ap (λ (x : List ℕ). value_as x (or_first (or_first v.unknown (unknown_here at s)) (first_unknown ts))
    (or_first (or_first v.bad now) later)) (append_assoc v.text (encode_utf8 c) (run_text ts))
    ∙ ap (λ (x : Option ℕ). value_as (v.text ++ (encode_utf8 c ++ run_text ts)) x (or_first (or_first v.bad now) later))
    (or_assoc v.unknown (unknown_here at s) (first_unknown ts))
    ∙ ap (λ (x : Option ℕ). value_as (v.text ++ (encode_utf8 c ++ run_text ts))
    (or_first v.unknown (or_first (unknown_here at s) (first_unknown ts))) x) (or_assoc v.bad now later)

plain_token : (v : Value) (at c d : ℕ) → d ≡ c → with_char v d ≡ with_token v at c Plain None
plain_token v at c d e =
    ap (with_char v) e
    ∙ ap (λ (x : Option ℕ). value_as (v.text ++ encode_utf8 c) x v.bad) (sym (or_none v.unknown))
    ∙ ap (λ (x : Option ℕ). value_as (v.text ++ encode_utf8 c) (or_first v.unknown None) x) (sym (or_none v.bad))

unknown_token : (v : Value) (at c : ℕ) → c ≡ 38
    → value_as (v.text ++ encode_utf8 38) (first_of v.unknown at) v.bad ≡ with_token v at c Unknown None
unknown_token v at c e =
    ap (λ (x : ℕ). value_as (v.text ++ encode_utf8 x) (first_of v.unknown at) v.bad) (sym e)
    ∙ ap (λ (x : Option ℕ). value_as (v.text ++ encode_utf8 c) x v.bad) (first_or v.unknown at)
    ∙ ap (λ (x : Option ℕ). value_as (v.text ++ encode_utf8 c) (or_first v.unknown (Some at)) x) (sym (or_none v.bad))

bad_token : (v : Value) (at c bad : ℕ) → c ≡ 38 → bad ≡ at
    → value_as (v.text ++ encode_utf8 38) v.unknown (first_of v.bad at) ≡ with_token v at c Plain (Some bad)
bad_token v at c bad e f =
    ap (λ (x : ℕ). value_as (v.text ++ encode_utf8 x) v.unknown (first_of v.bad at)) (sym e)
    ∙ ap (λ (x : Option ℕ). value_as (v.text ++ encode_utf8 c) x (first_of v.bad at)) (sym (or_none v.unknown))
    ∙ ap (λ (x : Option ℕ). value_as (v.text ++ encode_utf8 c) (or_first v.unknown None) x)
    (first_or v.bad at ∙ ap (λ (x : ℕ). or_first v.bad (Some x)) (sym f))

-- a character's first place, and what reading it adds to a value
pub record Begins (at c : ℕ) (s : Spelled) (bad : Option ℕ) (here tail : List Place) : Type 0 where
  pub place : Place
  pub front : List Place
  pub whole : here ≡ place ∷ front
  pub adds : (v : Value) → added v place (front ++ tail) ≡ (with_token v at c s bad, tail)

amp : (v : Value) (p : Place) (ps : List Place) → p.character ≡ 38 → added v p ps ≡ by_meaning v p.at (meaning_at ps)
unfolding added
amp v p ps e = ap (λ (b : Bool). cond b (by_meaning v p.at (meaning_at ps)) (with_char v p.character, ps))
    (eq-eqb p.character 38 e)

pub character_back : (at c : ℕ) (s : Spelled) (here tail : List Place) → IsCharacter at c s here tail
    → Begins at c s None here tail
unfolding added
character_back at c Plain here tail h =
    record { place = h.0; front = []; whole = h.1; adds = λ v. by_amp v (h.0.character == 38) refl }
  where
    by_amp : (v : Value) (b : Bool) → (h.0.character == 38) ≡ b
        → cond b (by_meaning v h.0.at (meaning_at tail)) (with_char v h.0.character, tail) ≡ (with_token v at c Plain None, tail)
    by_amp v true is =
        let e : h.0.character ≡ 38 = eqb-true h.0.character 38 is in
        ap (by_meaning v h.0.at) (plain_back tail (h.4 (sym h.3 ∙ e)))
        ∙ ap (λ (x : Value). (x, tail)) (plain_token v at c 38 (sym e ∙ h.3))
    by_amp v false is = ap (λ (x : Value). (x, tail)) (plain_token v at c h.0.character h.3)
character_back at c Reference here tail h = record {
  place = h.0;
  front = h.1;
  whole = h.2;
  adds = λ v. amp v h.0 (h.1 ++ tail) h.4 ∙ ap (by_meaning v h.0.at) (reference_back c h.1 tail h.5)
      ∙ ap (λ (x : Value). (x, tail)) (plain_token v at c c refl);
}
character_back at c Unknown here tail h = record {
  place = h.0;
  front = [];
  whole = h.1;
  adds = λ v. amp v h.0 tail h.3
      ∙ ap (by_meaning v h.0.at) (ap meaning_at h.5.2 ∙ unknown_back h.5.0 h.5.1 h.5.3
      ∙ ap (λ (x : List Place). (meanings.Unknown, x)) (sym h.5.2))
      ∙ ap (λ (x : Value). (x, tail)) (ap (λ (x : ℕ). value_as (v.text ++ encode_utf8 38) (first_of v.unknown x) v.bad) h.2
      ∙ unknown_token v at c h.4);
}

pub piece_back : (at c : ℕ) (s : Spelled) (bad : Option ℕ) (here tail : List Place) → IsPiece at c s bad here tail
    → Begins at c s bad here tail
piece_back at c s None here tail h = character_back at c s here tail h
piece_back at c s (Some bad) here tail h = record {
  place = h.0;
  front = [];
  whole = h.1;
  adds = λ v. amp v h.0 tail h.3
      ∙ ap (by_meaning v h.0.at) (ap meaning_at h.7.2 ∙ bad_back h.7.0 h.7.1 h.7.3
      ∙ ap (λ (x : List Place). (meanings.Bad, x)) (sym h.7.2))
      ∙ ap (λ (x : Value). (x, tail)) (ap (λ (x : ℕ). value_as (v.text ++ encode_utf8 38) v.unknown (first_of v.bad x)) h.2
      ∙ bad_token v at c bad h.4 h.6 ∙ ap (λ (x : Spelled). with_token v at c x (Some bad)) (sym h.5));
}

ends_at_once : (n : ℕ) (test : ℕ → Bool) (v : Value) (rest : List Place) → begins_with test rest ≡ false
    → value_from n test v rest ≡ (v, rest)
unfolding value_from
ends_at_once zero test v rest h = refl
ends_at_once (suc n) test v [] h = refl
ends_at_once (suc n) test v (p ∷ ps) h =
    ap (λ (b : Bool). cond b (value_from n test (added v p ps).0 (added v p ps).1) (v, p ∷ ps)) h

one_step : (n : ℕ) (test : ℕ → Bool) (v : Value) (p : Place) (ps : List Place) → test p.character ≡ true
    → value_from (suc n) test v (p ∷ ps) ≡ value_from n test (added v p ps).0 (added v p ps).1
unfolding value_from
one_step n test v p ps h = ap (λ (b : Bool). cond b (value_from n test (added v p ps).0 (added v p ps).1) (v, p ∷ ps)) h

nothing_in : (here more : List Place) (p : Place) (front : List Place) → here ≡ p ∷ front → length (here ++ more) ≤ 0 → ⊥
nothing_in here more p front e h =
    let l : length (here ++ more) ≡ length here + length more = length-append here more in
    let k : length here ≡ suc (length front) = ap length e in
    omega (arith, l, k)

-- text is read
pub text_back : (n : ℕ) (test : ℕ → Bool) (toks : List Token) (bad : Option ℕ) (inner rest : List Place) (v : Value)
    → IsText test toks bad inner rest → begins_with test rest ≡ false → length inner ≤ n
    → value_from n test v (inner ++ rest) ≡ (with_text v toks bad, rest)
text_back n test [] bad inner rest v h stops le =
    ap (λ (x : List Place). value_from n test v (x ++ rest)) h.0 ∙ ends_at_once n test v rest stops
    ∙ ap (λ (x : Value). (x, rest)) (sym (with_nothing v) ∙ ap (with_text v []) (sym h.1))
text_back zero test (Char at c s ∷ ts) bad inner rest v h stops le =
    let b = piece_back at c s h.3 h.0 (h.1 ++ rest) h.6 in
    absurd (nothing_in h.0 h.1 b.place b.front b.whole (subst (λ (x : List Place). length x ≤ 0) h.2 le))
text_back (suc n) test (Char at c s ∷ ts) bad inner rest v h stops le =
    let b = piece_back at c s h.3 h.0 (h.1 ++ rest) h.6 in
    let l : length inner ≡ suc (length b.front) + length h.1 = ap length h.2 ∙ length-append h.0 h.1
    ∙ ap (λ (x : List Place). length x + length h.1) b.whole in
    let whole : inner ++ rest ≡ b.place ∷ (b.front ++ (h.1 ++ rest)) = ap (λ (x : List Place). x ++ rest) h.2
    ∙ append_assoc h.0 h.1 rest ∙ ap (λ (x : List Place). x ++ (h.1 ++ rest)) b.whole in
    ap (value_from (suc n) test v) whole
    ∙ one_step n test v b.place (b.front ++ (h.1 ++ rest)) (sym (ap (begins_with test) b.whole) ∙ h.7)
    ∙ ap (λ (x : Value × List Place). value_from n test x.0 x.1) (b.adds v)
    ∙ text_back n test ts h.4 h.1 rest (with_token v at c s h.3) h.8 stops (omega (arith, l))
    ∙ ap (λ (x : Value). (x, rest)) (with_more v at c s h.3 h.4 ts ∙ ap (with_text v (Char at c s ∷ ts)) (sym h.5))
text_back n test _ bad inner rest v h stops le = absurd h

-- what reading a character says of it
pub record Adds (v : Value) (p : Place) (ps : List Place) (r : Value × List Place) : Type 0 where
  pub at : ℕ
  pub code : ℕ
  pub spelled : Spelled
  pub now : Option ℕ
  pub front : List Place
  pub whole : p ∷ ps ≡ p ∷ (front ++ r.1)
  pub is : IsPiece at code spelled now (p ∷ front) r.1
  pub value : r.0 ≡ with_token v at code spelled now

pub character_read : (v : Value) (p : Place) (ps : List Place) → Adds v p ps (added v p ps)
unfolding added
character_read v p ps = by_amp (p.character == 38) refl
  where
    by_case : (m : Meaning) (rest : List Place) → meaning_at ps ≡ as_meant m rest → p.character ≡ 38 → Meant m rest ps
        → Adds v p ps (by_meaning v p.at (m, rest))
    by_case meanings.Plain rest e is h = record {
      at = p.at;
      code = 38;
      spelled = Plain;
      now = None;
      front = [];
      whole = ap (λ (x : List Place). p ∷ x) (sym h);
      is = (p, refl, refl, is, λ _ b. not_plain ps rest e (subst BeginsReference h b));
      value = plain_token v p.at 38 38 refl;
    }
    by_case meanings.Unknown rest e is h = record {
      at = p.at;
      code = 38;
      spelled = Unknown;
      now = None;
      front = [];
      whole = ap (λ (x : List Place). p ∷ x) (sym h.0);
      is = (p, refl, refl, is, refl, subst BeginsUnknown (sym h.0) h.1);
      value = unknown_token v p.at 38 refl;
    }
    by_case meanings.Bad rest e is h = record {
      at = p.at;
      code = 38;
      spelled = Plain;
      now = Some p.at;
      front = [];
      whole = ap (λ (x : List Place). p ∷ x) (sym h.0);
      is = (p, refl, refl, is, refl, refl, refl, subst BeginsBad (sym h.0) h.1);
      value = bad_token v p.at 38 p.at refl refl;
    }
    by_case (meanings.Character c) rest e is h = record {
      at = p.at;
      code = c;
      spelled = Reference;
      now = None;
      front = h.0;
      whole = ap (λ (x : List Place). p ∷ x) h.1;
      is = (p, h.0, refl, refl, is, h.2);
      value = plain_token v p.at c c refl;
    }

    by_amp : (b : Bool) → (p.character == 38) ≡ b
        → Adds v p ps (cond b (by_meaning v p.at (meaning_at ps)) (with_char v p.character, ps))
    by_amp true is = by_case (meaning_at ps).0 (meaning_at ps).1 refl (eqb-true p.character 38 is) (meant ps)
    by_amp false is = record {
      at = p.at;
      code = p.character;
      spelled = Plain;
      now = None;
      front = [];
      whole = refl;
      is = (p, refl, refl, refl, λ e _. true≢false (sym (eq-eqb p.character 38 e) ∙ is));
      value = plain_token v p.at p.character p.character refl;
    }

-- what reading a value says of it
pub record Valued (test : ℕ → Bool) (v : Value) (ps : List Place) (r : Value × List Place) : Type 0 where
  pub toks : List Token
  pub bad : Option ℕ
  pub inner : List Place
  pub whole : ps ≡ inner ++ r.1
  pub text : IsText test toks bad inner r.1
  pub value : r.0 ≡ with_text v toks bad
  pub stops : begins_with test r.1 ≡ false

pub value_read : (n : ℕ) (test : ℕ → Bool) (v : Value) (ps : List Place) → length ps ≤ n
    → Valued test v ps (value_from n test v ps)
unfolding value_from
value_read n test v [] le = by_count n
  where
    nothing : Valued test v [] (v, [])
    nothing = record {
      toks = [];
      bad = None;
      inner = [];
      whole = refl;
      text = (refl, refl);
      value = sym (with_nothing v);
      stops = refl;
    }

    by_count : (k : ℕ) → Valued test v [] (value_from k test v [])
    by_count zero = nothing
    by_count (suc k) = nothing
value_read zero test v (p ∷ ps) le = absurd (omega arith)
value_read (suc n) test v (p ∷ ps) le = by_test (value_read n test (added v p ps).0 (added v p ps).1) (test p.character) refl
  where
    r : Value × List Place
    r = added v p ps

    joined : test p.character ≡ true → Adds v p ps r → Valued test r.0 r.1 (value_from n test r.0 r.1)
        → Valued test v (p ∷ ps) (value_from n test r.0 r.1)
    joined is a w = record {
      toks = Char a.at a.code a.spelled ∷ w.toks;
      bad = or_first a.now w.bad;
      inner = (p ∷ a.front) ++ w.inner;
      whole = a.whole ∙ ap (λ (x : List Place). p ∷ (a.front ++ x)) w.whole
          ∙ sym (append_assoc (p ∷ a.front) w.inner (value_from n test r.0 r.1).1);
      text = (
        p ∷ a.front,
        w.inner,
        refl,
        a.now,
        w.bad,
        refl,
        subst (λ (x : List Place). IsPiece a.at a.code a.spelled a.now (p ∷ a.front) x) w.whole a.is,
        is,
        w.text,
      );
      value = w.value ∙ ap (λ (x : Value). with_text x w.toks w.bad) a.value
          ∙ with_more v a.at a.code a.spelled a.now w.bad w.toks;
      stops = w.stops;
    }

    by_test : (length r.1 ≤ n → Valued test r.0 r.1 (value_from n test r.0 r.1)) → (b : Bool) → test p.character ≡ b
        → Valued test v (p ∷ ps) (cond b (value_from n test r.0 r.1) (v, p ∷ ps))
    by_test below true is =
        let a = character_read v p ps in
        let l : length (p ∷ ps) ≡ suc (length (a.front ++ r.1)) = ap length a.whole in
        let k : length (a.front ++ r.1) ≡ length a.front + length r.1 = length-append a.front r.1 in
        joined is a (below (omega (arith, l, k)))
    by_test below false is = record {
      toks = [];
      bad = None;
      inner = [];
      whole = refl;
      text = (refl, refl);
      value = sym (with_nothing v);
      stops = is;
    }
