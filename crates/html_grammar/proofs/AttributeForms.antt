-- Attributes, as they are read and by their forms.
use Rattle.std.proofs.Common.{◌≡◌, ℕ, zero, suc, ◌+◌, ◌≤◌, List, [], ◌∷◌, ◌++◌, map, length, Option, Some, None, Result, Ok, Err}
use Rattle.std.proofs.Common.{Bool, true, false, cond, not, ◌||◌, refl, sym, ap, ◌∙◌, append_assoc, arith, length-append, inl}
use Rattle.std.proofs.Common.{inr}
use Rattle.std.specs.Prelude.{◌⊎◌, encode_utf8_all}
use Rattle.std.specs.Char.{to_ascii_lowercase}
use Rattle.std.proofs.lemmas.List.{append-nil}
use Rattle.std.proofs.lemmas.Bool.{eq-eqb}
use Rattle.mc_base.specs.Reading.{◌>>=◌, fault}
use lib.Dec.{eqb}
use Rattle.html_grammar.specs.declared.dom.Attribute.{Attribute}
use Rattle.html_grammar.specs.declared.place.Place.{Place}
use Rattle.mc_base.specs.declared.read_error.Fault.{Fault}
use Rattle.html_grammar.specs.declared.token.ReadAttribute.{ReadAttribute}
use Rattle.html_grammar.specs.declared.token.ReadAttributes.{ReadAttributes}
use Rattle.html_grammar.specs.declared.token.Token.{Token}
use Rattle.html_grammar.specs.declared.token.Value.{Value}
use Rattle.html_grammar.specs.Places.{behind_first, place_or, behind_while, begins_with, begins}
use Rattle.html_grammar.specs.Tokens.{is_space}
use Rattle.html_grammar.specs.Lexing.{is_key_char, is_bare_char, is_other, empty_value, value_from, read_as, quoted_at, bare_at}
use Rattle.html_grammar.specs.Lexing.{value_at, assigned_at, key, attribute_at, some_attribute, piece_at, or_first}
use Rattle.html_grammar.specs.Lexing.{with_attribute, continued, attributes_from}
use Rattle.html_grammar.specs.Spelling.{SomePass, first_unknown, IsQuoted, IsValue, IsAssigned, IsAttribute, IsTagEnd}
use Rattle.html_grammar.specs.Spelling.{IsAttributes}
use Rattle.html_grammar.proofs.Spans.{begins_back, begins_other, begins_some, all_pass, codes_back, behind_back}
use Rattle.html_grammar.proofs.ValueForms.{value_as, with_text, text_back}

-- what holds of an answer, if there is one
abbrev pub Gives : {A : Type 0} → (A → Type 0) → Result A Fault → Type 0
Gives Q (Ok x) = Q x
Gives Q (Err e) = Unit {0}

pub gives_bind : {A B : Type 0} (P : A → Type 0) (Q : B → Type 0) (r : Result A Fault) (f : A → Result B Fault) → Gives P r
    → ((x : A) → P x → Gives Q (f x)) → Gives Q (r >>= f)
gives_bind P Q (Ok x) f h g = g x h
gives_bind P Q (Err e) f h g = tt

pub gives_if : {A : Type 0} (Q : A → Type 0) (b : Bool) (x : A) (f : Fault) → (b ≡ true → Q x) → Gives Q (cond b (Ok x) (Err f))
gives_if Q true x f h = h refl
gives_if Q false x f h = tt

abbrev fault_at : ℕ → ℕ → Fault
fault_at at rule = record { at = at; rule = rule }

abbrev attribute_as : List ℕ → Value → ℕ → ReadAttribute
attribute_as name v at = record { name = name; value = v; offset = at }

abbrev answer : ReadAttribute → List Place → Result (ReadAttribute × List Place) Fault
answer a rest = Ok (a, rest)

front_begins : (test : ℕ → Bool) (form rest : List Place) → begins_with test form ≡ true → begins_with test (form ++ rest) ≡ true
front_begins test [] rest h = absurd cc
front_begins test (p ∷ form) rest h = h

front_place : (test : ℕ → Bool) (form rest : List Place) → begins_with test form ≡ true
    → place_or 0 (form ++ rest) ≡ place_or 0 form
front_place test [] rest h = absurd cc
front_place test (p ∷ form) rest h = refl

first_place : (inner : List Place) (p : Place) (rest : List Place)
    → place_or 0 (inner ++ (p ∷ rest)) ≡ place_or 0 (inner ++ p ∷ [])
first_place [] p rest = refl
first_place (x ∷ inner) p rest = refl

pub same_length : (front rest ps : List Place) → ps ≡ front ++ rest → length ps ≡ length front + length rest
same_length front rest ps e = ap length e ∙ length-append front rest

-- values are read

is_closing : (q : ℕ) (p : Place) (rest : List Place) → p.character ≡ q → begins_with (is_other q) (p ∷ rest) ≡ false
is_closing q p rest e = ap not (eq-eqb p.character q e)

quoted_back : (n tag : ℕ) (name : List ℕ) (q : ℕ) (toks : List Token) (bad : Option ℕ) (at : ℕ) (form rest : List Place)
    (f : IsQuoted q toks bad at form rest) → length form ≤ n
    → quoted_at n tag name q (f.inner ++ (f.closing ∷ rest)) ≡ answer (attribute_as name (with_text empty_value toks bad) at) rest
unfolding quoted_at
quoted_back n tag name q toks bad at form rest f le =
    let ps = f.inner ++ (f.closing ∷ rest) in
    let l : length form ≡ suc (length f.inner + 1) = ap length f.whole ∙ ap suc (length-append f.inner (f.closing ∷ [])) in
    let v : value_from n (is_other q) empty_value ps ≡ (with_text empty_value toks bad, f.closing ∷ rest) =
    text_back n (is_other q) toks bad f.inner (f.closing ∷ rest) empty_value f.text (is_closing q f.closing rest f.closes)
    (omega (arith, l)) in
    ap (λ (x : Value × List Place). cond (begins q x.1) (read_as name (place_or 0 ps) x (behind_first x.1)) (fault tag 3)) v
    ∙ ap (λ (b : Bool). cond b (answer (attribute_as name (with_text empty_value toks bad) (place_or 0 ps)) rest) (fault tag 3))
    (begins_back q f.closing rest f.closes)
    ∙ ap (λ (x : ℕ). answer (attribute_as name (with_text empty_value toks bad) x) rest)
    (first_place f.inner f.closing rest ∙ sym f.stands)

quoted_whole : (q : ℕ) (toks : List Token) (bad : Option ℕ) (at : ℕ) (form rest : List Place)
    (f : IsQuoted q toks bad at form rest) → form ++ rest ≡ f.opening ∷ (f.inner ++ (f.closing ∷ rest))
quoted_whole q toks bad at form rest f = ap (λ (x : List Place). x ++ rest) f.whole
    ∙ ap (λ (x : List Place). f.opening ∷ x) (append_assoc f.inner (f.closing ∷ []) rest)

value_back : (n tag : ℕ) (name : List ℕ) (toks : List Token) (bad : Option ℕ) (at : ℕ) (form rest : List Place)
    → IsValue toks bad at form rest → length form ≤ n
    → value_at n tag name (form ++ rest) ≡ answer (attribute_as name (with_text empty_value toks bad) at) rest
unfolding value_at bare_at
value_back n tag name toks bad at form rest (inl f) le =
    let ps = f.inner ++ (f.closing ∷ rest) in
    ap (value_at n tag name) (quoted_whole 34 toks bad at form rest f)
    ∙ ap (λ (b : Bool). cond b (quoted_at n tag name 34 ps)
    (cond (begins 39 (f.opening ∷ ps)) (quoted_at n tag name 39 ps) (bare_at n tag name (f.opening ∷ ps))))
    (begins_back 34 f.opening ps f.opens)
    ∙ quoted_back n tag name 34 toks bad at form rest f le
value_back n tag name toks bad at form rest (inr (inl f)) le =
    let ps = f.inner ++ (f.closing ∷ rest) in
    let other : eqb f.opening.character 34 ≡ false = ap (λ (c : ℕ). eqb c 34) f.opens in
    ap (value_at n tag name) (quoted_whole 39 toks bad at form rest f)
    ∙ ap (λ (b : Bool). cond b (quoted_at n tag name 34 ps)
    (cond (begins 39 (f.opening ∷ ps)) (quoted_at n tag name 39 ps) (bare_at n tag name (f.opening ∷ ps)))) other
    ∙ ap (λ (b : Bool). cond b (quoted_at n tag name 39 ps) (bare_at n tag name (f.opening ∷ ps)))
    (begins_back 39 f.opening ps f.opens)
    ∙ quoted_back n tag name 39 toks bad at form rest f le
value_back n tag name toks bad at form rest (inr (inr f)) le =
    let ps = form ++ rest in
    let begun = front_begins is_bare_char form rest f.1 in
    let v : value_from n is_bare_char empty_value ps ≡ (with_text empty_value toks bad, rest) =
    text_back n is_bare_char toks bad form rest empty_value f.0 f.2 le in
    ap (λ (b : Bool). cond b (quoted_at n tag name 34 (behind_first ps))
    (cond (begins 39 ps) (quoted_at n tag name 39 (behind_first ps)) (bare_at n tag name ps)))
    (begins_other is_bare_char 34 ps begun refl)
    ∙ ap (λ (b : Bool). cond b (quoted_at n tag name 39 (behind_first ps)) (bare_at n tag name ps))
    (begins_other is_bare_char 39 ps begun refl)
    ∙ ap (λ (b : Bool). cond b (read_as name (place_or 0 ps) (value_from n is_bare_char empty_value ps)
    (value_from n is_bare_char empty_value ps).1) (fault tag 3)) begun
    ∙ ap (λ (x : Value × List Place). read_as name (place_or 0 ps) x x.1) v
    ∙ ap (λ (x : ℕ). answer (attribute_as name (with_text empty_value toks bad) x) rest)
    (front_place is_bare_char form rest f.1 ∙ sym f.3)

-- an attribute as it is read
abbrev pub read_of : Attribute → Option ℕ → Option ℕ → ReadAttribute
read_of a unknown bad = attribute_as a.name (value_as a.value unknown bad) a.offset

assigned_back : (n tag at : ℕ) (a : Attribute) (unknown bad : Option ℕ) (tail rest : List Place)
    → IsAssigned at a unknown bad tail rest → length tail ≤ n
    → assigned_at n tag at a.name (tail ++ rest) ≡ answer (read_of a unknown bad) rest
unfolding assigned_at
assigned_back n tag at a unknown bad tail rest (inl h) le =
    ap (λ (x : List Place). assigned_at n tag at a.name (x ++ rest)) h.0
    ∙ ap (λ (b : Bool). cond b (value_at n tag a.name (behind_first rest)) (read_as a.name at (empty_value, rest) rest)) h.1
    ∙ ap (λ (x : ℕ). answer (attribute_as a.name empty_value x) rest) (sym h.3)
    ∙ ap (λ (x : List ℕ). answer (attribute_as a.name (value_as x None None) a.offset) rest) (sym h.2)
    ∙ ap (λ (x : Option ℕ). answer (attribute_as a.name (value_as a.value x None) a.offset) rest) (sym h.4)
    ∙ ap (λ (x : Option ℕ). answer (attribute_as a.name (value_as a.value unknown x) a.offset) rest) (sym h.5)
assigned_back n tag at a unknown bad tail rest (inr h) le =
    let e : tail ++ rest ≡ h.0 ∷ (h.1 ++ rest) = ap (λ (x : List Place). x ++ rest) h.3 in
    let l : length tail ≡ suc (length h.1) = ap length h.3 in
    ap (assigned_at n tag at a.name) e
    ∙ ap (λ (b : Bool). cond b (value_at n tag a.name (h.1 ++ rest))
    (read_as a.name at (empty_value, h.0 ∷ (h.1 ++ rest)) (h.0 ∷ (h.1 ++ rest)))) (begins_back 61 h.0 (h.1 ++ rest) h.4)
    ∙ value_back n tag a.name h.2 bad a.offset h.1 rest h.5 (omega (arith, l))
    ∙ ap (λ (x : List ℕ). answer (attribute_as a.name (value_as x (first_unknown h.2) bad) a.offset) rest) (sym h.6)
    ∙ ap (λ (x : Option ℕ). answer (attribute_as a.name (value_as a.value x bad) a.offset) rest) (sym h.7)

attribute_whole : (a : Attribute) (unknown bad : Option ℕ) (one rest : List Place) (f : IsAttribute a unknown bad one rest)
    → one ++ rest ≡ (f.first ∷ f.more) ++ (f.tail ++ rest)
attribute_whole a unknown bad one rest f = ap (λ (x : List Place). x ++ rest) f.whole
    ∙ ap (λ (x : List Place). f.first ∷ x) (append_assoc f.more f.tail rest)

pub attribute_back : (n tag : ℕ) (a : Attribute) (unknown bad : Option ℕ) (one rest : List Place)
    → IsAttribute a unknown bad one rest → length one ≤ n
    → attribute_at n tag (one ++ rest) ≡ answer (read_of a unknown bad) rest
unfolding attribute_at
attribute_back n tag a unknown bad one rest f le =
    let ps = (f.first ∷ f.more) ++ (f.tail ++ rest) in
    let l : length one ≡ suc (length f.more + length f.tail) = ap length f.whole ∙ ap suc (length-append f.more f.tail) in
    let names : key ps ≡ a.name = ap (λ (x : List ℕ). encode_utf8_all (map to_ascii_lowercase x))
    (codes_back is_key_char (f.first ∷ f.more) (f.tail ++ rest) f.named f.stops) ∙ sym f.name_is in
    ap (attribute_at n tag) (attribute_whole a unknown bad one rest f)
    ∙ ap (λ (b : Bool). cond b (assigned_at n tag f.first.at (key ps) (behind_while is_key_char ps)) (fault tag 3)) f.named.0
    ∙ ap (λ (x : List ℕ). assigned_at n tag f.first.at x (behind_while is_key_char ps)) names
    ∙ ap (assigned_at n tag f.first.at a.name) (behind_back is_key_char (f.first ∷ f.more) (f.tail ++ rest) f.named f.stops)
    ∙ assigned_back n tag f.first.at a unknown bad f.tail rest f.value_is (omega (arith, l))

key_no_space : (c : ℕ) → is_key_char c ≡ true → is_space c ≡ false
key_no_space c h = by_space (is_space c) h
  where
    by_space : (b : Bool) → not (b || (eqb c 34 || (eqb c 39 || (eqb c 62 || (eqb c 47 || (eqb c 61 || eqb c 60)))))) ≡ true
        → b ≡ false
    by_space true h = absurd cc
    by_space false h = refl

abbrev piece_answer : Option ReadAttribute → List Place → Result (Option ReadAttribute × List Place) Fault
piece_answer a rest = Ok (a, rest)

-- what a piece comes to, by what stands after the white space
abbrev piece_of : ℕ → ℕ → List Place → List Place → Result (Option ReadAttribute × List Place) Fault
piece_of n tag ps behind =
    cond (begins 62 behind) (Ok (None, behind_first behind))
    (cond (begins 47 behind)
    (cond (begins 62 (behind_first behind)) (Ok (None, behind_first (behind_first behind))) (fault tag 3))
    (cond (begins_with is_space ps) (attribute_at n tag behind >>= some_attribute) (fault tag 3)))

piece_is : (n tag : ℕ) (ps : List Place) → piece_at n tag ps ≡ piece_of n tag ps (behind_while is_space ps)
unfolding piece_at
piece_is n tag ps = refl

end_back : (n tag : ℕ) (one rest : List Place) → IsTagEnd one → piece_at n tag (one ++ rest) ≡ piece_answer None rest
end_back n tag one rest f = by_form f.whole
  where
    no_space : (c : ℕ) (p : Place) (more : List Place) → p.character ≡ c → is_space c ≡ false
        → begins_with is_space (p ∷ more) ≡ false
    no_space c p more e h = ap is_space e ∙ h

    by_form : (one ≡ f.white ++ f.last ∷ [])
        ⊎ ((slash : Place) × (slash.character ≡ 47) × (one ≡ f.white ++ (slash ∷ (f.last ∷ []))))
        → piece_at n tag (one ++ rest) ≡ piece_answer None rest
    by_form (inl g) =
        let e : one ++ rest ≡ f.white ++ (f.last ∷ rest) = ap (λ (x : List Place). x ++ rest) g
        ∙ append_assoc f.white (f.last ∷ []) rest in
        piece_is n tag (one ++ rest)
        ∙ ap (piece_of n tag (one ++ rest)) (ap (behind_while is_space) e
        ∙ behind_back is_space f.white (f.last ∷ rest) f.spaces (no_space 62 f.last rest f.ends refl))
        ∙ ap (λ (b : Bool). cond b (piece_answer None rest)
        (cond (begins 47 (f.last ∷ rest)) (cond (begins 62 rest) (piece_answer None (behind_first rest)) (fault tag 3))
        (cond (begins_with is_space (one ++ rest)) (attribute_at n tag (f.last ∷ rest) >>= some_attribute)
        (fault tag 3)))) (begins_back 62 f.last rest f.ends)
    by_form (inr g) =
        let behind = g.0 ∷ (f.last ∷ rest) in
        let e : one ++ rest ≡ f.white ++ behind = ap (λ (x : List Place). x ++ rest) g.2
        ∙ append_assoc f.white (g.0 ∷ (f.last ∷ [])) rest in
        let other : eqb g.0.character 62 ≡ false = ap (λ (c : ℕ). eqb c 62) g.1 in
        piece_is n tag (one ++ rest)
        ∙ ap (piece_of n tag (one ++ rest)) (ap (behind_while is_space) e
        ∙ behind_back is_space f.white behind f.spaces (no_space 47 g.0 (f.last ∷ rest) g.1 refl))
        ∙ ap (λ (b : Bool). cond b (piece_answer None (f.last ∷ rest))
        (cond (begins 47 behind) (cond (begins 62 (f.last ∷ rest)) (piece_answer None rest) (fault tag 3))
        (cond (begins_with is_space (one ++ rest)) (attribute_at n tag behind >>= some_attribute) (fault tag 3))))
        other
        ∙ ap (λ (b : Bool). cond b (cond (begins 62 (f.last ∷ rest)) (piece_answer None rest) (fault tag 3))
        (cond (begins_with is_space (one ++ rest)) (attribute_at n tag behind >>= some_attribute) (fault tag 3)))
        (begins_back 47 g.0 (f.last ∷ rest) g.1)
        ∙ ap (λ (b : Bool). cond b (piece_answer None rest) (fault tag 3)) (begins_back 62 f.last rest f.ends)

piece_back : (n tag : ℕ) (a : Attribute) (unknown bad : Option ℕ) (white spelled rest : List Place) → SomePass is_space white
    → IsAttribute a unknown bad spelled rest → length spelled ≤ n
    → piece_at n tag (white ++ (spelled ++ rest)) ≡ piece_answer (Some (read_of a unknown bad)) rest
piece_back n tag a unknown bad white spelled rest some f le =
    let behind = spelled ++ rest in
    let whole = attribute_whole a unknown bad spelled rest f in
    let begun : begins_with is_key_char behind ≡ true = ap (begins_with is_key_char) whole ∙ f.named.0 in
    let stops : begins_with is_space behind ≡ false = ap (begins_with is_space) whole
    ∙ key_no_space f.first.character f.named.0 in
    piece_is n tag (white ++ behind)
    ∙ ap (piece_of n tag (white ++ behind)) (behind_back is_space white behind (all_pass is_space white some) stops)
    ∙ ap (λ (b : Bool). cond b (piece_answer None (behind_first behind))
    (cond (begins 47 behind) (cond (begins 62 (behind_first behind))
    (piece_answer None (behind_first (behind_first behind))) (fault tag 3))
    (cond (begins_with is_space (white ++ behind)) (attribute_at n tag behind >>= some_attribute) (fault tag 3))))
    (begins_other is_key_char 62 behind begun refl)
    ∙ ap (λ (b : Bool). cond b (cond (begins 62 (behind_first behind)) (piece_answer None (behind_first (behind_first behind)))
    (fault tag 3)) (cond (begins_with is_space (white ++ behind)) (attribute_at n tag behind >>= some_attribute)
    (fault tag 3))) (begins_other is_key_char 47 behind begun refl)
    ∙ ap (λ (b : Bool). cond b (attribute_at n tag behind >>= some_attribute) (fault tag 3))
    (begins_some is_space white behind some)
    ∙ ap (λ (x : Result (ReadAttribute × List Place) Fault). x >>= some_attribute)
    (attribute_back n tag a unknown bad spelled rest f le)

abbrev pub attributes_as : List Attribute → Option ℕ → Option ℕ → ReadAttributes
attributes_as all unknown bad = record { all = all; unknown = unknown; bad = bad }

abbrev pub attributes_answer : ReadAttributes → List Place → Result (ReadAttributes × List Place) Fault
attributes_answer x rest = Ok (x, rest)

or_nothing : (x : Option ℕ) → or_first x None ≡ x
or_nothing None = refl
or_nothing (Some x) = refl

or_third : (x y z : Option ℕ) → or_first (or_first x y) z ≡ or_first x (or_first y z)
or_third None y z = refl
or_third (Some x) y z = refl

from_piece : (k n tag : ℕ) (x : ReadAttributes) (ps : List Place)
    → attributes_from (suc k) n tag x ps ≡ (piece_at n tag ps >>= λ r. continued x r.0 r.1 (λ y. attributes_from k n tag y r.1))
unfolding attributes_from
from_piece k n tag x ps = refl

none_in : (one white : List Place) (last : Place) → (one ≡ white ++ last ∷ [])
    ⊎ ((slash : Place) × (slash.character ≡ 47) × (one ≡ white ++ (slash ∷ (last ∷ [])))) → length one ≤ 0 → ⊥
none_in one white last (inl e) le = let l : length one ≡ length white + 1 = ap length e ∙ length-append white (last ∷ [])
    in omega (arith, l, le)
none_in one white last (inr g) le =
    let l : length one ≡ length white + 2 = ap length g.2 ∙ length-append white (g.0 ∷ (last ∷ [])) in omega (arith, l, le)

some_in : (test : ℕ → Bool) (white rest one : List Place) → one ≡ white ++ rest → SomePass test white
    → 1 + length rest ≤ length one
some_in test [] rest one e h = absurd h
some_in test (p ∷ white) rest one e h =
    let l : length one ≡ suc (length white) + length rest = ap length e ∙ length-append (p ∷ white) rest in omega (arith, l)

pub attributes_back : (k n tag : ℕ) (all : List Attribute) (unknown bad : Option ℕ) (one rest : List Place) (x : ReadAttributes)
    → IsAttributes all unknown bad one rest → length one ≤ k → length one ≤ n
    → attributes_from k n tag x (one ++ rest)
    ≡ attributes_answer (attributes_as (x.all ++ all) (or_first x.unknown unknown) (or_first x.bad bad)) rest
attributes_back zero n tag [] unknown bad one rest x h le len = absurd (none_in one h.2.white h.2.last h.2.whole le)
attributes_back (suc k) n tag [] unknown bad one rest x h le len =
    from_piece k n tag x (one ++ rest)
    ∙ ap (λ (r : Result (Option ReadAttribute × List Place) Fault). r >>= λ r.
    continued x r.0 r.1 (λ y. attributes_from k n tag y r.1)) (end_back n tag one rest h.2)
    ∙ ap (λ (u : List Attribute). attributes_answer (attributes_as u x.unknown x.bad) rest) (sym (append-nil x.all))
    ∙ ap (λ (u : Option ℕ). attributes_answer (attributes_as (x.all ++ []) u x.bad) rest)
    (sym (or_nothing x.unknown) ∙ ap (or_first x.unknown) (sym h.0))
    ∙ ap (λ (u : Option ℕ). attributes_answer (attributes_as (x.all ++ []) (or_first x.unknown unknown) u) rest)
    (sym (or_nothing x.bad) ∙ ap (or_first x.bad) (sym h.1))
attributes_back zero n tag (a ∷ others) unknown bad one rest x h le len =
    let l = some_in is_space h.4 (h.5 ++ h.6) one h.7 h.8 in
    absurd (omega (arith, l, le))
attributes_back (suc k) n tag (a ∷ others) unknown bad one rest x h le len =
    let here = h.0 in
    let later = h.1 in
    let now = h.2 in
    let then = h.3 in
    let white = h.4 in
    let spelled = h.5 in
    let more = h.6 in
    let l = some_in is_space white (spelled ++ more) one h.7 h.8 in
    let m : length (spelled ++ more) ≡ length spelled + length more = length-append spelled more in
    let whole : one ++ rest ≡ white ++ (spelled ++ (more ++ rest)) = ap (λ (u : List Place). u ++ rest) h.7
    ∙ append_assoc white (spelled ++ more) rest ∙ ap (λ (u : List Place). white ++ u) (append_assoc spelled more rest) in
    let y = with_attribute x (read_of a here now) in
    ap (attributes_from (suc k) n tag x) whole
    ∙ from_piece k n tag x (white ++ (spelled ++ (more ++ rest)))
    ∙ ap (λ (r : Result (Option ReadAttribute × List Place) Fault). r >>= λ r.
    continued x r.0 r.1 (λ y. attributes_from k n tag y r.1))
    (piece_back n tag a here now white spelled (more ++ rest) h.8 h.11 (omega (arith, l, m, len)))
    ∙ attributes_back k n tag others later then more rest y h.12 (omega (arith, l, m, le)) (omega (arith, l, m, len))
    ∙ ap (λ (u : List Attribute).
    attributes_answer (attributes_as u (or_first (or_first x.unknown here) later) (or_first y.bad then)) rest)
    (append_assoc x.all (a ∷ []) others)
    ∙ ap (λ (u : Option ℕ). attributes_answer (attributes_as (x.all ++ (a ∷ others)) u (or_first y.bad then)) rest)
    (or_third x.unknown here later ∙ ap (or_first x.unknown) (sym h.9))
    ∙ ap (λ (u : Option ℕ). attributes_answer (attributes_as (x.all ++ (a ∷ others)) (or_first x.unknown unknown) u) rest)
    (or_third x.bad now then ∙ ap (or_first x.bad) (sym h.10))
