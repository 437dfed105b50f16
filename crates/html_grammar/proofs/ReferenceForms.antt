-- References, as they are read and by their forms.
use Rattle.std.proofs.Common.{◌≡◌, ℕ, List, [], ◌∷◌, ◌++◌, Option, Some, None, Bool, true, false, cond, ◌&&◌, refl, sym, ap}
use Rattle.std.proofs.Common.{subst, ◌∙◌, append_assoc, inl, inr}
use Rattle.std.specs.Prelude.{◌⊎◌}
use Rattle.std.specs.Char.{is_ascii_alphanumeric}
use Rattle.std.proofs.lemmas.Bool.{true≢false}
use Rattle.html_grammar.specs.declared.place.Place.{Place}
use Rattle.html_grammar.specs.declared.token.Meaning.{Meaning}
use Rattle.html_grammar.specs.declared.token.Meaning.TheVariants as meanings
use Rattle.html_grammar.specs.References.{named_character}
use Rattle.html_grammar.specs.Places.{behind_first, codes_while, behind_while, begins_with, begins}
use Rattle.html_grammar.specs.Lexing.{number_from, is_character, is_radix_digit, numbered, number_at, found_or_unknown, name_at}
use Rattle.html_grammar.specs.Lexing.{meaning_at}
use Rattle.html_grammar.specs.Spelling.{codes_of, IsNumeral, IsNumberReference, IsNameReference, IsReference, IsBadReference}
use Rattle.html_grammar.specs.Spelling.{IsUnknownReference, BeginsReference, BeginsBad, BeginsUnknown}
use Rattle.html_grammar.proofs.Spans.{begins_first, begins_back, begins_other, begins_some, run_found, run_back}

both : (a b : Bool) → a ≡ true → b ≡ true → a && b ≡ true
both a b h g = ap (λ (x : Bool). x && b) h ∙ g

-- a number's reading
number_back : (radix n : ℕ) (ps form rest : List Place) → is_radix_digit radix 59 ≡ false → IsNumeral radix n form
    → number_at radix ps (form ++ rest) ≡ numbered n ps rest
unfolding number_at
number_back radix n ps form rest other f =
    let test = is_radix_digit radix in
    let e : form ++ rest ≡ (f.digits ++ f.last ∷ []) ++ rest = ap (λ (x : List Place). x ++ rest) f.whole in
    let b = run_back test f.digits f.last rest other f.some f.ends in
    ap (number_at radix ps) e
    ∙ ap (λ (x : Bool). cond x (numbered (number_from radix 0 (codes_while test ((f.digits ++ f.last ∷ []) ++ rest))) ps
    (behind_first (behind_while test ((f.digits ++ f.last ∷ []) ++ rest)))) (meanings.Plain, ps))
    (both _ _ b.begun b.ended)
    ∙ ap (λ (x : List ℕ). numbered (number_from radix 0 x) ps
    (behind_first (behind_while test ((f.digits ++ f.last ∷ []) ++ rest)))) b.codes_are
    ∙ ap (λ (x : List Place). numbered (number_from radix 0 (codes_of f.digits)) ps x) b.behind
    ∙ ap (λ (x : ℕ). numbered x ps rest) (sym f.value)

-- the first digit of a decimal number is no x
no_ex : (n : ℕ) (form rest : List Place) → IsNumeral 10 n form → begins 120 (form ++ rest) ≡ false
no_ex n form rest f =
    ap (λ (x : List Place). begins 120 (x ++ rest)) f.whole ∙ ap (begins 120) (append_assoc f.digits (f.last ∷ []) rest)
    ∙ begins_other (is_radix_digit 10) 120 (f.digits ++ (f.last ∷ rest))
    (begins_some (is_radix_digit 10) f.digits (f.last ∷ rest) f.some) refl

pub number_reference_back : (n : ℕ) (form rest : List Place) → IsNumberReference n form
    → meaning_at (form ++ rest) ≡ numbered n (form ++ rest) rest
unfolding meaning_at
number_reference_back n form rest h = by_radix h.3
  where
    hash : Place
    hash = h.0

    by_radix : ((form ≡ h.0 ∷ h.1) × IsNumeral 10 n h.1)
        ⊎ ((ex : Place) × (form ≡ h.0 ∷ (ex ∷ h.1)) × (ex.character ≡ 120) × IsNumeral 16 n h.1)
        → meaning_at (form ++ rest) ≡ numbered n (form ++ rest) rest
    by_radix (inl g) =
        let e : form ++ rest ≡ h.0 ∷ (h.1 ++ rest) = ap (λ (x : List Place). x ++ rest) g.0 in
        ap meaning_at e
        ∙ ap (λ (x : Bool).
        cond x (cond (begins 120 (h.1 ++ rest)) (number_at 16 (h.0 ∷ (h.1 ++ rest)) (behind_first (h.1 ++ rest)))
        (number_at 10 (h.0 ∷ (h.1 ++ rest)) (h.1 ++ rest))) (name_at (h.0 ∷ (h.1 ++ rest))))
        (begins_back 35 h.0 (h.1 ++ rest) h.2)
        ∙ ap (λ (x : Bool). cond x (number_at 16 (h.0 ∷ (h.1 ++ rest)) (behind_first (h.1 ++ rest)))
        (number_at 10 (h.0 ∷ (h.1 ++ rest)) (h.1 ++ rest))) (no_ex n h.1 rest g.1)
        ∙ number_back 10 n (h.0 ∷ (h.1 ++ rest)) h.1 rest refl g.1
        ∙ ap (λ (x : List Place). numbered n x rest) (sym e)
    by_radix (inr g) =
        let e : form ++ rest ≡ h.0 ∷ (g.0 ∷ (h.1 ++ rest)) = ap (λ (x : List Place). x ++ rest) g.1 in
        let ps = h.0 ∷ (g.0 ∷ (h.1 ++ rest)) in
        ap meaning_at e
        ∙ ap (λ (x : Bool). cond x (cond (begins 120 (g.0 ∷ (h.1 ++ rest))) (number_at 16 ps (h.1 ++ rest))
        (number_at 10 ps (g.0 ∷ (h.1 ++ rest)))) (name_at ps)) (begins_back 35 h.0 (g.0 ∷ (h.1 ++ rest)) h.2)
        ∙ ap (λ (x : Bool). cond x (number_at 16 ps (h.1 ++ rest)) (number_at 10 ps (g.0 ∷ (h.1 ++ rest))))
        (begins_back 120 g.0 (h.1 ++ rest) g.2)
        ∙ number_back 16 n ps h.1 rest refl g.3
        ∙ ap (λ (x : List Place). numbered n x rest) (sym e)

pub name_reference_back : (name : List ℕ) (form rest : List Place) → IsNameReference name form
    → meaning_at (form ++ rest) ≡ found_or_unknown (named_character name) (form ++ rest) rest
unfolding meaning_at name_at
name_reference_back name form rest f =
    let test = is_ascii_alphanumeric in
    let ps = (f.letters ++ f.last ∷ []) ++ rest in
    let e : form ++ rest ≡ ps = ap (λ (x : List Place). x ++ rest) f.whole in
    let b = run_back test f.letters f.last rest refl f.some f.ends in
    ap meaning_at e
    ∙ ap (λ (x : Bool). cond x (cond (begins 120 (behind_first ps)) (number_at 16 ps (behind_first (behind_first ps)))
    (number_at 10 ps (behind_first ps))) (name_at ps)) (begins_other test 35 ps b.begun refl)
    ∙ ap (λ (x : Bool). cond x (found_or_unknown (named_character (codes_while test ps)) ps (behind_first (behind_while test ps)))
    (meanings.Plain, ps)) (both _ _ b.begun b.ended)
    ∙ ap (λ (x : List ℕ). found_or_unknown (named_character x) ps (behind_first (behind_while test ps)))
    (b.codes_are ∙ sym f.named)
    ∙ ap (λ (x : List Place). found_or_unknown (named_character name) ps x) b.behind
    ∙ ap (λ (x : List Place). found_or_unknown (named_character name) x rest) (sym e)

-- a reference's character is read
pub reference_back : (c : ℕ) (form rest : List Place) → IsReference c form
    → meaning_at (form ++ rest) ≡ (meanings.Character c, rest)
reference_back c form rest (inl h) = number_reference_back c form rest h.0
    ∙ ap (λ (x : Bool). cond x (meanings.Character c, rest) (meanings.Bad, form ++ rest)) h.1
reference_back c form rest (inr h) = name_reference_back h.0 form rest h.1
    ∙ ap (λ (x : Option ℕ). found_or_unknown x (form ++ rest) rest) h.2

pub bad_back : (form rest : List Place) → IsBadReference form → meaning_at (form ++ rest) ≡ (meanings.Bad, form ++ rest)
bad_back form rest h = number_reference_back h.0 form rest h.1
    ∙ ap (λ (x : Bool). cond x (meanings.Character h.0, rest) (meanings.Bad, form ++ rest)) h.2

pub unknown_back : (form rest : List Place) → IsUnknownReference form
    → meaning_at (form ++ rest) ≡ (meanings.Unknown, form ++ rest)
unknown_back form rest h = name_reference_back h.0 form rest h.1
    ∙ ap (λ (x : Option ℕ). found_or_unknown x (form ++ rest) rest) h.2

is_plain : Meaning → Bool
is_plain meanings.Plain = true
is_plain meanings.Unknown = false
is_plain meanings.Bad = false
is_plain (meanings.Character c) = false

-- what begins a reference is no plain &
pub not_plain : (ps rest : List Place) → meaning_at ps ≡ (meanings.Plain, rest) → BeginsReference ps → ⊥
unfolding is_plain
not_plain ps rest e h = by_form h.3
  where
    seen : is_plain (meaning_at (h.0 ++ h.1)).0 ≡ true
    seen = ap (λ (x : List Place). is_plain (meaning_at x).0) (sym h.2) ∙ ap (λ (x : Meaning × List Place). is_plain x.0) e

    by_character : (n : ℕ) (b : Bool)
        → is_plain (cond {A = Meaning × List Place} b (meanings.Character n, h.1) (meanings.Bad, h.0 ++ h.1)).0 ≡ false
    by_character n true = refl
    by_character n false = refl

    by_name : (x : Option ℕ) → is_plain (found_or_unknown x (h.0 ++ h.1) h.1).0 ≡ false
    by_name None = refl
    by_name (Some c) = refl

    by_form : ((n : ℕ) × IsNumberReference n h.0) ⊎ ((name : List ℕ) × IsNameReference name h.0) → ⊥
    by_form (inl g) = true≢false (sym seen
        ∙ ap (λ (x : Meaning × List Place). is_plain x.0) (number_reference_back g.0 h.0 h.1 g.1)
        ∙ by_character g.0 (is_character g.0))
    by_form (inr g) = true≢false (sym seen ∙ ap (λ (x : Meaning × List Place). is_plain x.0) (name_reference_back g.0 h.0 h.1 g.1)
        ∙ by_name (named_character g.0))

-- what the meaning of a & says of the places after it
abbrev pub Meant : Meaning → List Place → List Place → Type 0
Meant meanings.Plain rest ps = rest ≡ ps
Meant meanings.Unknown rest ps = (rest ≡ ps) × BeginsUnknown ps
Meant meanings.Bad rest ps = (rest ≡ ps) × BeginsBad ps
Meant (meanings.Character c) rest ps = (form : List Place) × (ps ≡ form ++ rest) × IsReference c form

abbrev MeantAs : Meaning × List Place → List Place → Type 0
MeantAs m ps = Meant m.0 m.1 ps

number_meant : (n : ℕ) (ps form rest : List Place) → ps ≡ form ++ rest → IsNumberReference n form
    → MeantAs (numbered n ps rest) ps
number_meant n ps form rest e h = by_character (is_character n) refl
  where
    by_character : (b : Bool) → is_character n ≡ b → MeantAs (cond b (meanings.Character n, rest) (meanings.Bad, ps)) ps
    by_character true is = (form, e, inl (h, is))
    by_character false is = (refl, (form, rest, e, (n, h, is)))

name_meant : (name : List ℕ) (ps form rest : List Place) → ps ≡ form ++ rest → IsNameReference name form
    → MeantAs (found_or_unknown (named_character name) ps rest) ps
name_meant name ps form rest e h = by_name (named_character name) refl
  where
    by_name : (x : Option ℕ) → named_character name ≡ x → MeantAs (found_or_unknown x ps rest) ps
    by_name None is = (refl, (form, rest, e, (name, h, is)))
    by_name (Some c) is = (form, e, inr (name, h, is))

-- digits after something that ends in them
digits_meant : (radix : ℕ) (ps digits : List Place)
    → ((n : ℕ) (form rest : List Place) → digits ≡ form ++ rest → IsNumeral radix n form → MeantAs (numbered n ps rest) ps)
    → MeantAs (number_at radix ps digits) ps
unfolding number_at
digits_meant radix ps digits make =
    by_test (begins_with (is_radix_digit radix) digits) (begins 59 (behind_while (is_radix_digit radix) digits)) refl refl
  where
    by_test : (a b : Bool) → begins_with (is_radix_digit radix) digits ≡ a
        → begins 59 (behind_while (is_radix_digit radix) digits) ≡ b
        → MeantAs
        (cond (a && b) (numbered (number_from radix 0 (codes_while (is_radix_digit radix) digits)) ps
        (behind_first (behind_while (is_radix_digit radix) digits))) (meanings.Plain, ps)) ps
    by_test true true h g =
        let r = run_found (is_radix_digit radix) digits h g in
        let n = number_from radix 0 (codes_while (is_radix_digit radix) digits) in
        subst (λ (x : List Place). MeantAs (numbered n ps x) ps) (sym r.behind) (make n (r.letters ++ r.last ∷ []) r.rest r.whole
        (record {
          digits = r.letters;
          last = r.last;
          whole = refl;
          some = r.some;
          ends = r.ends;
          value = ap (number_from radix 0) r.codes_are;
        }))
    by_test true false h g = refl
    by_test false b h g = refl

names_meant : (ps : List Place) → MeantAs (name_at ps) ps
unfolding name_at
names_meant ps = by_test (begins_with is_ascii_alphanumeric ps) (begins 59 (behind_while is_ascii_alphanumeric ps)) refl refl
  where
    by_test : (a b : Bool) → begins_with is_ascii_alphanumeric ps ≡ a → begins 59 (behind_while is_ascii_alphanumeric ps) ≡ b
        → MeantAs
        (cond (a && b) (found_or_unknown (named_character (codes_while is_ascii_alphanumeric ps)) ps
        (behind_first (behind_while is_ascii_alphanumeric ps))) (meanings.Plain, ps)) ps
    by_test true true h g =
        let r = run_found is_ascii_alphanumeric ps h g in
        subst (λ (x : List Place). MeantAs (found_or_unknown (named_character (codes_while is_ascii_alphanumeric ps)) ps x) ps)
        (sym r.behind)
        (name_meant (codes_while is_ascii_alphanumeric ps) ps (r.letters ++ r.last ∷ []) r.rest r.whole
        (record { letters = r.letters; last = r.last; whole = refl; some = r.some; ends = r.ends; named = r.codes_are }))
    by_test true false h g = refl
    by_test false b h g = refl

pub meant : (ps : List Place) → MeantAs (meaning_at ps) ps
unfolding meaning_at
meant ps = by_hash (begins 35 ps) refl
  where
    by_ex : (hash : Place) (more : List Place) → ps ≡ hash ∷ more → hash.character ≡ 35 → (b : Bool)
        → begins 120 (behind_first ps) ≡ b
        → MeantAs (cond b (number_at 16 ps (behind_first (behind_first ps))) (number_at 10 ps (behind_first ps))) ps
    by_ex hash more e is true g =
        let f = begins_first 120 (behind_first ps) g in
        let m : more ≡ f.place ∷ f.more = sym (ap behind_first e) ∙ f.whole in
        digits_meant 16 ps (behind_first (behind_first ps)) (λ n form rest d numeral.
        number_meant n ps (hash ∷ (f.place ∷ form)) rest
        (e ∙ ap (λ (x : List Place). hash ∷ x) m
        ∙ ap (λ (x : List Place). hash ∷ (f.place ∷ x)) (sym (ap behind_first f.whole) ∙ d))
        (hash, form, is, inr (f.place, refl, f.is, numeral)))
    by_ex hash more e is false g =
        digits_meant 10 ps (behind_first ps) (λ n form rest d numeral.
        number_meant n ps (hash ∷ form) rest (e ∙ ap (λ (x : List Place). hash ∷ x) (sym (ap behind_first e) ∙ d))
        (hash, form, is, inl (refl, numeral)))

    by_hash : (b : Bool) → begins 35 ps ≡ b
        → MeantAs
        (cond b (cond (begins 120 (behind_first ps)) (number_at 16 ps (behind_first (behind_first ps)))
        (number_at 10 ps (behind_first ps))) (name_at ps)) ps
    by_hash true h = let f = begins_first 35 ps h in by_ex f.place f.more f.whole f.is (begins 120 (behind_first ps)) refl
    by_hash false h = names_meant ps
