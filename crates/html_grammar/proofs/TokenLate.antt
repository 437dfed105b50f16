-- What a tag has after its own place.
use Rattle.std.proofs.Common.{◌≡◌, ℕ, ◌≤◌, List, [], ◌∷◌, ◌++◌, drop, length, Option, Some, None, Result, Ok, Err, Bool, true}
use Rattle.std.proofs.Common.{false, cond, ◌&&◌, refl, sym, ap, subst, ◌∙◌, inl, inr}
use Rattle.std.specs.Prelude.{codes, ◌==◌, unwrap_or}
use Rattle.std.specs.Char.{is_ascii_alphabetic}
use Rattle.std.proofs.lemmas.List.{append-nil}
use Rattle.std.proofs.lemmas.Bool.{true≢false, eqb-true, and_parts}
use Rattle.mc_base.specs.Reading.{fault}
use Rattle.html_grammar.specs.declared.place.Place.{Place}
use Rattle.mc_base.specs.declared.read_error.Fault.{Fault}
use Rattle.html_grammar.specs.declared.token.Meaning.{Meaning}
use Rattle.html_grammar.specs.declared.token.Meaning.TheVariants as meanings
use Rattle.html_grammar.specs.declared.token.Piece.{Piece}
use Rattle.html_grammar.specs.declared.token.ReadAttributes.{ReadAttributes}
use Rattle.html_grammar.specs.declared.token.Spelled.TheVariants.{Plain}
use Rattle.html_grammar.specs.declared.token.Tag.{Tag}
use Rattle.html_grammar.specs.declared.token.Token.{Token}
use Rattle.html_grammar.specs.declared.token.Token.TheVariants.{Start, Raw, End, Comment, Doctype, Char}
use Rattle.html_grammar.specs.Names.{is_raw}
use Rattle.html_grammar.specs.Places.{behind_first, place_or, behind_while, begins_with, begins}
use Rattle.html_grammar.specs.Tokens.{is_space, place_of, late_of}
use Rattle.html_grammar.specs.Lexing.{is_name_char, is_other, begins_text, begins_folded, meaning_at, no_attributes}
use Rattle.html_grammar.specs.Lexing.{attributes_from, is_doubled, tag_name, end_at, ends_raw, is_past_name, raw_codes}
use Rattle.html_grammar.specs.Lexing.{behind_raw, raw_piece, or_late, with_late, raw_ended, raw_at, tag_of, behind_tag}
use Rattle.html_grammar.specs.Lexing.{or_doubled, start_at, from_text, comment_at, doctype_at, mark_at, char_by_meaning, token_at}
use Rattle.html_grammar.specs.Faults.{rule_of}
use Rattle.html_grammar.specs.Spelling.{NoneBegins, IsOnce, IsEndTag, takes_line_feed}
use Rattle.html_grammar.specs.FirstFaults.{fault_as, HasTag, IsStartOf, RawEnds, NeverEnds, IsLate}
use Rattle.html_grammar.proofs.AttributeForms.{Gives, gives_bind}
use Rattle.html_grammar.proofs.AttributeRead.{Listed, attributes_give}
use Rattle.html_grammar.proofs.TokenBack.{token_answer, end_back, end_whole}
use Rattle.html_grammar.proofs.TokenRead.{raw_span, Tagged, tag_form, name_shorter}
use Rattle.html_grammar.proofs.TokenFaults.{Fails, marked}

-- a token with a late fault begins with a tag
pub record Lately (p : Place) (ps : List Place) (t : Token) (f : Fault) : Type 0 where
  pub tag : Tag
  pub has : HasTag tag (p ∷ ps)
  pub once : IsOnce tag
  pub start : IsStartOf tag.name t
  pub late : IsLate p tag has.rest f
  pub rule : rule_of t ≡ 8
  pub stands : place_of t ≡ p.at

abbrev pub LateOf : Place → List Place → Token × List Place → Type 0
LateOf p ps x = (f : Fault) → late_of x.0 ≡ Some f → Lately p ps x.0 f

never : {P : Type 0} (f : Fault) → None ≡ Some f → P
never f e = absurd cc

some_is : (f g : Fault) → Some f ≡ Some g → f ≡ g
some_is f g e = cc

-- where no end of raw text is found the search ends with the text
raw_nothing : (name : List ℕ) (ps : List Place) → begins 60 (behind_raw name ps) ≡ false → behind_raw name ps ≡ []
raw_nothing name [] h = refl
raw_nothing name (p ∷ ps) h = by_end (raw_nothing name ps) (ends_raw name (p ∷ ps)) refl h
  where
    by_end : (begins 60 (behind_raw name ps) ≡ false → behind_raw name ps ≡ []) → (b : Bool) → ends_raw name (p ∷ ps) ≡ b
        → begins 60 (cond b (p ∷ ps) (behind_raw name ps)) ≡ false → cond b (p ∷ ps) (behind_raw name ps) ≡ []
    by_end below true e h =
        let a = and_parts (p.character == 60)
        (begins 47 ps && (begins_folded name (drop 1 ps) && begins_with is_past_name (drop (length name) (drop 1 ps)))) e
        in absurd (true≢false (sym a.0 ∙ h))
    by_end below false e h = below h

end_off : (at : ℕ) (ps : List Place) → Fails (λ f. f ≡ fault_as at 3) (end_at at ps)
unfolding end_at
end_off at ps = by_test (begins_with is_ascii_alphabetic ps && begins 62 (behind_while is_space (behind_while is_name_char ps)))
  where
    by_test : (b : Bool) → Fails {A = Token × List Place} (λ f. f ≡ fault_as at 3)
        (cond b (Ok (End at (tag_name ps), behind_first (behind_while is_space (behind_while is_name_char ps)))) (fault at 3))
    by_test true = tt
    by_test false = refl

abbrev failed : Fault → Result (Token × List Place) Fault
failed f = Err f

no_end : (behind : List Place) (f : Fault) → end_at (place_or 0 behind) (drop 2 behind) ≡ failed f
    → (at : ℕ) (name : List ℕ) (one more : List Place) → behind ≡ one ++ more → IsEndTag at name one more → ⊥
no_end behind f e at name one more w t =
    let whole = w ∙ end_whole at name one more t in
    let place : place_or 0 behind ≡ at = ap (place_or 0) whole ∙ t.stands in
    let g : token_answer (End at name) more ≡ failed f =
    sym (end_back at name one more t) ∙ ap (λ (u : List Place). end_at at (drop 2 u)) (sym whole)
    ∙ ap (λ (u : ℕ). end_at u (drop 2 behind)) (sym place) ∙ e in
    absurd cc

behind_late : (p : Place) (tag : Tag) (all ps : List Place) → Tagged p tag all ps → IsOnce tag → tag.at ≡ p.at
    → Gives (LateOf p all) (behind_tag tag ps)
unfolding behind_tag raw_at
behind_late p tag all ps t once at = by_raw (is_raw tag.name) refl
  where
    has : HasTag tag (p ∷ all)
    has = record { one = p ∷ t.front; rest = ps; whole = ap (λ (u : List Place). p ∷ u) t.whole; is = t.is }

    ends : begins 60 (behind_raw tag.name ps) ≡ true → RawEnds tag.name ps
    ends h = let s = raw_span tag.name ps
        in record { inner = s.inner; behind = behind_raw tag.name ps; whole = s.whole; not_over = s.not_over; over = s.over h }

    made : (x : Token) → IsStartOf tag.name x → rule_of x ≡ 8 → place_of x ≡ p.at → (f : Fault) → IsLate p tag ps f
        → Lately p all x f
    made x start rule stands f late =
        record { tag = tag; has = has; once = once; start = start; late = late; rule = rule; stands = stands }

    never_ends : begins 60 (behind_raw tag.name ps) ≡ false → NeverEnds tag.name ps
    never_ends h =
        let s = raw_span tag.name ps in
        let none = raw_nothing tag.name ps h in
        let all_in : s.inner ≡ ps = sym (append-nil s.inner) ∙ ap (λ (u : List Place). s.inner ++ u) (sym none) ∙ sym s.whole in
        subst (λ (u : List Place). NoneBegins (ends_raw tag.name) u []) all_in
        (subst (NoneBegins (ends_raw tag.name) s.inner) none s.not_over)

    ended_badly : (raw : is_raw tag.name ≡ true) (h : begins 60 (behind_raw tag.name ps) ≡ true) (g : Fault)
        → g ≡ fault_as (place_or 0 (behind_raw tag.name ps)) 3
        → end_at (place_or 0 (behind_raw tag.name ps)) (drop 2 (behind_raw tag.name ps)) ≡ failed g → (late : Option Fault)
        → tag.late ≡ late → (f : Fault) → unwrap_or late g ≡ f → IsLate p tag ps f
    ended_badly raw h g is e (Some l) known f u = inr (inl (λ _. ends h, known ∙ ap (λ (x : Fault). Some x) u))
    ended_badly raw h g is e None known f u = inr (inr (raw, known, ends h, no_end (behind_raw tag.name ps) g e, sym u ∙ is))

    by_ended : (raw : is_raw tag.name ≡ true) (h : begins 60 (behind_raw tag.name ps) ≡ true) (text : Option Piece)
        (r : Result (Token × List Place) Fault)
        → Fails (λ f. f ≡ fault_as (place_or 0 (behind_raw tag.name ps)) 3) r
        → end_at (place_or 0 (behind_raw tag.name ps)) (drop 2 (behind_raw tag.name ps)) ≡ r
        → Gives (LateOf p all) (raw_ended tag text r)
    by_ended raw h text (Ok x) off e = λ f l. made (Raw tag text) (refl, raw) refl at f (inr (inl (λ _. ends h, l)))
    by_ended raw h text (Err g) off e = λ f l. made (Raw (or_late tag g) text) (refl, raw) refl at f
        (ended_badly raw h g off e tag.late refl f (some_is (unwrap_or tag.late g) f l))

    by_end : (raw : is_raw tag.name ≡ true) (b : Bool) → begins 60 (behind_raw tag.name ps) ≡ b
        → Gives (LateOf p all) (cond b
        (raw_ended tag (raw_piece (place_or 0 ps) (raw_codes tag.name ps))
        (end_at (place_or 0 (behind_raw tag.name ps)) (drop 2 (behind_raw tag.name ps))))
        (Ok (Raw (with_late tag (record { at = tag.at; rule = 9 })) None, [])))
    by_end raw true h = by_ended raw h (raw_piece (place_or 0 ps) (raw_codes tag.name ps))
        (end_at (place_or 0 (behind_raw tag.name ps)) (drop 2 (behind_raw tag.name ps)))
        (end_off (place_or 0 (behind_raw tag.name ps)) (drop 2 (behind_raw tag.name ps))) refl
    by_end raw false h = λ f l. made (Raw (with_late tag (record { at = tag.at; rule = 9 })) None) (refl, raw) refl at f
        (inl (raw, never_ends h, sym (some_is (fault_as tag.at 9) f l) ∙ ap (λ (u : ℕ). fault_as u 9) at))

    by_feed : is_raw tag.name ≡ false → (b : Bool)
        → Gives (LateOf p all) (cond b (Ok (Start tag, behind_first ps)) (Ok (Start tag, ps)))
    by_feed raw true = λ f l. made (Start tag) (refl, raw) refl at f (inr (inl (λ r. absurd (true≢false (sym r ∙ raw)), l)))
    by_feed raw false = λ f l. made (Start tag) (refl, raw) refl at f (inr (inl (λ r. absurd (true≢false (sym r ∙ raw)), l)))

    by_raw : (b : Bool) → is_raw tag.name ≡ b
        → Gives (LateOf p all) (cond b
        (cond (begins 60 (behind_raw tag.name ps))
        (raw_ended tag (raw_piece (place_or 0 ps) (raw_codes tag.name ps))
        (end_at (place_or 0 (behind_raw tag.name ps)) (drop 2 (behind_raw tag.name ps))))
        (Ok (Raw (with_late tag (record { at = tag.at; rule = 9 })) None, [])))
        (cond (takes_line_feed tag ps) (Ok (Start tag, behind_first ps)) (Ok (Start tag, ps))))
    by_raw true h = by_end h (begins 60 (behind_raw tag.name ps)) refl
    by_raw false h = by_feed h (takes_line_feed tag ps)

start_late : (n : ℕ) (p : Place) (ps : List Place) → length ps ≤ n → p.character ≡ 60 → begins_with is_ascii_alphabetic ps ≡ true
    → Gives (LateOf p ps) (start_at n p.at ps)
unfolding start_at
start_late n p ps le opens letter =
    gives_bind (Listed no_attributes (behind_while is_name_char ps)) (LateOf p ps)
    (attributes_from n n p.at no_attributes (behind_while is_name_char ps)) (or_doubled p.at (tag_name ps))
    (attributes_give n n p.at no_attributes (behind_while is_name_char ps) (name_shorter n ps le))
    (λ y h. by_doubled y h (is_doubled y.0.all) refl)
  where
    by_doubled : (y : ReadAttributes × List Place) → Listed no_attributes (behind_while is_name_char ps) y → (b : Bool)
        → is_doubled y.0.all ≡ b
        → Gives (LateOf p ps) (cond b (fault p.at 4) (behind_tag (tag_of p.at (tag_name ps) y.0) y.1))
    by_doubled y h true e = tt
    by_doubled y h false e = behind_late p (tag_of p.at (tag_name ps) y.0) ps y.1 (tag_form p ps y opens letter h) e refl

-- a token that isn't a tag has no late fault
abbrev Punctual : Token × List Place → Type 0
Punctual x = late_of x.0 ≡ None

not_late_one : (p : Place) (ps : List Place) (r : Result (Token × List Place) Fault) → Gives Punctual r → Gives (LateOf p ps) r
not_late_one p ps (Ok x) h = λ f l. never f (sym h ∙ l)
not_late_one p ps (Err e) h = tt

gives_cond : {A : Type 0} (Q : A → Type 0) (b : Bool) (x y : Result A Fault) → Gives Q x → Gives Q y → Gives Q (cond b x y)
gives_cond Q true x y h g = h
gives_cond Q false x y h g = g

end_punctual : (at : ℕ) (ps : List Place) → Gives Punctual (end_at at ps)
unfolding end_at
end_punctual at ps = gives_cond Punctual
    (begins_with is_ascii_alphabetic ps && begins 62 (behind_while is_space (behind_while is_name_char ps)))
    (Ok (End at (tag_name ps), behind_first (behind_while is_space (behind_while is_name_char ps)))) (fault at 3) refl tt

mark_punctual : (at : ℕ) (ps : List Place) → Gives Punctual (mark_at at ps)
unfolding mark_at comment_at doctype_at
mark_punctual at ps =
    gives_cond Punctual (begins_text (codes "!--") ps) _ _
    (gives_cond Punctual (begins 45 (from_text (codes "-->") (drop 3 ps)))
    (Ok (Comment at, drop 3 (from_text (codes "-->") (drop 3 ps)))) (fault at 2) refl tt)
    (gives_cond Punctual (begins_folded (codes "!doctype") ps) _ (fault at 3)
    (gives_cond Punctual (begins 62 (behind_while (is_other 62) (drop 8 ps)))
    (Ok (Doctype at, behind_first (behind_while (is_other 62) (drop 8 ps)))) (fault at 3) refl tt) tt)

char_punctual : (at : ℕ) (m : Meaning) (rest : List Place) → Gives Punctual (char_by_meaning at (m, rest))
char_punctual at meanings.Plain rest = refl
char_punctual at meanings.Unknown rest = refl
char_punctual at meanings.Bad rest = tt
char_punctual at (meanings.Character c) rest = refl

pub token_late : (n : ℕ) (p : Place) (ps : List Place) → length ps ≤ n → Gives (LateOf p ps) (token_at n p ps)
unfolding token_at
token_late n p ps le = by_angle (p.character == 60) refl
  where
    by_letter : p.character ≡ 60 → (b : Bool) → begins_with is_ascii_alphabetic ps ≡ b
        → Gives (LateOf p ps) (cond b (start_at n p.at ps)
        (cond (begins 47 ps) (end_at p.at (behind_first ps))
        (cond (begins 33 ps) (mark_at p.at ps)
        (cond (begins 63 ps) (fault p.at 3) (Ok (Char p.at p.character Plain, ps))))))
    by_letter opens true h = start_late n p ps le opens h
    by_letter opens false h = not_late_one p ps
        (cond (begins 47 ps) (end_at p.at (behind_first ps))
        (cond (begins 33 ps) (mark_at p.at ps) (cond (begins 63 ps) (fault p.at 3) (Ok (Char p.at p.character Plain, ps)))))
        (gives_cond Punctual (begins 47 ps) _ _ (end_punctual p.at (behind_first ps))
        (gives_cond Punctual (begins 33 ps) _ _ (mark_punctual p.at ps)
        (gives_cond Punctual (begins 63 ps) (fault p.at 3) (Ok (Char p.at p.character Plain, ps)) tt refl)))

    by_angle : (b : Bool) → (p.character == 60) ≡ b
        → Gives (LateOf p ps) (cond b (marked n p ps)
        (cond (p.character == 38) (char_by_meaning p.at (meaning_at ps)) (Ok (Char p.at p.character Plain, ps))))
    by_angle true h = by_letter (eqb-true p.character 60 h) (begins_with is_ascii_alphabetic ps) refl
    by_angle false h = not_late_one p ps
        (cond (p.character == 38) (char_by_meaning p.at (meaning_at ps)) (Ok (Char p.at p.character Plain, ps)))
        (gives_cond Punctual (p.character == 38) _ (Ok (Char p.at p.character Plain, ps))
        (char_punctual p.at (meaning_at ps).0 (meaning_at ps).1) refl)
