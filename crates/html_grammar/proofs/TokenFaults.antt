-- Where no token is read, and what a tag has after its own place.
use Rattle.std.proofs.Common.{◌≡◌, ℕ, zero, suc, ◌+◌, ◌≤◌, List, [], ◌∷◌, ◌++◌, drop, length, Option, Some, None, Result, Ok, Err}
use Rattle.std.proofs.Common.{Bool, true, false, cond, ◌&&◌, refl, sym, ap, subst, ◌∙◌, arith, length-append, inl, inr}
use Rattle.std.specs.Prelude.{◌⊎◌, codes, ◌==◌}
use Rattle.std.specs.Char.{is_ascii_alphabetic}
use Rattle.std.proofs.lemmas.List.{append-nil}
use Rattle.std.proofs.lemmas.Bool.{true≢false, eqb-true, and_parts}
use Rattle.mc_base.specs.Reading.{◌>>=◌, fault}
use Rattle.html_grammar.specs.declared.place.Place.{Place}
use Rattle.mc_base.specs.declared.read_error.Fault.{Fault}
use Rattle.html_grammar.specs.declared.token.Meaning.{Meaning}
use Rattle.html_grammar.specs.declared.token.Meaning.TheVariants as meanings
use Rattle.html_grammar.specs.declared.token.Piece.{Piece}
use Rattle.html_grammar.specs.declared.token.ReadAttribute.{ReadAttribute}
use Rattle.html_grammar.specs.declared.token.ReadAttributes.{ReadAttributes}
use Rattle.html_grammar.specs.declared.token.Spelled.TheVariants.{Plain}
use Rattle.html_grammar.specs.declared.token.Tag.{Tag}
use Rattle.html_grammar.specs.declared.token.Token.{Token}
use Rattle.html_grammar.specs.declared.token.Token.TheVariants.{Start, Raw, End, Comment, Doctype, Char}
use Rattle.html_grammar.specs.Names.{is_raw}
use Rattle.html_grammar.specs.Places.{behind_first, place_or, behind_while, begins_with, begins}
use Rattle.html_grammar.specs.Tokens.{is_space}
use Rattle.html_grammar.specs.Lexing.{is_name_char, is_key_char, is_bare_char, is_other, begins_text, begins_folded, meaning_at}
use Rattle.html_grammar.specs.Lexing.{empty_value, value_from, read_as, quoted_at, bare_at, value_at, assigned_at, key}
use Rattle.html_grammar.specs.Lexing.{attribute_at, some_attribute, piece_at, no_attributes, with_attribute, continued}
use Rattle.html_grammar.specs.Lexing.{attributes_from, is_doubled, tag_name, end_at, raw_codes, behind_raw, raw_piece, with_late}
use Rattle.html_grammar.specs.Lexing.{raw_ended, raw_at, tag_of, behind_tag, or_doubled, start_at, from_text, comment_at}
use Rattle.html_grammar.specs.Lexing.{doctype_at, mark_at, char_by_meaning, token_at}
use Rattle.html_grammar.specs.Spelling.{NoneBegins, takes_line_feed, IsToken}
use Rattle.html_grammar.specs.FirstFaults.{fault_as, HasTag, IsOpenComment, IsOffForm, IsTwice, IsBadHere}
use Rattle.html_grammar.proofs.ReferenceForms.{Meant, meant}
use Rattle.html_grammar.proofs.AttributeForms.{Gives}
use Rattle.html_grammar.proofs.AttributeRead.{Listed, attributes_give}
use Rattle.html_grammar.proofs.TokenBack.{front_token, token_answer, token_back, started_back, doubled_back}
use Rattle.html_grammar.proofs.TokenRead.{text_span, tag_form, name_shorter}

-- what holds of a fault, if there is one
abbrev pub Fails : {A : Type 0} → (Fault → Type 0) → Result A Fault → Type 0
Fails Q (Ok x) = Unit {0}
Fails Q (Err e) = Q e

fails_bind : {A B : Type 0} (Q : Fault → Type 0) (r : Result A Fault) (f : A → Result B Fault) → Fails Q r
    → ((x : A) → Fails Q (f x)) → Fails Q (r >>= f)
fails_bind Q (Ok x) f h g = g x
fails_bind Q (Err e) f h g = h

fails_if : {A : Type 0} (Q : Fault → Type 0) (b : Bool) (x y : Result A Fault) → Fails Q x → Fails Q y → Fails Q (cond b x y)
fails_if Q true x y h g = h
fails_if Q false x y h g = g

-- the attributes of a tag fail by its form
abbrev Off : ℕ → Fault → Type 0
Off tag f = f ≡ fault_as tag 3

quoted_fails : (n tag : ℕ) (name : List ℕ) (q : ℕ) (ps : List Place) → Fails (Off tag) (quoted_at n tag name q ps)
unfolding quoted_at
quoted_fails n tag name q ps = fails_if (Off tag) (begins q (value_from n (is_other q) empty_value ps).1) _ (fault tag 3) tt refl

bare_fails : (n tag : ℕ) (name : List ℕ) (ps : List Place) → Fails (Off tag) (bare_at n tag name ps)
unfolding bare_at
bare_fails n tag name ps = fails_if (Off tag) (begins_with is_bare_char ps) _ (fault tag 3) tt refl

value_fails : (n tag : ℕ) (name : List ℕ) (ps : List Place) → Fails (Off tag) (value_at n tag name ps)
unfolding value_at
value_fails n tag name ps = fails_if (Off tag) (begins 34 ps) _ _ (quoted_fails n tag name 34 (behind_first ps))
    (fails_if (Off tag) (begins 39 ps) _ _ (quoted_fails n tag name 39 (behind_first ps)) (bare_fails n tag name ps))

assigned_fails : (n tag at : ℕ) (name : List ℕ) (ps : List Place) → Fails (Off tag) (assigned_at n tag at name ps)
unfolding assigned_at
assigned_fails n tag at name ps =
    fails_if (Off tag) (begins 61 ps) _ (read_as name at (empty_value, ps) ps) (value_fails n tag name (behind_first ps)) tt

attribute_fails : (n tag : ℕ) (ps : List Place) → Fails (Off tag) (attribute_at n tag ps)
unfolding attribute_at
attribute_fails n tag ps = fails_if (Off tag) (begins_with is_key_char ps) _ (fault tag 3)
    (assigned_fails n tag (place_or 0 ps) (key ps) (behind_while is_key_char ps)) refl

piece_fails : (n tag : ℕ) (ps : List Place) → Fails (Off tag) (piece_at n tag ps)
unfolding piece_at
piece_fails n tag ps =
    fails_if (Off tag) (begins 62 (behind_while is_space ps)) (Ok (None, behind_first (behind_while is_space ps))) _ tt
    (fails_if (Off tag) (begins 47 (behind_while is_space ps)) _ _
    (fails_if (Off tag) (begins 62 (behind_first (behind_while is_space ps)))
    (Ok (None, behind_first (behind_first (behind_while is_space ps)))) (fault tag 3) tt refl)
    (fails_if (Off tag) (begins_with is_space ps) _ (fault tag 3)
    (fails_bind (Off tag) (attribute_at n tag (behind_while is_space ps)) some_attribute
    (attribute_fails n tag (behind_while is_space ps)) (λ x. tt)) refl))

attributes_fail : (k n tag : ℕ) (x : ReadAttributes) (ps : List Place) → Fails (Off tag) (attributes_from k n tag x ps)
unfolding attributes_from
attributes_fail zero n tag x ps = refl
attributes_fail (suc k) n tag x ps = fails_bind (Off tag) (piece_at n tag ps) _ (piece_fails n tag ps)
    (λ r. by_piece r.1 (λ y. attributes_fail k n tag y r.1) r.0 r.1)
  where
    by_piece : (rest' : List Place) → ((y : ReadAttributes) → Fails (Off tag) (attributes_from k n tag y rest'))
        → (a : Option ReadAttribute) (rest : List Place)
        → Fails (Off tag) (continued x a rest (λ y. attributes_from k n tag y rest'))
    by_piece rest' below None rest = tt
    by_piece rest' below (Some a) rest = below (with_attribute x a)

-- a fault that a tag has with its attributes read is that of a name that stands twice
raw_reads : (tag : Tag) (text : Option Piece) (r : Result (Token × List Place) Fault) → Fails (λ f. ⊥) (raw_ended tag text r)
raw_reads tag text (Ok x) = tt
raw_reads tag text (Err e) = tt

behind_reads : (tag : Tag) (ps : List Place) → Fails (λ f. ⊥) (behind_tag tag ps)
unfolding behind_tag raw_at
behind_reads tag ps =
    fails_if (λ f. ⊥) (is_raw tag.name) _ _
    (fails_if (λ f. ⊥) (begins 60 (behind_raw tag.name ps)) _
    (Ok (Raw (with_late tag (record { at = tag.at; rule = 9 })) None, []))
    (raw_reads tag (raw_piece (place_or 0 ps) (raw_codes tag.name ps))
    (end_at (place_or 0 (behind_raw tag.name ps)) (drop 2 (behind_raw tag.name ps)))) tt)
    (fails_if (λ f. ⊥) (takes_line_feed tag ps) (Ok (Start tag, behind_first ps)) (Ok (Start tag, ps)) tt tt)

-- where a tag stands, it isn't off its form
abbrev pub failed : Fault → Result (Token × List Place) Fault
failed f = Err f

not_three : (at at' : ℕ) → fault_as at 4 ≡ fault_as at' 3 → ⊥
not_three at at' e = let h : 4 ≡ 3 = ap (λ (x : Fault). x.rule) e in omega (arith, h)

same_failed : (f g : Fault) → failed f ≡ failed g → f ≡ g
same_failed f g e = cc

fails_not : (r : Result (Token × List Place) Fault) (f : Fault) → r ≡ failed f → Fails (λ f. ⊥) r → ⊥
fails_not (Ok x) f e h = absurd cc
fails_not (Err g) f e h = h

one_le : (p : Place) (ps one rest : List Place) (n : ℕ) → p ∷ ps ≡ one ++ rest → length ps ≤ n → length one ≤ suc n
one_le p ps one rest n e le = let l : suc (length ps) ≡ length one + length rest = ap length e ∙ length-append one rest
    in omega (arith, l, le)

no_tag : (n : ℕ) (p : Place) (ps : List Place) → length ps ≤ n → token_at n p ps ≡ failed (fault_as p.at 3) → (tag : Tag)
    → HasTag tag (p ∷ ps) → ⊥
no_tag n p ps le e tag h = by_doubled (is_doubled tag.attributes) refl
  where
    by_doubled : (b : Bool) → is_doubled tag.attributes ≡ b → ⊥
    by_doubled true twice = not_three tag.at p.at
        (same_failed (fault_as tag.at 4) (fault_as p.at 3)
        (sym (doubled_back n tag h.one h.rest h.is twice (one_le p ps h.one h.rest n h.whole le))
        ∙ ap (front_token n) (sym h.whole) ∙ e))
    by_doubled false once = fails_not (behind_tag tag h.rest) (fault_as p.at 3)
        (sym (started_back n tag h.one h.rest h.is once (one_le p ps h.one h.rest n h.whole le))
        ∙ ap (front_token n) (sym h.whole) ∙ e) (behind_reads tag h.rest)

pub no_token : (n : ℕ) (p : Place) (ps : List Place) (f : Fault) → length ps ≤ n → token_at n p ps ≡ failed f
    → (t : Token) (one rest : List Place) → p ∷ ps ≡ one ++ rest → IsToken t one rest → ⊥
no_token n p ps f le e t one rest w h =
    let g : token_answer t rest ≡ failed f = sym (token_back n t one rest h (one_le p ps one rest n w le))
    ∙ ap (front_token n) (sym w) ∙ e in absurd cc

-- which fault stands at a place where no token is read
abbrev pub Here : Place → List Place → Fault → Type 0
Here p ps f = IsOpenComment p ps f ⊎ (IsOffForm p ps f ⊎ (IsTwice p ps f ⊎ IsBadHere p ps f))

abbrev Unread : Place → List Place → Result (Token × List Place) Fault → Type 0
Unread p ps r = Fails (Here p ps) r

-- what can be said of a failing part, where the whole fails with it
abbrev Failing : ℕ → Place → List Place → Result (Token × List Place) Fault → Type 0
Failing n p ps r = token_at n p ps ≡ r → Fails (Here p ps) r

start_failing : (n : ℕ) (p : Place) (ps : List Place) → length ps ≤ n → p.character ≡ 60
    → begins_with is_ascii_alphabetic ps ≡ true → Failing n p ps (start_at n p.at ps)
unfolding start_at
start_failing n p ps le opens letter = by_attributes (attributes_from n n p.at no_attributes (behind_while is_name_char ps))
    (attributes_fail n n p.at no_attributes (behind_while is_name_char ps))
    (attributes_give n n p.at no_attributes (behind_while is_name_char ps) (name_shorter n ps le))
  where
    twice : (y : ReadAttributes × List Place) → Listed no_attributes (behind_while is_name_char ps) y → is_doubled y.0.all ≡ true
        → Here p ps (fault_as p.at 4)
    twice y l e =
        let t = tag_form p ps y opens letter l in
        inr (inr
        (inl (
          tag_of p.at (tag_name ps) y.0,
          record { one = p ∷ t.front; rest = y.1; whole = ap (λ (u : List Place). p ∷ u) t.whole; is = t.is },
          e,
          refl,
        )))

    none : (r : Result (Token × List Place) Fault) → Fails (λ f. ⊥) r → Fails (Here p ps) r
    none (Ok x) h = tt
    none (Err f) h = absurd h

    by_doubled : (y : ReadAttributes × List Place) → Listed no_attributes (behind_while is_name_char ps) y → (b : Bool)
        → is_doubled y.0.all ≡ b → Unread p ps (cond b (fault p.at 4) (behind_tag (tag_of p.at (tag_name ps) y.0) y.1))
    by_doubled y l true e = twice y l e
    by_doubled y l false e = none (behind_tag (tag_of p.at (tag_name ps) y.0) y.1)
        (behind_reads (tag_of p.at (tag_name ps) y.0) y.1)

    off : (f : Fault) → f ≡ fault_as p.at 3 → token_at n p ps ≡ failed f → Here p ps f
    off f is e = inr (inl (opens, is, inl (letter, no_tag n p ps le (e ∙ ap failed is))))

    by_attributes : (r : Result (ReadAttributes × List Place) Fault) → Fails (Off p.at) r
        → Gives (Listed no_attributes (behind_while is_name_char ps)) r
        → token_at n p ps ≡ (r >>= or_doubled p.at (tag_name ps)) → Fails (Here p ps) (r >>= or_doubled p.at (tag_name ps))
    by_attributes (Ok y) h l e = by_doubled y l (is_doubled y.0.all) refl
    by_attributes (Err f) h l e = off f h e

-- an end tag, a comment or a doctype that isn't read
end_fails : (at : ℕ) (ps : List Place) → Fails (Off at) (end_at at ps)
unfolding end_at
end_fails at ps = fails_if (Off at)
    (begins_with is_ascii_alphabetic ps && begins 62 (behind_while is_space (behind_while is_name_char ps)))
    (Ok (End at (tag_name ps), behind_first (behind_while is_space (behind_while is_name_char ps)))) (fault at 3) tt refl

end_failing : (n : ℕ) (p : Place) (ps : List Place) → length ps ≤ n → p.character ≡ 60 → begins 47 ps ≡ true
    → Failing n p ps (end_at p.at (behind_first ps))
end_failing n p ps le opens slash = by_end (end_at p.at (behind_first ps)) (end_fails p.at (behind_first ps))
  where
    by_end : (r : Result (Token × List Place) Fault) → Fails (Off p.at) r → token_at n p ps ≡ r → Fails (Here p ps) r
    by_end (Ok x) h e = tt
    by_end (Err f) h e =
        inr (inl (opens, h, inr (inl (slash, λ at name one rest w t. no_token n p ps f le e (End at name) one rest w t))))

-- where nothing is found the search ends with the text
nothing_found : (ps : List Place) → begins 45 (from_text (codes "-->") ps) ≡ false → from_text (codes "-->") ps ≡ []
nothing_found [] h = refl
nothing_found (p ∷ ps) h = by_text (nothing_found ps) (begins_text (codes "-->") (p ∷ ps)) refl h
  where
    by_text : (begins 45 (from_text (codes "-->") ps) ≡ false → from_text (codes "-->") ps ≡ []) → (b : Bool)
        → begins_text (codes "-->") (p ∷ ps) ≡ b → begins 45 (cond b (p ∷ ps) (from_text (codes "-->") ps)) ≡ false
        → cond b (p ∷ ps) (from_text (codes "-->") ps) ≡ []
    by_text below true e h = let a = and_parts (p.character == 45) (begins_text (codes "->") ps) e
        in absurd (true≢false (sym a.0 ∙ h))
    by_text below false e h = below h

comment_failing : (n : ℕ) (p : Place) (ps : List Place) → p.character ≡ 60 → begins_text (codes "!--") ps ≡ true
    → Failing n p ps (comment_at p.at (drop 3 ps))
unfolding comment_at
comment_failing n p ps opens marks = by_end (begins 45 (from_text (codes "-->") (drop 3 ps))) refl
  where
    by_end : (b : Bool) → begins 45 (from_text (codes "-->") (drop 3 ps)) ≡ b
        → token_at n p ps ≡ cond b (Ok (Comment p.at, drop 3 (from_text (codes "-->") (drop 3 ps)))) (fault p.at 2)
        → Unread p ps (cond b (Ok (Comment p.at, drop 3 (from_text (codes "-->") (drop 3 ps)))) (fault p.at 2))
    by_end true h e = tt
    by_end false h e =
        let s = text_span (codes "-->") (drop 3 ps) in
        let none = nothing_found (drop 3 ps) h in
        let all : s.inner ≡ drop 3 ps = sym (append-nil s.inner) ∙ ap (λ (u : List Place). s.inner ++ u) (sym none)
        ∙ sym s.whole in
        inl (
          opens,
          marks,
          subst (λ (u : List Place). NoneBegins (begins_text (codes "-->")) u []) all
              (subst (NoneBegins (begins_text (codes "-->")) s.inner) none s.not_over),
          refl,
        )

mark_failing : (n : ℕ) (p : Place) (ps : List Place) → length ps ≤ n → p.character ≡ 60 → begins 33 ps ≡ true
    → Failing n p ps (mark_at p.at ps)
unfolding mark_at doctype_at
mark_failing n p ps le opens mark = by_comment (begins_text (codes "!--") ps) refl
  where
    off : (r : Result (Token × List Place) Fault) → Fails (Off p.at) r → begins_text (codes "!--") ps ≡ false
        → token_at n p ps ≡ r → Fails (Here p ps) r
    off (Ok x) h other e = tt
    off (Err f) h other e =
        inr (inl (opens, h, inr (inr (inl (mark, other, λ at one rest w t. no_token n p ps f le e (Doctype at) one rest w t)))))

    doctype : Result (Token × List Place) Fault
    doctype = cond (begins 62 (behind_while (is_other 62) (drop 8 ps)))
        (Ok (Doctype p.at, behind_first (behind_while (is_other 62) (drop 8 ps)))) (fault p.at 3)

    by_comment : (b : Bool) → begins_text (codes "!--") ps ≡ b
        → token_at n p ps ≡ cond b (comment_at p.at (drop 3 ps))
        (cond (begins_folded (codes "!doctype") ps) doctype (fault p.at 3))
        → Unread p ps (cond b (comment_at p.at (drop 3 ps)) (cond (begins_folded (codes "!doctype") ps) doctype (fault p.at 3)))
    by_comment true h e = comment_failing n p ps opens h e
    by_comment false h e = off (cond (begins_folded (codes "!doctype") ps) doctype (fault p.at 3))
        (fails_if (Off p.at) (begins_folded (codes "!doctype") ps) doctype (fault p.at 3)
        (fails_if (Off p.at) (begins 62 (behind_while (is_other 62) (drop 8 ps)))
        (Ok (Doctype p.at, behind_first (behind_while (is_other 62) (drop 8 ps)))) (fault p.at 3) tt refl) refl) h e

char_failing : (p : Place) (ps : List Place) → p.character ≡ 38 → Fails (Here p ps) (char_by_meaning p.at (meaning_at ps))
char_failing p ps amp = by_meaning' (meaning_at ps).0 (meaning_at ps).1 (meant ps)
  where
    by_meaning' : (m : Meaning) (rest : List Place) → Meant m rest ps → Fails (Here p ps) (char_by_meaning p.at (m, rest))
    by_meaning' meanings.Plain rest h = tt
    by_meaning' meanings.Unknown rest h = tt
    by_meaning' meanings.Bad rest h = inr (inr (inr (amp, h.1, refl)))
    by_meaning' (meanings.Character c) rest h = tt

abbrev pub marked : ℕ → Place → List Place → Result (Token × List Place) Fault
marked n p ps =
    cond (begins_with is_ascii_alphabetic ps) (start_at n p.at ps)
    (cond (begins 47 ps) (end_at p.at (behind_first ps))
    (cond (begins 33 ps) (mark_at p.at ps)
    (cond (begins 63 ps) (fault p.at 3) (Ok (Char p.at p.character Plain, ps)))))

angle_failing : (n : ℕ) (p : Place) (ps : List Place) → length ps ≤ n → p.character ≡ 60 → Failing n p ps (marked n p ps)
angle_failing n p ps le opens = by_letter (begins_with is_ascii_alphabetic ps) refl
  where
    by_question : (b : Bool) → begins 63 ps ≡ b → Unread p ps (cond b (fault p.at 3) (Ok (Char p.at p.character Plain, ps)))
    by_question true h = inr (inl (opens, refl, inr (inr (inr h))))
    by_question false h = tt

    by_mark : (b : Bool) → begins 33 ps ≡ b
        → Failing n p ps (cond b (mark_at p.at ps) (cond (begins 63 ps) (fault p.at 3) (Ok (Char p.at p.character Plain, ps))))
    by_mark true h = mark_failing n p ps le opens h
    by_mark false h = λ e. by_question (begins 63 ps) refl

    by_slash : (b : Bool) → begins 47 ps ≡ b
        → Failing n p ps (cond b (end_at p.at (behind_first ps))
        (cond (begins 33 ps) (mark_at p.at ps) (cond (begins 63 ps) (fault p.at 3) (Ok (Char p.at p.character Plain, ps)))))
    by_slash true h = end_failing n p ps le opens h
    by_slash false h = by_mark (begins 33 ps) refl

    by_letter : (b : Bool) → begins_with is_ascii_alphabetic ps ≡ b
        → Failing n p ps (cond b (start_at n p.at ps)
        (cond (begins 47 ps) (end_at p.at (behind_first ps))
        (cond (begins 33 ps) (mark_at p.at ps)
        (cond (begins 63 ps) (fault p.at 3) (Ok (Char p.at p.character Plain, ps))))))
    by_letter true h = start_failing n p ps le opens h
    by_letter false h = by_slash (begins 47 ps) refl

token_is : (n : ℕ) (p : Place) (ps : List Place)
    → token_at n p ps ≡ cond (p.character == 60) (marked n p ps)
    (cond (p.character == 38) (char_by_meaning p.at (meaning_at ps)) (Ok (Char p.at p.character Plain, ps)))
unfolding token_at
token_is n p ps = refl

pub token_failing : (n : ℕ) (p : Place) (ps : List Place) → length ps ≤ n → Fails (Here p ps) (token_at n p ps)
token_failing n p ps le = subst (Fails (Here p ps)) (sym (token_is n p ps)) (by_angle (p.character == 60) refl (token_is n p ps))
  where
    by_amp : (b : Bool) → (p.character == 38) ≡ b
        → Unread p ps (cond b (char_by_meaning p.at (meaning_at ps)) (Ok (Char p.at p.character Plain, ps)))
    by_amp true h = char_failing p ps (eqb-true p.character 38 h)
    by_amp false h = tt

    by_angle : (b : Bool) → (p.character == 60) ≡ b
        → Failing n p ps (cond b (marked n p ps)
        (cond (p.character == 38) (char_by_meaning p.at (meaning_at ps)) (Ok (Char p.at p.character Plain, ps))))
    by_angle true h = angle_failing n p ps le (eqb-true p.character 60 h)
    by_angle false h = λ e. by_amp (p.character == 38) refl
