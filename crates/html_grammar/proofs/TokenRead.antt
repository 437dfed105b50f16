-- Tokens that are read are spelled so.
use Rattle.std.proofs.Common.{◌≡◌, ℕ, ◌≤◌, List, [], ◌∷◌, ◌++◌, map, drop, length, Option, Some, None, Result, Ok, Err, Bool}
use Rattle.std.proofs.Common.{true, false, cond, ◌&&◌, ◌||◌, refl, sym, ap, subst, ◌∙◌, append_assoc, arith, inl, inr}
use Rattle.std.specs.Prelude.{codes, ◌==◌, option_map}
use Rattle.std.specs.Char.{to_ascii_lowercase, is_ascii_alphabetic}
use Rattle.std.proofs.lemmas.Bool.{true≢false, eq-eqb, eqb-true, and_parts}
use Rattle.mc_base.specs.Reading.{fault}
use lib.Dec.{eqb}
use Rattle.html_grammar.specs.declared.place.Place.{Place}
use Rattle.mc_base.specs.declared.read_error.Fault.{Fault}
use Rattle.html_grammar.specs.declared.token.Meaning.{Meaning}
use Rattle.html_grammar.specs.declared.token.Meaning.TheVariants as meanings
use Rattle.html_grammar.specs.declared.token.ReadAttributes.{ReadAttributes}
use Rattle.html_grammar.specs.declared.token.Spelled.TheVariants.{Plain}
use Rattle.html_grammar.specs.declared.token.Tag.{Tag}
use Rattle.html_grammar.specs.declared.token.Token.{Token}
use Rattle.html_grammar.specs.declared.token.Token.TheVariants.{Start, Raw, End, Char}
use Rattle.html_grammar.specs.Names.{same, is_raw}
use Rattle.html_grammar.specs.Places.{behind_first, place_or, codes_while, behind_while, begins_with, begins}
use Rattle.html_grammar.specs.Tokens.{is_space, late_of}
use Rattle.html_grammar.specs.declared.dom.Attribute.{Attribute}
use Rattle.html_grammar.specs.Lexing.{is_past_name, is_name_char, is_other, begins_text, begins_folded, meaning_at, no_attributes}
use Rattle.html_grammar.specs.Lexing.{attributes_from, is_doubled, tag_name, end_at, ends_raw, raw_codes, behind_raw, raw_piece}
use Rattle.html_grammar.specs.Lexing.{raw_ended, raw_at, bad_reference, tag_of, behind_tag, or_doubled, start_at, from_text}
use Rattle.html_grammar.specs.Lexing.{comment_at, doctype_at, mark_at, char_by_meaning, token_at, with_late}
use Rattle.html_grammar.specs.Spelling.{IsAttributes, BeginsUnknown, codes_of, Passes, NoneBegins, BeginsReference, IsTagName}
use Rattle.html_grammar.specs.Spelling.{IsTag, IsOnce, IsEndTag, takes_line_feed, begins_markup, IsToken}
use Rattle.html_grammar.proofs.Spans.{First, begins_first, span}
use Rattle.html_grammar.proofs.ReferenceForms.{Meant, meant, not_plain}
use Rattle.html_grammar.proofs.AttributeForms.{Gives, gives_bind, gives_if, same_length}
use Rattle.html_grammar.proofs.AttributeRead.{Listed, attributes_give}

-- a token that was read, after its first place
pub record Reads (p : Place) (ps : List Place) (x : Token × List Place) : Type 0 where
  pub front : List Place
  pub whole : ps ≡ front ++ x.1
  pub is : IsToken x.0 (p ∷ front) x.1

abbrev pub Sound : Place → List Place → Token × List Place → Type 0
Sound p ps x = late_of x.0 ≡ None → Reads p ps x

-- an end tag after its </
pub record EndForm (at : ℕ) (ps : List Place) (x : Token × List Place) : Type 0 where
  pub name : List ℕ
  pub form : List Place
  pub token : x.0 ≡ End at name
  pub whole : ps ≡ form ++ x.1
  pub is : (angle slash : Place) → angle.character ≡ 60 → angle.at ≡ at → slash.character ≡ 47
      → IsEndTag at name (angle ∷ (slash ∷ form)) x.1

tag_named : (front : List Place) (ps : List Place) (rest : List Place) → ps ≡ front ++ rest → Passes is_name_char front
    → codes_while is_name_char ps ≡ codes_of front → begins_with is_name_char rest ≡ false
    → begins_with is_ascii_alphabetic ps ≡ true → ((c : ℕ) → is_ascii_alphabetic c ≡ true → is_name_char c ≡ true)
    → IsTagName front (tag_name ps)
tag_named [] ps rest e passes codes_are stops letter letters = absurd (by_rest rest e stops)
  where
    by_rest : (rest : List Place) → ps ≡ rest → begins_with is_name_char rest ≡ false → ⊥
    by_rest [] e stops = let h : begins_with is_ascii_alphabetic ps ≡ false = ap (begins_with is_ascii_alphabetic) e
        in true≢false (sym letter ∙ h)
    by_rest (q ∷ rest) e stops = true≢false (sym (letters q.character (sym (ap (begins_with is_ascii_alphabetic) e) ∙ letter))
        ∙ stops)
tag_named (q ∷ front) ps rest e passes codes_are stops letter letters =
    (sym (ap (begins_with is_ascii_alphabetic) e) ∙ letter, passes, ap (map to_ascii_lowercase) codes_are)

pub letter_in_name : (c : ℕ) → is_ascii_alphabetic c ≡ true → is_name_char c ≡ true
letter_in_name c h = grind (arith, h)

pub end_gives : (at : ℕ) (ps : List Place) → Gives (EndForm at ps) (end_at at ps)
unfolding end_at
end_gives at ps = by_letter (begins_with is_ascii_alphabetic ps)
    (begins 62 (behind_while is_space (behind_while is_name_char ps))) refl refl
  where
    by_letter : (a b : Bool) → begins_with is_ascii_alphabetic ps ≡ a
        → begins 62 (behind_while is_space (behind_while is_name_char ps)) ≡ b
        → Gives (EndForm at ps) (cond (a && b)
        (Ok (End at (tag_name ps), behind_first (behind_while is_space (behind_while is_name_char ps)))) (fault at 3))
    by_letter true true letter ends =
        let s = span is_name_char ps in
        let w = span is_space (behind_while is_name_char ps) in
        let f = begins_first 62 (behind_while is_space (behind_while is_name_char ps)) ends in
        let rest = behind_first (behind_while is_space (behind_while is_name_char ps)) in
        let last : behind_while is_space (behind_while is_name_char ps) ≡ f.place ∷ rest = f.whole
        ∙ ap (λ (x : List Place). f.place ∷ x) (sym (ap behind_first f.whole)) in
        let spaced : behind_while is_name_char ps ≡ w.front ++ (f.place ∷ rest) = w.whole
        ∙ ap (λ (x : List Place). w.front ++ x) last in
        record {
          name = tag_name ps;
          form = s.front ++ (w.front ++ f.place ∷ []);
          token = refl;
          whole = s.whole ∙ ap (λ (x : List Place). s.front ++ x) (spaced ∙ sym (append_assoc w.front (f.place ∷ []) rest))
              ∙ sym (append_assoc s.front (w.front ++ f.place ∷ []) rest);
          is = λ angle slash opens stands slashed. record {
            angle = angle;
            slash = slash;
            named = s.front;
            white = w.front;
            last = f.place;
            whole = refl;
            opens = opens;
            stands = stands;
            slashed = slashed;
            name_is = tag_named s.front ps (behind_while is_name_char ps) s.whole s.passes s.codes_are s.stops letter
                letter_in_name;
            stops = ap (begins_with is_name_char) (sym spaced) ∙ s.stops;
            spaces = w.passes;
            ends = f.is;
          };
        }
    by_letter true false letter ends = tt
    by_letter false b letter ends = tt

-- raw text, up to its end or the end of the file
pub record RawSpan (name : List ℕ) (ps : List Place) : Type 0 where
  pub inner : List Place
  pub whole : ps ≡ inner ++ behind_raw name ps
  pub not_over : NoneBegins (ends_raw name) inner (behind_raw name ps)
  pub codes_are : raw_codes name ps ≡ codes_of inner
  pub over : begins 60 (behind_raw name ps) ≡ true → ends_raw name (behind_raw name ps) ≡ true

pub raw_span : (name : List ℕ) (ps : List Place) → RawSpan name ps
raw_span name [] = record { inner = []; whole = refl; not_over = tt; codes_are = refl; over = λ h. absurd cc }
raw_span name (p ∷ ps) = by_end (raw_span name ps) (ends_raw name (p ∷ ps)) refl
  where
    by_end : RawSpan name ps → (b : Bool) → ends_raw name (p ∷ ps) ≡ b → RawSpan name (p ∷ ps)
    by_end s true h =
        let e : behind_raw name (p ∷ ps) ≡ p ∷ ps = ap (λ (b : Bool). cond b (p ∷ ps) (behind_raw name ps)) h in
        record {
          inner = [];
          whole = sym e;
          not_over = tt;
          codes_are = ap (λ (b : Bool). cond b [] (p.character ∷ raw_codes name ps)) h;
          over = λ _. ap (ends_raw name) e ∙ h;
        }
    by_end s false h =
        let e : behind_raw name (p ∷ ps) ≡ behind_raw name ps = ap (λ (b : Bool). cond b (p ∷ ps) (behind_raw name ps)) h in
        record {
          inner = p ∷ s.inner;
          whole = ap (λ (x : List Place). p ∷ x) s.whole ∙ ap (λ (x : List Place). p ∷ (s.inner ++ x)) (sym e);
          not_over = subst (λ (x : List Place). (ends_raw name (p ∷ (s.inner ++ x)) ≡ false)
              × NoneBegins (ends_raw name) s.inner x) (sym e) (
                ap (λ (x : List Place). ends_raw name (p ∷ x)) (sym s.whole)
                    ∙ h,
                s.not_over,
              );
          codes_are = ap (λ (b : Bool). cond b [] (p.character ∷ raw_codes name ps)) h
              ∙ ap (λ (x : List ℕ). p.character ∷ x) s.codes_are;
          over = λ g. ap (ends_raw name) e ∙ s.over (ap (begins 60) (sym e) ∙ g);
        }

-- the same up to some characters
pub record TextSpan (t : List ℕ) (ps : List Place) : Type 0 where
  pub inner : List Place
  pub whole : ps ≡ inner ++ from_text t ps
  pub not_over : NoneBegins (begins_text t) inner (from_text t ps)
  pub over : begins 45 (from_text t ps) ≡ true → begins_text t (from_text t ps) ≡ true

pub text_span : (t : List ℕ) (ps : List Place) → TextSpan t ps
text_span t [] = record { inner = []; whole = refl; not_over = tt; over = λ h. absurd cc }
text_span t (p ∷ ps) = by_end (text_span t ps) (begins_text t (p ∷ ps)) refl
  where
    by_end : TextSpan t ps → (b : Bool) → begins_text t (p ∷ ps) ≡ b → TextSpan t (p ∷ ps)
    by_end s true h =
        let e : from_text t (p ∷ ps) ≡ p ∷ ps = ap (λ (b : Bool). cond b (p ∷ ps) (from_text t ps)) h in
        record { inner = []; whole = sym e; not_over = tt; over = λ _. ap (begins_text t) e ∙ h }
    by_end s false h =
        let e : from_text t (p ∷ ps) ≡ from_text t ps = ap (λ (b : Bool). cond b (p ∷ ps) (from_text t ps)) h in
        record {
          inner = p ∷ s.inner;
          whole = ap (λ (x : List Place). p ∷ x) s.whole ∙ ap (λ (x : List Place). p ∷ (s.inner ++ x)) (sym e);
          not_over = subst (λ (x : List Place). (begins_text t (p ∷ (s.inner ++ x)) ≡ false)
              × NoneBegins (begins_text t) s.inner x) (sym e) (
                ap (λ (x : List Place). begins_text t (p ∷ x)) (sym s.whole)
                    ∙ h,
                s.not_over,
              );
          over = λ g. ap (begins_text t) e ∙ s.over (ap (begins 45) (sym e) ∙ g);
        }

-- characters in front, one by one
pub record Front (t : List ℕ) (ps : List Place) : Type 0 where
  pub front : List Place
  pub codes_are : codes_of front ≡ t
  pub whole : ps ≡ front ++ drop (length t) ps

text_front : (t : List ℕ) (ps : List Place) → begins_text t ps ≡ true → Front t ps
text_front [] ps h = record { front = []; codes_are = refl; whole = refl }
text_front (c ∷ t) [] h = absurd cc
text_front (c ∷ t) (p ∷ ps) h =
    let a = and_parts (p.character == c) (begins_text t ps) h in
    let f = text_front t ps a.1 in
    record {
      front = p ∷ f.front;
      codes_are = ap (λ (x : ℕ). x ∷ codes_of f.front) (eqb-true p.character c a.0) ∙ ap (λ (x : List ℕ). c ∷ x) f.codes_are;
      whole = ap (λ (x : List Place). p ∷ x) f.whole;
    }

pub record FoldedFront (t : List ℕ) (ps : List Place) : Type 0 where
  pub front : List Place
  pub codes_are : map to_ascii_lowercase (codes_of front) ≡ t
  pub whole : ps ≡ front ++ drop (length t) ps

folded_front : (t : List ℕ) (ps : List Place) → begins_folded t ps ≡ true → FoldedFront t ps
folded_front [] ps h = record { front = []; codes_are = refl; whole = refl }
folded_front (c ∷ t) [] h = absurd cc
folded_front (c ∷ t) (p ∷ ps) h =
    let a = and_parts (to_ascii_lowercase p.character == c) (begins_folded t ps) h in
    let f = folded_front t ps a.1 in
    record {
      front = p ∷ f.front;
      codes_are = ap (λ (x : ℕ). x ∷ map to_ascii_lowercase (codes_of f.front)) (eqb-true (to_ascii_lowercase p.character) c a.0)
          ∙ ap (λ (x : List ℕ). c ∷ x) f.codes_are;
      whole = ap (λ (x : List Place). p ∷ x) f.whole;
    }

-- a tag, after its first place, and what may follow it
pub record Tagged (p : Place) (tag : Tag) (all rest : List Place) : Type 0 where
  pub front : List Place
  pub whole : all ≡ front ++ rest
  pub is : IsTag tag (p ∷ front) rest

piece_place : (inner rest : List Place)
    → raw_piece (place_or 0 (inner ++ rest)) (codes_of inner) ≡ raw_piece (place_or 0 inner) (codes_of inner)
piece_place [] rest = refl
piece_place (p ∷ inner) rest = refl

raw_gives : (p : Place) (tag : Tag) (all ps : List Place) → is_raw tag.name ≡ true → Tagged p tag all ps → IsOnce tag
    → Gives (Sound p all) (raw_at tag ps)
unfolding raw_at
raw_gives p tag all ps raw t once = by_end (begins 60 (behind_raw tag.name ps)) refl
  where
    name : List ℕ
    name = tag.name

    -- the end tag was read
    ended : (angle slash : Place) (more : List Place) → behind_raw tag.name ps ≡ angle ∷ (slash ∷ more) → angle.character ≡ 60
        → slash.character ≡ 47
        → ends_raw tag.name (behind_raw tag.name ps) ≡ true
        → (x : Token × List Place) → EndForm angle.at more x → tag.late ≡ None
        → Reads p all (Raw tag (raw_piece (place_or 0 ps) (raw_codes tag.name ps)), x.1)
    ended angle slash more e opens slashed over x f ok =
        let s = raw_span tag.name ps in
        let ending = angle ∷ (slash ∷ f.form) in
        let behind : behind_raw tag.name ps ≡ ending ++ x.1 = e ∙ ap (λ (u : List Place). angle ∷ (slash ∷ u)) f.whole in
        let inside : ps ≡ s.inner ++ (ending ++ x.1) = s.whole ∙ ap (λ (u : List Place). s.inner ++ u) behind in
        record {
          front = t.front ++ (s.inner ++ ending);
          whole = t.whole ∙ ap (λ (u : List Place). t.front ++ u) (inside ∙ sym (append_assoc s.inner ending x.1))
              ∙ sym (append_assoc t.front (s.inner ++ ending) x.1);
          is = (
            raw,
            record {
              tagged = p ∷ t.front;
              inner = s.inner;
              ending = ending;
              at = angle.at;
              name = f.name;
              whole = refl;
              tag_is = subst (IsTag tag (p ∷ t.front)) inside t.is;
              not_over = subst (NoneBegins (ends_raw tag.name) s.inner) behind s.not_over;
              over = ap (ends_raw tag.name) (sym behind) ∙ over;
              end_is = f.is angle slash opens refl slashed;
              text_is = ap (raw_piece (place_or 0 ps)) s.codes_are
                  ∙ ap (λ (u : List Place). raw_piece (place_or 0 u) (codes_of s.inner)) s.whole
                  ∙ piece_place s.inner (behind_raw tag.name ps);
            },
            once,
            ok,
          );
        }

    by_ended : (angle slash : Place) (more : List Place) → behind_raw tag.name ps ≡ angle ∷ (slash ∷ more) → angle.character ≡ 60
        → slash.character ≡ 47
        → ends_raw tag.name (behind_raw tag.name ps) ≡ true
        → (r : Result (Token × List Place) Fault) → Gives (EndForm angle.at more) r
        → Gives (Sound p all) (raw_ended tag (raw_piece (place_or 0 ps) (raw_codes tag.name ps)) r)
    by_ended angle slash more e opens slashed over (Ok x) f = ended angle slash more e opens slashed over x f
    by_ended angle slash more e opens slashed over (Err f) h = λ ok. absurd cc

    by_two : (behind : List Place) → behind_raw tag.name ps ≡ behind → ends_raw tag.name behind ≡ true
        → Gives (Sound p all) (raw_ended tag (raw_piece (place_or 0 ps) (raw_codes tag.name ps))
        (end_at (place_or 0 behind) (drop 2 behind)))
    by_two [] e over = absurd cc
    by_two (angle ∷ []) e over =
        let a = and_parts (begins 60 (angle ∷ [])) _ over in absurd cc
    by_two (angle ∷ (slash ∷ more)) e over =
        let a = and_parts (begins 60 (angle ∷ (slash ∷ more)))
        (begins 47 (slash ∷ more) && (begins_folded tag.name more && begins_with is_past_name (drop (length tag.name) more)))
        over in
        let b = and_parts (begins 47 (slash ∷ more))
        (begins_folded tag.name more && begins_with is_past_name (drop (length tag.name) more)) a.1 in
        by_ended angle slash more e (eqb-true angle.character 60 a.0) (eqb-true slash.character 47 b.0)
        (ap (ends_raw tag.name) e ∙ over) (end_at angle.at more) (end_gives angle.at more)

    by_end : (b : Bool) → begins 60 (behind_raw tag.name ps) ≡ b
        → Gives (Sound p all) (cond b
        (raw_ended tag (raw_piece (place_or 0 ps) (raw_codes tag.name ps))
        (end_at (place_or 0 (behind_raw tag.name ps)) (drop 2 (behind_raw tag.name ps))))
        (Ok (Raw (with_late tag (record { at = tag.at; rule = 9 })) None, [])))
    by_end true h = by_two (behind_raw tag.name ps) refl ((raw_span tag.name ps).over h)
    by_end false h = λ ok. absurd cc

-- a tag and what belongs to it
behind_gives : (p : Place) (tag : Tag) (all ps : List Place) → Tagged p tag all ps → IsOnce tag
    → Gives (Sound p all) (behind_tag tag ps)
unfolding behind_tag
behind_gives p tag all ps t once = by_raw (is_raw tag.name) refl
  where
    fed : (feed : Place) (more : List Place) → ps ≡ feed ∷ more → takes_line_feed tag ps ≡ true → is_raw tag.name ≡ false
        → tag.late ≡ None → Reads p all (Start tag, behind_first ps)
    fed feed more e takes raw ok =
        let last : ps ≡ feed ∷ behind_first ps = e ∙ ap (λ (u : List Place). feed ∷ u) (sym (ap behind_first e)) in
        record {
          front = t.front ++ feed ∷ [];
          whole = t.whole ∙ ap (λ (u : List Place). t.front ++ u) last ∙ sym (append_assoc t.front (feed ∷ []) (behind_first ps));
          is = (
            raw,
            inr (
              p ∷ t.front,
              feed,
              refl,
              subst (IsTag tag (p ∷ t.front)) last t.is,
              ap (takes_line_feed tag) (sym last)
                  ∙ takes,
            ),
            once,
            ok,
          );
        }

    by_feed : is_raw tag.name ≡ false → (b : Bool) → takes_line_feed tag ps ≡ b
        → Gives (Sound p all) (cond b (Ok (Start tag, behind_first ps)) (Ok (Start tag, ps)))
    by_feed raw true h =
        let a = and_parts (same tag.name (codes "pre")) (begins 10 ps) h in
        let f = begins_first 10 ps a.1 in
        fed f.place f.more f.whole h raw
    by_feed raw false h = λ ok. record { front = t.front; whole = t.whole; is = (raw, inl (t.is, h), once, ok) }

    by_raw : (b : Bool) → is_raw tag.name ≡ b
        → Gives (Sound p all) (cond b (raw_at tag ps)
        (cond (takes_line_feed tag ps) (Ok (Start tag, behind_first ps)) (Ok (Start tag, ps))))
    by_raw true h = raw_gives p tag all ps h t once
    by_raw false h = by_feed h (takes_line_feed tag ps) refl

-- the form of a start tag
pub tag_form : (p : Place) (ps : List Place) (y : ReadAttributes × List Place) → p.character ≡ 60
    → begins_with is_ascii_alphabetic ps ≡ true → Listed no_attributes (behind_while is_name_char ps) y
    → Tagged p (tag_of p.at (tag_name ps) y.0) ps y.1
tag_form p ps y opens letter l =
    let s = span is_name_char ps in
    record {
      front = s.front ++ l.one;
      whole = s.whole ∙ ap (λ (u : List Place). s.front ++ u) l.whole ∙ sym (append_assoc s.front l.one y.1);
      is = record {
        angle = p;
        named = s.front;
        more = l.one;
        bad = l.bad;
        whole = refl;
        opens = opens;
        stands = refl;
        name_is = tag_named s.front ps (behind_while is_name_char ps) s.whole s.passes s.codes_are s.stops letter letter_in_name;
        stops = ap (begins_with is_name_char) (sym l.whole) ∙ s.stops;
        attributes_are = subst (λ (u : Option ℕ). IsAttributes y.0.all u l.bad l.one y.1) (sym l.unknown_is)
            (subst (λ (u : List Attribute). IsAttributes u l.unknown l.bad l.one y.1) (sym l.all_are) l.is);
        late = ap (option_map bad_reference) l.bad_is;
      };
    }

pub name_shorter : (n : ℕ) (ps : List Place) → length ps ≤ n → length (behind_while is_name_char ps) ≤ n
name_shorter n ps le = let s = span is_name_char ps in let l = same_length s.front (behind_while is_name_char ps) ps s.whole
    in omega (arith, l, le)

started_gives : (n : ℕ) (p : Place) (ps : List Place) → length ps ≤ n → p.character ≡ 60
    → begins_with is_ascii_alphabetic ps ≡ true → Gives (Sound p ps) (start_at n p.at ps)
unfolding start_at
started_gives n p ps le opens letter =
    gives_bind (Listed no_attributes (behind_while is_name_char ps)) (Sound p ps)
    (attributes_from n n p.at no_attributes (behind_while is_name_char ps)) (or_doubled p.at (tag_name ps))
    (attributes_give n n p.at no_attributes (behind_while is_name_char ps) (name_shorter n ps le))
    (λ y h. by_doubled y h (is_doubled y.0.all) refl)
  where
    by_doubled : (y : ReadAttributes × List Place) → Listed no_attributes (behind_while is_name_char ps) y → (b : Bool)
        → is_doubled y.0.all ≡ b
        → Gives (Sound p ps) (cond b (fault p.at 4) (behind_tag (tag_of p.at (tag_name ps) y.0) y.1))
    by_doubled y h true e = tt
    by_doubled y h false e = behind_gives p (tag_of p.at (tag_name ps) y.0) ps y.1 (tag_form p ps y opens letter h) e

comment_gives : (p : Place) (ps : List Place) → p.character ≡ 60 → begins_text (codes "!--") ps ≡ true
    → Gives (Sound p ps) (comment_at p.at (drop 3 ps))
unfolding comment_at
comment_gives p ps opens marks = gives_if (Sound p ps) (begins 45 (from_text (codes "-->") (drop 3 ps))) _ _ (λ ends ok.
    let m = text_front (codes "!--") ps marks in
    let s = text_span (codes "-->") (drop 3 ps) in
    let c = text_front (codes "-->") (from_text (codes "-->") (drop 3 ps)) (s.over ends) in
    let rest = drop 3 (from_text (codes "-->") (drop 3 ps)) in
    let inside : drop 3 ps ≡ s.inner ++ (c.front ++ rest) = s.whole ∙ ap (λ (u : List Place). s.inner ++ u) c.whole in
    record {
      front = m.front ++ (s.inner ++ c.front);
      whole = m.whole ∙ ap (λ (u : List Place). m.front ++ u) (inside ∙ sym (append_assoc s.inner c.front rest))
          ∙ sym (append_assoc m.front (s.inner ++ c.front) rest);
      is = record {
        opening = p ∷ m.front;
        inner = s.inner;
        closing = c.front;
        whole = refl;
        opens = ap (λ (u : ℕ). u ∷ codes_of m.front) opens ∙ ap (λ (u : List ℕ). 60 ∷ u) m.codes_are;
        stands = refl;
        closes = c.codes_are;
        not_over = subst (NoneBegins (begins_text (codes "-->")) s.inner) c.whole s.not_over;
      };
    })

doctype_gives : (p : Place) (ps : List Place) → p.character ≡ 60 → begins_folded (codes "!doctype") ps ≡ true
    → Gives (Sound p ps) (doctype_at p.at (drop 8 ps))
unfolding doctype_at
doctype_gives p ps opens marks = gives_if (Sound p ps) (begins 62 (behind_while (is_other 62) (drop 8 ps))) _ _ (λ ends ok.
    let m = folded_front (codes "!doctype") ps marks in
    let s = span (is_other 62) (drop 8 ps) in
    let f = begins_first 62 (behind_while (is_other 62) (drop 8 ps)) ends in
    let rest = behind_first (behind_while (is_other 62) (drop 8 ps)) in
    let last : behind_while (is_other 62) (drop 8 ps) ≡ f.place ∷ rest = f.whole
    ∙ ap (λ (u : List Place). f.place ∷ u) (sym (ap behind_first f.whole)) in
    let inside : drop 8 ps ≡ (s.front ++ f.place ∷ []) ++ rest = s.whole ∙ ap (λ (u : List Place). s.front ++ u) last
    ∙ sym (append_assoc s.front (f.place ∷ []) rest) in
    record {
      front = m.front ++ (s.front ++ f.place ∷ []);
      whole = m.whole ∙ ap (λ (u : List Place). m.front ++ u) inside ∙ sym (append_assoc m.front (s.front ++ f.place ∷ []) rest);
      is = record {
        angle = p;
        mark = m.front;
        inner = s.front;
        last = f.place;
        whole = refl;
        opens = opens;
        stands = refl;
        marks = m.codes_are;
        passes = s.passes;
        ends = f.is;
      };
    })

mark_gives : (p : Place) (ps : List Place) → p.character ≡ 60 → Gives (Sound p ps) (mark_at p.at ps)
unfolding mark_at
mark_gives p ps opens = by_comment (begins_text (codes "!--") ps) refl
  where
    by_doctype : (b : Bool) → begins_folded (codes "!doctype") ps ≡ b
        → Gives (Sound p ps) (cond b (doctype_at p.at (drop 8 ps)) (fault p.at 3))
    by_doctype true h = doctype_gives p ps opens h
    by_doctype false h = tt

    by_comment : (b : Bool) → begins_text (codes "!--") ps ≡ b
        → Gives (Sound p ps) (cond b (comment_at p.at (drop 3 ps))
        (cond (begins_folded (codes "!doctype") ps) (doctype_at p.at (drop 8 ps)) (fault p.at 3)))
    by_comment true h = comment_gives p ps opens h
    by_comment false h = by_doctype (begins_folded (codes "!doctype") ps) refl

end_tag_gives : (p : Place) (ps : List Place) → p.character ≡ 60 → begins 47 ps ≡ true
    → Gives (Sound p ps) (end_at p.at (behind_first ps))
end_tag_gives p ps opens h = by_end (end_at p.at (behind_first ps)) (end_gives p.at (behind_first ps))
  where
    f : First 47 ps
    f = begins_first 47 ps h

    by_end : (r : Result (Token × List Place) Fault) → Gives (EndForm p.at (behind_first ps)) r → Gives (Sound p ps) r
    by_end (Err e) g = tt
    by_end (Ok x) g = λ ok. record {
      front = f.place ∷ g.form;
      whole = f.whole ∙ ap (λ (u : List Place). f.place ∷ u) (sym (ap behind_first f.whole) ∙ g.whole);
      is = subst (λ (t : Token). IsToken t (p ∷ (f.place ∷ g.form)) x.1) (sym g.token) (g.is p f.place opens refl f.is);
    }

plain_gives : (p : Place) (ps : List Place) → (p.character ≡ 38 → BeginsReference ps → ⊥)
    → (begins 60 (p ∷ []) ≡ true → begins_markup ps ≡ false) → Reads p ps (Char p.at p.character Plain, ps)
plain_gives p ps none markup = record { front = []; whole = refl; is = ((p, refl, refl, refl, none), markup) }

not_angle : (p : Place) (c : ℕ) → p.character ≡ c → eqb c 60 ≡ false → (rest : List Place) (front : List Place)
    → begins 60 (p ∷ front) ≡ true → begins_markup rest ≡ false
not_angle p c e h rest front g = absurd (true≢false (sym g ∙ ap (λ (u : ℕ). eqb u 60) e ∙ h))

char_gives : (p : Place) (ps : List Place) → p.character ≡ 38 → Gives (Sound p ps) (char_by_meaning p.at (meaning_at ps))
char_gives p ps amp = by_meaning' (meaning_at ps).0 (meaning_at ps).1 refl (meant ps)
  where
    by_meaning' : (m : Meaning) (rest : List Place) → meaning_at ps ≡ (m, rest) → Meant m rest ps
        → Gives (Sound p ps) (char_by_meaning p.at (m, rest))
    by_meaning' meanings.Plain rest e h = λ ok. record {
      front = [];
      whole = sym h;
      is = ((p, refl, refl, amp, λ _ b. not_plain ps rest e (subst BeginsReference h b)), not_angle p 38 amp refl rest []);
    }
    by_meaning' meanings.Unknown rest e h = λ ok. record {
      front = [];
      whole = sym h.0;
      is = ((p, refl, refl, amp, refl, subst BeginsUnknown (sym h.0) h.1), not_angle p 38 amp refl rest []);
    }
    by_meaning' meanings.Bad rest e h = tt
    by_meaning' (meanings.Character c) rest e h = λ ok. record {
      front = h.0;
      whole = h.1;
      is = ((p, h.0, refl, refl, amp, h.2), not_angle p 38 amp refl rest h.0);
    }

-- a token that is read is spelled so
pub token_gives : (n : ℕ) (p : Place) (ps : List Place) → length ps ≤ n → Gives (Sound p ps) (token_at n p ps)
unfolding token_at
token_gives n p ps le = by_angle (p.character == 60) refl
  where
    by_question : p.character ≡ 60 → begins_with is_ascii_alphabetic ps ≡ false → begins 47 ps ≡ false → begins 33 ps ≡ false
        → (b : Bool) → begins 63 ps ≡ b → Gives (Sound p ps) (cond b (fault p.at 3) (Ok (Char p.at p.character Plain, ps)))
    by_question opens a c d true h = tt
    by_question opens a c d false h =
        λ ok. plain_gives p ps (λ e. absurd (true≢false (sym (eq-eqb p.character 38 e) ∙ ap (λ (u : ℕ). eqb u 38) opens)))
        (λ _. ap (λ (u : Bool). u || (begins 47 ps || (begins 33 ps || begins 63 ps))) a
        ∙ ap (λ (u : Bool). u || (begins 33 ps || begins 63 ps)) c ∙ ap (λ (u : Bool). u || begins 63 ps) d ∙ h)

    by_mark : p.character ≡ 60 → begins_with is_ascii_alphabetic ps ≡ false → begins 47 ps ≡ false → (b : Bool) → begins 33 ps ≡ b
        → Gives (Sound p ps) (cond b (mark_at p.at ps)
        (cond (begins 63 ps) (fault p.at 3) (Ok (Char p.at p.character Plain, ps))))
    by_mark opens a c true h = mark_gives p ps opens
    by_mark opens a c false h = by_question opens a c h (begins 63 ps) refl

    by_slash : p.character ≡ 60 → begins_with is_ascii_alphabetic ps ≡ false → (b : Bool) → begins 47 ps ≡ b
        → Gives (Sound p ps) (cond b (end_at p.at (behind_first ps))
        (cond (begins 33 ps) (mark_at p.at ps) (cond (begins 63 ps) (fault p.at 3) (Ok (Char p.at p.character Plain, ps)))))
    by_slash opens a true h = end_tag_gives p ps opens h
    by_slash opens a false h = by_mark opens a h (begins 33 ps) refl

    by_letter : p.character ≡ 60 → (b : Bool) → begins_with is_ascii_alphabetic ps ≡ b
        → Gives (Sound p ps) (cond b (start_at n p.at ps)
        (cond (begins 47 ps) (end_at p.at (behind_first ps))
        (cond (begins 33 ps) (mark_at p.at ps)
        (cond (begins 63 ps) (fault p.at 3) (Ok (Char p.at p.character Plain, ps))))))
    by_letter opens true h = started_gives n p ps le opens h
    by_letter opens false h = by_slash opens h (begins 47 ps) refl

    by_amp : (p.character == 60) ≡ false → (b : Bool) → (p.character == 38) ≡ b
        → Gives (Sound p ps) (cond b (char_by_meaning p.at (meaning_at ps)) (Ok (Char p.at p.character Plain, ps)))
    by_amp a true h = char_gives p ps (eqb-true p.character 38 h)
    by_amp a false h = λ ok. plain_gives p ps (λ e. absurd (true≢false (sym (eq-eqb p.character 38 e) ∙ h)))
        (λ g. absurd (true≢false (sym g ∙ a)))

    by_angle : (b : Bool) → (p.character == 60) ≡ b
        → Gives (Sound p ps)
        (cond b (cond (begins_with is_ascii_alphabetic ps) (start_at n p.at ps)
        (cond (begins 47 ps) (end_at p.at (behind_first ps))
        (cond (begins 33 ps) (mark_at p.at ps)
        (cond (begins 63 ps) (fault p.at 3) (Ok (Char p.at p.character Plain, ps))))))
        (cond (p.character == 38) (char_by_meaning p.at (meaning_at ps)) (Ok (Char p.at p.character Plain, ps))))
    by_angle true h = by_letter (eqb-true p.character 60 h) (begins_with is_ascii_alphabetic ps) refl
    by_angle false h = by_amp h (p.character == 38) refl
