-- Attributes that are read are spelled so.
use Rattle.std.proofs.Common.{◌≡◌, ℕ, zero, suc, ◌+◌, ◌≤◌, List, [], ◌∷◌, ◌++◌, map, length, Option, Some, None, Result, Ok, Err}
use Rattle.std.proofs.Common.{Bool, true, false, cond, refl, sym, ap, subst, ◌∙◌, append_assoc, arith, length-append, inl, inr}
use Rattle.std.specs.Prelude.{encode_utf8_all}
use Rattle.std.specs.Char.{to_ascii_lowercase}
use Rattle.std.proofs.lemmas.List.{append-nil}
use Rattle.mc_base.specs.Reading.{◌>>=◌, fault}
use Rattle.html_grammar.specs.declared.dom.Attribute.{Attribute}
use Rattle.html_grammar.specs.declared.place.Place.{Place}
use Rattle.mc_base.specs.declared.read_error.Fault.{Fault}
use Rattle.html_grammar.specs.declared.token.ReadAttribute.{ReadAttribute}
use Rattle.html_grammar.specs.declared.token.ReadAttributes.{ReadAttributes}
use Rattle.html_grammar.specs.declared.token.Token.{Token}
use Rattle.html_grammar.specs.declared.token.Value.{Value}
use Rattle.html_grammar.specs.Places.{behind_first, place_or, behind_while, begins_with, begins}
use Rattle.html_grammar.specs.Tokens.{is_space}
use Rattle.html_grammar.specs.Lexing.{is_key_char, is_bare_char, is_other, empty_value, value_from, read_as, quoted_at, bare_at}
use Rattle.html_grammar.specs.Lexing.{value_at, assigned_at, key, attribute_at, some_attribute, piece_at, or_first}
use Rattle.html_grammar.specs.Lexing.{with_attribute, continued, attributes_from}
use Rattle.html_grammar.specs.Spelling.{codes_of, Passes, SomePass, IsText, IsQuoted, IsValue, IsAssigned, IsAttribute, IsTagEnd}
use Rattle.html_grammar.specs.Spelling.{IsAttributes}
use Rattle.html_grammar.proofs.Spans.{begins_first, some_pass, Span, span}
use Rattle.html_grammar.proofs.ValueForms.{with_text, value_read}
use Rattle.html_grammar.proofs.AttributeForms.{Gives, gives_bind, gives_if, same_length}

-- a value as it is read, and its form
pub record Form (name : List ℕ) (ps : List Place) (x : ReadAttribute × List Place) : Type 0 where
  pub toks : List Token
  pub bad : Option ℕ
  pub form : List Place
  pub whole : ps ≡ form ++ x.1
  pub is : IsValue toks bad x.0.offset form x.1
  pub named : x.0.name ≡ name
  pub value : x.0.value ≡ with_text empty_value toks bad

-- the value that ends at a quote
quoted_form : (n : ℕ) (name : List ℕ) (q : ℕ) (opening : Place) (ps : List Place) → length ps ≤ n → opening.character ≡ q
    → begins q (value_from n (is_other q) empty_value ps).1 ≡ true
    → (toks : List Token) × (bad : Option ℕ) × (form : List Place)
    × (opening ∷ ps ≡ form ++ behind_first (value_from n (is_other q) empty_value ps).1)
    × IsQuoted q toks bad (place_or 0 ps) form (behind_first (value_from n (is_other q) empty_value ps).1)
    × ((value_from n (is_other q) empty_value ps).0 ≡ with_text empty_value toks bad)
quoted_form n name q opening ps le is ends =
    let v = value_read n (is_other q) empty_value ps le in
    let r = value_from n (is_other q) empty_value ps in
    let f = begins_first q r.1 ends in
    let rest : behind_first r.1 ≡ f.more = ap behind_first f.whole in
    let last : r.1 ≡ f.place ∷ behind_first r.1 = f.whole ∙ ap (λ (x : List Place). f.place ∷ x) (sym rest) in
    let whole : ps ≡ v.inner ++ (f.place ∷ behind_first r.1) = v.whole ∙ ap (λ (x : List Place). v.inner ++ x) last in (
      v.toks,
      v.bad,
      opening ∷ (v.inner ++ f.place ∷ []),
      ap (λ (x : List Place). opening ∷ x) (whole ∙ sym (append_assoc v.inner (f.place ∷ []) (behind_first r.1))),
      record {
        opening = opening;
        inner = v.inner;
        closing = f.place;
        whole = refl;
        opens = is;
        closes = f.is;
        text = subst (λ (x : List Place). IsText (is_other q) v.toks v.bad v.inner x) last v.text;
        stands = ap (place_or 0) whole ∙ first_place v.inner f.place (behind_first r.1);
      },
      v.value,
    )
  where
    first_place : (inner : List Place) (p : Place) (rest : List Place)
        → place_or 0 (inner ++ (p ∷ rest)) ≡ place_or 0 (inner ++ p ∷ [])
    first_place [] p rest = refl
    first_place (x ∷ inner) p rest = refl

quoted_gives : (n tag : ℕ) (name : List ℕ) (q : ℕ) (make : (toks : List Token) (bad : Option ℕ) (at : ℕ) (form rest : List Place)
    → IsQuoted q toks bad at form rest → IsValue toks bad at form rest)
    (opening : Place) (ps : List Place) → length ps ≤ n → opening.character ≡ q
    → Gives (Form name (opening ∷ ps)) (quoted_at n tag name q ps)
unfolding quoted_at
quoted_gives n tag name q make opening ps le is =
    gives_if (Form name (opening ∷ ps)) (begins q (value_from n (is_other q) empty_value ps).1) _ _ (λ ends.
    let f = quoted_form n name q opening ps le is ends in
    record { toks = f.0; bad = f.1; form = f.2; whole = f.3; is = make f.0 f.1 _ f.2 _ f.4; named = refl; value = f.5 })

bare_gives : (n tag : ℕ) (name : List ℕ) (ps : List Place) → length ps ≤ n → Gives (Form name ps) (bare_at n tag name ps)
unfolding bare_at
bare_gives n tag name ps le = gives_if (Form name ps) (begins_with is_bare_char ps) _ _ (λ begun.
    let v = value_read n is_bare_char empty_value ps le in
    let e = by_inner (value_from n is_bare_char empty_value ps).1 v.inner v.whole v.stops begun in
    record {
      toks = v.toks;
      bad = v.bad;
      form = v.inner;
      whole = v.whole;
      is = inr (inr (v.text, e.0, v.stops, e.1));
      named = refl;
      value = v.value;
    })
  where
    by_inner : (rest inner : List Place) → ps ≡ inner ++ rest → begins_with is_bare_char rest ≡ false
        → begins_with is_bare_char ps ≡ true → (begins_with is_bare_char inner ≡ true) × (place_or 0 ps ≡ place_or 0 inner)
    by_inner rest [] e stops begun = let h : begins_with is_bare_char ps ≡ false = ap (begins_with is_bare_char) e ∙ stops
        in absurd cc
    by_inner rest (p ∷ inner) e stops begun = (sym (ap (begins_with is_bare_char) e) ∙ begun, ap (place_or 0) e)

longer : (p : Place) (more ps : List Place) (n : ℕ) → ps ≡ p ∷ more → length ps ≤ n → length more ≤ n
longer p more ps n e le = let l : length ps ≡ suc (length more) = ap length e in omega (arith, l, le)

value_gives : (n tag : ℕ) (name : List ℕ) (ps : List Place) → length ps ≤ n → Gives (Form name ps) (value_at n tag name ps)
unfolding value_at
value_gives n tag name ps le = by_double (begins 34 ps) refl
  where
    by_single : (b : Bool) → begins 39 ps ≡ b
        → Gives (Form name ps) (cond b (quoted_at n tag name 39 (behind_first ps)) (bare_at n tag name ps))
    by_single true h =
        let f = begins_first 39 ps h in
        let b : f.more ≡ behind_first ps = sym (ap behind_first f.whole) in
        let whole : ps ≡ f.place ∷ behind_first ps = f.whole ∙ ap (λ (x : List Place). f.place ∷ x) b in
        subst (λ (x : List Place). Gives (Form name x) (quoted_at n tag name 39 (behind_first ps))) (sym whole)
        (quoted_gives n tag name 39 (λ toks bad at form rest g. inr (inl g)) f.place (behind_first ps)
        (longer f.place (behind_first ps) ps n whole le) f.is)
    by_single false h = bare_gives n tag name ps le

    by_double : (b : Bool) → begins 34 ps ≡ b
        → Gives (Form name ps) (cond b (quoted_at n tag name 34 (behind_first ps))
        (cond (begins 39 ps) (quoted_at n tag name 39 (behind_first ps)) (bare_at n tag name ps)))
    by_double true h =
        let f = begins_first 34 ps h in
        let b : f.more ≡ behind_first ps = sym (ap behind_first f.whole) in
        let whole : ps ≡ f.place ∷ behind_first ps = f.whole ∙ ap (λ (x : List Place). f.place ∷ x) b in
        subst (λ (x : List Place). Gives (Form name x) (quoted_at n tag name 34 (behind_first ps))) (sym whole)
        (quoted_gives n tag name 34 (λ toks bad at form rest g. inl g) f.place (behind_first ps)
        (longer f.place (behind_first ps) ps n whole le) f.is)
    by_double false h = by_single (begins 39 ps) refl

-- an attribute that was read
abbrev pub spelled_of : ReadAttribute → Attribute
spelled_of r = record { name = r.name; value = r.value.text; offset = r.offset }

pub record Assigned (at : ℕ) (name : List ℕ) (ps : List Place) (x : ReadAttribute × List Place) : Type 0 where
  pub tail : List Place
  pub whole : ps ≡ tail ++ x.1
  pub is : IsAssigned at (spelled_of x.0) x.0.value.unknown x.0.value.bad tail x.1
  pub named : x.0.name ≡ name

gives_more : (P Q : ReadAttribute × List Place → Type 0) (r : Result (ReadAttribute × List Place) Fault) → Gives P r
    → ((x : ReadAttribute × List Place) → P x → Q x) → Gives Q r
gives_more P Q (Ok x) h g = g x h
gives_more P Q (Err e) h g = tt

assigned_gives : (n tag at : ℕ) (name : List ℕ) (ps : List Place) → length ps ≤ n
    → Gives (Assigned at name ps) (assigned_at n tag at name ps)
unfolding assigned_at
assigned_gives n tag at name ps le = by_equals (begins 61 ps) refl
  where
    made : (equals : Place) (more : List Place) → ps ≡ equals ∷ more → equals.character ≡ 61 → (x : ReadAttribute × List Place)
        → Form name more x → Assigned at name ps x
    made equals more e is x g = record {
      tail = equals ∷ g.form;
      whole = e ∙ ap (λ (u : List Place). equals ∷ u) g.whole;
      is = inr (
        equals,
        g.form,
        g.toks,
        refl,
        is,
        subst (λ (u : Option ℕ). IsValue g.toks u x.0.offset g.form x.1) (sym (ap (λ (u : Value). u.bad) g.value)) g.is,
        ap (λ (u : Value). u.text) g.value,
        ap (λ (u : Value). u.unknown) g.value,
      );
      named = g.named;
    }

    by_equals : (b : Bool) → begins 61 ps ≡ b
        → Gives (Assigned at name ps) (cond b (value_at n tag name (behind_first ps)) (read_as name at (empty_value, ps) ps))
    by_equals true h =
        let f = begins_first 61 ps h in
        let b : f.more ≡ behind_first ps = sym (ap behind_first f.whole) in
        let whole : ps ≡ f.place ∷ behind_first ps = f.whole ∙ ap (λ (x : List Place). f.place ∷ x) b in
        gives_more (Form name (behind_first ps)) (Assigned at name ps) (value_at n tag name (behind_first ps))
        (value_gives n tag name (behind_first ps) (longer f.place (behind_first ps) ps n whole le))
        (made f.place (behind_first ps) whole f.is)
    by_equals false h = record { tail = []; whole = refl; is = inl (refl, h, refl, refl, refl, refl); named = refl }

pub record Attributed (ps : List Place) (x : ReadAttribute × List Place) : Type 0 where
  pub one : List Place
  pub whole : ps ≡ one ++ x.1
  pub is : IsAttribute (spelled_of x.0) x.0.value.unknown x.0.value.bad one x.1

attribute_gives : (n tag : ℕ) (ps : List Place) → length ps ≤ n → Gives (Attributed ps) (attribute_at n tag ps)
unfolding attribute_at
attribute_gives n tag ps le = by_key (begins_with is_key_char ps) refl
  where
    s : Span is_key_char ps
    s = span is_key_char ps

    shorter : length (behind_while is_key_char ps) ≤ n
    shorter = let l = same_length s.front (behind_while is_key_char ps) ps s.whole in omega (arith, l, le)

    made : (first : Place) (more : List Place) → s.front ≡ first ∷ more → (x : ReadAttribute × List Place)
        → Assigned (place_or 0 ps) (key ps) (behind_while is_key_char ps) x → Attributed ps x
    made first more e x g =
        let whole : ps ≡ first ∷ (more ++ behind_while is_key_char ps) = s.whole
        ∙ ap (λ (u : List Place). u ++ behind_while is_key_char ps) e in
        record {
          one = first ∷ (more ++ g.tail);
          whole = whole ∙ ap (λ (u : List Place). first ∷ (more ++ u)) g.whole
              ∙ ap (λ (u : List Place). first ∷ u) (sym (append_assoc more g.tail x.1));
          is = record {
            first = first;
            more = more;
            tail = g.tail;
            whole = refl;
            named = subst (Passes is_key_char) e s.passes;
            stops = ap (begins_with is_key_char) (sym g.whole) ∙ s.stops;
            name_is = g.named ∙ ap (λ (u : List ℕ). encode_utf8_all (map to_ascii_lowercase u)) (s.codes_are ∙ ap codes_of e);
            value_is = subst (λ (u : ℕ). IsAssigned u (spelled_of x.0) x.0.value.unknown x.0.value.bad g.tail x.1)
                (ap (place_or 0) whole) g.is;
          };
        }

    by_front : (front : List Place) → s.front ≡ front → SomePass is_key_char front
        → Gives (Attributed ps) (assigned_at n tag (place_or 0 ps) (key ps) (behind_while is_key_char ps))
    by_front [] e some = absurd some
    by_front (first ∷ more) e some =
        gives_more (Assigned (place_or 0 ps) (key ps) (behind_while is_key_char ps)) (Attributed ps)
        (assigned_at n tag (place_or 0 ps) (key ps) (behind_while is_key_char ps))
        (assigned_gives n tag (place_or 0 ps) (key ps) (behind_while is_key_char ps) shorter) (made first more e)

    by_key : (b : Bool) → begins_with is_key_char ps ≡ b
        → Gives (Attributed ps) (cond b (assigned_at n tag (place_or 0 ps) (key ps) (behind_while is_key_char ps)) (fault tag 3))
    by_key true h = by_front s.front refl
        (some_pass is_key_char s.front (behind_while is_key_char ps) ps s.whole s.passes s.stops h)
    by_key false h = tt

-- a piece of a start tag
pub record Spaced (ps : List Place) (a : ReadAttribute) (rest : List Place) : Type 0 where
  pub white : List Place
  pub one : List Place
  pub whole : ps ≡ white ++ (one ++ rest)
  pub spaces : SomePass is_space white
  pub is : IsAttribute (spelled_of a) a.value.unknown a.value.bad one rest

abbrev pub Pieced : List Place → Option ReadAttribute → List Place → Type 0
Pieced ps None rest = (one : List Place) × (ps ≡ one ++ rest) × IsTagEnd one
Pieced ps (Some a) rest = Spaced ps a rest

abbrev PiecedAs : List Place → Option ReadAttribute × List Place → Type 0
PiecedAs ps x = Pieced ps x.0 x.1

piece_gives : (n tag : ℕ) (ps : List Place) → length ps ≤ n → Gives (PiecedAs ps) (piece_at n tag ps)
unfolding piece_at
piece_gives n tag ps le = by_end (begins 62 behind) refl
  where
    behind : List Place
    behind = behind_while is_space ps

    s : Span is_space ps
    s = span is_space ps

    shorter : length (behind_while is_space ps) ≤ n
    shorter = let l = same_length s.front (behind_while is_space ps) ps s.whole in omega (arith, l, le)

    spaced : begins_with is_space ps ≡ true → (x : ReadAttribute × List Place) → Attributed (behind_while is_space ps) x
        → Gives (PiecedAs ps) (some_attribute x)
    spaced h x g = record {
      white = s.front;
      one = g.one;
      whole = s.whole ∙ ap (λ (u : List Place). s.front ++ u) g.whole;
      spaces = some_pass is_space s.front (behind_while is_space ps) ps s.whole s.passes s.stops h;
      is = g.is;
    }

    by_space : (b : Bool) → begins_with is_space ps ≡ b
        → Gives (PiecedAs ps) (cond b (attribute_at n tag (behind_while is_space ps) >>= some_attribute) (fault tag 3))
    by_space true h = gives_bind (Attributed (behind_while is_space ps)) (PiecedAs ps)
        (attribute_at n tag (behind_while is_space ps)) some_attribute (attribute_gives n tag (behind_while is_space ps) shorter)
        (spaced h)
    by_space false h = tt

    slashed : (slash : Place) (more : List Place) → behind_while is_space ps ≡ slash ∷ more → slash.character ≡ 47 → (b : Bool)
        → begins 62 (behind_first (behind_while is_space ps)) ≡ b
        → Gives (PiecedAs ps) (cond b (Ok (None, behind_first (behind_first (behind_while is_space ps)))) (fault tag 3))
    slashed slash more e is true h =
        let f = begins_first 62 (behind_first (behind_while is_space ps)) h in
        let more_is : more ≡ f.place ∷ behind_first (behind_first (behind_while is_space ps)) =
        sym (ap behind_first e) ∙ f.whole ∙ ap (λ (u : List Place). f.place ∷ u) (sym (ap behind_first f.whole)) in (
          s.front ++ (slash ∷ (f.place ∷ [])),
          s.whole ∙ ap (λ (u : List Place). s.front ++ u) (e ∙ ap (λ (u : List Place). slash ∷ u) more_is)
              ∙ sym (append_assoc s.front (slash ∷ (f.place ∷ [])) (behind_first (behind_first (behind_while is_space ps)))),
          record { white = s.front; last = f.place; spaces = s.passes; ends = f.is; whole = inr (slash, is, refl) },
        )
    slashed slash more e is false h = tt

    by_slash : (b : Bool) → begins 47 (behind_while is_space ps) ≡ b
        → Gives (PiecedAs ps) (cond b
        (cond (begins 62 (behind_first (behind_while is_space ps)))
        (Ok (None, behind_first (behind_first (behind_while is_space ps)))) (fault tag 3))
        (cond (begins_with is_space ps) (attribute_at n tag (behind_while is_space ps) >>= some_attribute) (fault tag 3)))
    by_slash true h = let f = begins_first 47 (behind_while is_space ps) h
        in slashed f.place f.more f.whole f.is (begins 62 (behind_first (behind_while is_space ps))) refl
    by_slash false h = by_space (begins_with is_space ps) refl

    by_end : (b : Bool) → begins 62 (behind_while is_space ps) ≡ b
        → Gives (PiecedAs ps) (cond b (Ok (None, behind_first (behind_while is_space ps)))
        (cond (begins 47 (behind_while is_space ps))
        (cond (begins 62 (behind_first (behind_while is_space ps)))
        (Ok (None, behind_first (behind_first (behind_while is_space ps)))) (fault tag 3))
        (cond (begins_with is_space ps) (attribute_at n tag (behind_while is_space ps) >>= some_attribute) (fault tag 3))))
    by_end true h =
        let f = begins_first 62 (behind_while is_space ps) h in
        let e : behind_while is_space ps ≡ f.place ∷ behind_first (behind_while is_space ps) = f.whole
        ∙ ap (λ (u : List Place). f.place ∷ u) (sym (ap behind_first f.whole)) in (
          s.front ++ f.place ∷ [],
          s.whole ∙ ap (λ (u : List Place). s.front ++ u) e
              ∙ sym (append_assoc s.front (f.place ∷ []) (behind_first (behind_while is_space ps))),
          record { white = s.front; last = f.place; spaces = s.passes; ends = f.is; whole = inl refl },
        )
    by_end false h = by_slash (begins 47 (behind_while is_space ps)) refl

-- attributes up to the end of their tag
pub record Listed (x : ReadAttributes) (ps : List Place) (y : ReadAttributes × List Place) : Type 0 where
  pub all : List Attribute
  pub unknown : Option ℕ
  pub bad : Option ℕ
  pub one : List Place
  pub whole : ps ≡ one ++ y.1
  pub is : IsAttributes all unknown bad one y.1
  pub all_are : y.0.all ≡ x.all ++ all
  pub unknown_is : y.0.unknown ≡ or_first x.unknown unknown
  pub bad_is : y.0.bad ≡ or_first x.bad bad

or_nothing : (x : Option ℕ) → or_first x None ≡ x
or_nothing None = refl
or_nothing (Some x) = refl

or_third : (x y z : Option ℕ) → or_first (or_first x y) z ≡ or_first x (or_first y z)
or_third None y z = refl
or_third (Some x) y z = refl

gives_listed : (P Q : ReadAttributes × List Place → Type 0) (r : Result (ReadAttributes × List Place) Fault) → Gives P r
    → ((y : ReadAttributes × List Place) → P y → Q y) → Gives Q r
gives_listed P Q (Ok y) h make = make y h
gives_listed P Q (Err e) h make = tt

pub attributes_give : (k n tag : ℕ) (x : ReadAttributes) (ps : List Place) → length ps ≤ n
    → Gives (Listed x ps) (attributes_from k n tag x ps)
unfolding attributes_from
attributes_give zero n tag x ps le = tt
attributes_give (suc k) n tag x ps le = gives_bind (PiecedAs ps) (Listed x ps) (piece_at n tag ps) _ (piece_gives n tag ps le)
    (λ r. by_piece (λ y rest. attributes_give k n tag y rest) r.0 r.1)
  where
    joined : (a : ReadAttribute) (rest : List Place) → Spaced ps a rest → (y : ReadAttributes × List Place)
        → Listed (with_attribute x a) rest y → Listed x ps y
    joined a rest s y l = record {
      all = spelled_of a ∷ l.all;
      unknown = or_first a.value.unknown l.unknown;
      bad = or_first a.value.bad l.bad;
      one = s.white ++ (s.one ++ l.one);
      whole = s.whole ∙ ap (λ (u : List Place). s.white ++ (s.one ++ u)) l.whole
          ∙ ap (λ (u : List Place). s.white ++ u) (sym (append_assoc s.one l.one y.1))
          ∙ sym (append_assoc s.white (s.one ++ l.one) y.1);
      is = (
        a.value.unknown,
        l.unknown,
        a.value.bad,
        l.bad,
        s.white,
        s.one,
        l.one,
        refl,
        s.spaces,
        refl,
        refl,
        subst (λ (u : List Place). IsAttribute (spelled_of a) a.value.unknown a.value.bad s.one u) l.whole s.is,
        l.is,
      );
      all_are = l.all_are ∙ append_assoc x.all (spelled_of a ∷ []) l.all;
      unknown_is = l.unknown_is ∙ or_third x.unknown a.value.unknown l.unknown;
      bad_is = l.bad_is ∙ or_third x.bad a.value.bad l.bad;
    }

    shorter : (a : ReadAttribute) (rest : List Place) → Spaced ps a rest → length rest ≤ n
    shorter a rest s =
        let l = same_length s.white (s.one ++ rest) ps s.whole in
        let m : length (s.one ++ rest) ≡ length s.one + length rest = length-append s.one rest in
        omega (arith, l, m, le)

    by_piece : ((y : ReadAttributes) (rest : List Place) → length rest ≤ n
        → Gives (Listed y rest) (attributes_from k n tag y rest))
        → (a : Option ReadAttribute) (rest : List Place) → Pieced ps a rest
        → Gives (Listed x ps) (continued x a rest (λ y. attributes_from k n tag y rest))
    by_piece below None rest h = record {
      all = [];
      unknown = None;
      bad = None;
      one = h.0;
      whole = h.1;
      is = (refl, refl, h.2);
      all_are = sym (append-nil x.all);
      unknown_is = sym (or_nothing x.unknown);
      bad_is = sym (or_nothing x.bad);
    }
    by_piece below (Some a) rest h =
        gives_listed (Listed (with_attribute x a) rest) (Listed x ps) (attributes_from k n tag (with_attribute x a) rest)
        (below (with_attribute x a) rest (shorter a rest h)) (joined a rest h)
