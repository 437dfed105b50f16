-- Tokens that are spelled are read.
use Rattle.std.proofs.Common.{◌≡◌, ℕ, suc, ◌+◌, ◌≤◌, List, [], ◌∷◌, ◌++◌, map, drop, length, Option, None, Result, Ok, Bool, true}
use Rattle.std.proofs.Common.{false, cond, ◌&&◌, ◌||◌, nat_lt, refl, sym, ap, ◌∙◌, append_assoc, arith, length-append, inl, inr}
use Rattle.std.specs.Prelude.{codes, ◌==◌}
use Rattle.std.specs.Char.{to_ascii_lowercase, is_ascii_alphabetic}
use Rattle.std.proofs.lemmas.Bool.{eq-eqb, eqb-true, or_parts, ne_eqb}
use Rattle.mc_base.specs.Reading.{◌>>=◌, fault}
use lib.Dec.{eqb}
use Rattle.html_grammar.specs.declared.place.Place.{Place}
use Rattle.mc_base.specs.declared.read_error.Fault.{Fault}
use Rattle.html_grammar.specs.declared.token.Meaning.TheVariants as meanings
use Rattle.html_grammar.specs.declared.token.Piece.{Piece}
use Rattle.html_grammar.specs.declared.token.ReadAttributes.{ReadAttributes}
use Rattle.html_grammar.specs.declared.token.Spelled.{Spelled}
use Rattle.html_grammar.specs.declared.token.Spelled.TheVariants.{Plain, Reference, Unknown}
use Rattle.html_grammar.specs.declared.token.Tag.{Tag}
use Rattle.html_grammar.specs.declared.token.Token.{Token}
use Rattle.html_grammar.specs.declared.token.Token.TheVariants.{Start, Raw, End, Comment, Doctype, Char}
use Rattle.html_grammar.specs.Names.{is_raw}
use Rattle.html_grammar.specs.Places.{behind_first, place_or, behind_while, begins_with, begins}
use Rattle.html_grammar.specs.Tokens.{is_space}
use Rattle.html_grammar.specs.Lexing.{is_doubled, is_name_char, is_other, begins_text, begins_folded, meaning_at, no_attributes}
use Rattle.html_grammar.specs.Lexing.{attributes_from, tag_name, end_at, ends_raw, raw_codes, behind_raw, raw_piece, raw_ended}
use Rattle.html_grammar.specs.Lexing.{raw_at, tag_of, behind_tag, or_doubled, start_at, from_text, comment_at, doctype_at}
use Rattle.html_grammar.specs.Lexing.{mark_at, char_by_meaning, token_at, with_late}
use Rattle.html_grammar.specs.Spelling.{codes_of, NoneBegins, BeginsReference, IsCharacter, IsTagName, IsTag, IsOnce, IsEndTag}
use Rattle.html_grammar.specs.Spelling.{takes_line_feed, IsStart, IsRaw, IsComment, IsDoctype, begins_markup, IsToken}
use Rattle.html_grammar.proofs.Spans.{begins_back, codes_back, behind_back}
use Rattle.html_grammar.proofs.ReferenceForms.{reference_back, unknown_back}
use Rattle.html_grammar.proofs.ValueForms.{plain_back}
use Rattle.html_grammar.proofs.AttributeForms.{attributes_as, attributes_answer, attributes_back}

abbrev pub token_answer : Token → List Place → Result (Token × List Place) Fault
token_answer t rest = Ok (t, rest)

-- a tag's name
pub record Named (name : List ℕ) (named rest : List Place) : Type 0 where
  pub letter : begins_with is_ascii_alphabetic (named ++ rest) ≡ true
  pub is : tag_name (named ++ rest) ≡ name
  pub behind : behind_while is_name_char (named ++ rest) ≡ rest

pub named_back : (name : List ℕ) (named rest : List Place) → IsTagName named name → begins_with is_name_char rest ≡ false
    → Named name named rest
named_back name [] rest h stops = absurd h
named_back name (p ∷ named) rest h stops = record {
  letter = h.0;
  is = ap (map to_ascii_lowercase) (codes_back is_name_char (p ∷ named) rest h.1 stops) ∙ sym h.2;
  behind = behind_back is_name_char (p ∷ named) rest h.1 stops;
}

tag_whole : (tag : Tag) (one rest : List Place) (f : IsTag tag one rest) → one ++ rest ≡ f.angle ∷ (f.named ++ (f.more ++ rest))
tag_whole tag one rest f = ap (λ (x : List Place). x ++ rest) f.whole
    ∙ ap (λ (x : List Place). f.angle ∷ x) (append_assoc f.named f.more rest)

-- the attributes of a tag
tag_attributes : (n : ℕ) (tag : Tag) (one rest : List Place) (f : IsTag tag one rest) → length one ≤ suc n
    → start_at n tag.at (f.named ++ (f.more ++ rest))
    ≡ or_doubled tag.at tag.name (attributes_as tag.attributes tag.unknown f.bad, rest)
unfolding start_at
tag_attributes n tag one rest f le =
    let ps = f.named ++ (f.more ++ rest) in
    let w = named_back tag.name f.named (f.more ++ rest) f.name_is f.stops in
    let l : length one ≡ suc (length f.named + length f.more) = ap length f.whole ∙ ap suc (length-append f.named f.more) in
    let all : attributes_from n n tag.at no_attributes (f.more ++ rest)
    ≡ attributes_answer (attributes_as tag.attributes tag.unknown f.bad) rest =
    attributes_back n n tag.at tag.attributes tag.unknown f.bad f.more rest no_attributes f.attributes_are (omega (arith, l, le))
    (omega (arith, l, le)) in
    ap (λ (x : List Place). attributes_from n n tag.at no_attributes x >>= or_doubled tag.at (tag_name ps)) w.behind
    ∙ ap (λ (x : Result (ReadAttributes × List Place) Fault). x >>= or_doubled tag.at (tag_name ps)) all
    ∙ ap (λ (x : List ℕ). or_doubled tag.at x (attributes_as tag.attributes tag.unknown f.bad, rest)) w.is

at_tag : (n : ℕ) (tag : Tag) (one rest : List Place) (f : IsTag tag one rest) → length one ≤ suc n
    → token_at n f.angle (f.named ++ (f.more ++ rest))
    ≡ or_doubled tag.at tag.name (attributes_as tag.attributes tag.unknown f.bad, rest)
unfolding token_at
at_tag n tag one rest f le =
    let ps = f.named ++ (f.more ++ rest) in
    let w = named_back tag.name f.named (f.more ++ rest) f.name_is f.stops in
    ap (λ (b : Bool). cond b (cond (begins_with is_ascii_alphabetic ps) (start_at n f.angle.at ps)
    (cond (begins 47 ps) (end_at f.angle.at (behind_first ps))
    (cond (begins 33 ps) (mark_at f.angle.at ps)
    (cond (begins 63 ps) (fault f.angle.at 3) (token_answer (Char f.angle.at f.angle.character Plain) ps)))))
    (cond (f.angle.character == 38) (char_by_meaning f.angle.at (meaning_at ps))
    (token_answer (Char f.angle.at f.angle.character Plain) ps))) (eq-eqb f.angle.character 60 f.opens)
    ∙ ap (λ (b : Bool). cond b (start_at n f.angle.at ps)
    (cond (begins 47 ps) (end_at f.angle.at (behind_first ps))
    (cond (begins 33 ps) (mark_at f.angle.at ps)
    (cond (begins 63 ps) (fault f.angle.at 3) (token_answer (Char f.angle.at f.angle.character Plain) ps)))))
    w.letter
    ∙ ap (λ (x : ℕ). start_at n x ps) f.stands
    ∙ tag_attributes n tag one rest f le

-- the end of a text that is up to some characters
raw_stops : (name : List ℕ) (inner rest : List Place) → NoneBegins (ends_raw name) inner rest → ends_raw name rest ≡ true
    → (behind_raw name (inner ++ rest) ≡ rest) × (raw_codes name (inner ++ rest) ≡ codes_of inner)
raw_stops name [] [] h over = (refl, refl)
raw_stops name [] (p ∷ rest) h over = (
  ap (λ (b : Bool). cond b (p ∷ rest) (behind_raw name rest)) over,
  ap (λ (b : Bool). cond b [] (p.character ∷ raw_codes name rest)) over,
)
raw_stops name (p ∷ inner) rest h over =
    let r = raw_stops name inner rest h.1 over in (
      ap (λ (b : Bool). cond b (p ∷ (inner ++ rest)) (behind_raw name (inner ++ rest))) h.0 ∙ r.0,
      ap (λ (b : Bool). cond b [] (p.character ∷ raw_codes name (inner ++ rest))) h.0 ∙ ap (λ (x : List ℕ). p.character ∷ x) r.1,
    )

text_stops : (t : List ℕ) (inner rest : List Place) → NoneBegins (begins_text t) inner rest → begins_text t rest ≡ true → (c : ℕ)
    → begins c rest ≡ true → from_text t (inner ++ rest) ≡ rest
text_stops t [] [] h over c b = refl
text_stops t [] (p ∷ rest) h over c b = ap (λ (b : Bool). cond b (p ∷ rest) (from_text t rest)) over
text_stops t (p ∷ inner) rest h over c b = ap (λ (b : Bool). cond b (p ∷ (inner ++ rest)) (from_text t (inner ++ rest))) h.0
    ∙ text_stops t inner rest h.1 over c b

-- an end tag after its </
pub end_back : (at : ℕ) (name : List ℕ) (one rest : List Place) (f : IsEndTag at name one rest)
    → end_at at (f.named ++ (f.white ++ (f.last ∷ rest))) ≡ token_answer (End at name) rest
unfolding end_at
end_back at name one rest f =
    let tail = f.white ++ (f.last ∷ rest) in
    let ps = f.named ++ tail in
    let w = named_back name f.named tail f.name_is f.stops in
    let space : behind_while is_space (behind_while is_name_char ps) ≡ f.last ∷ rest = ap (behind_while is_space) w.behind
    ∙ behind_back is_space f.white (f.last ∷ rest) f.spaces (ap is_space f.ends) in
    ap (λ (x : List Place). cond (begins_with is_ascii_alphabetic ps && begins 62 x)
    (token_answer (End at (tag_name ps)) (behind_first x)) (fault at 3)) space
    ∙ ap (λ (b : Bool). cond (b && begins 62 (f.last ∷ rest)) (token_answer (End at (tag_name ps)) rest) (fault at 3)) w.letter
    ∙ ap (λ (b : Bool). cond b (token_answer (End at (tag_name ps)) rest) (fault at 3)) (begins_back 62 f.last rest f.ends)
    ∙ ap (λ (x : List ℕ). token_answer (End at x) rest) w.is

pub end_whole : (at : ℕ) (name : List ℕ) (one rest : List Place) (f : IsEndTag at name one rest)
    → one ++ rest ≡ f.angle ∷ (f.slash ∷ (f.named ++ (f.white ++ (f.last ∷ rest))))
end_whole at name one rest f = ap (λ (x : List Place). x ++ rest) f.whole
    ∙ ap (λ (x : List Place). f.angle ∷ (f.slash ∷ x)) (append_assoc f.named (f.white ++ f.last ∷ []) rest
    ∙ ap (λ (x : List Place). f.named ++ x) (append_assoc f.white (f.last ∷ []) rest))

piece_place : (inner rest : List Place)
    → raw_piece (place_or 0 (inner ++ rest)) (codes_of inner) ≡ raw_piece (place_or 0 inner) (codes_of inner)
piece_place [] rest = refl
piece_place (p ∷ inner) rest = refl

-- raw text and its end
raw_back : (tag : Tag) (text : Option Piece) (one rest : List Place) (f : IsRaw tag text one rest)
    → raw_at tag (f.inner ++ (f.ending ++ rest)) ≡ token_answer (Raw tag text) rest
unfolding raw_at
raw_back tag text one rest f =
    let behind = f.ending ++ rest in
    let ps = f.inner ++ behind in
    let r = raw_stops tag.name f.inner behind f.not_over f.over in
    let e = f.end_is in
    let whole = end_whole f.at f.name f.ending rest e in
    let opens : begins 60 behind ≡ true = ap (begins 60) whole
    ∙ begins_back 60 e.angle (e.slash ∷ (e.named ++ (e.white ++ (e.last ∷ rest)))) e.opens in
    let stands : place_or 0 behind ≡ f.at = ap (place_or 0) whole ∙ e.stands in
    let ended : end_at (place_or 0 behind) (drop 2 behind) ≡ token_answer (End f.at f.name) rest =
    ap (λ (x : ℕ). end_at x (drop 2 behind)) stands ∙ ap (λ (x : List Place). end_at f.at (drop 2 x)) whole
    ∙ end_back f.at f.name f.ending rest e in
    ap (λ (x : List Place). cond (begins 60 x)
    (raw_ended tag (raw_piece (place_or 0 ps) (raw_codes tag.name ps)) (end_at (place_or 0 x) (drop 2 x)))
    (token_answer (Raw (with_late tag (record { at = tag.at; rule = 9 })) None) [])) r.0
    ∙ ap (λ (b : Bool). cond b (raw_ended tag (raw_piece (place_or 0 ps) (raw_codes tag.name ps))
    (end_at (place_or 0 behind) (drop 2 behind)))
    (token_answer (Raw (with_late tag (record { at = tag.at; rule = 9 })) None) [])) opens
    ∙ ap (λ (x : Result (Token × List Place) Fault). raw_ended tag (raw_piece (place_or 0 ps) (raw_codes tag.name ps)) x) ended
    ∙ ap (λ (x : List ℕ). token_answer (Raw tag (raw_piece (place_or 0 ps) x)) rest) r.1
    ∙ ap (λ (x : Option Piece). token_answer (Raw tag x) rest) (piece_place f.inner behind ∙ sym f.text_is)

-- the token in front of places
abbrev pub front_token : ℕ → List Place → Result (Token × List Place) Fault
front_token n [] = fault 0 0
front_token n (p ∷ ps) = token_at n p ps

-- a tag of which no two attributes have one name, and one of which two have
pub started_back : (n : ℕ) (tag : Tag) (one rest : List Place) (f : IsTag tag one rest) → IsOnce tag → length one ≤ suc n
    → front_token n (one ++ rest) ≡ behind_tag tag rest
started_back n tag one rest f once le =
    ap (front_token n) (tag_whole tag one rest f) ∙ at_tag n tag one rest f le
    ∙ ap (λ (b : Bool). cond b (fault tag.at 4)
    (behind_tag (tag_of tag.at tag.name (attributes_as tag.attributes tag.unknown f.bad)) rest)) once
    ∙ ap (λ (x : Option Fault). behind_tag
    (record { at = tag.at; name = tag.name; attributes = tag.attributes; unknown = tag.unknown; late = x }) rest)
    (sym f.late)

pub doubled_back : (n : ℕ) (tag : Tag) (one rest : List Place) (f : IsTag tag one rest) → is_doubled tag.attributes ≡ true
    → length one ≤ suc n → front_token n (one ++ rest) ≡ fault tag.at 4
doubled_back n tag one rest f twice le =
    ap (front_token n) (tag_whole tag one rest f) ∙ at_tag n tag one rest f le
    ∙ ap (λ (b : Bool). cond b (fault tag.at 4)
    (behind_tag (tag_of tag.at tag.name (attributes_as tag.attributes tag.unknown f.bad)) rest)) twice

no_raw : (tag : Tag) (rest : List Place) → is_raw tag.name ≡ false
    → behind_tag tag rest ≡ cond (takes_line_feed tag rest) (token_answer (Start tag) (behind_first rest))
    (token_answer (Start tag) rest)
unfolding behind_tag
no_raw tag rest h =
    ap (λ (b : Bool). cond b (raw_at tag rest)
    (cond (takes_line_feed tag rest) (token_answer (Start tag) (behind_first rest)) (token_answer (Start tag) rest))) h

some_raw : (tag : Tag) (rest : List Place) → is_raw tag.name ≡ true → behind_tag tag rest ≡ raw_at tag rest
unfolding behind_tag
some_raw tag rest h =
    ap (λ (b : Bool). cond b (raw_at tag rest)
    (cond (takes_line_feed tag rest) (token_answer (Start tag) (behind_first rest)) (token_answer (Start tag) rest))) h

front_less : (front more one : List Place) (k : ℕ) → one ≡ front ++ more → length one ≤ k → length front ≤ k
front_less front more one k e le = let l : length one ≡ length front + length more = ap length e ∙ length-append front more
    in omega (arith, l, le)

-- characters of a name or a mark, one by one
pub record Head (c : ℕ) (cs : List ℕ) (ps : List Place) : Type 0 where
  pub place : Place
  pub more : List Place
  pub whole : ps ≡ place ∷ more
  pub is : place.character ≡ c
  pub rest : codes_of more ≡ cs

pub head_of : (c : ℕ) (cs : List ℕ) (ps : List Place) → codes_of ps ≡ c ∷ cs → Head c cs ps
head_of c cs [] h = absurd cc
head_of c cs (p ∷ ps) h = record {
  place = p;
  more = ps;
  whole = refl;
  is = first_is p.character c (codes_of ps) cs h;
  rest = rest_is p.character c (codes_of ps) cs h;
}
  where
    first_is : (a b : ℕ) (as' bs : List ℕ) → a ∷ as' ≡ b ∷ bs → a ≡ b
    first_is a b as' bs e = cc

    rest_is : (a b : ℕ) (as' bs : List ℕ) → a ∷ as' ≡ b ∷ bs → as' ≡ bs
    rest_is a b as' bs e = cc

pub text_begins : (t : List ℕ) (front rest : List Place) → codes_of front ≡ t → (begins_text t (front ++ rest) ≡ true)
    × (drop (length t) (front ++ rest) ≡ rest)
text_begins [] [] rest h = (refl, refl)
text_begins [] (p ∷ front) rest h = absurd cc
text_begins (c ∷ t) front rest h =
    let f = head_of c t front h in
    let r = text_begins t f.more rest f.rest in
    let whole : front ++ rest ≡ f.place ∷ (f.more ++ rest) = ap (λ (x : List Place). x ++ rest) f.whole in (
      ap (begins_text (c ∷ t)) whole ∙ ap (λ (b : Bool). b && begins_text t (f.more ++ rest)) (eq-eqb f.place.character c f.is)
          ∙ r.0,
      ap (drop (suc (length t))) whole ∙ r.1,
    )

-- markup other than a tag
abbrev marked : ℕ → Place → List Place → Result (Token × List Place) Fault
marked n p ps =
    cond (begins_with is_ascii_alphabetic ps) (start_at n p.at ps)
    (cond (begins 47 ps) (end_at p.at (behind_first ps))
    (cond (begins 33 ps) (mark_at p.at ps)
    (cond (begins 63 ps) (fault p.at 3) (token_answer (Char p.at p.character Plain) ps))))

pub at_angle : (n : ℕ) (p : Place) (ps : List Place) → p.character ≡ 60 → token_at n p ps ≡ marked n p ps
unfolding token_at
at_angle n p ps e =
    ap (λ (b : Bool). cond b (marked n p ps)
    (cond (p.character == 38) (char_by_meaning p.at (meaning_at ps)) (token_answer (Char p.at p.character Plain) ps)))
    (eq-eqb p.character 60 e)

at_slash : (n : ℕ) (p slash : Place) (ps : List Place) → p.character ≡ 60 → slash.character ≡ 47
    → token_at n p (slash ∷ ps) ≡ end_at p.at ps
at_slash n p slash ps e s =
    at_angle n p (slash ∷ ps) e
    ∙ ap (λ (b : Bool). cond b (start_at n p.at (slash ∷ ps))
    (cond (begins 47 (slash ∷ ps)) (end_at p.at ps)
    (cond (begins 33 (slash ∷ ps)) (mark_at p.at (slash ∷ ps))
    (cond (begins 63 (slash ∷ ps)) (fault p.at 3) (token_answer (Char p.at p.character Plain) (slash ∷ ps))))))
    (ap is_ascii_alphabetic s)
    ∙ ap (λ (b : Bool). cond b (end_at p.at ps)
    (cond (begins 33 (slash ∷ ps)) (mark_at p.at (slash ∷ ps))
    (cond (begins 63 (slash ∷ ps)) (fault p.at 3) (token_answer (Char p.at p.character Plain) (slash ∷ ps)))))
    (begins_back 47 slash ps s)

at_mark : (n : ℕ) (p mark : Place) (ps : List Place) → p.character ≡ 60 → mark.character ≡ 33
    → token_at n p (mark ∷ ps) ≡ mark_at p.at (mark ∷ ps)
at_mark n p mark ps e s =
    at_angle n p (mark ∷ ps) e
    ∙ ap (λ (b : Bool). cond b (start_at n p.at (mark ∷ ps))
    (cond (begins 47 (mark ∷ ps)) (end_at p.at ps)
    (cond (begins 33 (mark ∷ ps)) (mark_at p.at (mark ∷ ps))
    (cond (begins 63 (mark ∷ ps)) (fault p.at 3) (token_answer (Char p.at p.character Plain) (mark ∷ ps))))))
    (ap is_ascii_alphabetic s)
    ∙ ap (λ (b : Bool). cond b (end_at p.at ps)
    (cond (begins 33 (mark ∷ ps)) (mark_at p.at (mark ∷ ps))
    (cond (begins 63 (mark ∷ ps)) (fault p.at 3) (token_answer (Char p.at p.character Plain) (mark ∷ ps)))))
    (ap (λ (c : ℕ). eqb c 47) s)
    ∙ ap (λ (b : Bool). cond b (mark_at p.at (mark ∷ ps))
    (cond (begins 63 (mark ∷ ps)) (fault p.at 3) (token_answer (Char p.at p.character Plain) (mark ∷ ps))))
    (begins_back 33 mark ps s)

comment_back : (n at : ℕ) (one rest : List Place) → IsComment at one rest
    → front_token n (one ++ rest) ≡ token_answer (Comment at) rest
unfolding mark_at comment_at
comment_back n at one rest f =
    let a = head_of 60 (33 ∷ (45 ∷ (45 ∷ []))) f.opening f.opens in
    let b = head_of 33 (45 ∷ (45 ∷ [])) a.more a.rest in
    let behind = f.closing ++ rest in
    let tail = f.inner ++ behind in
    let m = text_begins (codes "!--") a.more tail a.rest in
    let c = text_begins (codes "-->") f.closing rest f.closes in
    let d = head_of 45 (45 ∷ (62 ∷ [])) f.closing f.closes in
    let closing : begins 45 behind ≡ true = ap (λ (x : List Place). begins 45 (x ++ rest)) d.whole
    ∙ begins_back 45 d.place (d.more ++ rest) d.is in
    let stops : from_text (codes "-->") tail ≡ behind = text_stops (codes "-->") f.inner behind f.not_over c.0 45 closing in
    let whole : one ++ rest ≡ a.place ∷ (a.more ++ tail) =
    ap (λ (x : List Place). x ++ rest) f.whole ∙ append_assoc f.opening (f.inner ++ f.closing) rest
    ∙ ap (λ (x : List Place). f.opening ++ x) (append_assoc f.inner f.closing rest)
    ∙ ap (λ (x : List Place). x ++ tail) a.whole in
    let marks : a.more ++ tail ≡ b.place ∷ (b.more ++ tail) = ap (λ (x : List Place). x ++ tail) b.whole in
    ap (front_token n) whole
    ∙ ap (token_at n a.place) marks ∙ at_mark n a.place b.place (b.more ++ tail) a.is b.is ∙ ap (mark_at a.place.at) (sym marks)
    ∙ ap (λ (x : Bool). cond x (comment_at a.place.at (drop 3 (a.more ++ tail)))
    (cond (begins_folded (codes "!doctype") (a.more ++ tail)) (doctype_at a.place.at (drop 8 (a.more ++ tail)))
    (fault a.place.at 3))) m.0
    ∙ ap (comment_at a.place.at) m.1
    ∙ ap (λ (x : List Place). cond (begins 45 x) (token_answer (Comment a.place.at) (drop 3 x)) (fault a.place.at 2)) stops
    ∙ ap (λ (x : Bool). cond x (token_answer (Comment a.place.at) (drop 3 behind)) (fault a.place.at 2)) closing
    ∙ ap (token_answer (Comment a.place.at)) c.1
    ∙ ap (λ (x : ℕ). token_answer (Comment x) rest) (sym (ap (place_or 0) a.whole) ∙ f.stands)

-- the same without regard to case
pub record Folded (c : ℕ) (cs : List ℕ) (ps : List Place) : Type 0 where
  pub place : Place
  pub more : List Place
  pub whole : ps ≡ place ∷ more
  pub is : to_ascii_lowercase place.character ≡ c
  pub rest : map to_ascii_lowercase (codes_of more) ≡ cs

pub folded_of : (c : ℕ) (cs : List ℕ) (ps : List Place) → map to_ascii_lowercase (codes_of ps) ≡ c ∷ cs → Folded c cs ps
folded_of c cs [] h = absurd cc
folded_of c cs (p ∷ ps) h = record {
  place = p;
  more = ps;
  whole = refl;
  is = first_is (to_ascii_lowercase p.character) c (map to_ascii_lowercase (codes_of ps)) cs h;
  rest = rest_is (to_ascii_lowercase p.character) c (map to_ascii_lowercase (codes_of ps)) cs h;
}
  where
    first_is : (a b : ℕ) (as' bs : List ℕ) → a ∷ as' ≡ b ∷ bs → a ≡ b
    first_is a b as' bs e = cc

    rest_is : (a b : ℕ) (as' bs : List ℕ) → a ∷ as' ≡ b ∷ bs → as' ≡ bs
    rest_is a b as' bs e = cc

pub folded_begins : (t : List ℕ) (front rest : List Place) → map to_ascii_lowercase (codes_of front) ≡ t
    → (begins_folded t (front ++ rest) ≡ true) × (drop (length t) (front ++ rest) ≡ rest)
folded_begins [] [] rest h = (refl, refl)
folded_begins [] (p ∷ front) rest h = absurd cc
folded_begins (c ∷ t) front rest h =
    let f = folded_of c t front h in
    let r = folded_begins t f.more rest f.rest in
    let whole : front ++ rest ≡ f.place ∷ (f.more ++ rest) = ap (λ (x : List Place). x ++ rest) f.whole in (
      ap (begins_folded (c ∷ t)) whole
          ∙ ap (λ (b : Bool). b && begins_folded t (f.more ++ rest)) (eq-eqb (to_ascii_lowercase f.place.character) c f.is) ∙ r.0,
      ap (drop (suc (length t))) whole ∙ r.1,
    )

-- a character that isn't a letter stays as it is in lower case
unfolded_mark : (c : ℕ) → to_ascii_lowercase c ≡ 33 → c ≡ 33
unfolded_mark c h = by_case (nat_lt c 65) (nat_lt c 91) refl h
  where
    by_case : (a b : Bool) → nat_lt c 65 ≡ a → cond a c (cond b (c + 32) c) ≡ 33 → c ≡ 33
    by_case true b e h = h
    by_case false true e h = grind (arith, e, h)
    by_case false false e h = h

unfolded_other : (c : ℕ) → to_ascii_lowercase c ≡ 100 → eqb c 45 ≡ false
unfolded_other c h = ne_eqb c 45 (λ e. let g : 45 ≡ 100 = sym (ap to_ascii_lowercase e) ∙ h in absurd cc)

doctype_back : (n at : ℕ) (one rest : List Place) → IsDoctype at one
    → front_token n (one ++ rest) ≡ token_answer (Doctype at) rest
unfolding mark_at doctype_at
doctype_back n at one rest f =
    let a = folded_of 33 (codes "doctype") f.mark f.marks in
    let b = folded_of 100 (codes "octype") a.more a.rest in
    let tail = f.inner ++ (f.last ∷ rest) in
    let m = folded_begins (codes "!doctype") f.mark tail f.marks in
    let whole : one ++ rest ≡ f.angle ∷ (f.mark ++ tail) =
    ap (λ (x : List Place). x ++ rest) f.whole
    ∙ ap (λ (x : List Place). f.angle ∷ x) (append_assoc f.mark (f.inner ++ f.last ∷ []) rest
    ∙ ap (λ (x : List Place). f.mark ++ x) (append_assoc f.inner (f.last ∷ []) rest)) in
    let marks : f.mark ++ tail ≡ a.place ∷ (b.place ∷ (b.more ++ tail)) =
    ap (λ (x : List Place). x ++ tail) (a.whole ∙ ap (λ (x : List Place). a.place ∷ x) b.whole) in
    let mark : a.place.character ≡ 33 = unfolded_mark a.place.character a.is in
    let other : begins_text (codes "!--") (f.mark ++ tail) ≡ false =
    ap (begins_text (codes "!--")) marks
    ∙ ap (λ (x : Bool). x && (eqb b.place.character 45 && begins_text (codes "-") (b.more ++ tail)))
    (eq-eqb a.place.character 33 mark)
    ∙ ap (λ (x : Bool). x && begins_text (codes "-") (b.more ++ tail)) (unfolded_other b.place.character b.is) in
    let stops : begins_with (is_other 62) (f.last ∷ rest) ≡ false = ap (is_other 62) f.ends in
    let behind : behind_while (is_other 62) tail ≡ f.last ∷ rest =
    behind_back (is_other 62) f.inner (f.last ∷ rest) f.passes stops in
    ap (front_token n) whole
    ∙ ap (token_at n f.angle) marks ∙ at_mark n f.angle a.place (b.place ∷ (b.more ++ tail)) f.opens mark
    ∙ ap (mark_at f.angle.at) (sym marks)
    ∙ ap (λ (x : Bool). cond x (comment_at f.angle.at (drop 3 (f.mark ++ tail)))
    (cond (begins_folded (codes "!doctype") (f.mark ++ tail)) (doctype_at f.angle.at (drop 8 (f.mark ++ tail)))
    (fault f.angle.at 3))) other
    ∙ ap (λ (x : Bool). cond x (doctype_at f.angle.at (drop 8 (f.mark ++ tail))) (fault f.angle.at 3)) m.0
    ∙ ap (doctype_at f.angle.at) m.1
    ∙ ap (λ (x : List Place). cond (begins 62 x) (token_answer (Doctype f.angle.at) (behind_first x)) (fault f.angle.at 3)) behind
    ∙ ap (λ (x : Bool). cond x (token_answer (Doctype f.angle.at) rest) (fault f.angle.at 3)) (begins_back 62 f.last rest f.ends)
    ∙ ap (λ (x : ℕ). token_answer (Doctype x) rest) f.stands

-- a character that begins no markup
plain_angle : (n : ℕ) (p : Place) (ps : List Place) → p.character ≡ 60 → begins_markup ps ≡ false
    → token_at n p ps ≡ token_answer (Char p.at p.character Plain) ps
plain_angle n p ps e h =
    let a = or_parts (begins_with is_ascii_alphabetic ps) (begins 47 ps || (begins 33 ps || begins 63 ps)) h in
    let b = or_parts (begins 47 ps) (begins 33 ps || begins 63 ps) a.1 in
    let c = or_parts (begins 33 ps) (begins 63 ps) b.1 in
    at_angle n p ps e
    ∙ ap (λ (x : Bool). cond x (start_at n p.at ps)
    (cond (begins 47 ps) (end_at p.at (behind_first ps))
    (cond (begins 33 ps) (mark_at p.at ps)
    (cond (begins 63 ps) (fault p.at 3) (token_answer (Char p.at p.character Plain) ps))))) a.0
    ∙ ap (λ (x : Bool). cond x (end_at p.at (behind_first ps))
    (cond (begins 33 ps) (mark_at p.at ps)
    (cond (begins 63 ps) (fault p.at 3) (token_answer (Char p.at p.character Plain) ps)))) b.0
    ∙ ap (λ (x : Bool). cond x (mark_at p.at ps)
    (cond (begins 63 ps) (fault p.at 3) (token_answer (Char p.at p.character Plain) ps))) c.0
    ∙ ap (λ (x : Bool). cond x (fault p.at 3) (token_answer (Char p.at p.character Plain) ps)) c.1

at_amp : (n : ℕ) (p : Place) (ps : List Place) → p.character ≡ 38 → token_at n p ps ≡ char_by_meaning p.at (meaning_at ps)
unfolding token_at
at_amp n p ps e =
    ap (λ (b : Bool). cond b (marked n p ps)
    (cond (p.character == 38) (char_by_meaning p.at (meaning_at ps)) (token_answer (Char p.at p.character Plain) ps)))
    (ap (λ (c : ℕ). eqb c 60) e)
    ∙ ap (λ (b : Bool). cond b (char_by_meaning p.at (meaning_at ps)) (token_answer (Char p.at p.character Plain) ps))
    (eq-eqb p.character 38 e)

plain_other : (n : ℕ) (p : Place) (ps : List Place) → (p.character == 60) ≡ false → (p.character == 38) ≡ false
    → token_at n p ps ≡ token_answer (Char p.at p.character Plain) ps
unfolding token_at
plain_other n p ps a b =
    ap (λ (x : Bool). cond x (marked n p ps)
    (cond (p.character == 38) (char_by_meaning p.at (meaning_at ps)) (token_answer (Char p.at p.character Plain) ps))) a
    ∙ ap (λ (x : Bool). cond x (char_by_meaning p.at (meaning_at ps)) (token_answer (Char p.at p.character Plain) ps)) b

plain_char : (n : ℕ) (p : Place) (ps : List Place) → (p.character ≡ 38 → BeginsReference ps → ⊥)
    → (begins 60 (p ∷ []) ≡ true → begins_markup ps ≡ false) → token_at n p ps ≡ token_answer (Char p.at p.character Plain) ps
plain_char n p ps none markup = by_angle (p.character == 60) (p.character == 38) refl refl
  where
    by_angle : (a b : Bool) → (p.character == 60) ≡ a → (p.character == 38) ≡ b
        → token_at n p ps ≡ token_answer (Char p.at p.character Plain) ps
    by_angle true b e f = plain_angle n p ps (eqb-true p.character 60 e) (markup e)
    by_angle false true e f =
        let is = eqb-true p.character 38 f in
        at_amp n p ps is ∙ ap (char_by_meaning p.at) (plain_back ps (none is))
        ∙ ap (λ (c : ℕ). token_answer (Char p.at c Plain) ps) (sym is)
    by_angle false false e f = plain_other n p ps e f

char_back : (n at c : ℕ) (s : Spelled) (one rest : List Place) → IsCharacter at c s one rest
    → (begins 60 one ≡ true → begins_markup rest ≡ false) → front_token n (one ++ rest) ≡ token_answer (Char at c s) rest
char_back n at c Plain one rest h markup =
    ap (λ (x : List Place). front_token n (x ++ rest)) h.1
    ∙ plain_char n h.0 rest (λ e. h.4 (sym h.3 ∙ e)) (λ e. markup (ap (begins 60) h.1 ∙ e))
    ∙ ap (λ (x : ℕ). token_answer (Char x h.0.character Plain) rest) h.2 ∙ ap (λ (x : ℕ). token_answer (Char at x Plain) rest) h.3
char_back n at c Reference one rest h markup =
    ap (λ (x : List Place). front_token n (x ++ rest)) h.2
    ∙ at_amp n h.0 (h.1 ++ rest) h.4 ∙ ap (char_by_meaning h.0.at) (reference_back c h.1 rest h.5)
    ∙ ap (λ (x : ℕ). token_answer (Char x c Reference) rest) h.3
char_back n at c Unknown one rest h markup =
    ap (λ (x : List Place). front_token n (x ++ rest)) h.1
    ∙ at_amp n h.0 rest h.3
    ∙ ap (char_by_meaning h.0.at) (ap meaning_at h.5.2 ∙ unknown_back h.5.0 h.5.1 h.5.3
    ∙ ap (λ (x : List Place). (meanings.Unknown, x)) (sym h.5.2))
    ∙ ap (λ (x : ℕ). token_answer (Char x 38 Unknown) rest) h.2 ∙ ap (λ (x : ℕ). token_answer (Char at x Unknown) rest) (sym h.4)

-- a token that is spelled is read
pub token_back : (n : ℕ) (t : Token) (one rest : List Place) → IsToken t one rest → length one ≤ suc n
    → front_token n (one ++ rest) ≡ token_answer t rest
token_back n (Start tag) one rest h le = by_form h.1
  where
    by_form : IsStart tag one rest → front_token n (one ++ rest) ≡ token_answer (Start tag) rest
    by_form (inl g) =
        started_back n tag one rest g.0 h.2 le
        ∙ no_raw tag rest h.0
        ∙ ap (λ (b : Bool). cond b (token_answer (Start tag) (behind_first rest)) (token_answer (Start tag) rest)) g.1
    by_form (inr g) =
        ap (λ (x : List Place). front_token n (x ++ rest)) g.2 ∙ ap (front_token n) (append_assoc g.0 (g.1 ∷ []) rest)
        ∙ started_back n tag g.0 (g.1 ∷ rest) g.3 h.2 (front_less g.0 (g.1 ∷ []) one (suc n) g.2 le)
        ∙ no_raw tag (g.1 ∷ rest) h.0
        ∙ ap (λ (b : Bool). cond b (token_answer (Start tag) rest) (token_answer (Start tag) (g.1 ∷ rest))) g.4
token_back n (Raw tag text) one rest h le =
    let f = h.1 in
    ap (λ (x : List Place). front_token n (x ++ rest)) f.whole
    ∙ ap (front_token n) (append_assoc f.tagged (f.inner ++ f.ending) rest
    ∙ ap (λ (x : List Place). f.tagged ++ x) (append_assoc f.inner f.ending rest))
    ∙ started_back n tag f.tagged (f.inner ++ (f.ending ++ rest)) f.tag_is h.2
    (front_less f.tagged (f.inner ++ f.ending) one (suc n) f.whole le)
    ∙ some_raw tag (f.inner ++ (f.ending ++ rest)) h.0
    ∙ raw_back tag text one rest f
token_back n (End at m) one rest f le =
    ap (front_token n) (end_whole at m one rest f)
    ∙ at_slash n f.angle f.slash (f.named ++ (f.white ++ (f.last ∷ rest))) f.opens f.slashed
    ∙ ap (λ (x : ℕ). end_at x (f.named ++ (f.white ++ (f.last ∷ rest)))) f.stands
    ∙ end_back at m one rest f
token_back n (Comment at) one rest h le = comment_back n at one rest h
token_back n (Doctype at) one rest h le = doctype_back n at one rest h
token_back n (Char at c s) one rest h le = char_back n at c s one rest h.0 h.1
