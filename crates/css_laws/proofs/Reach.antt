-- What has a form is read at least so far, and by itself it is read as that.
use Rattle.std.proofs.Common.{◌≡◌, ℕ, ◌≤◌, List, [], ◌∷◌, ◌++◌, length, Bool, true, false, cond, not, ◌&&◌, ◌||◌, refl}
use Rattle.std.proofs.Common.{sym, ap, subst, ◌∙◌, append_assoc, arith, length-append, inl, inr}
use Rattle.std.specs.Prelude.{◌⊎◌, ◌==◌, Option, Some, None, encode_utf8, encode_utf8_all}
use Rattle.std.specs.Char.{is_ascii_digit}
use Rattle.std.proofs.lemmas.Bool.{true≢false, eq-eqb, eqb-true, ne_eqb, and_parts}
use Rattle.html_grammar.specs.declared.place.Place.{Place}
use Rattle.html_grammar.specs.Places.{behind_first, place_or, begins}
use Rattle.html_grammar.specs.Tokens.{is_space}
use Rattle.html_grammar.specs.Spelling.{SomePass, NoneBegins}
use Rattle.css_tokens.specs.Characters.{is_name, is_start, is_sign}
use Rattle.css_tokens.specs.declared.lexeme.Lexeme.{Lexeme}
use Rattle.css_tokens.specs.declared.lexeme.Symbol.{Symbol}
use Rattle.css_tokens.specs.declared.lexeme.Symbol.TheVariants.{Ident, Hash, Quoted, Number, Percent, Dimension, Function, Delim}
use Rattle.css_tokens.specs.declared.lexeme.Symbol.TheVariants.{Space, Broken}
use Rattle.css_tokens.specs.Lexing.{begins_ident, name_text, behind_name, begins_digits}
use Rattle.css_tokens.specs.Lexing.{begins_number}
use Rattle.css_tokens.specs.Lexing.{hash_at, quoted_text, behind_quoted, string_at, other_at}
use Rattle.css_tokens.specs.Lexing.{symbol_at, from_end, comment_at, piece_at}
use Rattle.css_laws.specs.Forms.{text_of, is_quote, Part, Plain, Escaped, spelled}
use Rattle.css_laws.specs.Forms.{AreParts, IsString, IsLone, IsOpenString, ends_comment, IsComment, IsOpenComment, is_other}
use Rattle.css_laws.specs.Forms.{IsForm, IsPiece}
use Rattle.css_laws.proofs.Runs.{behind_through, behind_back, codes_back, behind_le, begins_back}
use Rattle.css_laws.proofs.Runs.{begins_some, all_pass}
use Rattle.css_laws.proofs.Found.{placed, pair, piece, piece_has, some_places, none_begins}
use Rattle.css_laws.proofs.Branches.{Reaches, SymbolReaches, exact, and_false, not_true, to_other, space_reach, ident_reach}
use Rattle.css_laws.proofs.Branches.{function_read}
use Rattle.css_laws.proofs.Numbers.{number_reach, percent_read, unit_reach}

-- Hashes.

at_hash : (p : Place) (ps : List Place) → p.character ≡ 35 → piece_at (p ∷ ps) ≡ placed p.at (hash_at ps)
unfolding piece_at symbol_at other_at
at_hash p ps e = ap (λ (c : ℕ). piece_at (record { at = p.at; character = c } ∷ ps)) e

hash_by : (name rest : List Place) → SomePass is_name name
    → hash_at (name ++ rest) ≡ (pair (Hash (name_text (name ++ rest))) (behind_name (name ++ rest)))
unfolding hash_at
hash_by name rest h = ap (λ (b : Bool). cond b (pair (Hash (name_text (name ++ rest))) (behind_name (name ++ rest)))
    (pair (Delim 35) (name ++ rest))) (begins_some is_name name rest h)

hash_reach : (p : Place) (name rest : List Place) → p.character ≡ 35 → SomePass is_name name
    → SymbolReaches (Hash (text_of name)) (p ∷ name) rest
hash_reach p name rest e h =
    let passes = all_pass is_name name h in
    let read = λ (r : List Place). at_hash p (name ++ r) e ∙ ap (placed p.at) (hash_by name r h) in
    let l = ap (λ (y : Option Lexeme × List Place). length y.1) (read rest) in
    let b = ap length (behind_through is_name name rest passes) in
    let k = behind_le is_name rest in (
      omega (arith, l, b, k),
      read []
          ∙ ap (λ (x : List ℕ). placed p.at (pair (Hash (encode_utf8_all x)) (behind_name (name ++ []))))
          (codes_back is_name name [] passes refl)
          ∙ ap (λ (x : List Place). placed p.at (pair (Hash (text_of name)) x)) (behind_back is_name name [] passes refl),
    )

-- Strings.

at_quote : (p : Place) (ps : List Place) → is_quote p.character ≡ true
    → piece_at (p ∷ ps) ≡ placed p.at (string_at p.character ps)
unfolding piece_at symbol_at other_at
at_quote p ps h = by_double (p.character == 34) refl h
  where
    by_double : (b : Bool) → (p.character == 34) ≡ b → (b || (p.character == 39)) ≡ true
        → piece_at (p ∷ ps) ≡ placed p.at (string_at p.character ps)
    by_double true e h =
        let c = eqb-true p.character 34 e in
        ap (λ (c : ℕ). piece_at (record { at = p.at; character = c } ∷ ps)) c
        ∙ sym (ap (λ (c : ℕ). placed p.at (string_at c ps)) c)
    by_double false e h =
        let c = eqb-true p.character 39 h in
        ap (λ (c : ℕ). piece_at (record { at = p.at; character = c } ∷ ps)) c
        ∙ sym (ap (λ (c : ℕ). placed p.at (string_at c ps)) c)

-- a backslash is no quote
no_quote : (q c : ℕ) → is_quote q ≡ true → c ≡ 92 → (c == q) ≡ false
no_quote q c quote e = ne_eqb c q (λ same. true≢false (sym quote ∙ ap is_quote (sym same ∙ e)))

parts_behind : (q : ℕ) (parts : List Part) (rest : List Place) → is_quote q ≡ true → AreParts q parts
    → behind_quoted q false (spelled parts ++ rest) ≡ behind_quoted q false rest
parts_behind q [] rest quote h = refl
parts_behind q (Plain p ∷ parts) rest quote h =
    let a = and_parts (not (p.character == q)) (not (p.character == 10) && not (p.character == 92)) h.0 in
    let b = and_parts (not (p.character == 10)) (not (p.character == 92)) a.1 in
    let more = spelled parts ++ rest in
    ap (λ (x : Bool). cond (x || (p.character == 10)) (p ∷ more) (behind_quoted q (p.character == 92) more))
    (not_true (p.character == q) a.0)
    ∙ ap (λ (x : Bool). cond x (p ∷ more) (behind_quoted q (p.character == 92) more)) (not_true (p.character == 10) b.0)
    ∙ ap (λ (x : Bool). behind_quoted q x more) (not_true (p.character == 92) b.1)
    ∙ parts_behind q parts rest quote h.1
parts_behind q (Escaped slash p ∷ parts) rest quote h =
    let more = p ∷ (spelled parts ++ rest) in
    ap (λ (x : Bool). cond (x || (slash.character == 10)) (slash ∷ more) (behind_quoted q (slash.character == 92) more))
    (no_quote q slash.character quote h.0)
    ∙ ap (λ (x : Bool). cond x (slash ∷ more) (behind_quoted q (slash.character == 92) more)) (ap (λ (c : ℕ). c == 10) h.0)
    ∙ ap (λ (x : Bool). behind_quoted q x more) (eq-eqb slash.character 92 h.0)
    ∙ parts_behind q parts rest quote h.1

parts_text : (q : ℕ) (parts : List Part) (rest : List Place) → is_quote q ≡ true → AreParts q parts
    → quoted_text q false rest ≡ [] → quoted_text q false (spelled parts ++ rest) ≡ text_of (spelled parts)
parts_text q [] rest quote h none = none
parts_text q (Plain p ∷ parts) rest quote h none =
    let a = and_parts (not (p.character == q)) (not (p.character == 10) && not (p.character == 92)) h.0 in
    let b = and_parts (not (p.character == 10)) (not (p.character == 92)) a.1 in
    let more = spelled parts ++ rest in
    ap (λ (x : Bool). cond (x || (p.character == 10)) [] (encode_utf8 p.character ++ quoted_text q (p.character == 92) more))
    (not_true (p.character == q) a.0)
    ∙ ap (λ (x : Bool). cond x [] (encode_utf8 p.character ++ quoted_text q (p.character == 92) more))
    (not_true (p.character == 10) b.0)
    ∙ ap (λ (x : Bool). encode_utf8 p.character ++ quoted_text q x more) (not_true (p.character == 92) b.1)
    ∙ ap (λ (x : List ℕ). encode_utf8 p.character ++ x) (parts_text q parts rest quote h.1 none)
parts_text q (Escaped slash p ∷ parts) rest quote h none =
    let more = p ∷ (spelled parts ++ rest) in
    ap (λ (x : Bool). cond (x || (slash.character == 10)) []
    (encode_utf8 slash.character ++ quoted_text q (slash.character == 92) more)) (no_quote q slash.character quote h.0)
    ∙ ap (λ (x : Bool). cond x [] (encode_utf8 slash.character ++ quoted_text q (slash.character == 92) more))
    (ap (λ (c : ℕ). c == 10) h.0)
    ∙ ap (λ (x : Bool). encode_utf8 slash.character ++ quoted_text q x more) (eq-eqb slash.character 92 h.0)
    ∙ ap (λ (x : List ℕ). encode_utf8 slash.character ++ (encode_utf8 p.character ++ x)) (parts_text q parts rest quote h.1 none)

string_by : (q : ℕ) (ps behind : List Place) (text : List ℕ) → behind_quoted q false ps ≡ behind → quoted_text q false ps ≡ text
    → string_at q ps ≡ cond (begins q behind) (pair (Quoted text) (behind_first behind)) (pair (Broken 3) (behind_first behind))
unfolding string_at
string_by q ps behind text e t =
    ap (λ (x : List Place). cond (begins q x) (pair (Quoted (quoted_text q false ps)) (behind_first x))
    (pair (Broken 3) (behind_first x))) e
    ∙ ap (λ (x : List ℕ). cond (begins q behind) (pair (Quoted x) (behind_first behind))
    (pair (Broken 3) (behind_first behind))) t

string_read : (text : List ℕ) (one rest : List Place) → IsString text one
    → piece_at (one ++ rest) ≡ placed (place_or 0 one) (pair (Quoted text) rest)
string_read text one rest s =
    let q = s.opening.character in
    let ps = spelled s.parts ++ (s.closing ∷ rest) in
    let closed = eq-eqb s.closing.character q s.closes in
    let behind : behind_quoted q false ps ≡ s.closing ∷ rest = parts_behind q s.parts (s.closing ∷ rest) s.quoted s.inner
    ∙ ap (λ (b : Bool). cond (b || (s.closing.character == 10)) (s.closing ∷ rest)
    (behind_quoted q (s.closing.character == 92) rest)) closed in
    let none : quoted_text q false (s.closing ∷ rest) ≡ [] =
    ap (λ (b : Bool). cond (b || (s.closing.character == 10)) []
    (encode_utf8 s.closing.character ++ quoted_text q (s.closing.character == 92) rest)) closed in
    ap (λ (x : List Place). piece_at (x ++ rest)) s.whole
    ∙ ap (λ (x : List Place). piece_at (s.opening ∷ x)) (append_assoc (spelled s.parts) (s.closing ∷ []) rest)
    ∙ at_quote s.opening ps s.quoted
    ∙ ap (placed s.opening.at) (string_by q ps (s.closing ∷ rest) text behind
    (parts_text q s.parts (s.closing ∷ rest) s.quoted s.inner none ∙ sym s.text_is)
    ∙ ap (λ (b : Bool). cond b (pair (Quoted text) rest) (pair (Broken 3) rest)) closed)
    ∙ ap (λ (x : List Place). placed (place_or 0 x) (pair (Quoted text) rest)) (sym s.whole)

-- a string that isn't closed
open_by : (q : ℕ) (ps behind : List Place) → behind_quoted q false ps ≡ behind → begins q behind ≡ false
    → string_at q ps ≡ (pair (Broken 3) (behind_first behind))
unfolding string_at
open_by q ps behind e h =
    ap (λ (x : List Place). cond (begins q x) (pair (Quoted (quoted_text q false ps)) (behind_first x))
    (pair (Broken 3) (behind_first x))) e
    ∙ ap (λ (b : Bool). cond b (pair (Quoted (quoted_text q false ps)) (behind_first behind))
    (pair (Broken 3) (behind_first behind))) h

feed_read : (opening feed : Place) (parts : List Part) (rest : List Place) → is_quote opening.character ≡ true
    → AreParts opening.character parts → feed.character ≡ 10
    → piece_at ((opening ∷ (spelled parts ++ feed ∷ [])) ++ rest) ≡ placed opening.at (pair (Broken 3) rest)
feed_read opening feed parts rest quote h e =
    let q = opening.character in
    let ps = spelled parts ++ (feed ∷ rest) in
    let no_end : (feed.character == q) ≡ false =
    ne_eqb feed.character q (λ same. true≢false (sym quote ∙ ap is_quote (sym same ∙ e))) in
    let behind : behind_quoted q false ps ≡ feed ∷ rest = parts_behind q parts (feed ∷ rest) quote h
    ∙ ap (λ (b : Bool). cond (b || (feed.character == 10)) (feed ∷ rest) (behind_quoted q (feed.character == 92) rest)) no_end
    ∙ ap (λ (b : Bool). cond b (feed ∷ rest) (behind_quoted q (feed.character == 92) rest)) (eq-eqb feed.character 10 e) in
    ap (λ (x : List Place). piece_at (opening ∷ x)) (append_assoc (spelled parts) (feed ∷ []) rest)
    ∙ at_quote opening ps quote
    ∙ ap (placed opening.at) (open_by q ps (feed ∷ rest) behind no_end)

lone_behind : (q : ℕ) (tail : List Place) → is_quote q ≡ true → IsLone tail → behind_quoted q false (tail ++ []) ≡ []
lone_behind q [] quote h = refl
lone_behind q (slash ∷ []) quote h =
    ap (λ (x : Bool). cond (x || (slash.character == 10)) (slash ∷ []) (behind_quoted q (slash.character == 92) []))
    (no_quote q slash.character quote h.0)
    ∙ ap (λ (x : Bool). cond x (slash ∷ []) (behind_quoted q (slash.character == 92) [])) (ap (λ (c : ℕ). c == 10) h.0)
lone_behind q (slash ∷ (p ∷ more)) quote h = absurd (not_empty p more h.1)
  where
    not_empty : (q : Place) (more : List Place) → q ∷ more ≡ [] → ⊥
    not_empty q more e = cc

end_read : (opening : Place) (parts : List Part) (tail : List Place) → is_quote opening.character ≡ true
    → AreParts opening.character parts → IsLone tail
    → piece_at ((opening ∷ (spelled parts ++ tail)) ++ []) ≡ placed opening.at (pair (Broken 3) [])
end_read opening parts tail quote h lone =
    let q = opening.character in
    let ps = spelled parts ++ (tail ++ []) in
    let behind : behind_quoted q false ps ≡ [] = parts_behind q parts (tail ++ []) quote h ∙ lone_behind q tail quote lone in
    ap (λ (x : List Place). piece_at (opening ∷ x)) (append_assoc (spelled parts) tail [])
    ∙ at_quote opening ps quote
    ∙ ap (placed opening.at) (open_by q ps [] behind refl)

-- Comments.

to_comment : (slash star : Place) (ps : List Place) → slash.character ≡ 47 → star.character ≡ 42
    → piece_at (slash ∷ (star ∷ ps)) ≡ comment_at slash.at ps
unfolding piece_at
to_comment slash star ps a b =
    ap (λ (x : Bool). cond (x && begins 42 (star ∷ ps)) (comment_at slash.at ps)
    (placed slash.at (symbol_at (slash ∷ (star ∷ ps))))) (eq-eqb slash.character 47 a)
    ∙ ap (λ (x : Bool). cond x (comment_at slash.at ps) (placed slash.at (symbol_at (slash ∷ (star ∷ ps)))))
    (begins_back 42 star ps b)

from_end_back : (inner rest : List Place) → NoneBegins ends_comment inner rest → (rest ≡ []) ⊎ (ends_comment rest ≡ true)
    → from_end (inner ++ rest) ≡ rest
from_end_back [] [] h over = refl
from_end_back [] (p ∷ rest) h over = by_over over
  where
    not_empty : (p : Place) (rest : List Place) → p ∷ rest ≡ [] → ⊥
    not_empty p rest e = cc

    by_over : (p ∷ rest ≡ []) ⊎ (ends_comment (p ∷ rest) ≡ true) → from_end (p ∷ rest) ≡ p ∷ rest
    by_over (inl e) = absurd (not_empty p rest e)
    by_over (inr e) = ap (λ (b : Bool). cond b (p ∷ rest) (from_end rest)) e
from_end_back (p ∷ inner) rest h over = ap (λ (b : Bool). cond b (p ∷ (inner ++ rest)) (from_end (inner ++ rest))) h.0
    ∙ from_end_back inner rest h.1 over

comment_by : (at : ℕ) (ps behind : List Place) → from_end ps ≡ behind
    → comment_at at ps ≡ cond (begins 42 behind) (piece None (behind_first (behind_first behind)))
    (piece (Some (record { at = at; symbol = Broken 2 })) behind)
unfolding comment_at
comment_by at ps behind e = ap (λ (x : List Place). cond (begins 42 x) (piece None (behind_first (behind_first x)))
    (piece (Some (record { at = at; symbol = Broken 2 })) x)) e

comment_read : (one rest : List Place) → IsComment one → piece_at (one ++ rest) ≡ (piece None rest)
comment_read one rest c =
    let behind = c.last ∷ (c.end ∷ rest) in
    let ps = c.inner ++ behind in
    let over : ends_comment behind ≡ true = ap (λ (b : Bool). b && (c.end.character == 47)) (eq-eqb c.last.character 42 c.closes)
    ∙ eq-eqb c.end.character 47 c.closes_too in
    ap (λ (x : List Place). piece_at (x ++ rest)) c.whole
    ∙ ap (λ (x : List Place). piece_at (c.slash ∷ (c.star ∷ x))) (append_assoc c.inner (c.last ∷ (c.end ∷ [])) rest)
    ∙ to_comment c.slash c.star ps c.opens c.opens_too
    ∙ comment_by c.slash.at ps behind
    (from_end_back c.inner behind (none_begins c.inner c.last c.end [] rest c.not_over) (inr over))
    ∙ ap (λ (b : Bool). cond b (piece None rest) (piece (Some (record { at = c.slash.at; symbol = Broken 2 })) behind))
    (eq-eqb c.last.character 42 c.closes)

open_comment_read : (one rest : List Place) → IsOpenComment one rest
    → piece_at (one ++ []) ≡ placed (place_or 0 one) (pair (Broken 2) [])
open_comment_read one rest c =
    ap (λ (x : List Place). piece_at (x ++ [])) c.whole
    ∙ to_comment c.slash c.star (c.inner ++ []) c.opens c.opens_too
    ∙ comment_by c.slash.at (c.inner ++ []) [] (from_end_back c.inner [] c.not_over (inl refl))
    ∙ ap (λ (x : List Place). placed (place_or 0 x) (pair (Broken 2) [])) (sym c.whole)

-- What stands for itself.

-- each token takes one character at least
one_less : (p : Place) (rest : List Place) → length (piece_at (p ∷ rest)).1 ≤ length rest
one_less p rest =
    let h = piece_has p rest in
    let s = some_places (piece_at (p ∷ rest)).0 h.one (piece_at (p ∷ rest)).1 h.is in
    let l = ap length h.whole ∙ length-append h.one (piece_at (p ∷ rest)).1 in
    omega (arith, s, l)

other_alone : (p : Place) → is_other p.character ≡ true → piece_at (p ∷ []) ≡ placed p.at (pair (Delim p.character) [])
unfolding piece_at other_at hash_at
other_alone p h =
    ap (λ (b : Bool). cond b (comment_at p.at []) (placed p.at (symbol_at all))) (and_false (c == 47))
    ∙ ap (placed p.at) (to_other all (not_true (is_space c) a.0) ident number ∙ by_hash (c == 35) refl)
  where
    c : ℕ
    c = p.character

    all : List Place
    all = p ∷ []

    a : (not (is_space c) ≡ true) × ((not (is_ascii_digit c) && (not (is_quote c) && (not (is_start c) || (c == 45)))) ≡ true)
    a = and_parts (not (is_space c)) (not (is_ascii_digit c) && (not (is_quote c) && (not (is_start c) || (c == 45)))) h

    b : (not (is_ascii_digit c) ≡ true) × ((not (is_quote c) && (not (is_start c) || (c == 45))) ≡ true)
    b = and_parts (not (is_ascii_digit c)) (not (is_quote c) && (not (is_start c) || (c == 45))) a.1

    d : (not (is_quote c) ≡ true) × ((not (is_start c) || (c == 45)) ≡ true)
    d = and_parts (not (is_quote c)) (not (is_start c) || (c == 45)) b.1

    by_start : (x y : Bool) → (not x || y) ≡ true → (x && (not y || false)) ≡ false
    by_start true true h = refl
    by_start true false h = absurd cc
    by_start false y h = refl

    ident : begins_ident all ≡ false
    ident = by_start (is_start c) (c == 45) d.1

    by_sign : (x : Bool) → cond x (begins_digits []) (begins_digits all) ≡ false
    by_sign true = refl
    by_sign false = ap (λ (x : Bool). x || ((c == 46) && false)) (not_true (is_ascii_digit c) b.0) ∙ and_false (c == 46)

    number : begins_number all ≡ false
    number = by_sign (is_sign c)

    by_hash : (x : Bool) → (c == 35) ≡ x
        → cond x (hash_at []) (cond (is_quote c) (string_at c []) (pair (Delim c) [])) ≡ (pair (Delim c) [])
    by_hash true e = ap (λ (k : ℕ). (pair (Delim k) [])) (sym (eqb-true c 35 e))
    by_hash false e = ap (λ (x : Bool). cond x (string_at c []) (pair (Delim c) [])) (not_true (is_quote c) d.0)

other_reach : (p : Place) (c : ℕ) (rest : List Place) → p.character ≡ c → is_other c ≡ true
    → SymbolReaches (Delim c) (p ∷ []) rest
other_reach p c rest e h = (
  one_less p rest,
  other_alone p (ap is_other e ∙ h)
      ∙ ap (λ (k : ℕ). placed p.at (pair (Delim k) [])) e,
)

-- All together.

symbol_exact : (s : Symbol) (one rest : List Place) → ((r : List Place) → piece_at (one ++ r) ≡ placed (place_or 0 one) (s, r))
    → SymbolReaches s one rest
symbol_exact s one rest h = let l = ap (λ (y : Option Lexeme × List Place). length y.1) (h rest) in (omega (arith, l), h [])

symbol_at_end : (s : Symbol) (one rest : List Place) → rest ≡ [] → piece_at (one ++ []) ≡ placed (place_or 0 one) (s, [])
    → SymbolReaches s one rest
symbol_at_end s one rest e h =
    let l = ap (λ (r : List Place). length (piece_at (one ++ r)).1) e ∙ ap (λ (y : Option Lexeme × List Place). length y.1) h in
    (omega (arith, l), h)

symbol_as : (s t : Symbol) (one two rest : List Place) → s ≡ t → one ≡ two → SymbolReaches s one rest → SymbolReaches t two rest
symbol_as s t one two rest e f h =
    subst (λ (x : List Place). SymbolReaches t x rest) f (subst (λ (x : Symbol). SymbolReaches x one rest) e h)

open_reach : (one rest : List Place) → IsOpenString one rest → SymbolReaches (Broken 3) one rest
open_reach one rest s = by_end s.ends
  where
    by_end : ((feed : Place) × (s.tail ≡ feed ∷ []) × (feed.character ≡ 10)) ⊎ (IsLone s.tail × (rest ≡ []))
        → SymbolReaches (Broken 3) one rest
    by_end (inl f) =
        let whole : one ≡ s.opening ∷ (spelled s.parts ++ f.0 ∷ []) = s.whole
        ∙ ap (λ (x : List Place). s.opening ∷ (spelled s.parts ++ x)) f.1 in
        symbol_as (Broken 3) (Broken 3) (s.opening ∷ (spelled s.parts ++ f.0 ∷ [])) one rest refl (sym whole)
        (symbol_exact (Broken 3) (s.opening ∷ (spelled s.parts ++ f.0 ∷ [])) rest
        (λ r. feed_read s.opening f.0 s.parts r s.quoted s.inner f.2))
    by_end (inr e) =
        symbol_as (Broken 3) (Broken 3) (s.opening ∷ (spelled s.parts ++ s.tail)) one rest refl (sym s.whole)
        (symbol_at_end (Broken 3) (s.opening ∷ (spelled s.parts ++ s.tail)) rest e.1
        (end_read s.opening s.parts s.tail s.quoted s.inner e.0))

symbol_reach : (s : Symbol) (one rest : List Place) → IsForm s one rest → SymbolReaches s one rest
symbol_reach (Ident text) one rest h = ident_reach text one rest h.0 h.1
symbol_reach (Hash text) one rest h =
    symbol_as (Hash (text_of h.1)) (Hash text) (h.0 ∷ h.1) one rest (ap Hash (sym h.5)) (sym h.2)
    (hash_reach h.0 h.1 rest h.3 h.4)
symbol_reach (Quoted text) one rest h = symbol_exact (Quoted text) one rest (λ r. string_read text one r h)
symbol_reach (Number digits) one rest h = number_reach digits one rest h.0 h.1
symbol_reach (Percent digits) one rest h =
    symbol_as (Percent (text_of h.0)) (Percent digits) (h.0 ++ h.1 ∷ []) one rest (ap Percent (sym h.5)) (sym h.2)
    (symbol_exact (Percent (text_of h.0)) (h.0 ++ h.1 ∷ []) rest (λ r. percent_read h.0 r h.1 h.3 h.4))
symbol_reach (Dimension digits unit) one rest h =
    symbol_as (Dimension (text_of h.0) (text_of h.1)) (Dimension digits unit) (h.0 ++ h.1) one rest
    (ap (λ (x : List ℕ). Dimension x (text_of h.1)) (sym h.5) ∙ ap (λ (x : List ℕ). Dimension digits x) (sym h.6)) (sym h.2)
    (unit_reach h.0 h.1 rest h.3 h.4)
symbol_reach (Function name paren) one rest h =
    symbol_as (Function (text_of h.0) h.1.at) (Function name paren) (h.0 ++ h.1 ∷ []) one rest
    (ap (λ (x : List ℕ). Function x h.1.at) (sym h.5) ∙ ap (λ (x : ℕ). Function name x) (sym h.6)) (sym h.2)
    (symbol_exact (Function (text_of h.0) h.1.at) (h.0 ++ h.1 ∷ []) rest (λ r. function_read h.0 r h.1 h.3 h.4))
symbol_reach (Delim c) one rest h =
    symbol_as (Delim c) (Delim c) (h.0 ∷ []) one rest refl (sym h.1) (other_reach h.0 c rest h.2 h.3)
symbol_reach Space one rest h = space_reach one rest h
symbol_reach (Broken rule) one rest h = by_rule h
  where
    by_rule : (IsOpenComment one rest × (rule ≡ 2)) ⊎ (IsOpenString one rest × (rule ≡ 3)) → SymbolReaches (Broken rule) one rest
    by_rule (inl k) = symbol_as (Broken 2) (Broken rule) one one rest (ap Broken (sym k.1)) refl
        (symbol_at_end (Broken 2) one rest k.0.ends (open_comment_read one rest k.0))
    by_rule (inr k) = symbol_as (Broken 3) (Broken rule) one one rest (ap Broken (sym k.1)) refl (open_reach one rest k.0)

pub reach : (x : Option Lexeme) (one rest : List Place) → IsPiece x one rest → Reaches x one rest
reach None one rest h = exact None one rest (λ r. comment_read one r h)
reach (Some x) one rest h =
    let r = symbol_reach x.symbol one rest h.1 in
    (r.0, r.1 ∙ ap (λ (a : ℕ). (piece (Some (record { at = a; symbol = x.symbol })) [])) (sym h.0))
