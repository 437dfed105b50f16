-- Which branch of the reader is taken, and white space, identifiers and functions as they are read.
use Rattle.std.proofs.Common.{◌≡◌, ℕ, ◌≤◌, List, [], ◌∷◌, ◌++◌, length, Bool, true, false, cond, not, ◌&&◌, ◌||◌, refl}
use Rattle.std.proofs.Common.{sym, ap, ◌∙◌, append_assoc, arith}
use Rattle.std.specs.Prelude.{◌==◌, Option, encode_utf8_all}
use Rattle.std.specs.Char.{is_ascii_digit}
use Rattle.std.proofs.lemmas.Bool.{eqb-true, and_parts}
use Rattle.html_grammar.specs.declared.place.Place.{Place}
use Rattle.html_grammar.specs.Places.{behind_first, place_or, behind_while, begins_with, begins}
use Rattle.html_grammar.specs.Tokens.{is_space}
use Rattle.html_grammar.specs.Spelling.{Passes, SomePass}
use Rattle.css_tokens.specs.Characters.{is_name, is_start}
use Rattle.css_tokens.specs.declared.lexeme.Lexeme.{Lexeme}
use Rattle.css_tokens.specs.declared.lexeme.Symbol.{Symbol}
use Rattle.css_tokens.specs.declared.lexeme.Symbol.TheVariants.{Ident, Function}
use Rattle.css_tokens.specs.declared.lexeme.Symbol.TheVariants.{Space}
use Rattle.css_tokens.specs.Lexing.{begins_ident, name_text, behind_name}
use Rattle.css_tokens.specs.Lexing.{begins_number}
use Rattle.css_tokens.specs.Lexing.{ident_at, numeric_at, other_at}
use Rattle.css_tokens.specs.Lexing.{symbol_at, comment_at, piece_at}
use Rattle.css_laws.specs.Forms.{text_of, IsIdent}
use Rattle.css_laws.proofs.Runs.{behind_through, behind_back, codes_back, behind_le, first_le, begins_back, other_char}
use Rattle.css_laws.proofs.Runs.{begins_other}
use Rattle.css_laws.proofs.Found.{placed, pair}

-- read at least so far, and by itself as this
abbrev pub Reaches : Option Lexeme → List Place → List Place → Type 0
Reaches x one rest = (length (piece_at (one ++ rest)).1 ≤ length rest) × (piece_at (one ++ []) ≡ (x, []))

abbrev pub SymbolReaches : Symbol → List Place → List Place → Type 0
SymbolReaches s one rest = (length (piece_at (one ++ rest)).1 ≤ length rest)
    × (piece_at (one ++ []) ≡ placed (place_or 0 one) (s, []))

-- what is read as it is, whatever stands behind it
pub exact : (x : Option Lexeme) (one rest : List Place) → ((r : List Place) → piece_at (one ++ r) ≡ (x, r)) → Reaches x one rest
exact x one rest h = let l = ap (λ (y : Option Lexeme × List Place). length y.1) (h rest) in (omega (arith, l), h [])

pub at_the_end : (x : Option Lexeme) (one rest : List Place) → rest ≡ [] → piece_at (one ++ []) ≡ (x, []) → Reaches x one rest
at_the_end x one rest e h =
    let l = ap (λ (r : List Place). length (piece_at (one ++ r)).1) e ∙ ap (λ (y : Option Lexeme × List Place). length y.1) h in
    (omega (arith, l), h)

pub and_false : (b : Bool) → (b && false) ≡ false
and_false true = refl
and_false false = refl

pub or_true : (b : Bool) → (b || true) ≡ true
or_true true = refl
or_true false = refl

pub or_false : (b : Bool) → (b || false) ≡ b
or_false true = refl
or_false false = refl

pub not_true : (b : Bool) → not b ≡ true → b ≡ false
not_true true h = absurd cc
not_true false h = refl

pub no_space : (test : ℕ → Bool) (c : ℕ) → test 32 ≡ false → test 10 ≡ false → test 9 ≡ false → test c ≡ true → is_space c ≡ false
no_space test c a b d h =
    ap (λ (x : Bool). x || ((c == 10) || (c == 9))) (other_char test c 32 h a)
    ∙ ap (λ (x : Bool). x || (c == 9)) (other_char test c 10 h b) ∙ other_char test c 9 h d

pub begins_no_space : (test : ℕ → Bool) (ps : List Place) → test 32 ≡ false → test 10 ≡ false → test 9 ≡ false
    → begins_with test ps ≡ true → begins_with is_space ps ≡ false
begins_no_space test [] a b d h = refl
begins_no_space test (p ∷ ps) a b d h = no_space test p.character a b d h

-- Which branch is taken.

pub to_symbol : (ps : List Place) → begins 47 ps ≡ false → piece_at ps ≡ placed (place_or 0 ps) (symbol_at ps)
unfolding piece_at
to_symbol ps h =
    ap (λ (b : Bool). cond (b && begins 42 (behind_first ps)) (comment_at (place_or 0 ps) (behind_first (behind_first ps)))
    (placed (place_or 0 ps) (symbol_at ps))) h

pub to_ident : (ps : List Place) → begins_with is_space ps ≡ false → begins_ident ps ≡ true → symbol_at ps ≡ ident_at ps
unfolding symbol_at
to_ident ps space ident =
    ap (λ (b : Bool). cond b (pair Space (behind_while is_space ps))
    (cond (begins_ident ps) (ident_at ps) (cond (begins_number ps) (numeric_at ps) (other_at ps)))) space
    ∙ ap (λ (b : Bool). cond b (ident_at ps) (cond (begins_number ps) (numeric_at ps) (other_at ps))) ident

pub to_number : (ps : List Place) → begins_with is_space ps ≡ false → begins_ident ps ≡ false → begins_number ps ≡ true
    → symbol_at ps ≡ numeric_at ps
unfolding symbol_at
to_number ps space ident number =
    ap (λ (b : Bool). cond b (pair Space (behind_while is_space ps))
    (cond (begins_ident ps) (ident_at ps) (cond (begins_number ps) (numeric_at ps) (other_at ps)))) space
    ∙ ap (λ (b : Bool). cond b (ident_at ps) (cond (begins_number ps) (numeric_at ps) (other_at ps))) ident
    ∙ ap (λ (b : Bool). cond b (numeric_at ps) (other_at ps)) number

pub to_other : (ps : List Place) → begins_with is_space ps ≡ false → begins_ident ps ≡ false → begins_number ps ≡ false
    → symbol_at ps ≡ other_at ps
unfolding symbol_at
to_other ps space ident number =
    ap (λ (b : Bool). cond b (pair Space (behind_while is_space ps))
    (cond (begins_ident ps) (ident_at ps) (cond (begins_number ps) (numeric_at ps) (other_at ps)))) space
    ∙ ap (λ (b : Bool). cond b (ident_at ps) (cond (begins_number ps) (numeric_at ps) (other_at ps))) ident
    ∙ ap (λ (b : Bool). cond b (numeric_at ps) (other_at ps)) number

-- White space.

pub space_symbol : (ps : List Place) → begins_with is_space ps ≡ true → symbol_at ps ≡ (pair Space (behind_while is_space ps))
unfolding symbol_at
space_symbol ps space = ap (λ (b : Bool). cond b (pair Space (behind_while is_space ps))
    (cond (begins_ident ps) (ident_at ps) (cond (begins_number ps) (numeric_at ps) (other_at ps)))) space

pub space_read : (one rest : List Place) → SomePass is_space one
    → piece_at (one ++ rest) ≡ placed (place_or 0 one) (pair Space (behind_while is_space rest))
space_read [] rest h = absurd h
space_read (p ∷ one) rest h =
    let ps = (p ∷ one) ++ rest in
    to_symbol ps (begins_other is_space 47 ps h.0 refl)
    ∙ ap (placed p.at) (space_symbol ps h.0 ∙ ap (λ (x : List Place). (pair Space x)) (behind_through is_space (p ∷ one) rest h))

pub space_reach : (one rest : List Place) → SomePass is_space one → SymbolReaches Space one rest
space_reach one rest h =
    let l = ap (λ (y : Option Lexeme × List Place). length y.1) (space_read one rest h) in
    let k = behind_le is_space rest in
    (omega (arith, l, k), space_read one [] h)

-- Identifiers and functions.

pub ident_passes : (one : List Place) → IsIdent one → Passes is_name one
ident_passes [] h = absurd h
ident_passes (p ∷ one) h = ((and_parts (is_name p.character) (not (is_ascii_digit p.character)) h.0).0, h.1)

pub front_begins : (test : ℕ → Bool) (one rest : List Place) → begins_with test one ≡ true → begins_with test (one ++ rest) ≡ true
front_begins test [] rest h = absurd cc
front_begins test (p ∷ one) rest h = h

pub ident_begins : (one rest : List Place) → IsIdent one → begins_ident (one ++ rest) ≡ true
ident_begins [] rest h = absurd h
ident_begins (p ∷ one) rest h =
    ap (λ (b : Bool). b && (not (p.character == 45) || begins_with is_start (one ++ rest))) h.0 ∙ by_dash (p.character == 45) refl
  where
    by_dash : (b : Bool) → (p.character == 45) ≡ b → (not b || begins_with is_start (one ++ rest)) ≡ true
    by_dash true e = front_begins is_start one rest (h.2 (eqb-true p.character 45 e))
    by_dash false e = refl

pub ident_starts : (one rest : List Place) → IsIdent one → begins_with is_start (one ++ rest) ≡ true
ident_starts [] rest h = absurd h
ident_starts (p ∷ one) rest h = h.0

pub ident_place : (one rest : List Place) → IsIdent one → place_or 0 (one ++ rest) ≡ place_or 0 one
ident_place [] rest h = absurd h
ident_place (p ∷ one) rest h = refl

pub to_named : (one rest : List Place) → IsIdent one → piece_at (one ++ rest) ≡ placed (place_or 0 one) (ident_at (one ++ rest))
to_named one rest h =
    let ps = one ++ rest in
    let starts = ident_starts one rest h in
    to_symbol ps (begins_other is_start 47 ps starts refl)
    ∙ ap (placed (place_or 0 ps)) (to_ident ps (begins_no_space is_start ps refl refl refl starts) (ident_begins one rest h))
    ∙ ap (λ (a : ℕ). placed a (ident_at ps)) (ident_place one rest h)

pub either_le : (b : Bool) (s t : Symbol) (x y : List Place) (n : ℕ) → length x ≤ n → length y ≤ n
    → length (cond {A = Symbol × List Place} b (pair s x) (pair t y)).1 ≤ n
either_le true s t x y n h g = h
either_le false s t x y n h g = g

pub ident_le : (one rest : List Place) → IsIdent one → length (ident_at (one ++ rest)).1 ≤ length rest
unfolding ident_at
ident_le one rest h =
    let ps = one ++ rest in
    let e = ap length (behind_through is_name one rest (ident_passes one h)) in
    let k = behind_le is_name rest in
    let f = first_le (behind_name ps) in
    either_le (begins 40 (behind_name ps)) (Function (name_text ps) (place_or 0 (behind_name ps))) (Ident (name_text ps))
    (behind_first (behind_name ps)) (behind_name ps) (length rest) (omega (arith, e, k, f)) (omega (arith, e, k))

pub ident_alone : (one : List Place) → IsIdent one → ident_at (one ++ []) ≡ (pair (Ident (text_of one)) [])
unfolding ident_at
ident_alone one h =
    let ps = one ++ [] in
    ap (λ (x : List Place). cond (begins 40 x) (pair (Function (name_text ps) (place_or 0 x)) (behind_first x))
    (pair (Ident (name_text ps)) x)) (behind_back is_name one [] (ident_passes one h) refl)
    ∙ ap (λ (x : List ℕ). (pair (Ident (encode_utf8_all x)) [])) (codes_back is_name one [] (ident_passes one h) refl)

pub ident_reach : (text : List ℕ) (one rest : List Place) → IsIdent one → text ≡ text_of one → SymbolReaches (Ident text) one rest
ident_reach text one rest h t =
    let l = ap (λ (y : Option Lexeme × List Place). length y.1) (to_named one rest h) in
    let k = ident_le one rest h in (
      omega (arith, l, k),
      to_named one [] h
          ∙ ap (placed (place_or 0 one)) (ident_alone one h ∙ ap (λ (x : List ℕ). (pair (Ident x) [])) (sym t)),
    )

pub function_at : (named rest : List Place) (p : Place) → IsIdent named → p.character ≡ 40
    → ident_at (named ++ (p ∷ rest)) ≡ (pair (Function (text_of named) p.at) rest)
unfolding ident_at
function_at named rest p h opens =
    let ps = named ++ (p ∷ rest) in
    let stops : begins_with is_name (p ∷ rest) ≡ false = ap is_name opens in
    ap (λ (x : List Place). cond (begins 40 x) (pair (Function (name_text ps) (place_or 0 x)) (behind_first x))
    (pair (Ident (name_text ps)) x)) (behind_back is_name named (p ∷ rest) (ident_passes named h) stops)
    ∙ ap (λ (b : Bool). cond b (pair (Function (name_text ps) p.at) rest) (pair (Ident (name_text ps)) (p ∷ rest)))
    (begins_back 40 p rest opens)
    ∙ ap (λ (x : List ℕ). (pair (Function (encode_utf8_all x) p.at) rest))
    (codes_back is_name named (p ∷ rest) (ident_passes named h) stops)

pub function_read : (named rest : List Place) (p : Place) → IsIdent named → p.character ≡ 40
    → piece_at ((named ++ p ∷ []) ++ rest) ≡ placed (place_or 0 (named ++ p ∷ [])) (pair (Function (text_of named) p.at) rest)
function_read named rest p h opens =
    ap piece_at (append_assoc named (p ∷ []) rest) ∙ to_named named (p ∷ rest) h
    ∙ ap (λ (a : ℕ). placed a (ident_at (named ++ (p ∷ rest)))) (sym (ident_place named (p ∷ []) h))
    ∙ ap (placed (place_or 0 (named ++ p ∷ []))) (function_at named rest p h opens)
