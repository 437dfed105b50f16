-- What a compound selector, a join and a comma begin with.
use Rattle.std.proofs.Common.{◌≡◌, ℕ, suc, ◌≤◌, List, [], ◌∷◌, ◌++◌, length, Bool, true, false, cond, refl, ap, ◌∙◌}
use Rattle.std.proofs.Common.{Option, Some, None, arith}
use Rattle.std.proofs.lemmas.Bool.{eqb-true}
use Rattle.std.specs.Prelude.{is_some, ◌||◌}
use lib.Dec.{eqb}
use Rattle.css_tokens.specs.declared.lexeme.Lexeme.{Lexeme}
use Rattle.css_tokens.specs.declared.lexeme.Symbol.{Symbol}
use Rattle.css_tokens.specs.declared.lexeme.Symbol.TheVariants.{Ident, Hash, Delim, Space}
use Rattle.css_tokens.specs.Facts.{delim_in, is_this, is_delim, is_space_in, is_space, ident_in, ident_of, hash_in, begins_space}
use Rattle.css_tokens.specs.Facts.{behind_spaces}
use Rattle.css_prelude.specs.Compounds.{begins_test}
use Rattle.selector_laws.specs.Spaces.{AreSpaces, Spaced, IsSign}
use Rattle.selector_laws.proofs.Lengths.{spaces_le}

-- one symbol is one thing
sign_only : (c : ℕ) (s : Symbol) → is_this c (delim_in s) ≡ true
    → (is_space_in s ≡ false) × (is_some (hash_in s) ≡ false) × (ident_in s ≡ None)
sign_only c (Delim d) h = (refl, refl, refl)
sign_only c _ h = absurd cc

space_only : (s : Symbol) → is_space_in s ≡ true → (delim_in s ≡ None) × (is_some (hash_in s) ≡ false)
space_only Space h = (refl, refl)
space_only _ h = absurd cc

pub ident_only : (name : List ℕ) (s : Symbol) → ident_in s ≡ Some name → (is_space_in s ≡ false) × (delim_in s ≡ None)
ident_only name (Ident text) h = (refl, refl)
ident_only name _ h = absurd cc

hash_only : (s : Symbol) → is_some (hash_in s) ≡ true → (is_space_in s ≡ false) × (delim_in s ≡ None) × (ident_in s ≡ None)
hash_only (Hash text) h = (refl, refl, refl)
hash_only _ h = absurd cc

pub other : (c d : ℕ) (o : Option ℕ) → is_this c o ≡ true → eqb c d ≡ false → is_this d o ≡ false
other c d None h e = absurd cc
other c d (Some a) h e = rw (eqb-true a c h) e

pub sign_no_space : (c : ℕ) (x : Lexeme) → is_delim c x ≡ true → is_space x ≡ false
sign_no_space c x h = (sign_only c x.symbol h).0

pub none_no_sign : (c : ℕ) (x : Lexeme) → delim_in x.symbol ≡ None → is_delim c x ≡ false
none_no_sign c x h = ap (is_this c) h

-- a lexeme that is neither white space nor what joins or parts selectors
pub record Starts (x : Lexeme) : Type 0 where
  pub space : is_space x ≡ false
  pub comma : is_delim 44 x ≡ false
  pub child : is_delim 62 x ≡ false
  pub next : is_delim 43 x ≡ false
  pub later : is_delim 126 x ≡ false

pub no_sign_starts : (x : Lexeme) → is_space x ≡ false → delim_in x.symbol ≡ None → Starts x
no_sign_starts x s h = record {
  space = s;
  comma = none_no_sign 44 x h;
  child = none_no_sign 62 x h;
  next = none_no_sign 43 x h;
  later = none_no_sign 126 x h;
}

pub sign_starts : (c : ℕ) (x : Lexeme) → is_delim c x ≡ true → eqb c 44 ≡ false → eqb c 62 ≡ false → eqb c 43 ≡ false
    → eqb c 126 ≡ false → Starts x
sign_starts c x h comma child next later = record {
  space = sign_no_space c x h;
  comma = other c 44 (delim_in x.symbol) h comma;
  child = other c 62 (delim_in x.symbol) h child;
  next = other c 43 (delim_in x.symbol) h next;
  later = other c 126 (delim_in x.symbol) h later;
}

-- what a test begins with: also neither a type nor *
abbrev pub Tests : Lexeme → Type 0
Tests x = Starts x × (is_delim 42 x ≡ false) × (ident_of x ≡ None)

sign_tests : (c : ℕ) (x : Lexeme) → is_delim c x ≡ true → eqb c 44 ≡ false → eqb c 62 ≡ false → eqb c 43 ≡ false
    → eqb c 126 ≡ false → eqb c 42 ≡ false → Tests x
sign_tests c x h comma child next later star =
    (sign_starts c x h comma child next later, other c 42 (delim_in x.symbol) h star, (sign_only c x.symbol h).2)

pub test_begins : (x : Lexeme) (xs : List Lexeme) → begins_test (x ∷ xs) ≡ true → Tests x
test_begins x xs h = by_sign (is_some (hash_in x.symbol)) (is_delim 46 x) (is_delim 91 x) (is_delim 58 x) refl refl refl refl h
  where
    by_sign : (a b c d : Bool) → is_some (hash_in x.symbol) ≡ a → is_delim 46 x ≡ b → is_delim 91 x ≡ c → is_delim 58 x ≡ d
        → (a || (b || (c || d))) ≡ true → Tests x
    by_sign true b c d ha hb hc hd h =
        let k = hash_only x.symbol ha in
        (no_sign_starts x k.0 k.1, none_no_sign 42 x k.1, k.2)
    by_sign false true c d ha hb hc hd h = sign_tests 46 x hb refl refl refl refl refl
    by_sign false false true d ha hb hc hd h = sign_tests 91 x hc refl refl refl refl refl
    by_sign false false false true ha hb hc hd h = sign_tests 58 x hd refl refl refl refl refl
    by_sign false false false false ha hb hc hd h = absurd cc

-- a sign that begins no test
pub record Parts (c : ℕ) : Type 0 where
  pub class : eqb c 46 ≡ false
  pub attribute : eqb c 91 ≡ false
  pub pseudo : eqb c 58 ≡ false

none_of : (a b c d : Bool) → a ≡ false → b ≡ false → c ≡ false → d ≡ false → (a || (b || (c || d))) ≡ false
none_of a b c d ha hb hc hd = rw ha (rw hb (rw hc hd))

pub sign_no_test : (c : ℕ) (x : Lexeme) (xs : List Lexeme) → Parts c → is_delim c x ≡ true → begins_test (x ∷ xs) ≡ false
sign_no_test c x xs p h =
    let o : Option ℕ = delim_in x.symbol in
    none_of (is_some (hash_in x.symbol)) (is_delim 46 x) (is_delim 91 x) (is_delim 58 x) (sign_only c x.symbol h).1
    (other c 46 o h p.class) (other c 91 o h p.attribute) (other c 58 o h p.pseudo)

pub space_no_sign : (c : ℕ) (x : Lexeme) → is_space x ≡ true → is_delim c x ≡ false
space_no_sign c x h = none_no_sign c x (space_only x.symbol h).0

pub space_no_test : (x : Lexeme) (xs : List Lexeme) → is_space x ≡ true → begins_test (x ∷ xs) ≡ false
space_no_test x xs h = none_of (is_some (hash_in x.symbol)) (is_delim 46 x) (is_delim 91 x) (is_delim 58 x)
    (space_only x.symbol h).1 (space_no_sign 46 x h) (space_no_sign 91 x h) (space_no_sign 58 x h)

-- white space in front
pub behind_gap : (gap rest : List Lexeme) → AreSpaces gap → begins_space rest ≡ false → behind_spaces (gap ++ rest) ≡ rest
behind_gap [] [] h e = refl
behind_gap [] (x ∷ xs) h e = ap (λ (b : Bool). cond b (behind_spaces xs) (x ∷ xs)) e
behind_gap (x ∷ gap) rest h e = ap (λ (b : Bool). cond b (behind_spaces (gap ++ rest)) (x ∷ (gap ++ rest))) h.0
    ∙ behind_gap gap rest h.1 e

pub behind_spaced : (xs rest : List Lexeme) → Spaced xs rest → begins_space rest ≡ false → behind_spaces xs ≡ rest
behind_spaced xs rest s e = ap behind_spaces s.1 ∙ behind_gap s.0 rest s.2 e

pub spaced_le : (xs rest : List Lexeme) → behind_spaces xs ≡ rest → length rest ≤ length xs
spaced_le xs rest e = rw (← e) (spaces_le (length xs) xs (omega arith))

-- a sign with white space around it
pub record Signed (c : ℕ) (xs rest : List Lexeme) : Type 0 where
  pub sign : Lexeme
  pub more : List Lexeme
  pub is : is_delim c sign ≡ true
  pub in_front : behind_spaces xs ≡ sign ∷ more
  pub behind : behind_spaces more ≡ rest
  pub shorter : suc (length rest) ≤ length xs
  pub no_test : begins_test xs ≡ false

pub signed : (c : ℕ) (xs rest : List Lexeme) → Parts c → IsSign c xs rest → begins_space rest ≡ false → Signed c xs rest
signed c xs rest p h e =
    let sign = h.0 in
    let front = behind_spaced xs (sign ∷ h.1) h.2 (sign_no_space c sign h.3) in
    let behind = behind_spaced h.1 rest h.4 e in
    record {
      sign = sign;
      more = h.1;
      is = h.3;
      in_front = front;
      behind = behind;
      shorter = omega (arith, spaced_le xs (sign ∷ h.1) front, spaced_le h.1 rest behind);
      no_test = by_gap h.2.0 xs h.2.1 h.2.2;
    }
  where
    by_gap : (gap xs : List Lexeme) → xs ≡ gap ++ (h.0 ∷ h.1) → AreSpaces gap → begins_test xs ≡ false
    by_gap [] xs e s = ap begins_test e ∙ sign_no_test c h.0 h.1 p h.3
    by_gap (x ∷ gap) xs e s = ap begins_test e ∙ space_no_test x (gap ++ (h.0 ∷ h.1)) s.0

pub spaces_end : (xs : List Lexeme) → AreSpaces xs → behind_spaces xs ≡ []
spaces_end [] h = refl
spaces_end (x ∷ xs) h = ap (λ (b : Bool). cond b (behind_spaces xs) (x ∷ xs)) h.0 ∙ spaces_end xs h.1

pub spaces_no_test : (xs : List Lexeme) → AreSpaces xs → begins_test xs ≡ false
spaces_no_test [] h = refl
spaces_no_test (x ∷ xs) h = space_no_test x xs h.0
