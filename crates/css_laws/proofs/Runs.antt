-- Characters in front that pass a test, and what stands behind them.
use Rattle.std.proofs.Common.{◌≡◌, ℕ, zero, suc, ◌+◌, ◌≤◌, List, [], ◌∷◌, ◌++◌, length, Bool, true, false, cond, refl, sym, ap}
use Rattle.std.proofs.Common.{◌∙◌, arith, length-append}
use Rattle.std.specs.Prelude.{encode_utf8_all}
use Rattle.std.proofs.lemmas.Bool.{true≢false, eq-eqb, eqb-true, ne_eqb}
use Rattle.std.proofs.lemmas.Str.{encodes-append}
use lib.Dec.{eqb}
use Rattle.html_grammar.specs.declared.place.Place.{Place}
use Rattle.html_grammar.specs.Places.{behind_first, place_or, codes_while, behind_while, begins_with, begins}
use Rattle.html_grammar.specs.Spelling.{codes_of, Passes, SomePass}
use Rattle.css_laws.specs.Forms.{text_of}

-- the places in front that pass
pub record Span (test : ℕ → Bool) (ps : List Place) : Type 0 where
  pub front : List Place
  pub whole : ps ≡ front ++ behind_while test ps
  pub passes : Passes test front
  pub codes_are : codes_while test ps ≡ codes_of front
  pub stops : begins_with test (behind_while test ps) ≡ false

pub span : (test : ℕ → Bool) (ps : List Place) → Span test ps
span test [] = record { front = []; whole = refl; passes = tt; codes_are = refl; stops = refl }
span test (p ∷ ps) = by_test (span test ps) (test p.character) refl
  where
    by_test : Span test ps → (b : Bool) → test p.character ≡ b → Span test (p ∷ ps)
    by_test s true is = record {
      front = p ∷ s.front;
      whole = ap (λ (x : List Place). p ∷ x) s.whole
          ∙ sym (ap (λ (b : Bool). (p ∷ s.front) ++ cond b (behind_while test ps) (p ∷ ps)) is);
      passes = (is, s.passes);
      codes_are = ap (λ (b : Bool). cond b (p.character ∷ codes_while test ps) []) is
          ∙ ap (λ (x : List ℕ). p.character ∷ x) s.codes_are;
      stops = ap (λ (b : Bool). begins_with test (cond b (behind_while test ps) (p ∷ ps))) is ∙ s.stops;
    }
    by_test s false is = record {
      front = [];
      whole = sym (ap (λ (b : Bool). cond b (behind_while test ps) (p ∷ ps)) is);
      passes = tt;
      codes_are = ap (λ (b : Bool). cond b (p.character ∷ codes_while test ps) []) is;
      stops = ap (λ (b : Bool). begins_with test (cond b (behind_while test ps) (p ∷ ps))) is ∙ is;
    }

stopped : (test : ℕ → Bool) (rest : List Place) → begins_with test rest ≡ false
    → (codes_while test rest ≡ []) × (behind_while test rest ≡ rest)
stopped test [] h = (refl, refl)
stopped test (p ∷ ps) h = (
  ap (λ (b : Bool). cond b (p.character ∷ codes_while test ps) []) h,
  ap (λ (b : Bool). cond b (behind_while test ps) (p ∷ ps)) h,
)

-- what doesn't pass stays
pub stays : (test : ℕ → Bool) (rest : List Place) → begins_with test rest ≡ false → behind_while test rest ≡ rest
stays test rest h = (stopped test rest h).1

pub codes_back : (test : ℕ → Bool) (front rest : List Place) → Passes test front → begins_with test rest ≡ false
    → codes_while test (front ++ rest) ≡ codes_of front
codes_back test [] rest h stops = (stopped test rest stops).0
codes_back test (p ∷ front) rest h stops = ap (λ (b : Bool). cond b (p.character ∷ codes_while test (front ++ rest)) []) h.0
    ∙ ap (λ (x : List ℕ). p.character ∷ x) (codes_back test front rest h.1 stops)

-- past characters that pass, whatever stands behind them
pub behind_through : (test : ℕ → Bool) (front rest : List Place) → Passes test front
    → behind_while test (front ++ rest) ≡ behind_while test rest
behind_through test [] rest h = refl
behind_through test (p ∷ front) rest h = ap (λ (b : Bool). cond b (behind_while test (front ++ rest)) (p ∷ (front ++ rest))) h.0
    ∙ behind_through test front rest h.1

pub behind_back : (test : ℕ → Bool) (front rest : List Place) → Passes test front → begins_with test rest ≡ false
    → behind_while test (front ++ rest) ≡ rest
behind_back test front rest h stops = behind_through test front rest h ∙ stays test rest stops

pub same_length : (front rest ps : List Place) → ps ≡ front ++ rest → length ps ≡ length front + length rest
same_length front rest ps e = ap length e ∙ length-append front rest

pub behind_le : (test : ℕ → Bool) (ps : List Place) → length (behind_while test ps) ≤ length ps
behind_le test ps = let s = span test ps in let l = same_length s.front (behind_while test ps) ps s.whole in omega (arith, l)

pub first_le : (ps : List Place) → length (behind_first ps) ≤ length ps
first_le [] = omega arith
first_le (p ∷ ps) = omega arith

-- the place in front, where it is this character
pub record First (c : ℕ) (ps : List Place) : Type 0 where
  pub place : Place
  pub whole : ps ≡ place ∷ behind_first ps
  pub is : place.character ≡ c

pub begins_first : (c : ℕ) (ps : List Place) → begins c ps ≡ true → First c ps
begins_first c [] h = absurd cc
begins_first c (p ∷ ps) h = record { place = p; whole = refl; is = eqb-true p.character c h }

pub begins_back : (c : ℕ) (p : Place) (more : List Place) → p.character ≡ c → begins c (p ∷ more) ≡ true
begins_back c p more h = eq-eqb p.character c h

-- a character that passes a test is none that doesn't
pub other_char : (test : ℕ → Bool) (c d : ℕ) → test c ≡ true → test d ≡ false → eqb c d ≡ false
other_char test c d h g = ne_eqb c d (λ e. absurd (true≢false (sym h ∙ ap test e ∙ g)))

pub begins_other : (test : ℕ → Bool) (d : ℕ) (ps : List Place) → begins_with test ps ≡ true → test d ≡ false → begins d ps ≡ false
begins_other test d [] h g = refl
begins_other test d (p ∷ ps) h g = other_char test p.character d h g

pub some_pass : (test : ℕ → Bool) (front rest ps : List Place) → ps ≡ front ++ rest → Passes test front
    → begins_with test rest ≡ false → begins_with test ps ≡ true → SomePass test front
some_pass test [] rest ps e h stops g = absurd (true≢false (sym g ∙ ap (begins_with test) e ∙ stops))
some_pass test (p ∷ front) rest ps e h stops g = h

pub begins_some : (test : ℕ → Bool) (front rest : List Place) → SomePass test front → begins_with test (front ++ rest) ≡ true
begins_some test [] rest h = absurd h
begins_some test (p ∷ front) rest h = h.0

pub all_pass : (test : ℕ → Bool) (front : List Place) → SomePass test front → Passes test front
all_pass test [] h = absurd h
all_pass test (p ∷ front) h = h

-- the bytes of characters one after the other
codes_append : (a b : List Place) → codes_of (a ++ b) ≡ codes_of a ++ codes_of b
codes_append [] b = refl
codes_append (p ∷ a) b = ap (λ (x : List ℕ). p.character ∷ x) (codes_append a b)

pub text_append : (a b : List Place) → text_of (a ++ b) ≡ text_of a ++ text_of b
text_append a b = ap encode_utf8_all (codes_append a b) ∙ encodes-append (codes_of a) (codes_of b)

-- where the first place is the same
pub same_place : (one rest all : List Place) → all ≡ one ++ rest → suc zero ≤ length one → place_or 0 all ≡ place_or 0 one
same_place [] rest all e h = absurd (omega (arith, h))
same_place (p ∷ one) rest all e h = ap (place_or 0) e

-- two fronts of one length are one
pub same_front : (a b c d : List Place) → a ++ b ≡ c ++ d → length a ≡ length c → (a ≡ c) × (b ≡ d)
same_front [] b [] d e l = (refl, e)
same_front [] b (q ∷ c) d e l = absurd (omega (arith, l))
same_front (p ∷ a) b [] d e l = absurd (omega (arith, l))
same_front (p ∷ a) b (q ∷ c) d e l =
    let tails : a ++ b ≡ c ++ d = ap behind_first e in
    let heads : p ≡ q = first_is p q (a ++ b) (c ++ d) e in
    let more = same_front a b c d tails (omega (arith, l)) in
    (ap (λ (x : Place). x ∷ a) heads ∙ ap (λ (x : List Place). q ∷ x) more.0, more.1)
  where
    first_is : (p q : Place) (u v : List Place) → p ∷ u ≡ q ∷ v → p ≡ q
    first_is p q u v e = cc
