-- Places in front that pass a test, and what stands after them.
use Rattle.std.proofs.Common.{◌≡◌, ℕ, List, [], ◌∷◌, ◌++◌, Bool, true, false, cond, refl, sym, ap, ◌∙◌, append_assoc}
use Rattle.std.proofs.lemmas.Bool.{true≢false, eq-eqb, eqb-true, ne_eqb}
use lib.Dec.{eqb}
use Rattle.html_grammar.specs.declared.place.Place.{Place}
use Rattle.html_grammar.specs.Places.{behind_first, codes_while, behind_while, begins_with, begins}
use Rattle.html_grammar.specs.Spelling.{codes_of, Passes, SomePass}

-- the places in front that pass
pub record Span (test : ℕ → Bool) (ps : List Place) : Type 0 where
  pub front : List Place
  pub whole : ps ≡ front ++ behind_while test ps
  pub passes : Passes test front
  pub codes_are : codes_while test ps ≡ codes_of front
  pub stops : begins_with test (behind_while test ps) ≡ false

pub span : (test : ℕ → Bool) (ps : List Place) → Span test ps
span test [] = record { front = []; whole = refl; passes = tt; codes_are = refl; stops = refl }
span test (p ∷ ps) = by_test (span test ps) (test p.character) refl
  where
    by_test : Span test ps → (b : Bool) → test p.character ≡ b → Span test (p ∷ ps)
    by_test s true is = record {
      front = p ∷ s.front;
      whole = ap (λ (x : List Place). p ∷ x) s.whole
          ∙ sym (ap (λ (b : Bool). (p ∷ s.front) ++ cond b (behind_while test ps) (p ∷ ps)) is);
      passes = (is, s.passes);
      codes_are = ap (λ (b : Bool). cond b (p.character ∷ codes_while test ps) []) is
          ∙ ap (λ (x : List ℕ). p.character ∷ x) s.codes_are;
      stops = ap (λ (b : Bool). begins_with test (cond b (behind_while test ps) (p ∷ ps))) is ∙ s.stops;
    }
    by_test s false is = record {
      front = [];
      whole = sym (ap (λ (b : Bool). cond b (behind_while test ps) (p ∷ ps)) is);
      passes = tt;
      codes_are = ap (λ (b : Bool). cond b (p.character ∷ codes_while test ps) []) is;
      stops = ap (λ (b : Bool). begins_with test (cond b (behind_while test ps) (p ∷ ps))) is ∙ is;
    }

stopped : (test : ℕ → Bool) (rest : List Place) → begins_with test rest ≡ false
    → (codes_while test rest ≡ []) × (behind_while test rest ≡ rest)
stopped test [] h = (refl, refl)
stopped test (p ∷ ps) h = (
  ap (λ (b : Bool). cond b (p.character ∷ codes_while test ps) []) h,
  ap (λ (b : Bool). cond b (behind_while test ps) (p ∷ ps)) h,
)

pub codes_back : (test : ℕ → Bool) (front rest : List Place) → Passes test front → begins_with test rest ≡ false
    → codes_while test (front ++ rest) ≡ codes_of front
codes_back test [] rest h stops = (stopped test rest stops).0
codes_back test (p ∷ front) rest h stops = ap (λ (b : Bool). cond b (p.character ∷ codes_while test (front ++ rest)) []) h.0
    ∙ ap (λ (x : List ℕ). p.character ∷ x) (codes_back test front rest h.1 stops)

pub behind_back : (test : ℕ → Bool) (front rest : List Place) → Passes test front → begins_with test rest ≡ false
    → behind_while test (front ++ rest) ≡ rest
behind_back test [] rest h stops = (stopped test rest stops).1
behind_back test (p ∷ front) rest h stops = ap (λ (b : Bool). cond b (behind_while test (front ++ rest)) (p ∷ (front ++ rest)))
    h.0 ∙ behind_back test front rest h.1 stops

-- the place in front, where it is this character
pub record First (c : ℕ) (ps : List Place) : Type 0 where
  pub place : Place
  pub more : List Place
  pub whole : ps ≡ place ∷ more
  pub is : place.character ≡ c

pub begins_first : (c : ℕ) (ps : List Place) → begins c ps ≡ true → First c ps
begins_first c [] h = absurd cc
begins_first c (p ∷ ps) h = record { place = p; more = ps; whole = refl; is = eqb-true p.character c h }

pub begins_back : (c : ℕ) (p : Place) (more : List Place) → p.character ≡ c → begins c (p ∷ more) ≡ true
begins_back c p more h = eq-eqb p.character c h

-- a character that passes a test is none that doesn't
pub other_char : (test : ℕ → Bool) (c d : ℕ) → test c ≡ true → test d ≡ false → eqb c d ≡ false
other_char test c d h g = ne_eqb c d (λ e. absurd (true≢false (sym h ∙ ap test e ∙ g)))

pub begins_other : (test : ℕ → Bool) (d : ℕ) (ps : List Place) → begins_with test ps ≡ true → test d ≡ false → begins d ps ≡ false
begins_other test d [] h g = refl
begins_other test d (p ∷ ps) h g = other_char test p.character d h g

-- some in front pass where the first does
pub some_pass : (test : ℕ → Bool) (front rest ps : List Place) → ps ≡ front ++ rest → Passes test front
    → begins_with test rest ≡ false → begins_with test ps ≡ true → SomePass test front
some_pass test [] rest ps e h stops g = absurd (true≢false (sym g ∙ ap (begins_with test) e ∙ stops))
some_pass test (p ∷ front) rest ps e h stops g = h

pub begins_some : (test : ℕ → Bool) (front rest : List Place) → SomePass test front → begins_with test (front ++ rest) ≡ true
begins_some test [] rest h = absurd h
begins_some test (p ∷ front) rest h = h.0

pub all_pass : (test : ℕ → Bool) (front : List Place) → SomePass test front → Passes test front
all_pass test [] h = absurd h
all_pass test (p ∷ front) h = h

-- characters that pass, and a ;
pub record Run (test : ℕ → Bool) (ps : List Place) : Type 0 where
  pub letters : List Place
  pub last : Place
  pub rest : List Place
  pub whole : ps ≡ (letters ++ last ∷ []) ++ rest
  pub some : SomePass test letters
  pub ends : last.character ≡ 59
  pub codes_are : codes_while test ps ≡ codes_of letters
  pub behind : behind_first (behind_while test ps) ≡ rest

pub run_found : (test : ℕ → Bool) (ps : List Place) → begins_with test ps ≡ true → begins 59 (behind_while test ps) ≡ true
    → Run test ps
run_found test ps h g =
    let s = span test ps in
    let f = begins_first 59 (behind_while test ps) g in
    record {
      letters = s.front;
      last = f.place;
      rest = f.more;
      whole = s.whole ∙ ap (λ (x : List Place). s.front ++ x) f.whole ∙ sym (append_assoc s.front (f.place ∷ []) f.more);
      some = some_pass test s.front (behind_while test ps) ps s.whole s.passes s.stops h;
      ends = f.is;
      codes_are = s.codes_are;
      behind = ap behind_first f.whole;
    }

pub record RunBack (test : ℕ → Bool) (letters rest ps : List Place) : Type 0 where
  pub begun : begins_with test ps ≡ true
  pub ended : begins 59 (behind_while test ps) ≡ true
  pub codes_are : codes_while test ps ≡ codes_of letters
  pub behind : behind_first (behind_while test ps) ≡ rest

pub run_back : (test : ℕ → Bool) (letters : List Place) (last : Place) (rest : List Place) → test 59 ≡ false
    → SomePass test letters → last.character ≡ 59 → RunBack test letters rest ((letters ++ last ∷ []) ++ rest)
run_back test letters last rest other some ends =
    let e = append_assoc letters (last ∷ []) rest in
    let stops : begins_with test (last ∷ rest) ≡ false = ap test ends ∙ other in
    let passes = all_pass test letters some in
    let behind : behind_while test ((letters ++ last ∷ []) ++ rest) ≡ last ∷ rest = ap (behind_while test) e
    ∙ behind_back test letters (last ∷ rest) passes stops in
    record {
      begun = ap (begins_with test) e ∙ begins_some test letters (last ∷ rest) some;
      ended = ap (begins 59) behind ∙ begins_back 59 last rest ends;
      codes_are = ap (codes_while test) e ∙ codes_back test letters (last ∷ rest) passes stops;
      behind = ap behind_first behind;
    }
