-- The places of characters, where the first is known.
use Rattle.std.proofs.Common.{◌≡◌, ◌≢◌, ℕ, ◌+◌, List, [], ◌∷◌, false, Some, None, refl, arith}
use Rattle.std.proofs.lemmas.Bool.{ne_eqb}
use Rattle.std.specs.Char.{len_utf8}
use Rattle.html_grammar.specs.Places.{places, places_of, first, behind_first}

pub places_none : (cs : List ℕ) (at : ℕ) → cs ≡ [] → places false at cs ≡ []
unfolding places
places_none cs at e = rw e refl

pub first_none : (cs : List ℕ) (at : ℕ) → cs ≡ [] → first (places false at cs) ≡ None
first_none cs at e = rw (places_none cs at e) refl

pub first_feed : (cs more : List ℕ) (at c : ℕ) → cs ≡ c ∷ more → c ≡ 13
    → first (places false at cs) ≡ Some (record { at = at; character = 10 })
unfolding places
first_feed cs more at c e h = rw (e, h) refl

pub first_plain : (cs more : List ℕ) (at c : ℕ) → cs ≡ c ∷ more → c ≢ 13
    → first (places false at cs) ≡ Some (record { at = at; character = c })
unfolding places
first_plain cs more at c e h = rw (e, ne_eqb c 13 h) refl

-- after nothing stands nothing
pub behind_none : (cs : List ℕ) (at : ℕ) → cs ≡ [] → places false at cs ≡ behind_first (places false at cs)
behind_none cs at e = rw (places_none cs at e) refl

pub behind_plain : (cs more : List ℕ) (at n c : ℕ) → cs ≡ c ∷ more → c ≢ 13 → n ≡ len_utf8 c
    → places false (at + n) more ≡ behind_first (places false at cs)
unfolding places
behind_plain cs more at n c e h len = rw (e, ne_eqb c 13 h, len) refl

-- a carriage return at the end
pub behind_last : (cs more : List ℕ) (at c : ℕ) → cs ≡ c ∷ more → c ≡ 13 → more ≡ []
    → places false (at + 1) more ≡ behind_first (places false at cs)
unfolding places
behind_last cs more at c e h none = rw (e, h, none) refl

-- a carriage return before another character
pub behind_return : (cs more last : List ℕ) (at c d : ℕ) → cs ≡ c ∷ more → c ≡ 13 → more ≡ d ∷ last → d ≢ 10
    → places false (at + 1) more ≡ behind_first (places false at cs)
unfolding places
behind_return cs more last at c d e h next other = rw (e, h, next, ne_eqb d 10 other) refl

-- CR LF
pub behind_pair : (cs more last : List ℕ) (at c d : ℕ) → cs ≡ c ∷ more → c ≡ 13 → more ≡ d ∷ last → d ≡ 10
    → places false (at + 2) last ≡ behind_first (places false at cs)
unfolding places
behind_pair cs more last at c d e h next feed =
    let two : at + 2 ≡ at + 1 + 1 = omega arith in
    rw (e, h, next, feed, two) refl

-- the places of a whole text
pub all_none : (cs : List ℕ) → cs ≡ [] → places false 0 cs ≡ places_of cs
unfolding places places_of
all_none cs e = rw e refl

pub all_marked : (cs more : List ℕ) (c : ℕ) → cs ≡ c ∷ more → c ≡ 0xFEFF → places false 3 more ≡ places_of cs
unfolding places_of
all_marked cs more c e h = rw (e, h) refl

pub all_plain : (cs more : List ℕ) (c : ℕ) → cs ≡ c ∷ more → c ≢ 0xFEFF → places false 0 cs ≡ places_of cs
unfolding places_of
all_plain cs more c e h = rw (e, ne_eqb c 0xFEFF h) refl
