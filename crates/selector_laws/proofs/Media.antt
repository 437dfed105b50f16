-- A list of media is read as it is written.
use Rattle.std.proofs.Common.{◌≡◌, ℕ, List, [], ◌∷◌, ◌++◌, Bool, true, false, cond, refl, sym, ap, ◌∙◌, Option, Some, None}
use Rattle.std.proofs.Common.{◌⊎◌, inl, inr}
use Rattle.std.specs.Prelude.{◌||◌}
use Rattle.css_tokens.specs.declared.lexeme.Lexeme.{Lexeme}
use Rattle.css_tokens.specs.Facts.{is_space, is_delim, ident_of}
use Rattle.css_prelude.specs.declared.media.Awaits.{Awaits}
use Rattle.css_prelude.specs.declared.media.Awaits.TheVariants as awaits
use Rattle.css_prelude.specs.declared.media.Listed.{Listed}
use Rattle.css_prelude.specs.Options.{◌>>=◌}
use Rattle.css_prelude.specs.Media.{is_medium, is_screen, listed_as, word_taken, with_word, with_comma}
use Rattle.css_prelude.specs.Media.{ended, listed_from, media_of}
use Rattle.selector_laws.specs.Spaces.{AreSpaces, Spaced, IsSign}
use Rattle.selector_laws.specs.Media.{IsMedium, AreListed, screen_among, AreMedia}
use Rattle.selector_laws.proofs.Starts.{ident_only, none_no_sign, sign_no_space}

or_none : (a : Bool) → (a || false) ≡ a
or_none true = refl
or_none false = refl

or_next : (a b c : Bool) → ((a || b) || c) ≡ (a || (b || c))
or_next true b c = refl
or_next false b c = refl

same : (a b : Bool) → Some a ≡ Some b → b ≡ a
same a b h = cc

-- What is read has its form.

-- media, with what was found in front of them
abbrev Found : Bool → List Lexeme → Bool → Type 0
Found found xs applies = (first : List ℕ) × (others : List (List ℕ)) × (more : List Lexeme) × Spaced xs more
    × AreListed first others more × (applies ≡ (found || screen_among (first ∷ others)))

-- a comma, and media
abbrev Behind : Bool → List Lexeme → Bool → Type 0
Behind found xs applies = (first : List ℕ) × (others : List (List ℕ)) × (more : List Lexeme) × IsSign 44 xs more
    × AreListed first others more × (applies ≡ (found || screen_among (first ∷ others)))

abbrev Left : Awaits → Bool → List Lexeme → Bool → Type 0
Left awaits.First found xs applies = (AreSpaces xs × (applies ≡ true)) ⊎ Found found xs applies
Left awaits.Word found xs applies = Found found xs applies
Left awaits.Comma found xs applies = (AreSpaces xs × (applies ≡ found)) ⊎ Behind found xs applies

no_gap : (xs : List Lexeme) → Spaced xs xs
no_gap xs = ([], refl, tt)

wider : (x : Lexeme) (xs rest : List Lexeme) → is_space x ≡ true → Spaced xs rest → Spaced (x ∷ xs) rest
wider x xs rest h g = (x ∷ g.0, ap (λ (ys : List Lexeme). x ∷ ys) g.1, (h, g.2))

found_wider : (found applies : Bool) (x : Lexeme) (xs : List Lexeme) → is_space x ≡ true → Found found xs applies
    → Found found (x ∷ xs) applies
found_wider found applies x xs h m = (m.0, m.1, m.2, wider x xs m.2 h m.3, m.4, m.5)

left_wider : (a : Awaits) (found applies : Bool) (x : Lexeme) (xs : List Lexeme) → is_space x ≡ true → Left a found xs applies
    → Left a found (x ∷ xs) applies
left_wider awaits.First found applies x xs h (inl l) = inl ((h, l.0), l.1)
left_wider awaits.First found applies x xs h (inr m) = inr (found_wider found applies x xs h m)
left_wider awaits.Word found applies x xs h m = found_wider found applies x xs h m
left_wider awaits.Comma found applies x xs h (inl l) = inl ((h, l.0), l.1)
left_wider awaits.Comma found applies x xs h (inr m) =
    let s = m.3 in
    inr (m.0, m.1, m.2, (s.0, s.1, wider x xs (s.0 ∷ s.1) h s.2, s.3, s.4), m.4, m.5)

with_medium : (w : List ℕ) (found applies : Bool) (x : Lexeme) (xs : List Lexeme) → IsMedium w x
    → Left awaits.Comma (found || is_screen w) xs applies → Found found (x ∷ xs) applies
with_medium w found applies x xs is (inl l) = (
  w,
  [],
  x ∷ xs,
  no_gap (x ∷ xs),
  (x, xs, refl, is, l.0),
  l.1 ∙ ap (λ (b : Bool). found || b) (sym (or_none (is_screen w))),
)
with_medium w found applies x xs is (inr m) = (
  w,
  m.0 ∷ m.1,
  x ∷ xs,
  no_gap (x ∷ xs),
  (x, xs, m.2, refl, is, m.3, m.4),
  m.5 ∙ or_next found (is_screen w) (screen_among (m.0 ∷ m.1)),
)

behind_comma : (found applies : Bool) (x : Lexeme) (xs : List Lexeme) → is_delim 44 x ≡ true → Found found xs applies
    → Behind found (x ∷ xs) applies
behind_comma found applies x xs h m = (m.0, m.1, m.2, (x, xs, no_gap (x ∷ xs), h, m.3), m.4, m.5)

abbrev Below : Bool → List Lexeme → Type 0
Below applies xs = (a : Awaits) (found : Bool) → listed_from (listed_as a found) xs ≡ Some applies → Left a found xs applies

left_said : (a : Awaits) (found applies : Bool) (xs : List Lexeme) → listed_from (listed_as a found) xs ≡ Some applies
    → Left a found xs applies
left_said awaits.First found applies [] h = inl (tt, same true applies h)
left_said awaits.Word found applies [] h = absurd cc
left_said awaits.Comma found applies [] h = inl (tt, same found applies h)
left_said a found applies (x ∷ xs) h = by_kind (λ b f. left_said b f applies xs) (is_space x) (is_delim 44 x) (ident_of x)
    refl refl refl h
  where
    by_medium : Below applies xs → (w : List ℕ) → ident_of x ≡ Some w → (a : Awaits) (m : Bool) → is_medium w ≡ m
        → (cond m (word_taken a found w) None >>= λ next. listed_from next xs) ≡ Some applies → Left a found (x ∷ xs) applies
    by_medium below w i awaits.First true m h =
        inr (with_medium w found applies x xs (i, m) (below awaits.Comma (found || is_screen w) h))
    by_medium below w i awaits.Word true m h =
        with_medium w found applies x xs (i, m) (below awaits.Comma (found || is_screen w) h)
    by_medium below w i awaits.Comma true m h = absurd cc
    by_medium below w i a false m h = absurd cc

    by_comma : Below applies xs → is_delim 44 x ≡ true → (a : Awaits)
        → (with_comma (listed_as a found) >>= λ next. listed_from next xs) ≡ Some applies → Left a found (x ∷ xs) applies
    by_comma below d awaits.First h = absurd cc
    by_comma below d awaits.Word h = absurd cc
    by_comma below d awaits.Comma h = inr (behind_comma found applies x xs d (below awaits.Word found h))

    by_kind : Below applies xs → (s d : Bool) (o : Option (List ℕ)) → is_space x ≡ s → is_delim 44 x ≡ d → ident_of x ≡ o
        → (cond s (Some (listed_as a found)) (cond d (with_comma (listed_as a found)) (o >>= with_word (listed_as a found)))
        >>= λ next. listed_from next xs) ≡ Some applies → Left a found (x ∷ xs) applies
    by_kind below true d o hs hd ho h = left_wider a found applies x xs hs (below a found h)
    by_kind below false true o hs hd ho h = by_comma below hd a h
    by_kind below false false None hs hd ho h = absurd cc
    by_kind below false false (Some w) hs hd ho h = by_medium below w ho a (is_medium w) refl h

pub media_said : (xs : List Lexeme) (applies : Bool) → media_of xs ≡ Some applies → AreMedia xs applies
media_said xs applies h = by_left (left_said awaits.First false applies xs h)
  where
    by_left : Left awaits.First false xs applies → AreMedia xs applies
    by_left (inl l) = inl l
    by_left (inr m) = inr (record { first = m.0; others = m.1; more = m.2; spaced = m.3; listed = m.4; whole = m.5 })

-- What has its form is read.

skip : (l : Listed) (gap rest : List Lexeme) → AreSpaces gap → listed_from l (gap ++ rest) ≡ listed_from l rest
skip l [] rest h = refl
skip l (x ∷ gap) rest h =
    ap (λ (s : Bool). cond s (Some l) (cond (is_delim 44 x) (with_comma l) (ident_of x >>= with_word l))
    >>= λ next. listed_from next (gap ++ rest)) h.0 ∙ skip l gap rest h.1

skipped : (l : Listed) (xs rest : List Lexeme) → Spaced xs rest → listed_from l xs ≡ listed_from l rest
skipped l xs rest g = ap (listed_from l) g.1 ∙ skip l g.0 rest g.2

all_skipped : (l : Listed) (xs : List Lexeme) → AreSpaces xs → listed_from l xs ≡ ended l
all_skipped l [] h = refl
all_skipped l (x ∷ xs) h =
    ap (λ (s : Bool). cond s (Some l) (cond (is_delim 44 x) (with_comma l) (ident_of x >>= with_word l))
    >>= λ next. listed_from next xs) h.0 ∙ all_skipped l xs h.1

abbrev Takes : Awaits → Bool → Type 0
Takes a found = (w : List ℕ) → word_taken a found w ≡ Some (listed_as awaits.Comma (found || is_screen w))

word_read : (a : Awaits) (found : Bool) (w : List ℕ) (x : Lexeme) (xs : List Lexeme) → Takes a found → IsMedium w x
    → listed_from (listed_as a found) (x ∷ xs) ≡ listed_from (listed_as awaits.Comma (found || is_screen w)) xs
word_read a found w x xs takes is =
    let l = listed_as a found in
    let k = ident_only w x.symbol is.0 in
    ap (λ (s : Bool). cond s (Some l) (cond (is_delim 44 x) (with_comma l) (ident_of x >>= with_word l))
    >>= λ next. listed_from next xs) k.0
    ∙ ap (λ (d : Bool). cond d (with_comma l) (ident_of x >>= with_word l) >>= λ next. listed_from next xs)
    (none_no_sign 44 x k.1)
    ∙ ap (λ (o : Option (List ℕ)). o >>= with_word l >>= λ next. listed_from next xs) is.0
    ∙ ap (λ (m : Bool). cond m (word_taken a found w) None >>= λ next. listed_from next xs) is.1
    ∙ ap (λ (o : Option Listed). o >>= λ next. listed_from next xs) (takes w)

comma_read : (found : Bool) (x : Lexeme) (xs : List Lexeme) → is_delim 44 x ≡ true
    → listed_from (listed_as awaits.Comma found) (x ∷ xs) ≡ listed_from (listed_as awaits.Word found) xs
comma_read found x xs h =
    let l = listed_as awaits.Comma found in
    ap (λ (s : Bool). cond s (Some l) (cond (is_delim 44 x) (with_comma l) (ident_of x >>= with_word l))
    >>= λ next. listed_from next xs) (sign_no_space 44 x h)
    ∙ ap (λ (d : Bool). cond d (with_comma l) (ident_of x >>= with_word l) >>= λ next. listed_from next xs) h

listed_read : (a : Awaits) (found : Bool) (first : List ℕ) (others : List (List ℕ)) (xs : List Lexeme) → Takes a found
    → AreListed first others xs → listed_from (listed_as a found) xs ≡ Some (found || screen_among (first ∷ others))
listed_read a found first [] xs takes h =
    let then : Bool = found || is_screen first in
    ap (listed_from (listed_as a found)) h.2 ∙ word_read a found first h.0 h.1 takes h.3
    ∙ all_skipped (listed_as awaits.Comma then) h.1 h.4
    ∙ ap (λ (b : Bool). Some (found || b)) (sym (or_none (is_screen first)))
listed_read a found first (second ∷ others) xs takes h =
    let then : Bool = found || is_screen first in
    let s = h.5 in
    ap (listed_from (listed_as a found)) h.3 ∙ word_read a found first h.0 h.1 takes h.4
    ∙ skipped (listed_as awaits.Comma then) h.1 (s.0 ∷ s.1) s.2
    ∙ comma_read then s.0 s.1 s.3
    ∙ skipped (listed_as awaits.Word then) s.1 h.2 s.4
    ∙ listed_read awaits.Word then second others h.2 (λ w. refl) h.6
    ∙ ap (λ (b : Bool). Some b) (or_next found (is_screen first) (screen_among (second ∷ others)))

pub media_read : (xs : List Lexeme) (applies : Bool) → AreMedia xs applies → media_of xs ≡ Some applies
media_read xs applies (inl l) = all_skipped (listed_as awaits.First false) xs l.0 ∙ ap (λ (b : Bool). Some b) (sym l.1)
media_read xs applies (inr m) =
    skipped (listed_as awaits.First false) xs m.more m.spaced
    ∙ listed_read awaits.First false m.first m.others m.more (λ w. refl) m.listed
    ∙ ap (λ (b : Bool). Some b) (sym m.whole)

pub one_answer : (xs : List Lexeme) (a b : Bool) → AreMedia xs a → AreMedia xs b → a ≡ b
one_answer xs a b h k = same b a (sym (media_read xs b k) ∙ media_read xs a h)
