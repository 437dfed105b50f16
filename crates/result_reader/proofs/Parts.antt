-- The parts of bytes, and the words of a line.
use Rattle.std.proofs.Common.{◌≡◌, ℕ, ◌-◌, ◌==◌, ◌<◌, ◌≤◌, Bool, true, false, List, [], ◌∷◌, length, take, drop, refl, sym}
use Rattle.std.proofs.Common.{◌∙◌, ap, cond, suc, arith, Option, Some, None}
use Rattle.std.specs.Prelude.{nat_le}
use Rattle.std.proofs.lemmas.Bool.Decides.{nat_tests}
use Rattle.flow_text.specs.Text.{len_before}
use Rattle.result_laws.specs.Words.{onto, parted, smalls_of, small_of, where_true, ◌>>=◌}
use Rattle.result_laws.proofs.WordsBack.{parted-step, parted-stop, parted-none, some-step, where-is}
use Rattle.result_reader.specs.Words.{behind, two_of, three_of, four_of, token_to}

abbrev split_at : ℕ → List ℕ → ℕ → List (List ℕ)
split_at stop bytes n = take n bytes ∷ behind stop (drop n bytes)

-- the first part, and those behind it
pub part-is : (stop : ℕ) (bytes : List ℕ) → parted stop bytes ≡ take (len_before stop bytes) bytes ∷ behind stop
    (drop (len_before stop bytes) bytes)
part-is stop [] = parted-none stop
part-is stop (b ∷ bytes) = go (b == stop) refl (part-is stop bytes)
  where
    go : (t : Bool) → (b == stop) ≡ t → parted stop bytes ≡ split_at stop bytes (len_before stop bytes)
        → parted stop (b ∷ bytes) ≡ split_at stop (b ∷ bytes) (cond (b == stop) 0 (suc (len_before stop bytes)))
    go true e k =
        parted-stop stop b bytes e
        ∙ ap (λ (t : Bool). split_at stop (b ∷ bytes) (cond t 0 (suc (len_before stop bytes)))) (sym e)
    go false e k =
        parted-step stop b bytes e ∙ ap (onto b) k
        ∙ ap (λ (t : Bool). split_at stop (b ∷ bytes) (cond t 0 (suc (len_before stop bytes)))) (sym e)

-- there is a part behind a byte
pub more-parts : (stop : ℕ) (rest : List ℕ) → 0 < length rest → (w : List ℕ) × (ws : List (List ℕ)) × (behind stop rest ≡ w ∷ ws)
more-parts stop [] lt = absurd (omega arith)
more-parts stop (b ∷ bytes) lt =
    (take (len_before stop bytes) bytes, behind stop (drop (len_before stop bytes) bytes), part-is stop bytes)

pub none-behind : (stop : ℕ) (rest : List ℕ) → length rest ≡ 0 → behind stop rest ≡ []
none-behind stop [] e = refl
none-behind stop (b ∷ bytes) e = absurd (omega arith)

pub more-than-two : (a b : List ℕ) (rest : List ℕ) → 0 < length rest → two_of (a ∷ b ∷ behind 32 rest) ≡ None
more-than-two a b rest lt = let k = more-parts 32 rest lt in ap (λ ws. two_of (a ∷ b ∷ ws)) k.2

-- words after one word
pub two-after : (a : List ℕ) (ws : List (List ℕ)) → two_of ws ≡ None → three_of (a ∷ ws) ≡ None
two-after a [] e = refl
two-after a (b ∷ []) e = refl
two-after a (b ∷ c ∷ []) e = absurd cc
two-after a (b ∷ c ∷ d ∷ ws) e = refl

pub three-after : (a : List ℕ) (ws : List (List ℕ)) → three_of ws ≡ None → four_of (a ∷ ws) ≡ None
three-after a [] e = refl
three-after a (b ∷ []) e = refl
three-after a (b ∷ c ∷ []) e = refl
three-after a (b ∷ c ∷ d ∷ []) e = absurd cc
three-after a (b ∷ c ∷ d ∷ f ∷ ws) e = refl

-- ---- places

smalls-length : (ws : List (List ℕ)) (ns : List ℕ) → smalls_of ws ≡ Some ns → length ns ≡ length ws
smalls-length [] ns e = let k : [] ≡ ns = cc in sym (ap (λ (xs : List ℕ). length xs) k)
smalls-length (w ∷ ws) ns e = some-step (length ns ≡ length (w ∷ ws)) (small_of w) _ ns e
    (λ n i f. some-step (length ns ≡ length (w ∷ ws)) (smalls_of ws) _ ns f (λ ms j g.
    let k = smalls-length ws ms j in
    let same : n ∷ ms ≡ ns = cc in
    let long = ap (λ (xs : List ℕ). length xs) same in
    omega arith))

abbrev placed : ℕ → List ℕ → Option (List ℕ)
placed most q = where_true (nat_le (length q) most) q

abbrev onto_place : ℕ → List ℕ → Option (List ℕ)
onto_place item q = Some (item ∷ q)

placed-more : (most item : ℕ) (ns : List ℕ) → 1 ≤ most
    → placed most (item ∷ ns) ≡ (placed (most - 1) ns >>= onto_place item)
placed-more most item ns some = go (nat_le (length (item ∷ ns)) most) (nat_le (length ns) (most - 1)) refl refl
  where
    go : (t u : Bool) → nat_le (length (item ∷ ns)) most ≡ t → nat_le (length ns) (most - 1) ≡ u
        → where_true t (item ∷ ns) ≡ (where_true u ns >>= onto_place item)
    go true true e f = refl
    go false false e f = refl
    go true false e f = absurd (grind (arith, nat_tests))
    go false true e f = absurd (grind (arith, nat_tests))

-- a place with one number more
pub place-more : (most item : ℕ) (front : List ℕ) (ws : List (List ℕ)) → 1 ≤ most → small_of front ≡ Some item
    → (smalls_of (front ∷ ws) >>= placed most) ≡ ((smalls_of ws >>= placed (most - 1)) >>= onto_place item)
place-more most item front ws some e = rw e (go (smalls_of ws))
  where
    go : (o : Option (List ℕ)) → ((o >>= onto_place item) >>= placed most) ≡ ((o >>= placed (most - 1)) >>= onto_place item)
    go None = refl
    go (Some ns) = placed-more most item ns some

-- no place without a number, nor of more numbers than it may have
pub too-many : (w : List ℕ) (ws : List (List ℕ)) → (smalls_of (w ∷ ws) >>= placed 0) ≡ None
too-many w ws = go (smalls_of (w ∷ ws)) refl
  where
    go : (o : Option (List ℕ)) → smalls_of (w ∷ ws) ≡ o → (o >>= placed 0) ≡ None
    go None e = refl
    go (Some []) e = let k = smalls-length (w ∷ ws) [] e in absurd (omega arith)
    go (Some (n ∷ ns)) e =
        let f : nat_le (length (n ∷ ns)) 0 ≡ false = grind (arith, nat_tests) in ap (λ (t : Bool). where_true t (n ∷ ns)) f

pub place-too-long : (most item : ℕ) (word front rest : List ℕ) → most ≡ 1 → parted 46 word ≡ front ∷ behind 46 rest
    → small_of front ≡ Some item → 0 < length rest → token_to most word ≡ None
place-too-long most item word front rest one parts is some =
    let k = more-parts 46 rest some in
    let none : most - 1 ≡ 0 = omega arith in
    ap (λ (ws : List (List ℕ)). smalls_of ws >>= placed most) parts
    ∙ place-more most item front (behind 46 rest) (omega arith) is
    ∙ ap (λ (n : ℕ). (smalls_of (behind 46 rest) >>= placed n) >>= onto_place item) none
    ∙ ap (λ (ws : List (List ℕ)). (smalls_of ws >>= placed 0) >>= onto_place item) k.2
    ∙ ap (λ (o : Option (List ℕ)). o >>= onto_place item) (too-many k.0 k.1)

pub place-few : (most : ℕ) (word q : List ℕ) → token_to most word ≡ Some q → length q ≤ most
place-few most word q e = some-step (length q ≤ most) (smalls_of (parted 46 word)) (placed most) q e (λ ns i f.
    let k = where-is (nat_le (length ns) most) ns q f in
    let t : nat_le (length ns) most ≡ true = k.0 in
    let same = ap (λ (xs : List ℕ). length xs) k.1 in
    grind (arith, nat_tests))

pub ruleset part_rules = (part-is)

pub ruleset word_rules = (none-behind, more-than-two, two-after, three-after)

pub ruleset place_rules = (none-behind, place-more, too-many, place-few)
