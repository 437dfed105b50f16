-- The book finds the entry of a row from a place on by its key, and a new entry goes last.
use Rattle.std.proofs.Common.{◌≡◌, ℕ, suc, ◌+◌, Bool, true, false, cond, List, [], ◌∷◌, ◌++◌, length, map, Some, None}
use Rattle.std.proofs.Common.{◌≤◌, not, nat_lt, position, refl, ◌∙◌, ap, arith}
use Rattle.std.specs.Prelude.{◌&&◌, ◌||◌, ◌==◌, nat_eq, unwrap_or}
use Rattle.std.specs.List.{list_any, position_or_len}
use Rattle.std.proofs.lemmas.Bool.Decides.{nat_tests}
use Rattle.std.proofs.lemmas.List.Sums.{prefix_len-le-length}
use Rattle.std.specs.Cmp.Lexicographic.{pointwise}
use Rattle.std.specs.Map.{lookup, keys_of, values_of}
use Rattle.indexmap.specs.IndexMap.{IndexMap, get, insert_entry, keys, values}
use Rattle.indexmap.proofs.CallerLemmas.{insert_entry-new}
use Rattle.flow_list.specs.Certificate.{Use, same_token, same_use, stands_in}
use Rattle.flow_list.specs.Entries.{use_of, uses_in, entry_for, place_of}
use Rattle.flow_list.specs.ResultText.{number_in}
use Rattle.flow_list.specs.declared.book.SizeEntry.{SizeEntry}
use Rattle.flow_list.specs.declared.place.Place.{Place}

same-numbers : (p q : List ℕ) → pointwise nat_eq p q ≡ same_token p q
same-numbers [] [] = refl
same-numbers [] (j ∷ q) = refl
same-numbers (i ∷ p) [] = refl
same-numbers (i ∷ p) (j ∷ q) = ap (λ b. (i == j) && b) (same-numbers p q)

-- whether two keys are equal
abbrev pub same_place : Place → Place → Bool
same_place a b = (a.row == b.row) && pointwise nat_eq a.from b.from

pub found-by-place : (es : List (Place × SizeEntry)) → keys_of es ≡ map place_of (values_of es) → (u : Use) →
    lookup (same_place (record { row = u.0; from = u.1 })) es ≡ entry_for (values_of es) u
found-by-place [] keyed u = refl
found-by-place (e ∷ es) keyed u =
    let head : e.0 ≡ place_of e.1 = cc in
    let rest : keys_of es ≡ map place_of (values_of es) = cc in
    rw (head, same-numbers u.1 e.1.from, found-by-place es rest u) refl

-- ---- the number of an entry

-- a key has the number that its size has
number-of-place : (es : List (Place × SizeEntry)) → keys_of es ≡ map place_of (values_of es) → (u : Use) →
    position_or_len (same_place (record { row = u.0; from = u.1 })) (keys_of es) ≡ number_in (uses_in (values_of es)) u
number-of-place [] keyed u = refl
number-of-place (e ∷ es) keyed u =
    let p : Place = record { row = u.0; from = u.1 } in
    let head : e.0 ≡ place_of e.1 = cc in
    let rest : keys_of es ≡ map place_of (values_of es) = cc in
    let same : same_place p e.0 ≡ same_use u (use_of e.1) =
    ap (same_place p) head ∙ ap (λ b. (u.0 == e.1.row) && b) (same-numbers u.1 e.1.from) in
    turned (same_place p e.0) (1 + position_or_len (same_place p) (keys_of es))
    ∙ ap (λ n. cond (same_place p e.0) 0 (1 + n)) (number-of-place es rest u)
    ∙ ap (λ b. cond b 0 (1 + number_in (uses_in (values_of es)) u)) same
  where
    turned : (b : Bool) (n : ℕ) → cond (not b) n 0 ≡ cond b 0 n
    turned true n = refl
    turned false n = refl

-- the place that is found, or how many there are
found-or-all : {X : Type 0} (p : X → Bool) (xs : List X) → unwrap_or (position p xs) (length xs) ≡ position_or_len p xs
found-or-all p xs =
    go (nat_lt (position_or_len p xs) (length xs)) (position_or_len p xs) (length xs) refl
    (prefix_len-le-length (λ x. not (p x)) xs)
  where
    go : (b : Bool) (n all : ℕ) → nat_lt n all ≡ b → n ≤ all → unwrap_or (cond b (Some n) None) all ≡ n
    go true n all is le = refl
    go false n all is le = grind (arith, nat_tests)

same-count : (es : List (Place × SizeEntry)) → length (values_of es) ≡ length (keys_of es)
same-count [] = refl
same-count (e ∷ es) = ap suc (same-count es)

pub numbered-by-place : (es : List (Place × SizeEntry)) → keys_of es ≡ map place_of (values_of es) → (u : Use) →
    unwrap_or (position (same_place (record { row = u.0; from = u.1 })) (keys_of es)) (length (values_of es))
    ≡ number_in (uses_in (values_of es)) u
numbered-by-place es keyed u =
    let p : Place = record { row = u.0; from = u.1 } in
    ap (λ n. unwrap_or (position (same_place p) (keys_of es)) n) (same-count es)
    ∙ found-or-all (same_place p) (keys_of es) ∙ number-of-place es keyed u

-- a size that doesn't stand in the book has no entry
none-for : (book : List SizeEntry) (u : Use) → stands_in (uses_in book) u ≡ false → entry_for book u ≡ None
none-for [] u none = refl
none-for (e ∷ book) u none = go (same_use u (use_of e)) (λ i. none-for book u i) none
  where
    go : (b : Bool) → (stands_in (uses_in book) u ≡ false → entry_for book u ≡ None) →
        (b || list_any (same_use u) (uses_in book)) ≡ false → cond b (Some e) (entry_for book u) ≡ None
    go true again is = absurd (cc)
    go false again is = again is

-- ---- a new entry

values-last : (es : List (Place × SizeEntry)) (k : Place) (v : SizeEntry) →
    values_of (es ++ (k, v) ∷ []) ≡ values_of es ++ v ∷ []
values-last [] k v = refl
values-last (e ∷ es) k v = ap (λ vs. e.1 ∷ vs) (values-last es k v)

keyed-last : (es : List (Place × SizeEntry)) (k : Place) (v : SizeEntry) → keys_of es ≡ map place_of (values_of es) →
    k ≡ place_of v → keys_of (es ++ (k, v) ∷ []) ≡ map place_of (values_of (es ++ (k, v) ∷ []))
keyed-last [] k v keyed is = ap (λ p. p ∷ []) is
keyed-last (e ∷ es) k v keyed is =
    let head : e.0 ≡ place_of e.1 = cc in
    let rest : keys_of es ≡ map place_of (values_of es) = cc in
    rw (head, keyed-last es k v rest is) refl

-- a new entry goes last, under its key
pub entered : {S : Type 0} (m : IndexMap Place SizeEntry S) (k : Place) (v : SizeEntry) → keys m ≡ map place_of (values m) →
    k ≡ place_of v → stands_in (uses_in (values m)) (use_of v) ≡ false → (new : List (Place × SizeEntry)) →
    new ≡ insert_entry same_place m.entries k v →
    (keys_of new ≡ map place_of (values_of new)) × (values_of new ≡ values m ++ v ∷ [])
entered m k v keyed is out new entries =
    let none : get same_place m k ≡ None = rw is (found-by-place m.entries keyed (use_of v) ∙ none-for (values m) (use_of v) out) in
    let last : new ≡ m.entries ++ (k, v) ∷ [] = entries ∙ insert_entry-new same_place m k v none in
    (rw last (keyed-last m.entries k v keyed is), rw last (values-last m.entries k v))
