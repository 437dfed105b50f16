-- Texts that begin with, end with or have others.
use Rattle.std.proofs.Common.{◌≡◌, ◌≢◌, ℕ, zero, suc, ◌<◌, ◌≤◌, ◌⊎◌, inl, inr, true, List, [], ◌∷◌, ◌++◌, length, take, drop}
use Rattle.std.proofs.Common.{get_or, refl, sym, ap, subst, ◌∙◌, arith, append_assoc, length-append}
use Rattle.std.specs.Prelude.{Any}
use Rattle.std.specs.List.{list_any, slice_split}
use Rattle.std.specs.Str.{bytes_eq}
use Rattle.std.proofs.lemmas.Bool.{cases_lt}
use Rattle.std.proofs.lemmas.List.{take-append-drop}
use Rattle.std.proofs.lemmas.List.Folds.{Any-from_list_any, list_any-from_Any}
use Rattle.std.proofs.lemmas.List.Prefix.{front_rest}
use Rattle.std.proofs.lemmas.Slice.Eq.{bytes_eq-Decides}
use Rattle.html_grammar.specs.Tokens.{is_space}
use Rattle.css_select.specs.Attributes.{BeginsWith, HasPart}

-- Parts.

pub part_at : (text part : List ℕ) (k : ℕ) → BeginsWith (drop k text) part → HasPart text part
part_at text part k (rest, e) = (
  take k text,
  (
    rest,
    sym (take-append-drop k text)
        ∙ (ap (λ v. take k text ++ v) e ∙ sym (append_assoc (take k text) part rest)),
  ),
)

pub at_part : (text part : List ℕ) (h : HasPart text part) → BeginsWith (drop (length h.0) text) part
at_part text part h = (h.1.0, front_rest text h.0 (part ++ h.1.0) (h.1.1 ∙ append_assoc h.0 part h.1.0))

past_end : (text : List ℕ) (k : ℕ) → length text ≤ k → drop k text ≡ []
past_end [] zero le = refl
past_end [] (suc k) le = refl
past_end (c ∷ text) zero le = absurd (omega arith)
past_end (c ∷ text) (suc k) le = past_end text k (omega arith)

no_front : (part rest : List ℕ) → [] ≡ part ++ rest → length part ≡ 0
no_front [] rest e = refl
no_front (c ∷ part) rest e = absurd cc

-- a part that stands at no place inside is empty
pub none_inside : (text part : List ℕ) → ((k : ℕ) → k < length text → BeginsWith (drop k text) part → ⊥) → HasPart text part
    → length part ≡ 0
none_inside text part none h = by (cases_lt (length h.0) (length text))
  where
    by : (length h.0 < length text) ⊎ (length text ≤ length h.0) → length part ≡ 0
    by (inl lt) = absurd (none (length h.0) lt (at_part text part h))
    by (inr le) = let at = at_part text part h in no_front part at.0 (sym (past_end text (length h.0) le) ∙ at.1)

pub empty_part : (text part : List ℕ) → length part ≡ 0 → HasPart text part
empty_part text [] e = part_at text [] 0 (text, refl)
empty_part text (c ∷ part) e = absurd (omega arith)

-- A front and a `-`.

at_seam : (front rest : List ℕ) (c : ℕ) → get_or (front ++ (c ∷ rest)) (length front) 0 ≡ c
at_seam [] rest c = refl
at_seam (d ∷ front) rest c = at_seam front rest c

pub dashed_from : (text front : List ℕ) → length front < length text → get_or text (length front) 0 ≡ 45 → BeginsWith text front
    → BeginsWith text (front ++ 45 ∷ [])
dashed_from text front lt is ([], e) = absurd (let same = ap length e in omega (arith, length-append front []))
dashed_from text front lt is (c ∷ rest, e) =
    let P : List ℕ → Type 0 = λ v. get_or v (length front) 0 ≡ 45 in
    let dash : c ≡ 45 = sym (at_seam front rest c) ∙ subst P e is in
    (rest, e ∙ (ap (λ v. front ++ (v ∷ rest)) dash ∙ sym (append_assoc front (45 ∷ []) rest)))

dashed : (text front : List ℕ) (h : BeginsWith text (front ++ 45 ∷ [])) → text ≡ front ++ (45 ∷ h.0)
dashed text front h = h.1 ∙ append_assoc front (45 ∷ []) h.0

pub front_of_dashed : (text front : List ℕ) → BeginsWith text (front ++ 45 ∷ []) → BeginsWith text front
front_of_dashed text front h = (45 ∷ h.0, dashed text front h)

pub longer_than_front : (text front : List ℕ) → BeginsWith text (front ++ 45 ∷ []) → length front < length text
longer_than_front text front h = let same = ap length (dashed text front h) in omega (arith, length-append front (45 ∷ h.0))

pub dash_at : (text front : List ℕ) → BeginsWith text (front ++ 45 ∷ []) → get_or text (length front) 0 ≡ 45
dash_at text front h = let P : List ℕ → Type 0 = λ v. get_or v (length front) 0 ≡ 45
    in subst P (sym (dashed text front h)) (at_seam front h.0 45)

-- Words.

same_parts : (parts : List (List ℕ)) (part : List ℕ) → Any (λ w. bytes_eq w part ≡ true) parts → Any (λ w. w ≡ part) parts
same_parts parts part (k, w, lt, at, is) = (k, w, lt, at, (bytes_eq-Decides w part).0 is)

parts_same : (parts : List (List ℕ)) (part : List ℕ) → Any (λ w. w ≡ part) parts → Any (λ w. bytes_eq w part ≡ true) parts
parts_same parts part (k, w, lt, at, is) = (k, w, lt, at, (bytes_eq-Decides w part).1 is)

pub word_from : (text part : List ℕ) → list_any (λ other. bytes_eq other part) (slice_split is_space text) ≡ true
    → Any (λ w. w ≡ part) (slice_split is_space text)
word_from text part h = same_parts (slice_split is_space text) part
    (Any-from_list_any (λ other. bytes_eq other part) (slice_split is_space text) h)

pub from_word : (text part : List ℕ) → Any (λ w. w ≡ part) (slice_split is_space text)
    → list_any (λ other. bytes_eq other part) (slice_split is_space text) ≡ true
from_word text part h = list_any-from_Any (λ other. bytes_eq other part) (slice_split is_space text)
    (parts_same (slice_split is_space text) part h)

pub none_before_end : (text part : List ℕ) (n : ℕ) → length text ≤ n → ((k : ℕ) → k < n → BeginsWith (drop k text) part → ⊥)
    → HasPart text part → length part ≡ 0
none_before_end text part n le none h = none_inside text part (λ k lt. none k (omega arith)) h

pub some_word : (word : List ℕ) → (length word ≡ 0 → ⊥) → word ≢ []
some_word word some e = some (ap length e)
