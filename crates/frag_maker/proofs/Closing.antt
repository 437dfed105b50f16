-- Where a box ends among what is placed.
use Rattle.std.proofs.Common.{◌≡◌, ℕ, suc, ◌+◌, ◌<◌, true, false, List, [], ◌∷◌, ◌++◌, length, map, take}
use Rattle.std.proofs.Common.{drop, get_or, Some, refl, sym, ◌∙◌, ap, add-one, append_assoc}
use Rattle.std.proofs.Math.Seq.{take-suc, drop-cons}
use Rattle.std.proofs.lemmas.List.{map-append, append-nil}
use Rattle.flow_list.specs.Fragments.{closes_here, inside_box, behind_box, bottom_of, place_of}
use Rattle.frag_maker.specs.declared.placed.Placed.{Placed}
use Rattle.frag_maker.specs.Building.{placed_as}

-- the box ends at none of the first i of these
pub record NotClosedBefore (b : ℕ) (xs : List Placed) (i : ℕ) : Type 0 where
  pub inside : inside_box b (map placed_as xs) ≡ map placed_as (take i xs) ++ inside_box b (map placed_as (drop i xs))
  pub behind : behind_box b (map placed_as xs) ≡ behind_box b (map placed_as (drop i xs))
  pub bottom : bottom_of b (map placed_as xs) ≡ bottom_of b (map placed_as (drop i xs))

module _ (b : ℕ) (xs : List Placed) (i : ℕ) (x : Placed) (lt : i < length xs) (at : x ≡ get_or xs i x) where
  here : drop i xs ≡ x ∷ drop (i + 1) xs
  here = rw add-one (drop-cons xs i x lt ∙ ap (λ y. y ∷ drop (suc i) xs) (sym at))

  so_far : take (i + 1) xs ≡ take i xs ++ x ∷ []
  so_far = rw add-one (take-suc xs i x lt ∙ ap (λ y. take i xs ++ y ∷ []) (sym at))

  pub still-open : NotClosedBefore b xs i → closes_here b (placed_as x) ≡ false → NotClosedBefore b xs (i + 1)
  still-open h more = record {
    inside = h.inside ∙ rw (here, so_far, more)
        (sym (ap (λ ys. ys ++ inside_box b (map placed_as (drop (i + 1) xs))) (map-append placed_as (take i xs) (x ∷ []))
        ∙ append_assoc (map placed_as (take i xs)) (placed_as x ∷ []) (inside_box b (map placed_as (drop (i + 1) xs)))));
    behind = h.behind ∙ rw (here, more) refl;
    bottom = h.bottom ∙ rw (here, more) refl;
  }

  pub closed-inside : NotClosedBefore b xs i → closes_here b (placed_as x) ≡ true →
      inside_box b (map placed_as xs) ≡ map placed_as (take i xs)
  closed-inside h closed = h.inside ∙ rw (here, closed) (append-nil (map placed_as (take i xs)))

  pub closed-behind : NotClosedBefore b xs i → closes_here b (placed_as x) ≡ true →
      behind_box b (map placed_as xs) ≡ map placed_as (drop (i + 1) xs)
  closed-behind h closed = h.behind ∙ rw (here, closed) refl

  pub closed-bottom : NotClosedBefore b xs i → closes_here b (placed_as x) ≡ true →
      bottom_of b (map placed_as xs) ≡ Some (place_of (placed_as x))
  closed-bottom h closed = h.bottom ∙ rw (here, closed) refl
