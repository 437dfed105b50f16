-- Boxes in their places by their numbers.
use Rattle.std.proofs.Common.{◌≡◌, ℕ, suc, ◌+◌, List, length, Option, Some, refl, sym, ap, subst, arith, length-append}
use Rattle.line_breaker.specs.declared.line.Line.{Line}
use Rattle.box_data.specs.declared.style.BoxStyle.{BoxStyle}
use Rattle.box_data.specs.BoxTree.{Boxes, none, box, Node, box_count, in_order}
use Rattle.box_data.specs.declared.placed.Placed.{Placed}
use Rattle.box_data.specs.Widths.{Place, placed_one, placed_from, place_in}
use Rattle.box_data.specs.Bounds.{AreParented}

pub count_is : (styles : List BoxStyle) (lines : List (List Line)) (parent : Option ℕ) (n : ℕ) (place : Place) (tree : Boxes Node)
    → box_count (placed_from styles lines parent n place tree) ≡ box_count tree
count_is styles lines parent n place none = refl
count_is styles lines parent n place (box node kids next) =
    let p = placed_one styles lines parent n node place in
    let k = count_is styles lines (Some n) (suc n) (place_in p place) kids in
    let m = count_is styles lines parent (suc n + box_count kids) place next in
    omega (arith, k, m)

pub length_is : (boxes : Boxes Placed) → length (in_order boxes) ≡ box_count boxes
length_is none = refl
length_is (box p kids next) = omega (arith, length-append (in_order kids) (in_order next), length_is kids, length_is next)

pub parented : (styles : List BoxStyle) (lines : List (List Line)) (parent : Option ℕ) (n : ℕ) (place : Place) (tree : Boxes Node)
    → AreParented parent n (placed_from styles lines parent n place tree)
parented styles lines parent n place none = tt
parented styles lines parent n place (box node kids next) =
    let p = placed_one styles lines parent n node place in
    let made = placed_from styles lines (Some n) (suc n) (place_in p place) kids in
    let later = placed_from styles lines parent (suc n + box_count kids) place next in
    let e : suc n + box_count kids ≡ suc n + box_count made =
    ap (λ m. suc n + m) (sym (count_is styles lines (Some n) (suc n) (place_in p place) kids)) in
    let P : ℕ → Type 0 = λ m. AreParented parent m later in (
      refl,
      refl,
      parented styles lines (Some n) (suc n) (place_in p place) kids,
      subst P e
          (parented styles lines parent (suc n + box_count kids) place next),
    )
