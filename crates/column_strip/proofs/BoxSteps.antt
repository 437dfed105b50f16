-- Boxes that come or go one part of a list after another: what is summed so far, and the next part.
use Rattle.std.proofs.Common.{◌≡◌, ℕ, zero, suc, ◌+◌, ◌<◌, ◌≤◌, cond, List, [], ◌∷◌, ◌++◌, length, get_or, take, refl}
use Rattle.std.proofs.Common.{◌∙◌, ap, arith, sum_by}
use Rattle.std.specs.List.{flat_map}
use Rattle.std.proofs.lemmas.Grind.{flat_map-append}
use Rattle.std.proofs.lemmas.List.{append-nil, take_more}
use Rattle.std.proofs.lemmas.List.Sums.{sum_by-append}
use Rattle.flow_data.specs.declared.data.FlowsData.{FlowsData}
use Rattle.flow_data.specs.Flows.{box_of}
use Rattle.column_strip.specs.declared.open_boxes.OpenBoxes.{OpenBoxes}
use Rattle.column_strip.specs.Boxes.{IsWith, HasRoom, HasAmong}

abbrev pub one_box : ℕ → List ℕ
one_box b = b ∷ []

pub boxes-one : (xs : List ℕ) → flat_map one_box xs ≡ xs
boxes-one [] = refl
boxes-one (x ∷ xs) = ap (λ ys. x ∷ ys) (boxes-one xs)

module _ {X : Type 0} (of : X → List ℕ) (parts : List X) (i : ℕ) (x : X) (lt : i < length parts) where
  step-list : flat_map of (take (i + 1) parts) ≡ flat_map of (take i parts) ++ (of (get_or parts i x) ++ [])
  step-list = ap (flat_map of) (take_more parts i x lt) ∙ flat_map-append of (take i parts) (get_or parts i x ∷ [])

  step-sum : (g : ℕ → ℕ) → sum_by g (flat_map of (take (i + 1) parts)) ≡ sum_by g (flat_map of (take i parts)) + sum_by g
      (of (get_or parts i x))
  step-sum g =
      let e = ap (sum_by g) step-list in
      let a = sum_by-append g (flat_map of (take i parts)) (of (get_or parts i x) ++ []) in
      let b = ap (sum_by g) (append-nil (of (get_or parts i x))) in
      omega arith

part-sum : {X : Type 0} (of : X → List ℕ) (parts : List X) (i : ℕ) (x : X) → i < length parts → (g : ℕ → ℕ) →
    sum_by g (flat_map of (take i parts)) + sum_by g (of (get_or parts i x)) ≤ sum_by g (flat_map of parts)
part-sum of [] i x lt g = absurd (omega arith)
part-sum of (p ∷ ps) zero x lt g = let a = sum_by-append g (of p) (flat_map of ps) in omega arith
part-sum of (p ∷ ps) (suc i) x lt g =
    let a = sum_by-append g (of p) (flat_map of ps) in
    let b = sum_by-append g (of p) (flat_map of (take i ps)) in
    let r = part-sum of ps i x (omega arith) g in
    omega arith

module _ {X : Type 0} (d : FlowsData) (of : X → List ℕ) (parts : List X) (i : ℕ) (x : X) (lt : i < length parts) where
  abbrev tops_of : ℕ → ℕ
  tops_of b = (box_of d b).top

  abbrev bottoms_of : ℕ → ℕ
  bottoms_of b = (box_of d b).bottom

  abbrev avoid_of : ℕ → ℕ
  avoid_of b = cond (box_of d b).avoid 1 0

  pub room-next : (o now : OpenBoxes) → HasRoom d o (flat_map of parts) → IsWith d o (flat_map of (take i parts)) now
      → HasRoom d now (of (get_or parts i x))
  room-next o now room with =
      let rt = room.above in
      let rb = room.below in
      let ra = room.avoid in
      let wt = with.above in
      let wb = with.below in
      let wa = with.avoid in
      record {
        above = omega (arith, part-sum of parts i x lt tops_of);
        below = omega (arith, part-sum of parts i x lt bottoms_of);
        avoid = omega (arith, part-sum of parts i x lt avoid_of);
      }

  pub with-next : (o now next : OpenBoxes) → IsWith d o (flat_map of (take i parts)) now
      → IsWith d now (of (get_or parts i x)) next → IsWith d o (flat_map of (take (i + 1) parts)) next
  with-next o now next with more =
      let wt = with.above in
      let wb = with.below in
      let wa = with.avoid in
      let mt = more.above in
      let mb = more.below in
      let ma = more.avoid in
      record {
        above = omega (arith, step-sum of parts i x lt tops_of);
        below = omega (arith, step-sum of parts i x lt bottoms_of);
        avoid = omega (arith, step-sum of parts i x lt avoid_of);
      }

  pub among-next : (o now : OpenBoxes) → HasAmong d o (flat_map of parts) → IsWith d now (flat_map of (take i parts)) o
      → HasAmong d now (of (get_or parts i x))
  among-next o now among with =
      let rt = among.above in
      let rb = among.below in
      let ra = among.avoid in
      let wt = with.above in
      let wb = with.below in
      let wa = with.avoid in
      record {
        above = omega (arith, part-sum of parts i x lt tops_of);
        below = omega (arith, part-sum of parts i x lt bottoms_of);
        avoid = omega (arith, part-sum of parts i x lt avoid_of);
      }

  pub less-next : (o now next : OpenBoxes) → IsWith d now (flat_map of (take i parts)) o
      → IsWith d next (of (get_or parts i x)) now → IsWith d next (flat_map of (take (i + 1) parts)) o
  less-next o now next with more =
      let wt = with.above in
      let wb = with.below in
      let wa = with.avoid in
      let mt = more.above in
      let mb = more.below in
      let ma = more.avoid in
      record {
        above = omega (arith, step-sum of parts i x lt tops_of);
        below = omega (arith, step-sum of parts i x lt bottoms_of);
        avoid = omega (arith, step-sum of parts i x lt avoid_of);
      }

-- no boxes come or go
pub with-none : (d : FlowsData) (o : OpenBoxes) → IsWith d o [] o
with-none d o = record { above = omega arith; below = omega arith; avoid = omega arith }
