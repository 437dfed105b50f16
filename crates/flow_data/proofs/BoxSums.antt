-- What is summed over the boxes that are open in a flow is no more than over all its boxes.
use Rattle.std.proofs.Common.{ℕ, zero, suc, ◌+◌, ◌≤◌, Bool, not, List, [], ◌∷◌, ◌++◌, take, refl, arith, sum_by}
use Rattle.std.specs.Prelude.{filter}
use Rattle.std.specs.List.{flat_map}
use Rattle.std.proofs.lemmas.List.Sums.{sum_by-append}
use Rattle.std.proofs.lemmas.List.Filters.{sum_by-filter_both}
use Rattle.flow_data.specs.Data.{Flow, Seam}
use Rattle.flow_data.specs.Flows.{started, starts_in, is_among, ends_in, open_at, boxes_in}

pub filter-le : (g : ℕ → ℕ) (p : ℕ → Bool) (xs : List ℕ) → sum_by g (filter p xs) ≤ sum_by g xs
filter-le g p xs = omega (arith, sum_by-filter_both p (λ x. not (p x)) (λ x. refl) g xs)

pub starts-take : (g : ℕ → ℕ) (n : ℕ) (seams : List Seam) → sum_by g (starts_in (take n seams)) ≤ sum_by g (starts_in seams)
starts-take g zero seams = omega arith
starts-take g (suc n) [] = omega arith
starts-take g (suc n) (s ∷ ss) =
    omega (
      arith,
      starts-take g n ss,
      sum_by-append g (flat_map started s.head) (starts_in (take n ss)),
      sum_by-append g (flat_map started s.head) (starts_in ss),
    )

pub open_at-le : (g : ℕ → ℕ) (f : Flow) (k : ℕ) → sum_by g (open_at f k) ≤ sum_by g (boxes_in f)
open_at-le g f k =
    let seams : List Seam = take (k + 1) f.seams in
    omega (
      arith,
      filter-le g (λ b. not (is_among (ends_in seams) b)) (f.opened ++ starts_in seams),
      starts-take g (k + 1) f.seams,
      sum_by-append g f.opened (starts_in seams),
      sum_by-append g f.opened (starts_in f.seams),
    )
