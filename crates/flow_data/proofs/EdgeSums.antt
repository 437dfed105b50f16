-- What is summed over the first edges, and over the next one, is no more than over all.
use Rattle.std.proofs.Common.{ℕ, zero, suc, ◌+◌, ◌<◌, ◌≤◌, List, [], ◌∷◌, length, get_or, take, arith, sum_by}
use Rattle.std.specs.List.{flat_map}
use Rattle.std.proofs.lemmas.List.Sums.{sum_by-append}
use Rattle.flow_data.specs.Data.{Edge}

pub sum-part : (g : ℕ → ℕ) (of : Edge → List ℕ) (edges : List Edge) (i : ℕ) (d : Edge) → i < length edges
    → sum_by g (flat_map of (take i edges)) + sum_by g (of (get_or edges i d)) ≤ sum_by g (flat_map of edges)
sum-part g of [] i d lt = absurd (omega arith)
sum-part g of (e ∷ es) zero d lt = let a = sum_by-append g (of e) (flat_map of es) in omega arith
sum-part g of (e ∷ es) (suc i) d lt =
    let a = sum_by-append g (of e) (flat_map of es) in
    let b = sum_by-append g (of e) (flat_map of (take i es)) in
    let r = sum-part g of es i d (omega arith) in
    omega arith
