-- The cloned edges of the boxes that are open across a seam, in a sound flow: at a tail those that end there fall away, at a
-- head those that start there come.
use Rattle.std.proofs.Common.{◌≡◌, ℕ, zero, suc, ◌+◌, ◌<◌, ◌≤◌, cond, [], ◌∷◌, ◌++◌, length, take, get_or, sym, subst, ◌∙◌, ap}
use Rattle.std.proofs.Common.{arith, sum_by, add-one, All}
use Rattle.std.specs.Prelude.{◌==◌}
use Rattle.std.specs.List.{flat_map}
use Rattle.std.proofs.lemmas.Grind.{flat_map-append}
use Rattle.std.proofs.lemmas.List.{append-nil, take_more}
use Rattle.std.proofs.lemmas.List.Sums.{sum_by-append}
use Rattle.flow_list.specs.Data.{Flow, FlowsData, Seam}
use Rattle.flow_data.specs.Flows.{seam_of, no_seam, started, starts_in, ended, ends_in, open_at}
use Rattle.flow_data.specs.Soundness.{count_of, IsSoundFlow}
use Rattle.flow_data.proofs.OpenBoxes.{at-sum, at-sum-first, has-count, in-range, open-once, sum-less, tail-within}
use Rattle.flow_list.specs.ClonedEdges.{open_across}
use Rattle.flow_list.proofs.Fitting.{open_across-le}

module _ (d : FlowsData) (f : Flow) (sound : IsSoundFlow d f) where
  across-suc : (g : ℕ → ℕ) (k : ℕ) → k + 1 < length f.seams
      → sum_by g (open_across f (suc k)) + sum_by g (flat_map ended (seam_of f (suc k)).tail) ≡ sum_by g (open_at f k)
  across-suc g k lt =
      sum-less g (flat_map ended (seam_of f (suc k)).tail) (open_at f k)
      (λ m. let P : ℕ → Type 0 = λ j. count_of m (flat_map ended (seam_of f j).tail) ≤ count_of m (open_at f k)
      in subst P (add-one k) (tail-within d f sound m k lt))
      (λ m. open-once d f sound m k)

  -- at a tail the boxes that end there fall away
  pub across-sum : (g : ℕ → ℕ) (k : ℕ) → k + 1 < length f.seams
      → sum_by g (open_across f (k + 1)) + sum_by g (flat_map ended (seam_of f (k + 1)).tail) ≡ sum_by g (open_at f k)
  across-sum g k lt =
      let P : ℕ → Type 0 = λ j. sum_by g (open_across f j) + sum_by g (flat_map ended (seam_of f j).tail) ≡ sum_by g (open_at f k)
      in subst P (sym (add-one k)) (across-suc g k lt)

  -- at a head the boxes that start there come
  pub at-sum-next : (g : ℕ → ℕ) (k : ℕ) → k + 1 < length f.seams
      → sum_by g (open_at f (k + 1)) ≡ sum_by g (open_across f (k + 1)) + sum_by g (flat_map started (seam_of f (k + 1)).head)
  at-sum-next g k lt =
      let t : take (k + 1 + 1) f.seams ≡ take (k + 1) f.seams ++ seam_of f (k + 1) ∷ [] = take_more f.seams (k + 1) no_seam lt in
      let st : starts_in (take (k + 1 + 1) f.seams)
      ≡ starts_in (take (k + 1) f.seams) ++ (flat_map started (seam_of f (k + 1)).head ++ []) = ap starts_in t
      ∙ flat_map-append (λ (s : Seam). flat_map started s.head) (take (k + 1) f.seams) (seam_of f (k + 1) ∷ []) in
      let en : ends_in (take (k + 1 + 1) f.seams)
      ≡ ends_in (take (k + 1) f.seams) ++ (flat_map ended (seam_of f (k + 1)).tail ++ []) = ap ends_in t
      ∙ flat_map-append (λ (s : Seam). flat_map ended s.tail) (take (k + 1) f.seams) (seam_of f (k + 1) ∷ []) in
      let a = at-sum d f sound g k in
      let b = at-sum d f sound g (k + 1) in
      let c = across-sum g k lt in
      let s = sum_by-append g f.opened (starts_in (take (k + 1) f.seams)) in
      let s' = sum_by-append g f.opened (starts_in (take (k + 1 + 1) f.seams)) in
      let x : sum_by g (starts_in (take (k + 1 + 1) f.seams)) ≡ sum_by g (starts_in (take (k + 1) f.seams)) + sum_by g
      (flat_map started (seam_of f (k + 1)).head) =
      ap (sum_by g) st ∙ sum_by-append g (starts_in (take (k + 1) f.seams)) (flat_map started (seam_of f (k + 1)).head ++ [])
      ∙ ap (λ ys. sum_by g (starts_in (take (k + 1) f.seams)) + sum_by g ys)
      (append-nil (flat_map started (seam_of f (k + 1)).head)) in
      let y : sum_by g (ends_in (take (k + 1 + 1) f.seams)) ≡ sum_by g (ends_in (take (k + 1) f.seams)) + sum_by g
      (flat_map ended (seam_of f (k + 1)).tail) =
      ap (sum_by g) en ∙ sum_by-append g (ends_in (take (k + 1) f.seams)) (flat_map ended (seam_of f (k + 1)).tail ++ [])
      ∙ ap (λ ys. sum_by g (ends_in (take (k + 1) f.seams)) + sum_by g ys)
      (append-nil (flat_map ended (seam_of f (k + 1)).tail)) in
      omega arith

  suc-next : (g : ℕ → ℕ) (k : ℕ) → suc k < length f.seams
      → sum_by g (open_at f (suc k)) ≡ sum_by g (open_across f (suc k)) + sum_by g (flat_map started (seam_of f (suc k)).head)
  suc-next g k lt =
      let P : ℕ → Type 0 = λ j. sum_by g (open_at f j)
      ≡ sum_by g (open_across f j) + sum_by g (flat_map started (seam_of f j).head) in
      subst P (add-one k) (at-sum-next g k (omega arith))

  pub at-sum-is : (g : ℕ → ℕ) (k : ℕ) → k < length f.seams
      → sum_by g (open_at f k) ≡ sum_by g (open_across f k) + sum_by g (flat_map started (seam_of f k).head)
  at-sum-is g zero lt = at-sum-first d f sound g
  at-sum-is g (suc k) lt = suc-next g k lt

  -- each box that is open across a seam is one of the data
  pub across-known : (k : ℕ) → All (λ b. b < length d.boxes) (open_across f k)
  across-known k j b lt = let m : ℕ = get_or (open_across f k) j b
      in in-range d f sound m (omega (arith, has-count (open_across f k) j b lt, open_across-le (λ x. cond (x == m) 1 0) f k))
