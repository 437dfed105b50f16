-- What a search costs: the folds and the reads for its ranges and for the row's own columns.
use Rattle.std.proofs.Common.{◌≡◌, ℕ, zero, suc, ◌+◌, ◌*◌, ◌≤◌, Bool, true, false, cond, List, [], ◌∷◌, ◌++◌, length}
use Rattle.std.proofs.Common.{Option, Some, None, IfSome, refl, ◌∙◌, ap, subst, arith, length-append}
use Rattle.std.specs.Prelude.{nat_lt, sum_by}
use Rattle.std.proofs.lemmas.List.Sums.{sum_by_push}
use Rattle.flow_data.specs.declared.data.Flow.{Flow}
use Rattle.flow_data.specs.declared.data.FlowsData.{FlowsData}
use Rattle.flow_data.specs.Flows.{flow_in, row_of}
use Rattle.flow_list.specs.Column.{Column, Inner}
use Rattle.flow_list.specs.Counts.{raised}
use Rattle.flow_list.specs.Folds.{columns_made, fitting}
use Rattle.flow_list.specs.Ranges.{Range, Reason, left, bad, over, bounds_of, is_past, judged, least_bound, lines_of, reason_of}
use Rattle.flow_list.specs.Ranges.{searched}
use Rattle.flow_list.specs.RowHeights.{size_of}
use Rattle.flow_list.specs.Rows.{all_rows, most_columns}
use Rattle.flow_list.specs.Tokens.{Token, is_end}
use Rattle.range_laws.specs.Entering.{OwnColumnsEnter}
use Rattle.range_finder.specs.Judging.{goes_on}
use Rattle.mc_base.specs.declared.fragment.FragId.{FragId}
use Rattle.column_row.specs.Folding.{looks_cost}
use Rattle.balancer.specs.Cost.{balanced_cost, columns_cost, cost_for, fragment_cost, fragment_folds, items_left, judged_cost}
use Rattle.balancer.specs.Cost.{range_cost, ranges_cost}
use Rattle.balancer.specs.Trying.{range_of}
use Rattle.balancer.specs.declared.trial.Trial.{Trial}
use Rattle.balancer.specs.declared.trial.Trial.TheVariants.{Rejected}
use Rattle.balancer.proofs.Ends.{fit-columns}
use Rattle.balancer.proofs.Progress.{step-tells}
use Rattle.balancer.proofs.Trials.{judged-made}

-- ---- one height

-- the columns of a fold up to the first that breaks a rule are those that are judged
pub made-cost : (d : FlowsData) (r : ℕ) (q : Token) (low most : ℕ) → most ≡ most_columns (row_of d r).n (flow_in d r) q →
    (old new : ℕ) →
    new ≤ old + looks_cost d (flow_in d r) q low (columns_made fitting (all_rows d) d (flow_in d r) most q low) →
    new ≤ old + judged_cost d r q low
made-cost d r q low most is old new le =
    subst (λ (cs : List Column). new ≤ old + looks_cost d (flow_in d r) q low cs) (judged-made d r q low most is) le

-- the reason that columns tell is one of columns
reason-cost : (cost : ℕ) (f : Flow) (c : ℕ) (q : Token) (cs : List Column) →
    IfSome (reason_of f c q cs) (λ reason. cost_for reason cost ≡ cost)
reason-cost cost f c q [] = go (is_end f q)
  where
    go : (b : Bool) → IfSome (cond b None (Some (left q))) (λ reason. cost_for reason cost ≡ cost)
    go true = tt
    go false = refl
reason-cost cost f c q (first ∷ cs) = go first.overflow (nat_lt 0 first.level) (reason-cost cost f (c + 1) first.end cs)
  where
    go : (a b : Bool) → IfSome (reason_of f (c + 1) first.end cs) (λ reason. cost_for reason cost ≡ cost) →
        IfSome (cond a (Some (over c)) (cond b (Some (bad c)) (reason_of f (c + 1) first.end cs)))
        (λ reason. cost_for reason cost ≡ cost)
    go true b rest = refl
    go false true rest = refl
    go false false rest = rest

-- so is that of the next range of a search
step-cost : (cost : ℕ) (inner : Inner) (d : FlowsData) (r n : ℕ) (q : Token) (top : Option ℕ) (low : ℕ) (x : Range)
    (rest : List Range) → searched inner d r q top (suc n) low ≡ x ∷ rest → cost_for x.reason cost ≡ cost
unfolding searched
step-cost cost inner d r n q top low x rest e =
    go (is_past top low) (reason_of (flow_in d r) 1 q (judged inner d r q low))
    (least_bound top (bounds_of (judged inner d r q low))) (reason-cost cost (flow_in d r) 1 q (judged inner d r q low)) e
  where
    go : (p : Bool) (o : Option Reason) (b : Option ℕ) → IfSome o (λ reason. cost_for reason cost ≡ cost) → elim p [
      | true ↦ []
      | false ↦ elim o [
        | None ↦ []
        | Some reason ↦ elim b [
          | None ↦ []
          | Some high ↦ record { low = low; high = high; reason = reason; lines = lines_of (judged inner d r q low) }
              ∷ searched inner d r q top n high
        ]
      ]
    ] ≡ x ∷ rest → cost_for x.reason cost ≡ cost
    go true o b all is = absurd (cc)
    go false None b all is = absurd (cc)
    go false (Some reason) None all is = absurd (cc)
    go false (Some reason) (Some high) all is =
        let same : record { low = low; high = high; reason = reason; lines = lines_of (judged inner d r q low) } ≡ x = cc in
        subst (λ (y : Range). cost_for y.reason cost ≡ cost) same all

-- a range that a trial tells costs what its columns do
pub trial-cost : (d : FlowsData) (r : ℕ) (q : Token) (top : Option ℕ) (low : ℕ) (trial : Trial) (x : Range) → trial ≡ Rejected x →
    ((n : ℕ) → searched (all_rows d) d r q top (suc n) low ≡ goes_on (range_of trial) (searched (all_rows d) d r q top n)) →
    range_cost d r q x ≡ judged_cost d r q low
trial-cost d r q top low trial x is step =
    let rest = searched (all_rows d) d r q top zero x.high in
    let e : searched (all_rows d) d r q top 1 low ≡ x ∷ rest =
    step zero ∙ ap (λ w. goes_on (range_of w) (searched (all_rows d) d r q top zero)) is in
    step-cost (judged_cost d r q x.low) (all_rows d) d r zero q top low x _ e
    ∙ ap (judged_cost d r q) (step-tells (all_rows d) d r zero q top low x _ e).0

-- ---- one range after another

-- each item was read twice at most, and no columns were made
pub first-reads : (d : FlowsData) (r : ℕ) (q : Token) (done : List Range) (old new : ℕ) →
    new ≤ old + 2 * items_left d r q → new ≤ old + ranges_cost d r q done
first-reads d r q done old new le = more (items_left d r q) (sum_by (range_cost d r q) done) le
  where
    more : (n sum : ℕ) → new ≤ old + 2 * n → new ≤ old + (2 * n + sum)
    more n sum h = omega (arith, h)

pub more-folds : (old mid new : ℕ) (done more : List Range) (x : Range) → mid ≤ old + length done → new ≡ raised mid 1 →
    more ≡ done ++ x ∷ [] → new ≤ old + length more
more-folds old mid new done more x before one is =
    let longer : length more ≡ length done + 1 = ap (λ (xs : List Range). length xs) is ∙ length-append done (x ∷ []) in
    omega arith

pub more-reads : (d : FlowsData) (r : ℕ) (q : Token) (low : ℕ) (old mid new : ℕ) (done more : List Range) (x : Range) →
    mid ≤ old + ranges_cost d r q done → new ≤ mid + judged_cost d r q low → range_cost d r q x ≡ judged_cost d r q low →
    more ≡ done ++ x ∷ [] → new ≤ old + ranges_cost d r q more
more-reads d r q low old mid new done more x before one cost is =
    add (2 * items_left d r q) (sum_by (range_cost d r q) done) (sum_by (range_cost d r q) more) (range_cost d r q x)
    (judged_cost d r q low) before one cost
    (ap (λ (xs : List Range). sum_by (range_cost d r q) xs) is ∙ sum_by_push (range_cost d r q) done x)
  where
    add : (n a b c k : ℕ) → mid ≤ old + (n + a) → new ≤ mid + k → c ≡ k → b ≡ a + c → new ≤ old + (n + b)
    add n a b c k h i same e = omega (arith, h, i, same, e)

-- ---- the row's own columns

-- what a search found at a height that fits: the columns that were judged there are the row's
pub fit-reads : (d : FlowsData) (r : ℕ) (q : Token) → OwnColumnsEnter d r q → (height : ℕ) (done : List Range)
    (frag : Option FragId) (piece : FragId) (old new : ℕ) → frag ≡ Some piece → height ≡ size_of d r q →
    new ≤ old + (ranges_cost d r q done + fragment_cost d r q height frag) → new ≤ old + balanced_cost d r q done height
fit-reads d r q own height done frag piece old new is size le =
    subst (λ (cs : List Column). new ≤ old + (ranges_cost d r q done + looks_cost d (flow_in d r) q height cs))
    (fit-columns d r q own height size)
    (subst (λ (o : Option FragId). new ≤ old + (ranges_cost d r q done + fragment_cost d r q height o)) is le)

pub fit-folds : (done : List Range) (frag : Option FragId) (piece : FragId) (old new : ℕ) → frag ≡ Some piece →
    new ≤ old + (length done + fragment_folds frag) → new ≤ old + (length done + 1)
fit-folds done frag piece old new is le =
    subst (λ (o : Option FragId). new ≤ old + (length done + fragment_folds o)) is le

-- where none fits, the row's columns are made after the search
pub high-reads : (d : FlowsData) (r : ℕ) (q : Token) (end height : ℕ) (done : List Range) (frag : Option FragId)
    (old mid new : ℕ) → frag ≡ None → mid ≤ old + (ranges_cost d r q done + fragment_cost d r q end frag) →
    new ≤ mid + columns_cost d r q height → new ≤ old + balanced_cost d r q done height
high-reads d r q end height done frag old mid new is before one =
    add (ranges_cost d r q done) (columns_cost d r q height)
    (subst (λ (o : Option FragId). mid ≤ old + (ranges_cost d r q done + fragment_cost d r q end o)) is before) one
  where
    add : (a k : ℕ) → mid ≤ old + (a + 0) → new ≤ mid + k → new ≤ old + (a + k)
    add a k h i = omega (arith, h, i)

pub high-folds : (done : List Range) (frag : Option FragId) (old mid new : ℕ) → frag ≡ None →
    mid ≤ old + (length done + fragment_folds frag) → new ≡ raised mid 1 → new ≤ old + (length done + 1)
high-folds done frag old mid new is before one =
    let none : mid ≤ old + (length done + 0) =
    subst (λ (o : Option FragId). mid ≤ old + (length done + fragment_folds o)) is before in
    omega arith
