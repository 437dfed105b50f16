-- How far a search for a row's height has come, and where it ends.
use Rattle.std.proofs.Common.{◌≡◌, ℕ, zero, suc, ◌+◌, ◌-◌, ◌<◌, ◌≤◌, Bool, true, false, List, [], ◌∷◌, ◌++◌, Option, Some, None}
use Rattle.std.proofs.Common.{refl, sym, ◌∙◌, ap, subst, arith, append_assoc}
use Rattle.std.proofs.Common.{Result, Ok, Err, OnErr}
use Rattle.std.specs.Prelude.{max}
use Rattle.std.proofs.lemmas.Bool.Decides.{nat_tests}
use Rattle.std.proofs.lemmas.List.{append-nil}
use Rattle.flow_data.specs.declared.data.FlowsData.{FlowsData}
use Rattle.flow_data.specs.Flows.{flow_in}
use Rattle.flow_list.specs.Column.{Inner}
use Rattle.flow_list.specs.Ranges.{Range, Reason, Tallest, tall, area, bounds_of, is_past, judged}
use Rattle.flow_list.specs.Ranges.{least_bound, lines_of, range_up_to, ranges}
use Rattle.flow_list.specs.Ranges.{reason_of, searched, top_of}
use Rattle.flow_list.specs.RowHeights.{balanced_fits, size_of}
use Rattle.flow_list.specs.Rows.{all_rows, reach}
use Rattle.flow_list.specs.Tokens.{Token}
use Rattle.flow_list.proofs.Fitting.{size-reach}
use Rattle.flow_laws.specs.RangeLaws.{FollowOn, RangesAccount, ranged_to}
use Rattle.mc_base.specs.declared.fragment.FragId.{FragId}
use Rattle.range_finder.specs.Judging.{goes_on}
use Rattle.range_finder.proofs.Telling.{ends-at-top}
use Rattle.balancer.specs.Searching.{spread_of, tallest_in}
use Rattle.balancer.specs.Trying.{range_of}
use Rattle.balancer.specs.declared.trial.Trial.{Trial}
use Rattle.balancer.specs.declared.trial.Trial.TheVariants.{Fits, Rejected}
use Rattle.balancer.proofs.Follows.{capped, capped-below, follow-append, follow-le, follow-rest, up-follows}

-- The search is at a height up to which these ranges go; further ranges of it, n at most, are the rest.
pub record Searching (d : FlowsData) (r : ℕ) (q : Token) (available : Option ℕ) (low : ℕ) (done : List Range) : Type 0 where
  pub n : ℕ
  pub all : ranges (all_rows d) d r q available ≡ done ++ searched (all_rows d) d r q (top_of available) n low
  pub enough : size_of d r q < low + n
  pub within : low ≤ size_of d r q
  pub follow : FollowOn 0 (capped (top_of available) low) done

-- the ranges at which an atom is too high, or the columns don't hold the atoms
abbrev pub firsts_to : FlowsData → (r : ℕ) → (q : Token) → (top : Option ℕ) → List Range
firsts_to d r q top =
    range_up_to top 0 (tallest_in d r q).need (tall (tallest_in d r q).item)
    ++ range_up_to top (tallest_in d r q).need (spread_of d r q) area

abbrev pub firsts : FlowsData → (r : ℕ) → (q : Token) → Option ℕ → List Range
firsts d r q available = firsts_to d r q (top_of available)

-- what is told of them in parts
pub firsts-told : (d : FlowsData) (r : ℕ) (q : Token) (top : Option ℕ) (told : Tallest) (wide : ℕ) (xs ys zs : List Range) →
    told ≡ tallest_in d r q → wide ≡ spread_of d r q → xs ≡ range_up_to top 0 told.need (tall told.item) →
    ys ≡ range_up_to top told.need wide area → zs ≡ xs ++ ys → zs ≡ firsts_to d r q top
firsts-told d r q top told wide xs ys zs told_is wide_is x y all =
    all ∙ ap (λ v. v ++ ys) x ∙ ap (λ v. range_up_to top 0 told.need (tall told.item) ++ v) y
    ∙ ap (λ (t : Tallest). range_up_to top 0 t.need (tall t.item) ++ range_up_to top t.need wide area) told_is
    ∙ ap (λ w. range_up_to top 0 (tallest_in d r q).need (tall (tallest_in d r q).item)
    ++ range_up_to top (tallest_in d r q).need w area) wide_is

abbrev pub first_low : FlowsData → (r : ℕ) → (q : Token) → ℕ
first_low d r q = max (tallest_in d r q).need (spread_of d r q)

-- what a search that goes on tells of its next range
pub step-tells : (inner : Inner) (d : FlowsData) (r n : ℕ) (q : Token) (top : Option ℕ) (low : ℕ) (x : Range)
    (rest : List Range) → searched inner d r q top (suc n) low ≡ x ∷ rest →
    (x.low ≡ low) × (x.lines ≡ lines_of (judged inner d r q low))
unfolding searched
step-tells inner d r n q top low x rest e =
    go (is_past top low) (reason_of (flow_in d r) 1 q (judged inner d r q low))
    (least_bound top (bounds_of (judged inner d r q low))) e
  where
    go : (p : Bool) (o : Option Reason) (b : Option ℕ) → elim p [
      | true ↦ []
      | false ↦ elim o [
        | None ↦ []
        | Some reason ↦ elim b [
          | None ↦ []
          | Some high ↦ record { low = low; high = high; reason = reason; lines = lines_of (judged inner d r q low) }
              ∷ searched inner d r q top n high
        ]
      ]
    ] ≡ x ∷ rest → (x.low ≡ low) × (x.lines ≡ lines_of (judged inner d r q low))
    go true o b is = absurd (cc)
    go false None b is = absurd (cc)
    go false (Some reason) None is = absurd (cc)
    go false (Some reason) (Some high) is =
        let same : record { low = low; high = high; reason = reason; lines = lines_of (judged inner d r q low) } ≡ x = cc in
        (ap (λ (y : Range). y.low) (sym same), ap (λ (y : Range). y.lines) (sym same))

capped-zero : (top : Option ℕ) → capped top 0 ≡ 0
capped-zero None = refl
capped-zero (Some t) = omega arith

ranged-le : (available : Option ℕ) (size : ℕ) → ranged_to available size ≤ size
ranged-le None size = omega arith
ranged-le (Some a) size = omega arith

capped-ranged : (available : Option ℕ) (size h : ℕ) → h ≤ ranged_to available size → capped (top_of available) h ≡ h
capped-ranged None size h le = refl
capped-ranged (Some a) size h le = omega arith

past-none : (inner : Inner) (d : FlowsData) (r n : ℕ) (q : Token) (top : Option ℕ) (low : ℕ) → is_past top low ≡ true →
    searched inner d r q top n low ≡ []
unfolding searched
past-none inner d r zero q top low past = refl
past-none inner d r (suc n) q top low past = ends-at-top inner d r n q top low past

fits-below : (available : Option ℕ) (size low : ℕ) → is_past (top_of available) low ≡ false → low ≡ ranged_to available size →
    (low ≡ size) × (balanced_fits available size ≡ true)
fits-below None size low past is = (is, refl)
fits-below (Some a) size low past is =
    let below : low < a + 1 = grind (arith, nat_tests) in
    (omega arith, let le : size ≤ a = omega arith in grind (arith, nat_tests))

too-high : (available : Option ℕ) (size low : ℕ) → is_past (top_of available) low ≡ true → low ≤ size →
    balanced_fits available size ≡ false
too-high None size low past le = absurd (cc)
too-high (Some a) size low past le =
    let above : a + 1 ≤ low = grind (arith, nat_tests) in
    let lt : a < size = omega arith in
    grind (arith, nat_tests)

-- what holds in any case holds on an error
pub on-err : {A E P : Type 0} (r : Result A E) → P → OnErr r P
on-err (Ok x) p = tt
on-err (Err y) p = p

-- what is left below a limit falls
pub less-left : (low high most : ℕ) → low < high → high ≤ most → most - high < most - low
less-left low high most more below = omega arith

module _ (d : FlowsData) (r : ℕ) (q : Token) (account : (available : Option ℕ) → RangesAccount d r q available) where
  pub follows : (available : Option ℕ) → FollowOn 0 (ranged_to available (size_of d r q)) (ranges (all_rows d) d r q available)
  unfolding size_of
  follows available = (account available).follow_on

  -- ---- the first ranges

  pub ranges-are : (available : Option ℕ) → ranges (all_rows d) d r q available ≡ firsts d r q available
      ++ searched (all_rows d) d r q (top_of available) (reach (all_rows d) d (flow_in d r) q + 1) (first_low d r q)
  unfolding ranges
  ranges-are available = refl

  pub firsts-follow : (available : Option ℕ) → FollowOn 0 (capped (top_of available) (first_low d r q)) (firsts d r q available)
  firsts-follow available =
      let top = top_of available in
      let need = (tallest_in d r q).need in
      let a = range_up_to top 0 need (tall (tallest_in d r q).item) in
      let b = range_up_to top need (spread_of d r q) area in
      let more : max 0 need ≡ need = omega arith in
      let first : FollowOn (capped top 0) (capped top (max 0 need)) a = up-follows top 0 need (tall (tallest_in d r q).item) in
      let second : FollowOn (capped top need) (capped top (first_low d r q)) b = up-follows top need (spread_of d r q) area in
      follow-append 0 (capped top need) (capped top (first_low d r q)) a b
      (subst (λ x. FollowOn x (capped top need) a) (capped-zero top)
      (subst (λ m. FollowOn (capped top 0) (capped top m) a) more first)) second

  pub low-within : first_low d r q ≤ size_of d r q
  low-within =
      let rest = searched (all_rows d) d r q None (reach (all_rows d) d (flow_in d r) q + 1) (first_low d r q) in
      follow-le (first_low d r q) (size_of d r q) rest
      (follow-rest 0 (first_low d r q) (size_of d r q) (firsts d r q None) rest (firsts-follow None)
      (subst (λ xs. FollowOn 0 (size_of d r q) xs) (ranges-are None) (follows None)))

  size-reached : size_of d r q ≤ reach (all_rows d) d (flow_in d r) q
  unfolding size_of
  size-reached = size-reach (all_rows d) d r q

  pub start : (available : Option ℕ) → Searching d r q available (first_low d r q) (firsts d r q available)
  start available =
      let le = size-reached in
      record {
        n = reach (all_rows d) d (flow_in d r) q + 1;
        all = ranges-are available;
        enough = omega arith;
        within = low-within;
        follow = firsts-follow available;
      }

  pub start-at : (available top : Option ℕ) (low : ℕ) (done : List Range) → top ≡ top_of available →
      done ≡ firsts_to d r q top → low ≡ first_low d r q → Searching d r q available low done
  start-at available top low done top_is done_is low_is =
      let all : done ≡ firsts d r q available = done_is ∙ ap (firsts_to d r q) top_is in
      subst (λ h. Searching d r q available h done) (sym low_is)
      (subst (λ xs. Searching d r q available (first_low d r q) xs) (sym all) (start available))

  -- ---- one step

  -- what follows the ranges so far
  follows-on : (available : Option ℕ) (low : ℕ) (done rest : List Range) → is_past (top_of available) low ≡ false →
      FollowOn 0 (capped (top_of available) low) done → ranges (all_rows d) d r q available ≡ done ++ rest →
      FollowOn low (ranged_to available (size_of d r q)) rest
  follows-on available low done rest past follow all =
      follow-rest 0 low (ranged_to available (size_of d r q)) done rest
      (subst (λ h. FollowOn 0 h done) (capped-below (top_of available) low past) follow)
      (subst (λ xs. FollowOn 0 (ranged_to available (size_of d r q)) xs) all (follows available))

  -- a range is found: the search goes on where it ends, which is higher
  pub next : (available : Option ℕ) (low : ℕ) (done : List Range) (x : Range) → Searching d r q available low done →
      is_past (top_of available) low ≡ false →
      ((n : ℕ) → searched (all_rows d) d r q (top_of available) (suc n) low
      ≡ x ∷ searched (all_rows d) d r q (top_of available) n x.high) →
      (low < x.high) × Searching d r q available x.high (done ++ x ∷ [])
  next available low done x s past step = go s.n refl
    where
      go : (n : ℕ) → s.n ≡ n → (low < x.high) × Searching d r q available x.high (done ++ x ∷ [])
      go zero e = let a = s.enough in let b = s.within in absurd (omega arith)
      go (suc n) e =
          let rest = searched (all_rows d) d r q (top_of available) n x.high in
          let to = ranged_to available (size_of d r q) in
          let all : ranges (all_rows d) d r q available ≡ done ++ (x ∷ rest) =
          s.all ∙ ap (λ k. done ++ searched (all_rows d) d r q (top_of available) k low) e
          ∙ ap (λ xs. done ++ xs) (step n) in
          let from : FollowOn low to (x ∷ rest) = follows-on available low done (x ∷ rest) past s.follow all in
          let lt : low < x.high = from.1 in
          let le : x.high ≤ to = follow-le x.high to rest from.2 in
          let most : to ≤ size_of d r q = ranged-le available (size_of d r q) in
          let before : FollowOn 0 low done =
          subst (λ h. FollowOn 0 h done) (capped-below (top_of available) low past) s.follow in
          let enough : size_of d r q < low + s.n = s.enough in (
            lt,
            record {
              n = n;
              all = all ∙ sym (append_assoc done (x ∷ []) rest);
              enough = omega arith;
              within = omega arith;
              follow = follow-append 0 low (capped (top_of available) x.high) done (x ∷ []) before
                  (from.0, lt, sym (capped-ranged available (size_of d r q) x.high le));
            },
          )

  -- the same of what a trial tells
  pub step-at : (available top : Option ℕ) (low : ℕ) (trial : Trial) → top ≡ top_of available →
      ((n : ℕ) → searched (all_rows d) d r q top (suc n) low
      ≡ goes_on (range_of trial) (searched (all_rows d) d r q top n)) → (other : Trial) → trial ≡ other → (n : ℕ) →
      searched (all_rows d) d r q (top_of available) (suc n) low
      ≡ goes_on (range_of other) (searched (all_rows d) d r q (top_of available) n)
  step-at available top low trial top_is step other is n =
      subst (λ t. searched (all_rows d) d r q t (suc n) low ≡ goes_on (range_of other) (searched (all_rows d) d r q t n)) top_is
      (step n ∙ ap (λ w. goes_on (range_of w) (searched (all_rows d) d r q top n)) is)

  pub next-at : (available top : Option ℕ) (low : ℕ) (done : List Range) (trial : Trial) (x : Range) (high : ℕ)
      (more : List Range) →
      top ≡ top_of available → Searching d r q available low done → is_past top low ≡ false → trial ≡ Rejected x →
      ((n : ℕ) → searched (all_rows d) d r q top (suc n) low
      ≡ goes_on (range_of trial) (searched (all_rows d) d r q top n)) → high ≡ x.high → more ≡ done ++ x ∷ [] →
      (low < high) × Searching d r q available high more
  next-at available top low done trial x high more top_is s past is step high_is more_is =
      let after = next available low done x s (subst (λ t. is_past t low ≡ false) top_is past)
      (step-at available top low trial top_is step (Rejected x) is) in
      let above = after.0 in (
        omega arith,
        subst (λ h. Searching d r q available h more) (sym high_is)
            (subst (λ xs. Searching d r q available x.high xs) (sym more_is) after.1),
      )

  -- ---- the end

  -- no range is found below the top: the height fits
  pub ended : (available : Option ℕ) (low : ℕ) (done : List Range) → Searching d r q available low done →
      is_past (top_of available) low ≡ false →
      ((n : ℕ) → searched (all_rows d) d r q (top_of available) (suc n) low ≡ []) →
      (done ≡ ranges (all_rows d) d r q available) × (low ≡ size_of d r q) × (balanced_fits available (size_of d r q) ≡ true)
  ended available low done s past step = go s.n refl
    where
      go : (n : ℕ) → s.n ≡ n → (done ≡ ranges (all_rows d) d r q available) × (low ≡ size_of d r q)
          × (balanced_fits available (size_of d r q) ≡ true)
      go zero e = let a = s.enough in let b = s.within in absurd (omega arith)
      go (suc n) e =
          let to = ranged_to available (size_of d r q) in
          let all : ranges (all_rows d) d r q available ≡ done ++ [] =
          s.all ∙ ap (λ k. done ++ searched (all_rows d) d r q (top_of available) k low) e
          ∙ ap (λ xs. done ++ xs) (step n) in
          let at : low ≡ to = follows-on available low done [] past s.follow all in
          let fit = fits-below available (size_of d r q) low past at in
          (sym (all ∙ append-nil done), fit.0, fit.1)

  -- the top is reached: the row is too high
  pub passed : (available : Option ℕ) (low : ℕ) (done : List Range) → Searching d r q available low done →
      is_past (top_of available) low ≡ true →
      (done ≡ ranges (all_rows d) d r q available) × (balanced_fits available (size_of d r q) ≡ false)
  passed available low done s past = (
    sym (s.all ∙ ap (λ xs. done ++ xs) (past-none (all_rows d) d r s.n q (top_of available) low past) ∙ append-nil done),
    too-high available (size_of d r q) low past s.within,
  )

  pub ended-at : (available top : Option ℕ) (low : ℕ) (done : List Range) (trial : Trial) (frag : FragId) →
      top ≡ top_of available → Searching d r q available low done → is_past top low ≡ false → trial ≡ Fits frag →
      ((n : ℕ) → searched (all_rows d) d r q top (suc n) low
      ≡ goes_on (range_of trial) (searched (all_rows d) d r q top n)) →
      (done ≡ ranges (all_rows d) d r q available) × (low ≡ size_of d r q) × (balanced_fits available (size_of d r q) ≡ true)
  ended-at available top low done trial frag top_is s past is step =
      ended available low done s (subst (λ t. is_past t low ≡ false) top_is past)
      (step-at available top low trial top_is step (Fits frag) is)

  pub passed-at : (available top : Option ℕ) (low : ℕ) (done : List Range) → top ≡ top_of available →
      Searching d r q available low done → is_past top low ≡ true →
      (done ≡ ranges (all_rows d) d r q available) × (balanced_fits available (size_of d r q) ≡ false)
  passed-at available top low done top_is s past =
      passed available low done s (subst (λ t. is_past t low ≡ true) top_is past)
