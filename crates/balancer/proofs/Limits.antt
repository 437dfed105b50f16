-- Where a row's size or more is available, its ranges are those without a limit.
use Rattle.std.proofs.Common.{◌≡◌, ℕ, zero, suc, ◌+◌, ◌<◌, ◌≤◌, Bool, true, false, cond, List, [], ◌∷◌, ◌++◌, Option, Some, None}
use Rattle.std.proofs.Common.{refl, sym, ◌∙◌, ap, subst, arith, append_assoc}
use Rattle.std.specs.Prelude.{min, nat_le, nat_lt, fold}
use Rattle.std.proofs.lemmas.Bool.Decides.{nat_tests}
use Rattle.flow_data.specs.declared.data.FlowsData.{FlowsData}
use Rattle.flow_data.specs.Flows.{flow_in}
use Rattle.flow_list.specs.Ranges.{Range, Reason, tall, area, bounds_of, judged, least_bound, lines_of, range_up_to, ranges}
use Rattle.flow_list.specs.Ranges.{reason_of, searched}
use Rattle.flow_list.specs.RowHeights.{balanced_height, size_of}
use Rattle.flow_list.specs.Rows.{all_rows, reach}
use Rattle.flow_list.specs.Tokens.{Token}
use Rattle.flow_laws.specs.RangeLaws.{FollowOn, RangesAccount}
use Rattle.balancer.specs.Balancing.{IsBalanced, balanced_uses}
use Rattle.balancer.specs.Searching.{spread_of, tallest_in}
use Rattle.balancer.specs.declared.balancing.Balanced.{Balanced}
use Rattle.balancer.proofs.Follows.{follow-append, follow-le, follow-rest}
use Rattle.balancer.proofs.Progress.{first_low, firsts, firsts-follow, follows, low-within, ranges-are}

-- a range up to a height below the top
up-same : (t low high : ℕ) (reason : Reason) → high < t → range_up_to (Some t) low high reason ≡ range_up_to None low high reason
up-same t low high reason lt =
    let same : min high t ≡ high = omega arith in
    ap (λ h. cond (nat_lt low h) (record { low = low; high = h; reason = reason; lines = [] } ∷ []) []) same

least-from : (a b : ℕ) (bs : List ℕ) → fold min (min a b) bs ≡ min a (fold min b bs)
least-from a b [] = refl
least-from a b (c ∷ bs) =
    let e : min (min a b) c ≡ min a (min b c) = omega arith in
    ap (λ m. fold min m bs) e ∙ least-from a (min b c) bs

module _ (d : FlowsData) (r : ℕ) (q : Token) (account : (available : Option ℕ) → RangesAccount d r q available) (a : ℕ)
    (enough : size_of d r q ≤ a) where
  limited-follow : FollowOn 0 (size_of d r q) (ranges (all_rows d) d r q (Some a))
  limited-follow =
      let same : min (size_of d r q) (a + 1) ≡ size_of d r q = omega arith in
      subst (λ h. FollowOn 0 h (ranges (all_rows d) d r q (Some a))) same (follows d r q account (Some a))

  unlimited-follow : FollowOn 0 (size_of d r q) (ranges (all_rows d) d r q None)
  unlimited-follow = follows d r q account None

  -- what is searched goes up to the size
  rest-follow : (low : ℕ) (done rest all : List Range) → FollowOn 0 low done → FollowOn 0 (size_of d r q) all →
      all ≡ done ++ rest → FollowOn low (size_of d r q) rest
  rest-follow low done rest all before follow is =
      follow-rest 0 low (size_of d r q) done rest before (subst (λ xs. FollowOn 0 (size_of d r q) xs) is follow)

  abbrev one : ℕ → Reason → ℕ → Range
  one low reason high = record { low = low; high = high; reason = reason; lines = lines_of (judged (all_rows d) d r q low) }

  abbrev by_bound : Option ℕ → ℕ → ℕ → Reason → Option ℕ → List Range
  by_bound top n low reason b = elim b [
    | None ↦ []
    | Some high ↦ record { low = low; high = high; reason = reason; lines = lines_of (judged (all_rows d) d r q low) }
        ∷ searched (all_rows d) d r q top n high
  ]

  abbrev by_reason : Option ℕ → ℕ → ℕ → Option Reason → List Range
  by_reason top n low o = elim o [
    | None ↦ []
    | Some reason ↦ by_bound top n low reason (least_bound top (bounds_of (judged (all_rows d) d r q low)))
  ]

  abbrev Same : ℕ → Type 0
  Same n = (low : ℕ) (done : List Range) → low ≤ size_of d r q → FollowOn 0 low done →
      ranges (all_rows d) d r q (Some a) ≡ done ++ searched (all_rows d) d r q (Some (a + 1)) n low →
      ranges (all_rows d) d r q None ≡ done ++ searched (all_rows d) d r q None n low →
      searched (all_rows d) d r q (Some (a + 1)) n low ≡ searched (all_rows d) d r q None n low

  bounded-same : (n low : ℕ) (reason : Reason) (done : List Range) → Same n → low ≤ size_of d r q → FollowOn 0 low done →
      (bs : List ℕ) →
      ranges (all_rows d) d r q (Some a) ≡ done ++ by_bound (Some (a + 1)) n low reason (least_bound (Some (a + 1)) bs) →
      ranges (all_rows d) d r q None ≡ done ++ by_bound None n low reason (least_bound None bs) →
      by_bound (Some (a + 1)) n low reason (least_bound (Some (a + 1)) bs)
      ≡ by_bound None n low reason (least_bound None bs)
  bounded-same n low reason done again le before [] with_limit without =
      let first = rest-follow low done (one low reason (a + 1) ∷ searched (all_rows d) d r q (Some (a + 1)) n (a + 1)) _ before
      limited-follow with_limit in
      let lt : low < a + 1 = first.1 in
      let high : a + 1 ≤ size_of d r q = follow-le (a + 1) (size_of d r q) _ first.2 in
      absurd (omega arith)
  bounded-same n low reason done again le before (b ∷ bs) with_limit without =
      let h = fold min (min (a + 1) b) bs in
      let first = rest-follow low done (one low reason h ∷ searched (all_rows d) d r q (Some (a + 1)) n h) _ before
      limited-follow with_limit in
      let lt : low < h = first.1 in
      let high : h ≤ size_of d r q = follow-le h (size_of d r q) _ first.2 in
      let least : h ≡ min (a + 1) (fold min b bs) = least-from (a + 1) b bs in
      let same : h ≡ fold min b bs = omega arith in
      let P : ℕ → Type 0 = λ k. ranges (all_rows d) d r q None
      ≡ done ++ (one low reason k ∷ searched (all_rows d) d r q None n k) in
      let next = again h (done ++ one low reason h ∷ []) high
      (follow-append 0 low h done (one low reason h ∷ []) before (refl, lt, refl))
      (with_limit ∙ sym (append_assoc done (one low reason h ∷ []) (searched (all_rows d) d r q (Some (a + 1)) n h)))
      (subst P (sym same) without
      ∙ sym (append_assoc done (one low reason h ∷ []) (searched (all_rows d) d r q None n h))) in
      ap (λ xs. one low reason h ∷ xs) next
      ∙ ap (λ k. one low reason k ∷ searched (all_rows d) d r q None n k) same

  searched-same : (n : ℕ) → Same n
  unfolding searched
  searched-same zero low done le before with_limit without = refl
  searched-same (suc n) low done le before with_limit without =
      go (searched-same n) (nat_le (a + 1) low) refl (reason_of (flow_in d r) 1 q (judged (all_rows d) d r q low)) with_limit
      without
    where
      go : Same n → (p : Bool) → nat_le (a + 1) low ≡ p → (o : Option Reason) →
          ranges (all_rows d) d r q (Some a) ≡ done ++ elim p [ true ↦ [] | false ↦ by_reason (Some (a + 1)) n low o ] →
          ranges (all_rows d) d r q None ≡ done ++ by_reason None n low o →
          elim p [ true ↦ [] | false ↦ by_reason (Some (a + 1)) n low o ] ≡ by_reason None n low o
      go again true e o x y = let past : a + 1 ≤ low = grind (arith, nat_tests) in absurd (omega arith)
      go again false e None x y = refl
      go again false e (Some reason) x y =
          bounded-same n low reason done again le before (bounds_of (judged (all_rows d) d r q low)) x y

  firsts-same : firsts d r q (Some a) ≡ firsts d r q None
  firsts-same =
      let within = low-within d r q account in
      let need = (tallest_in d r q).need in
      let lt : need < a + 1 = omega arith in
      let wide : spread_of d r q < a + 1 = omega arith in
      ap (λ xs. xs ++ range_up_to (Some (a + 1)) need (spread_of d r q) area)
      (up-same (a + 1) 0 need (tall (tallest_in d r q).item) lt)
      ∙ ap (λ xs. range_up_to None 0 need (tall (tallest_in d r q).item) ++ xs)
      (up-same (a + 1) need (spread_of d r q) area wide)

  pub ranges-same : ranges (all_rows d) d r q (Some a) ≡ ranges (all_rows d) d r q None
  ranges-same =
      let n = reach (all_rows d) d (flow_in d r) q + 1 in
      let low = first_low d r q in
      let with_limit : ranges (all_rows d) d r q (Some a)
      ≡ firsts d r q None ++ searched (all_rows d) d r q (Some (a + 1)) n low =
      ranges-are d r q account (Some a)
      ∙ ap (λ xs. xs ++ searched (all_rows d) d r q (Some (a + 1)) n low) firsts-same in
      with_limit
      ∙ ap (λ xs. firsts d r q None ++ xs) (searched-same n low (firsts d r q None) (low-within d r q account)
      (firsts-follow d r q account None) with_limit (ranges-are d r q account None))
      ∙ sym (ranges-are d r q account None)

  height-same : balanced_height (Some a) (size_of d r q) ≡ size_of d r q
  height-same = omega arith

  -- so what is balanced without a limit is balanced where that much is available
  pub balanced-same : (out : Balanced) → IsBalanced d r q None out → IsBalanced d r q (Some a) out
  balanced-same out made = record {
    height = made.height ∙ sym height-same;
    fits = let yes : nat_le (size_of d r q) a ≡ true = grind (arith, nat_tests) in made.fits ∙ sym yes;
    rejected = made.rejected ∙ sym ranges-same;
  }

  pub uses-same : balanced_uses d r q None ≡ balanced_uses d r q (Some a)
  unfolding balanced_uses
  uses-same = rw (ranges-same, height-same) refl
