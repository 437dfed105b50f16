-- The entries of the definitions pass the tests of their ranges and heights.
use Rattle.std.proofs.Common.{◌≡◌, ℕ, ◌+◌, ◌==◌, ◌<◌, ◌≤◌, Bool, true, false, List, [], ◌∷◌, ◌++◌, length, map, refl, subst, sym}
use Rattle.std.proofs.Common.{arith, Option, Some, None}
use Rattle.std.specs.Prelude.{All, nat_le, min}
use Rattle.std.proofs.lemmas.Bool.Decides.{nat_tests}
use Rattle.std.proofs.lemmas.List.Elements.{All-nil, All-cons, All-head, All-tail}
use Rattle.flow_list.specs.Data.{FlowsData}
use Rattle.flow_data.specs.Flows.{row_of, flow_in}
use Rattle.flow_list.specs.Tokens.{Token, row_start, IsPlace}
use Rattle.flow_list.specs.Rows.{fits, size_in, all_rows}
use Rattle.flow_list.specs.RowHeights.{size_of, row_height, balanced_height, balanced_fits}
use Rattle.flow_list.specs.Ranges.{Range, RangeRejects, ranges, lines_of}
use Rattle.flow_laws.specs.LeastHeight.{SizesAreLeast}
use Rattle.flow_laws.specs.RangeLaws.{FollowOn, told_of, ranged_to, RangesAccount}
use Rattle.result_laws.specs.Failure.{Pass, first_of}
use Rattle.result_laws.specs.Given.{size, balanced, GivenRange, GivenEntry}
use Rattle.result_laws.specs.Clauses.{row_in, from_in, name, twice, avail, as_range, last_high, reach, reach_at, reach_for}
use Rattle.result_laws.specs.Clauses.{cite_height, height, height_for, balanced_height_fails}
use Rattle.result_laws.specs.OwnEntries.{Tells, RestHolds, OwnEntriesPass}
use Rattle.result_laws.specs.Verdict.{ranges_tests, entry_tests}
use Rattle.result_laws.proofs.Holds.{unless-holds, ranges-hold, pass-append}

-- ranges that follow one another end where they go to
follow-last : (low high : ℕ) (xs : List GivenRange) → FollowOn low high (map as_range xs) → last_high low xs ≡ high
unfolding last_high
follow-last low high [] e = e
follow-last low high (x ∷ xs) f = follow-last x.high high xs f.2

all-tell : (d : FlowsData) (r : ℕ) (q : Token) (xs : List GivenRange)
    → All (λ (x : Range). x.lines ≡ lines_of (told_of d r q x.low x.reason)) (map as_range xs)
    → All (λ (x : GivenRange). Tells d r q x) xs
all-tell d r q [] all = All-nil (λ (x : GivenRange). Tells d r q x)
all-tell d r q (x ∷ xs) all =
    let P : Range → Type 0 = λ y. y.lines ≡ lines_of (told_of d r q y.low y.reason) in
    All-cons (λ (x : GivenRange). Tells d r q x) x xs (All-head P (as_range x) (map as_range xs) all)
    (all-tell d r q xs (All-tail P (as_range x) (map as_range xs) all))

module _ (d : FlowsData) (r : ℕ) (q : Token) (available : Option ℕ) (account : RangesAccount d r q available) where
  -- the ranges of the definitions pass their tests, but for what is left
  own-ranges : (cites : Bool) (before : List GivenEntry) (xs : List GivenRange)
      → map as_range xs ≡ ranges (all_rows d) d r q available → RestHolds d r q cites before None xs →
      Pass (ranges_tests d cites before r q 0 None xs) × (last_high 0 xs ≡ ranged_to available (size_in (all_rows d) d r q))
  own-ranges cites before xs e rest =
      let to = ranged_to available (size_in (all_rows d) d r q) in
      let follow : FollowOn 0 to (map as_range xs) = subst (λ (ys : List Range). FollowOn 0 to ys) (sym e) account.follow_on in
      let rejects : All (λ (x : Range). RangeRejects (all_rows d) d r q x.low x.high x.reason) (map as_range xs) =
      subst (λ (ys : List Range). All (λ (x : Range). RangeRejects (all_rows d) d r q x.low x.high x.reason) ys) (sym e)
      account.each_rejects in
      let tells : All (λ (x : Range). x.lines ≡ lines_of (told_of d r q x.low x.reason)) (map as_range xs) =
      subst (λ (ys : List Range). All (λ (x : Range). x.lines ≡ lines_of (told_of d r q x.low x.reason)) ys) (sym e)
      account.each_tells in
      (ranges-hold d r q cites before 0 to None xs follow rejects (all-tell d r q xs tells) rest, follow-last 0 to xs follow)

-- an entry passes whose parts pass
entry-of : (d : FlowsData) (cites : Bool) (before : List GivenEntry) (e : GivenEntry) → name d e ≡ None → twice before e ≡ None
    → avail d before e ≡ None →
    Pass (ranges_tests d cites before (row_in e.head) (from_in e.head) 0 None e.ranges) → reach e ≡ None
    → cite_height d before e ≡ None → height d e ≡ None → Pass (entry_tests d cites before e)
unfolding entry_tests first_of
entry-of d cites before e n t a p r c h =
    let last = reach e ∷ cite_height d before e ∷ height d e ∷ [] in
    let middle = ranges_tests d cites before (row_in e.head) (from_in e.head) 0 None e.ranges in
    let ends : Pass last = rw (r, c, h) refl in
    let rest : Pass (middle ++ last) = pass-append d (row_in e.head) (from_in e.head) middle last p ends in
    rw (n, t, a) rest

module _ (d : FlowsData) (least : SizesAreLeast (all_rows d) d) where
  reach-holds : (at wanted last : ℕ) → last ≡ wanted → reach_at at wanted last ≡ None
  reach-holds at wanted last e = unless-holds (wanted == last) _ (grind (arith, nat_tests))

  -- the entry of a size
  pub own-size : (r : ℕ) (q : Token) → RangesAccount d r q None
      → (cites : Bool) (before : List GivenEntry) (at : ℕ) (xs : List GivenRange)
      → map as_range xs ≡ ranges (all_rows d) d r q None →
      RestHolds d r q cites before None xs →
      (e : GivenEntry) → e ≡ record { at = at; head = size r q (size_of d r q); ranges = xs } → name d e ≡ None
      → twice before e ≡ None → avail d before e ≡ None → cite_height d before e ≡ None →
      Pass (entry_tests d cites before e)
  unfolding size_of reach height
  own-size r q account cites before at xs is rest e same n t a c =
      let k = own-ranges d r q None account cites before xs is rest in
      let fit = (least.size_is_least r q).passes_at in
      entry-of d cites before e n t a
      (subst (λ (w : GivenEntry). Pass (ranges_tests d cites before (row_in w.head) (from_in w.head) 0 None w.ranges))
      (sym same) k.0)
      (subst (λ (w : GivenEntry). reach_for w.at w.head (last_high 0 w.ranges) ≡ None) (sym same)
      (reach-holds at (size_in (all_rows d) d r q) (last_high 0 xs) k.1))
      c
      (subst (λ (w : GivenEntry). height_for d w.at w.head ≡ None) (sym same)
      (unless-holds (fits (all_rows d) d r q (size_in (all_rows d) d r q)) _ fit))

  -- what a balanced row says: its height, and whether it fits
  abbrev Says : ℕ → Option ℕ → ℕ → Bool → Type 0
  Says r a h fits_so = (last : ℕ) (at : ℕ) → last ≡ ranged_to a (size_in (all_rows d) d r row_start)
      → (reach_for at (balanced r a h fits_so) last ≡ None) × (balanced_height_fails d at r a h fits_so ≡ None)

  balanced-says : (r : ℕ) (a : Option ℕ)
      → Says r a (balanced_height a (size_in (all_rows d) d r row_start)) (balanced_fits a (size_in (all_rows d) d r row_start))
  balanced-says r None last at e = (
    reach-holds at (size_in (all_rows d) d r row_start) last e,
    unless-holds (fits (all_rows d) d r row_start (size_in (all_rows d) d r row_start)) _
        (least.size_is_least r row_start).passes_at,
  )
  balanced-says r (Some a) last at e =
      go (size_in (all_rows d) d r row_start) refl (nat_le (size_in (all_rows d) d r row_start) a) refl
    where
      go : (s : ℕ) → s ≡ size_in (all_rows d) d r row_start → (b : Bool) → nat_le (size_in (all_rows d) d r row_start) a ≡ b →
          (reach_for at (balanced r (Some a) (min s a) b) last ≡ None)
          × (balanced_height_fails d at r (Some a) (min s a) b ≡ None)
      go s es true eb =
          let le : size_in (all_rows d) d r row_start ≤ a = grind (arith, nat_tests) in
          let m : min s a ≡ size_in (all_rows d) d r row_start = omega arith in
          let l : last ≡ min s a = omega arith in
          let w : nat_le (min s a) a ≡ true = (let k : min s a ≤ a = omega arith in grind (arith, nat_tests)) in
          let fit : fits (all_rows d) d r row_start (min s a) ≡ true = rw m (least.size_is_least r row_start).passes_at in
          (reach-holds at (min s a) last l, rw w (unless-holds (fits (all_rows d) d r row_start (min s a)) _ fit))
      go s es false eb =
          let lt : a < size_in (all_rows d) d r row_start = grind (arith, nat_tests) in
          let m : min s a ≡ a = omega arith in
          let l : last ≡ a + 1 = omega arith in
          (reach-holds at (a + 1) last l, unless-holds (min s a == a) _ (grind (arith, nat_tests)))

  -- the entry of a balanced row
  pub own-row : (r : ℕ) (a : Option ℕ) → (row_of d r).auto ≡ false → RangesAccount d r row_start a
      → (cites : Bool) (before : List GivenEntry) (at : ℕ) (xs : List GivenRange) →
      map as_range xs ≡ ranges (all_rows d) d r row_start a → RestHolds d r row_start cites before None xs →
      (e : GivenEntry) → e ≡ record {
        at = at;
        head = balanced r a (row_height d r a) (balanced_fits a (size_of d r row_start));
        ranges = xs;
      } →
      name d e ≡ None → twice before e ≡ None → avail d before e ≡ None → cite_height d before e ≡ None
      → Pass (entry_tests d cites before e)
  unfolding size_of row_height reach height
  own-row r a fill account cites before at xs is rest e same n t v c =
      let k = own-ranges d r row_start a account cites before xs is rest in
      let h : row_height d r a ≡ balanced_height a (size_in (all_rows d) d r row_start) = rw fill refl in
      let says = balanced-says r a (last_high 0 xs) at k.1 in
      entry-of d cites before e n t v
      (subst (λ (w : GivenEntry). Pass (ranges_tests d cites before (row_in w.head) (from_in w.head) 0 None w.ranges))
      (sym same) k.0)
      (subst (λ (w : GivenEntry). reach_for w.at w.head (last_high 0 w.ranges) ≡ None) (sym same)
      (subst (λ n. reach_for at (balanced r a n (balanced_fits a (size_in (all_rows d) d r row_start))) (last_high 0 xs) ≡ None)
      (sym h) says.0))
      c
      (subst (λ (w : GivenEntry). height_for d w.at w.head ≡ None) (sym same)
      (subst (λ n. balanced_height_fails d at r a n (balanced_fits a (size_in (all_rows d) d r row_start)) ≡ None) (sym h)
      says.1))

  -- both entries of the definitions pass, where what is left to test of them holds
  pub own-entries : ((r : ℕ) → r < length d.rows → (q : Token) → IsPlace d (flow_in d r) q → (a : Option ℕ)
      → RangesAccount d r q a) →
      ((r : ℕ) → IsPlace d (flow_in d r) row_start) → OwnEntriesPass d
  own-entries account start = record {
    size = λ r lt q place cites before at xs is rest s. own-size r q (account r lt q place None) cites before at xs is rest _ refl
        s.0 s.1 s.2 s.3;
    balanced_row = λ r lt a fill cites before at xs is rest s.
        own-row r a fill (account r lt row_start (start r) a) cites before at xs is rest _ refl s.0 s.1 s.2 s.3;
  }
