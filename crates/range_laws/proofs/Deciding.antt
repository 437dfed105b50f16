-- Ranges that follow one another decide the size.
use Rattle.std.proofs.Common.{◌≡◌, ℕ, ◌+◌, ◌<◌, ◌≤◌, ◌⊎◌, inl, inr, false, List, [], ◌∷◌, arith}
use Rattle.std.proofs.lemmas.Bool.{cases_lt}
use Rattle.std.proofs.lemmas.Bool.Decides.{nat_tests}
use Rattle.std.proofs.lemmas.List.Elements.{All-head, All-tail}
use Rattle.flow_list.specs.Data.{FlowsData}
use Rattle.flow_list.specs.Tokens.{Token}
use Rattle.flow_list.specs.Ranges.{Range, RangeRejects}
use Rattle.flow_list.specs.Rows.{fits, size_in, all_rows}
use Rattle.flow_list.specs.RowHeights.{size_of}
use Rattle.flow_laws.specs.LeastHeight.{SizesAreLeast}
use Rattle.flow_laws.specs.RangeLaws.{RangesReject, FollowOn}
use Rattle.range_laws.specs.Deciding.{EachRejects, IsTooHigh, RangesDecide}

module _ (d : FlowsData) (r : ℕ) (q : Token) (reject : RangesReject d r q) (least : SizesAreLeast (all_rows d) d) where
  abbrev Rejects : Range → Type 0
  Rejects x = RangeRejects (all_rows d) d r q x.low x.high x.reason

  -- no height fits that one of them holds
  below-unfit : (low high : ℕ) (xs : List Range) → FollowOn low high xs → EachRejects d r q xs → (h : ℕ) → low ≤ h → h < high →
      fits (all_rows d) d r q h ≡ false
  below-unfit low high [] same all h le lt = absurd (omega arith)
  below-unfit low high (x ∷ xs) follow all h le lt = which (cases_lt h x.high)
      (λ above. below-unfit x.high high xs follow.2 (All-tail Rejects x xs all) h above lt)
    where
      which : (h < x.high) ⊎ (x.high ≤ h) → (x.high ≤ h → fits (all_rows d) d r q h ≡ false) → fits (all_rows d) d r q h ≡ false
      which (inl below) later =
          let e = follow.0 in
          reject x.low x.high h x.reason (All-head Rejects x xs all) (omega arith) below
      which (inr above) later = later above

  too-high : (a size : ℕ) → a < size → IsTooHigh a size
  too-high a size lt = record { size_above = lt; answer_no = grind (arith, nat_tests); height = omega arith }

  pub ranges-decide : RangesDecide d r q
  unfolding size_of
  ranges-decide = record {
    size_reached = λ h xs follow all fit. least.size_is_unique r q h
        (record { passes_at = fit; none_below = λ k lt. below-unfit 0 h xs follow all k (omega arith) lt });
    available_passed = λ a xs follow all. too-high a (size_in (all_rows d) d r q)
        (above a xs follow all (cases_lt a (size_in (all_rows d) d r q)));
  }
    where
      above : (a : ℕ) (xs : List Range) → FollowOn 0 (a + 1) xs → EachRejects d r q xs →
          (a < size_in (all_rows d) d r q) ⊎ (size_in (all_rows d) d r q ≤ a) → a < size_in (all_rows d) d r q
      above a xs follow all (inl lt) = lt
      above a xs follow all (inr le) =
          let fit = (least.size_is_least r q).passes_at in
          let none = below-unfit 0 (a + 1) xs follow all (size_in (all_rows d) d r q) (omega arith) (omega arith) in
          absurd cc
