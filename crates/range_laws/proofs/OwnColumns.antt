-- A size's own columns are the columns that are judged at it, and what they use is entered after what its ranges use.
use Rattle.std.proofs.Common.{◌≡◌, ℕ, zero, suc, ◌+◌, ◌<◌, inl, inr, Bool, true, false, not, List, [], ◌∷◌, ◌++◌, length, refl}
use Rattle.std.proofs.Common.{subst, sym, ◌∙◌, ap, arith, Some}
use Rattle.std.specs.List.{flat_map, list_any}
use Rattle.std.proofs.lemmas.Bool.{and_parts, not-true}
use Rattle.flow_list.specs.Data.{Flow, FlowsData}
use Rattle.flow_data.specs.Flows.{row_of, flow_in}
use Rattle.flow_data.specs.Soundness.{IsSound}
use Rattle.flow_laws.proofs.Exists.{sizes-least}
use Rattle.flow_laws.proofs.Places.{at-end}
use Rattle.flow_laws.proofs.OneRange.{all-judged}
use Rattle.flow_laws.proofs.RowsAdvance.{by-zero, columns-advance}
use Rattle.flow_list.specs.Book.{after_uses}
use Rattle.flow_list.specs.Certificate.{Use, columns_from, uses_of, range_uses, size_ranges, size_uses}
use Rattle.flow_list.specs.Column.{Column, column}
use Rattle.flow_list.specs.Ranges.{judged}
use Rattle.flow_list.specs.RowHeights.{size_of}
use Rattle.flow_list.specs.Rows.{columns, columns_by, end_of, fails, fits, left_in, most_columns, size_in, up_to, all_rows}
use Rattle.flow_list.specs.Tokens.{Token, is_end, IsPlace, IsPlaceBefore}
use Rattle.flow_list.proofs.Fitting.{columns_by-step, columns_by-past}
use Rattle.range_laws.specs.Entering.{OwnColumnsEnter}
use Rattle.range_laws.proofs.Entering.{uses-enter}

-- past the end there are no more columns
no-more : (make : Token → Column) (f : Flow) (n m : ℕ) (t : Token) → is_end f (end_of t (columns_by make f n t)) ≡ true →
    columns_by make f (n + m) t ≡ columns_by make f n t
no-more make f zero m t e =
    let at_end : is_end f t ≡ true = subst (λ cs. is_end f (end_of t cs) ≡ true) (by-zero make f t) e in
    columns_by-past make f (0 + m) t at_end ∙ sym (by-zero make f t)
no-more make f (suc n) m t e = go (is_end f t) refl (λ u k. no-more make f n m u k)
  where
    go : (b : Bool) → is_end f t ≡ b → ((u : Token) → is_end f (end_of u (columns_by make f n u)) ≡ true →
        columns_by make f (n + m) u ≡ columns_by make f n u) → columns_by make f (suc n + m) t ≡ columns_by make f (suc n) t
    go true at_end later = columns_by-past make f (suc n + m) t at_end ∙ sym (columns_by-past make f (suc n) t at_end)
    go false before later =
        let count : suc n + m ≡ suc (n + m) = omega arith in
        let step = columns_by-step make f n t before in
        let rest = later (make t).end (subst (λ cs. is_end f (end_of t cs) ≡ true) step e) in
        ap (λ k. columns_by make f k t) count ∙ columns_by-step make f (n + m) t before ∙ ap (λ cs. make t ∷ cs) rest ∙ sym step

module _ (d : FlowsData) (sound : IsSound d) (r : ℕ) (lt : r < length d.rows) (q : Token)
    (place : IsPlace d (flow_in d r) q) where
  made : ℕ → ℕ → List Column
  made n h = columns (all_rows d) d (flow_in d r) n q h

  -- at the end there are none
  none-there : (h : ℕ) → q ≡ length (flow_in d r).items ∷ [] → columns_from d r q h ≡ judged (all_rows d) d r q h
  unfolding judged
  none-there h end =
      let past = at-end (flow_in d r) q end in
      let make = λ (t : Token). column (all_rows d) d (flow_in d r) t h in
      columns_by-past make (flow_in d r) (left_in (all_rows d) (flow_in d r) q) q past
      ∙ sym (ap (up_to fails) (columns_by-past make (flow_in d r) (most_columns (row_of d r).n (flow_in d r) q) q past))

  all-there : IsPlaceBefore d (flow_in d r) q → columns_from d r q (size_of d r q) ≡ judged (all_rows d) d r q (size_of d r q)
  unfolding size_of judged fits made
  all-there before =
      let h = size_in (all_rows d) d r q in
      let most = most_columns (row_of d r).n (flow_in d r) q in
      let left = left_in (all_rows d) (flow_in d r) q in
      let fit = (sizes-least (all_rows d) d).size_is_least r q in
      let parts = and_parts (is_end (flow_in d r) (end_of q (made most h))) (not (list_any fails (made most h))) fit.passes_at in
      let all = (columns-advance d sound r lt).columns_end left q (Some h) before (omega arith) in
      let a = no-more (λ t. column (all_rows d) d (flow_in d r) t h) (flow_in d r) left most q all in
      let b = no-more (λ t. column (all_rows d) d (flow_in d r) t h) (flow_in d r) most left q parts.0 in
      let sum : left + most ≡ most + left = omega arith in
      sym a ∙ ap (λ n. made n h) sum ∙ b ∙ sym (all-judged (made most h) (not-true (list_any fails (made most h)) parts.1))

  judged-there : columns_from d r q (size_of d r q) ≡ judged (all_rows d) d r q (size_of d r q)
  judged-there = go place
    where
      go : IsPlace d (flow_in d r) q → columns_from d r q (size_of d r q) ≡ judged (all_rows d) d r q (size_of d r q)
      go (inl end) = none-there (size_of d r q) end
      go (inr before) = all-there before

  after-ranges : (book : List Use) → after_uses d book (size_uses d (r, q)) ≡
      after_uses d (after_uses d book (flat_map (range_uses d r q) (size_ranges d r q)))
      (uses_of (judged (all_rows d) d r q (size_of d r q)))
  unfolding size_uses
  after-ranges book =
      ap (λ cs. after_uses d book (flat_map (range_uses d r q) (size_ranges d r q) ++ uses_of cs)) judged-there
      ∙ sym ((uses-enter d).one_list book (flat_map (range_uses d r q) (size_ranges d r q))
      (uses_of (judged (all_rows d) d r q (size_of d r q))))

  pub own-columns : OwnColumnsEnter d r q
  own-columns = record {
    judged_there = judged-there;
    after_ranges = after-ranges;
    none_new = λ book stand. after-ranges book ∙ (uses-enter d).none_new
        (after_uses d book (flat_map (range_uses d r q) (size_ranges d r q)))
        (uses_of (judged (all_rows d) d r q (size_of d r q))) stand;
  }
