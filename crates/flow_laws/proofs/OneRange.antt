-- A range of heights with a reason holds none that fits.
use Rattle.std.proofs.Common.{◌≡◌, ℕ, ◌-◌, ◌*◌, ◌<◌, ◌≤◌, Bool, true, false, cond, not, ◌||◌, List, [], ◌∷◌, length, refl, sym}
use Rattle.std.proofs.Common.{◌∙◌, ap, arith}
use Rattle.std.specs.Prelude.{All}
use Rattle.std.specs.List.{list_any}
use Rattle.std.proofs.lemmas.Bool.{and_from, and_left, and_right, or_right}
use Rattle.std.proofs.lemmas.List.Elements.{All-head, All-tail}
use Rattle.std.proofs.lemmas.List.Folds.{list_any-append, list_any_none}
use Rattle.std.proofs.lemmas.Nat.{mul-le}
use Rattle.flow_list.specs.Data.{FlowsData}
use Rattle.flow_data.specs.Flows.{row_of, flow_in}
use Rattle.flow_list.specs.Tokens.{Token, is_end}
use Rattle.flow_list.specs.Column.{Column, Inner}
use Rattle.flow_list.specs.Rows.{columns, end_of, fits, fails, most_columns, up_to, all_rows}
use Rattle.flow_list.specs.Ranges.{Reason, tall, area, left, bad, over, FailsAt, LeavesRest, RangeRejects, judged, bounds_of}
use Rattle.flow_laws.specs.Constant.{IsBelowEach}
use Rattle.flow_laws.specs.TallAndArea.{TallAndAreaReject}
use Rattle.flow_laws.specs.RangeLaws.{RangesReject}
use Rattle.flow_laws.proofs.RowsStay.{breaks-stay}

pub below-each : (high h : ℕ) (bs : List ℕ) → All (λ b. high ≤ b) bs → h < high → IsBelowEach h bs
below-each high h [] all lt = tt
below-each high h (b ∷ bs) all lt =
    let k : high ≤ b = All-head (λ b. high ≤ b) b bs all in
    (omega arith, below-each high h bs (All-tail (λ b. high ≤ b) b bs all) lt)

-- ---- what is judged

-- one of the columns breaks a rule where one of those that are judged does
pub any-judged : (cs : List Column) → list_any fails (up_to fails cs) ≡ list_any fails cs
any-judged [] = refl
any-judged (c ∷ cs) = go (fails c) (any-judged cs)
  where
    go : (x : Bool) → list_any fails (up_to fails cs) ≡ list_any fails cs
        → (x || list_any fails (cond x [] (up_to fails cs))) ≡ (x || list_any fails cs)
    go true e = refl
    go false e = e

-- where none does, all columns are judged
pub all-judged : (cs : List Column) → list_any fails cs ≡ false → up_to fails cs ≡ cs
all-judged [] e = refl
all-judged (c ∷ cs) e = go (fails c) e (all-judged cs)
  where
    go : (x : Bool) → (x || list_any fails cs) ≡ false → (list_any fails cs ≡ false → up_to fails cs ≡ cs)
        → c ∷ cond x [] (up_to fails cs) ≡ c ∷ cs
    go true e same = cc
    go false e same = ap (λ xs. c ∷ xs) (same e)

fails-at : (cs : List Column) (c : ℕ) (o : Bool) → FailsAt cs c o → list_any fails cs ≡ true
fails-at cs c o f =
    rw (f.judged_are, list_any-append fails f.before (f.column ∷ []))
    (or_right (list_any fails f.before) (list_any fails (f.column ∷ [])) (rw f.fail refl))

module _ (inner : Inner) (d : FlowsData) (r : ℕ) (q : Token) (h : ℕ) where
  all-columns : List Column
  all-columns = columns inner d (flow_in d r) (most_columns (row_of d r).n (flow_in d r) q) q h

  pub fails-unfit : (c : ℕ) (o : Bool) → FailsAt (judged inner d r q h) c o → fits inner d r q h ≡ false
  unfolding judged fits all-columns
  fails-unfit c o f =
      let e : list_any fails all-columns ≡ true = sym (any-judged all-columns) ∙ fails-at (judged inner d r q h) c o f in
      and_right (is_end (flow_in d r) (end_of q all-columns)) (not (list_any fails all-columns)) (ap not e)

  pub leaves-unfit : (at : Token) → LeavesRest (flow_in d r) q (judged inner d r q h) at → fits inner d r q h ≡ false
  unfolding judged fits all-columns
  leaves-unfit at l =
      let none : list_any fails (up_to fails all-columns) ≡ false = list_any_none fails (up_to fails all-columns) l.none_fails in
      let same = all-judged all-columns (sym (any-judged all-columns) ∙ none) in
      let place : end_of q all-columns ≡ at = rw same at (l.place) in
      and_left (is_end (flow_in d r) (end_of q all-columns)) (not (list_any fails all-columns)) (rw place l.rest)

  -- columns that are judged, reach the end and break no rule fit
  pub judged-fits : list_any fails (judged inner d r q h) ≡ false → is_end (flow_in d r) (end_of q (judged inner d r q h)) ≡ true
      → fits inner d r q h ≡ true
  unfolding judged fits all-columns
  judged-fits none ends =
      let fine : list_any fails all-columns ≡ false = sym (any-judged all-columns) ∙ none in
      let same = all-judged all-columns fine in
      and_from (is_end (flow_in d r) (end_of q all-columns)) (not (list_any fails all-columns)) (rw same at ends) (ap not fine)

-- ---- the law

module _ (d : FlowsData) (r : ℕ) (q : Token) where
  -- from a height on that doesn't fit, none does up to the least bound
  pub unfit-to : (low high h : ℕ) → fits (all_rows d) d r q low ≡ false
      → All (λ b. high ≤ b) (bounds_of (judged (all_rows d) d r q low)) → low ≤ h → h < high → fits (all_rows d) d r q h ≡ false
  unfolding all_rows
  unfit-to low high h none bounds le lt =
      (breaks-stay d (length d.rows)).fits_stays r q low h le
      (below-each high h (bounds_of (judged (all_rows d) d r q low)) bounds lt) ∙ none

  pub range-rejects : TallAndAreaReject d r q → (low high h : ℕ) (reason : Reason)
      → RangeRejects (all_rows d) d r q low high reason → low ≤ h → h < high → fits (all_rows d) d r q h ≡ false
  range-rejects law low high h (tall k) a le lt = law.tall_rejects k h a.0 a.1 a.2 (let e = a.3 in omega arith)
  range-rejects law low high h area a le lt =
      let n = most_columns (row_of d r).n (flow_in d r) q in
      let m : n * h ≤ n * (high - 1) = mul-le n h n (high - 1) (omega arith) (omega arith) in
      law.area_rejects h (omega arith)
  range-rejects law low high h (left at) a le lt = unfit-to low high h (leaves-unfit (all_rows d) d r q low at a.0) a.1 le lt
  range-rejects law low high h (bad c) a le lt = unfit-to low high h (fails-unfit (all_rows d) d r q low c false a.0) a.1 le lt
  range-rejects law low high h (over c) a le lt = unfit-to low high h (fails-unfit (all_rows d) d r q low c true a.0) a.1 le lt

  pub ranges-reject : TallAndAreaReject d r q → RangesReject d r q
  ranges-reject law = λ low high h reason a le lt. range-rejects law low high h reason a le lt
