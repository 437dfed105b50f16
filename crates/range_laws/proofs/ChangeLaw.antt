-- The law that lines change at the least bound.
use Rattle.std.proofs.Common.{◌≡◌, ℕ, zero, suc, ◌==◌, ◌<◌, ◌≤◌, ◌⊎◌, inl, inr, List, [], ◌∷◌, length, get_or, arith}
use Rattle.std.specs.Prelude.{All}
use Rattle.std.specs.List.{list_any}
use Rattle.std.proofs.lemmas.Bool.{cases_lt, or_left, or_right}
use Rattle.std.proofs.lemmas.Bool.Decides.{nat_tests}
use Rattle.std.proofs.lemmas.List.{get_or_past}
use Rattle.std.proofs.lemmas.List.Elements.{All-head, All-tail}
use Rattle.flow_list.specs.Data.{FlowsData}
use Rattle.flow_data.specs.Flows.{row_of, no_row}
use Rattle.flow_data.specs.Soundness.{IsSound}
use Rattle.flow_laws.specs.Constant.{IsBelowEach}
use Rattle.flow_laws.proofs.BoundsAbove.{column-above, rows_to-above, judged-above-at}
use Rattle.flow_laws.proofs.Exists.{sizes-least}
use Rattle.flow_laws.proofs.RowsStay.{breaks-stay}
use Rattle.flow_laws.proofs.SoundRows.{some-column}
use Rattle.flow_list.specs.Rows.{rows_to}
use Rattle.range_laws.specs.Changes.{IsLeastOf, LinesChange}
use Rattle.range_laws.proofs.Bounds.{Has, NoneBelow}
use Rattle.range_laws.proofs.RowsChange.{fills-change, judged-changes}
use Rattle.range_laws.proofs.StopChanges.{column-changes}

has-at : (h k : ℕ) (bs : List ℕ) → k < length bs → get_or bs k h ≡ h → Has h bs
has-at h k [] lt e = absurd (omega arith)
has-at h zero (b ∷ bs) lt e = or_left (b == h) (list_any (λ x. x == h) bs) (grind (arith, nat_tests))
has-at h (suc k) (b ∷ bs) lt e = or_right (b == h) (list_any (λ x. x == h) bs) (has-at h k bs (omega arith) e)

none-below : (h : ℕ) (bs : List ℕ) → All (λ b. h ≤ b) bs → NoneBelow h bs
none-below h [] all = tt
none-below h (b ∷ bs) all = (All-head (λ b. h ≤ b) b bs all, none-below h bs (All-tail (λ b. h ≤ b) b bs all))

above-low : (lo h k : ℕ) (bs : List ℕ) → IsBelowEach lo bs → k < length bs → get_or bs k h ≡ h → lo ≤ h
above-low lo h k [] below lt e = absurd (omega arith)
above-low lo h zero (b ∷ bs) below lt e = let a = below.0 in let same : b ≡ h = e in omega arith
above-low lo h (suc k) (b ∷ bs) below lt e = above-low lo h k bs below.1 (omega arith) e

-- h is above the height, one of the bounds, and none is less
record Least (lo h : ℕ) (bs : List ℕ) : Type 0 where
  le : lo ≤ h
  below : NoneBelow h bs
  has : Has h bs

least-of : (lo h : ℕ) (bs : List ℕ) → IsBelowEach lo bs → IsLeastOf bs h → Least lo h bs
least-of lo h bs above least = record {
  le = above-low lo h least.among.0 bs above least.among.1 least.among.2;
  below = none-below h bs least.none_below;
  has = has-at h least.among.0 bs least.among.1 least.among.2;
}

-- each row has a column
pub each-some : (d : FlowsData) → IsSound d → (r : ℕ) → 0 < (row_of d r).n
each-some d sound r = go (cases_lt r (length d.rows))
  where
    go : (r < length d.rows) ⊎ (length d.rows ≤ r) → 0 < (row_of d r).n
    go (inl lt) = some-column d sound r lt
    go (inr past) = let e : row_of d r ≡ no_row = get_or_past d.rows r no_row past in rw e (omega arith)

pub lines-change : (d : FlowsData) → IsSound d → (depth : ℕ) → LinesChange d depth
lines-change d sound depth = record {
  column_changes = λ f t lo h least same.
      let l = least-of lo h _ (column-above (rows_to d depth) (rows_to-above d depth) d f t lo) least in
      column-changes (rows_to d depth) (fills-change d (breaks-stay d) (λ inner. sizes-least inner d) (each-some d sound) depth) d
      f t lo h l.le l.below l.has same;
  fill_changes = λ r q lo h least same.
      let l = least-of lo h _ (rows_to-above d depth r q lo) least in
      (fills-change d (breaks-stay d) (λ inner. sizes-least inner d) (each-some d sound) depth).fill_changes r q lo h l.le l.below
      l.has same;
  judged_change = λ r q lo h least same.
      let l = least-of lo h _ (judged-above-at d depth r q lo) least in
      judged-changes d (breaks-stay d) (λ inner. sizes-least inner d) (each-some d sound) depth r q lo h l.le l.below l.has same;
}
