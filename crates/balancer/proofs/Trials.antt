-- What is told of the columns that are judged at a height that is tried.
use Rattle.std.proofs.Common.{◌≡◌, ℕ, zero, suc, ◌+◌, ◌^◌, ◌<◌, Bool, true, false, cond, List, [], ◌∷◌, length}
use Rattle.std.proofs.Common.{All, IfSome, ap, arith}
use Rattle.std.specs.Prelude.{min, fold}
use Rattle.std.proofs.lemmas.List.Elements.{All-nil, All-cons, All-head, All-append}
use Rattle.flow_data.specs.declared.data.FlowsData.{FlowsData}
use Rattle.flow_data.specs.declared.data.Flow.{Flow}
use Rattle.flow_data.specs.Flows.{flow_in, no_row, row_of}
use Rattle.flow_data.specs.Soundness.{IsSound}
use Rattle.flow_list.specs.Column.{Column, column}
use Rattle.flow_list.specs.Folds.{columns_made, fitting, fold_in, shortage}
use Rattle.flow_list.specs.Ranges.{bounds_of, judged, to_failure}
use Rattle.flow_list.specs.Rows.{all_rows, columns, columns_by, fails, most_columns, to_overflow, up_to}
use Rattle.flow_list.specs.Tokens.{Token, is_end}
use Rattle.flow_laws.specs.Constant.{IsBelowEach}
use Rattle.flow_laws.proofs.BoundsAbove.{judged-above}
use Rattle.column_laws.specs.AnyFlow.{FlowIsSound}
use Rattle.range_finder.specs.Judging.{IsJudged}
use Rattle.column_row.specs.Folding.{IsFold}
use Rattle.column_row.specs.declared.folding.FoldOut.{FoldOut}

-- the flow of a row is one of the data's
pub row-flow : (d : FlowsData) (r : ℕ) → IsSound d → r < length d.rows → (row_of d r).flow < length d.flows
row-flow d r sound lt = (sound.rows r no_row lt).flow

below-each : (h : ℕ) (bs : List ℕ) → IsBelowEach h bs → All (λ b. h < b) bs
below-each h [] below = All-nil (λ b. h < b)
below-each h (b ∷ bs) below = All-cons (λ b. h < b) b bs below.0 (below-each h bs below.1)

-- ---- bounds are small

abbrev IsSmall : ℕ → Type 0
IsSmall b = b < 2 ^ 60

abbrev pub Each : (Column → Type 0) → List Column → Type 0
Each P [] = Unit {0}
Each P (c ∷ cs) = P c × Each P cs

pub each-made : (P : Column → Type 0) (make : Token → Column) (f : Flow) → ((t : Token) → P (make t)) → (n : ℕ) (t : Token) →
    Each P (columns_by make f n t)
unfolding columns_by
each-made P make f all zero t = tt
each-made P make f all (suc n) t = go (is_end f t) (each-made P make f all n (make t).end)
  where
    go : (b : Bool) → Each P (columns_by make f n (make t).end) →
        Each P (elim b [ true ↦ [] | false ↦ make t ∷ columns_by make f n (make t).end ])
    go true rest = tt
    go false rest = (all t, rest)

pub each-up-to : (P : Column → Type 0) (stops : Column → Bool) (cs : List Column) → Each P cs → Each P (up_to stops cs)
each-up-to P stops [] each = tt
each-up-to P stops (c ∷ cs) each = (each.0, go (stops c) (each-up-to P stops cs each.1))
  where
    go : (b : Bool) → Each P (up_to stops cs) → Each P (cond b [] (up_to stops cs))
    go true rest = tt
    go false rest = rest

small-bounds : (cs : List Column) → Each (λ (c : Column). All IsSmall c.bounds) cs → All IsSmall (bounds_of cs)
small-bounds [] each = All-nil IsSmall
small-bounds (c ∷ cs) each = All-append IsSmall c.bounds (bounds_of cs) each.0 (small-bounds cs each.1)

least-small : (b : ℕ) (bs : List ℕ) → b < 2 ^ 60 → fold min b bs < 2 ^ 60
least-small b [] lt = lt
least-small b (c ∷ bs) lt = least-small (min b c) bs (omega arith)

short-small : (low : ℕ) (bs : List ℕ) → low < 2 ^ 64 → All IsSmall bs → IfSome (shortage low bs) (λ short. low + short < 2 ^ 64)
short-small low [] lt small = tt
short-small low (b ∷ bs) lt small =
    let least : fold min b bs < 2 ^ 60 = least-small b bs (All-head IsSmall b bs small) in
    omega arith

-- the height that the shortage adds to fits in 64 bits
pub short-fits : (d : FlowsData) → ((f : ℕ) → f < length d.flows → FlowIsSound d f) → (r : ℕ) →
    (row_of d r).flow < length d.flows →
    (q : Token) (low most : ℕ) → low < 2 ^ 64 → (out : FoldOut) → IsFold (fold_in fitting (all_rows d) d r most q low) out →
    IfSome out.short (λ short. low + short < 2 ^ 64)
short-fits d law r flow q low most lt out made =
    let cs = columns (all_rows d) d (flow_in d r) most q low in
    let small : Each (λ (c : Column). All IsSmall c.bounds) cs =
    each-made (λ (c : Column). All IsSmall c.bounds) (λ t. column (all_rows d) d (flow_in d r) t low) (flow_in d r)
    (λ t. (law (row_of d r).flow flow).small.bounds_are_small t low) most q in
    let judged_small = each-up-to (λ (c : Column). All IsSmall c.bounds) fails cs small in
    let over_small = each-up-to (λ (c : Column). All IsSmall c.bounds) (λ (c : Column). c.overflow)
    (to_failure cs) judged_small in
    rw made.short (short-small low (bounds_of (to_overflow (to_failure cs))) lt (small-bounds (to_overflow
    (to_failure cs)) over_small))

-- ---- what is judged

-- a fold up to the first column that breaks a rule, of as many as may be used, tells of the columns that are judged
pub judged-of : (d : FlowsData) (r : ℕ) (q : Token) (low most : ℕ) → most ≡ most_columns (row_of d r).n (flow_in d r) q →
    (out : FoldOut) → IsFold (fold_in fitting (all_rows d) d r most q low) out →
    IsJudged (all_rows d) d r q low (record {
      columns = out.columns;
      end = out.end;
      at_end = out.at_end;
      level = out.level;
      overflow = out.overflow;
      short = out.short;
      lines = out.lines;
    })
judged-of d r q low most is out made = record {
  told = rw (← is) (record {
    columns = made.columns;
    end = made.end;
    at_end = made.at_end;
    level = made.level.ranked;
    overflow = made.overflow;
    short = made.short;
    lines = made.lines;
  });
  above = below-each low (bounds_of (judged (all_rows d) d r q low)) (judged-above d r q low);
}

pub judged-made : (d : FlowsData) (r : ℕ) (q : Token) (low most : ℕ) → most ≡ most_columns (row_of d r).n (flow_in d r) q →
    columns_made fitting (all_rows d) d (flow_in d r) most q low ≡ judged (all_rows d) d r q low
unfolding judged
judged-made d r q low most is = ap (λ n. to_failure (columns (all_rows d) d (flow_in d r) n q low)) is
