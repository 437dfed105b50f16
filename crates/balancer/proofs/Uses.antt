-- What a search uses: the columns that each of its ranges speaks of.
use Rattle.std.proofs.Common.{◌≡◌, ℕ, zero, suc, ◌<◌, ◌==◌, Bool, true, false, cond, List, [], ◌∷◌, ◌++◌, length}
use Rattle.std.proofs.Common.{Option, Some, None, refl, sym, ◌∙◌, ap, arith}
use Rattle.std.specs.Prelude.{min, nat_lt}
use Rattle.std.specs.Cmp.{unsigned_Decides}
use Rattle.std.specs.List.{flat_map}
use Rattle.std.proofs.Common.{length-append}
use Rattle.std.proofs.lemmas.List.{flat_map_more}
use Rattle.std.proofs.lemmas.List.Elements.{All-nil}
use Rattle.std.proofs.lemmas.List.Concat.{flat_map-append}
use Rattle.flow_data.specs.Flows.{flow_in, row_of}
use Rattle.flow_data.specs.declared.data.Flow.{Flow}
use Rattle.flow_data.specs.declared.data.FlowsData.{FlowsData}
use Rattle.flow_list.specs.Book.{after_uses}
use Rattle.flow_list.specs.Certificate.{Use, range_uses, stands_in, uses_of}
use Rattle.flow_list.specs.Column.{Column, Inner, Step, avoids_at, column, column_up_to, cut, steps_from}
use Rattle.flow_list.specs.Ranges.{Range, Reason, area, tall, judged, lines_of, range_up_to, searched}
use Rattle.flow_list.specs.Rows.{all_rows, columns, fails, most_columns}
use Rattle.flow_list.specs.Tokens.{Token}
use Rattle.range_laws.specs.Entering.{UsesEnter}
use Rattle.range_finder.specs.Judging.{goes_on}
use Rattle.balancer.specs.Searching.{spread_of, tallest_in}
use Rattle.balancer.specs.Trying.{range_of}
use Rattle.balancer.specs.declared.trial.Trial.{Trial}
use Rattle.balancer.specs.declared.trial.Trial.TheVariants.{Rejected}
use Rattle.balancer.proofs.Progress.{firsts_to, step-tells}
use Rattle.balancer.proofs.Trials.{Each, each-made, each-up-to}

-- ---- each column has a line

abbrev HasLine : Column → Type 0
HasLine c = 0 < length c.lines

column-line : (inner : Inner) (d : FlowsData) (f : Flow) (t : Token) (h : ℕ) → HasLine (column inner d f t h)
unfolding column
column-line inner d f t h = go (cut h (steps_from inner d f t)).before (cut h (steps_from inner d f t)).stop
  where
    go : (before : List Step) (stop : Option Step) → HasLine (column_up_to inner (avoids_at d f) h before stop)
    go before None = omega arith
    go before (Some s) = omega arith

judged-lines : (inner : Inner) (d : FlowsData) (r : ℕ) (q : Token) (h : ℕ) → Each HasLine (judged inner d r q h)
unfolding judged
judged-lines inner d r q h =
    let n = most_columns (row_of d r).n (flow_in d r) q in
    each-up-to HasLine fails (columns inner d (flow_in d r) n q h)
    (each-made HasLine (λ t. column inner d (flow_in d r) t h) (flow_in d r) (λ t. column-line inner d (flow_in d r) t h) n q)

-- so columns without lines are none, and use nothing
used-by : (cs : List Column) → Each HasLine cs → cond (length (lines_of cs) == 0) [] (uses_of cs) ≡ uses_of cs
used-by [] each = refl
used-by (c ∷ cs) each = go (length (c.lines ++ lines_of cs) == 0) refl
  where
    go : (b : Bool) → (length (c.lines ++ lines_of cs) == 0) ≡ b → cond b [] (c.uses ++ uses_of cs) ≡ c.uses ++ uses_of cs
    go true e =
        let none : length (c.lines ++ lines_of cs) ≡ 0 = (unsigned_Decides (length (c.lines ++ lines_of cs)) 0).0 e in
        let sum = length-append c.lines (lines_of cs) in
        let some = each.0 in
        absurd (omega arith)
    go false e = refl

-- a range with the lines of the columns judged where it begins uses what they use
pub range-used : (d : FlowsData) (r : ℕ) (q : Token) (low : ℕ) (x : Range) → x.low ≡ low →
    x.lines ≡ lines_of (judged (all_rows d) d r q low) → range_uses d r q x ≡ uses_of (judged (all_rows d) d r q low)
range-used d r q low x at told =
    ap (λ ls. cond (length ls == 0) [] (uses_of (judged (all_rows d) d r q x.low))) told
    ∙ (ap (λ l. cond (length (lines_of (judged (all_rows d) d r q low)) == 0) [] (uses_of (judged (all_rows d) d r q l))) at
    ∙ used-by (judged (all_rows d) d r q low) (judged-lines (all_rows d) d r q low))

-- so does one that a trial tells
pub trial-used : (d : FlowsData) (r : ℕ) (q : Token) (top : Option ℕ) (low : ℕ) (trial : Trial) (x : Range) → trial ≡ Rejected x →
    ((n : ℕ) → searched (all_rows d) d r q top (suc n) low ≡ goes_on (range_of trial) (searched (all_rows d) d r q top n)) →
    range_uses d r q x ≡ uses_of (judged (all_rows d) d r q low)
trial-used d r q top low trial x is step =
    let t = step-tells (all_rows d) d r zero q top low x (searched (all_rows d) d r q top zero x.high)
    (step zero ∙ ap (λ w. goes_on (range_of w) (searched (all_rows d) d r q top zero)) is) in
    range-used d r q low x t.0 t.1

-- ---- the first ranges speak of no columns

up-used : (d : FlowsData) (r : ℕ) (q : Token) (top : Option ℕ) (low high : ℕ) (reason : Reason) →
    flat_map (range_uses d r q) (range_up_to top low high reason) ≡ []
up-used d r q None low high reason = go (nat_lt low high)
  where
    go : (b : Bool) → flat_map (range_uses d r q)
        (cond b (record { low = low; high = high; reason = reason; lines = [] } ∷ []) []) ≡ []
    go true = refl
    go false = refl
up-used d r q (Some t) low high reason = go (nat_lt low (min high t))
  where
    go : (b : Bool) → flat_map (range_uses d r q)
        (cond b (record { low = low; high = min high t; reason = reason; lines = [] } ∷ []) []) ≡ []
    go true = refl
    go false = refl

two-used : (d : FlowsData) (r : ℕ) (q : Token) (xs ys : List Range) → flat_map (range_uses d r q) xs ≡ [] →
    flat_map (range_uses d r q) ys ≡ [] → flat_map (range_uses d r q) (xs ++ ys) ≡ []
two-used d r q xs ys a b = rw (flat_map-append (range_uses d r q) xs ys, a, b) refl

pub firsts-used : (d : FlowsData) → UsesEnter d → (r : ℕ) (q : Token) (top : Option ℕ) (done : List Range) (book : List Use) →
    done ≡ firsts_to d r q top → book ≡ after_uses d book (flat_map (range_uses d r q) done)
firsts-used d law r q top done book is =
    let none : flat_map (range_uses d r q) (firsts_to d r q top) ≡ [] =
    two-used d r q (range_up_to top 0 (tallest_in d r q).need (tall (tallest_in d r q).item))
    (range_up_to top (tallest_in d r q).need (spread_of d r q) area)
    (up-used d r q top 0 (tallest_in d r q).need (tall (tallest_in d r q).item))
    (up-used d r q top (tallest_in d r q).need (spread_of d r q) area) in
    sym (ap (λ xs. after_uses d book (flat_map (range_uses d r q) xs)) is
    ∙ ap (after_uses d book) none ∙ law.none_new book [] (All-nil (λ u. stands_in book u ≡ true)))

-- ---- one more range

pub more-used : (d : FlowsData) → UsesEnter d → (r : ℕ) (q : Token) (old now new us : List Use) (done : List Range) (x : Range) →
    now ≡ after_uses d old (flat_map (range_uses d r q) done) → new ≡ after_uses d now us → range_uses d r q x ≡ us →
    new ≡ after_uses d old (flat_map (range_uses d r q) (done ++ x ∷ []))
more-used d law r q old now new us done x before one used =
    let f = range_uses d r q in
    one ∙ ap (λ b. after_uses d b us) before ∙ law.one_list old (flat_map f done) us
    ∙ ap (λ u. after_uses d old (flat_map f done ++ u)) (sym used)
    ∙ ap (after_uses d old) (flat_map_more f [] done x)

-- and the columns of the height that fits
pub last-used : (d : FlowsData) → UsesEnter d → (old now new us vs : List Use) → now ≡ after_uses d old us →
    new ≡ after_uses d now vs → new ≡ after_uses d old (us ++ vs)
last-used d law old now new us vs before one = one ∙ ap (λ b. after_uses d b vs) before ∙ law.one_list old us vs
