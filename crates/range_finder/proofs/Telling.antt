-- The search goes on as is told of the columns judged at its height.
use Rattle.std.proofs.Common.{◌≡◌, ℕ, suc, ◌+◌, ◌-◌, ◌<◌, ◌≤◌, Bool, true, false, cond, List, [], ◌∷◌, length, Option, Some, None}
use Rattle.std.proofs.Common.{refl, sym, ◌∙◌, ap, arith, All, ◌⊎◌, inl, inr}
use Rattle.std.specs.Prelude.{max, min, ◌||◌, nat_lt, fold}
use Rattle.std.specs.List.{list_any}
use Rattle.std.specs.Option.{option_map}
use Rattle.std.proofs.lemmas.Bool.{cases_lt, lt-ltb, le-ltb}
use Rattle.std.proofs.lemmas.List.Elements.{All-head, All-tail}
use Rattle.flow_data.specs.Flows.{row_of, flow_in}
use Rattle.flow_list.specs.Data.{Flow, FlowsData}
use Rattle.flow_list.specs.Column.{Column, Inner}
use Rattle.flow_list.specs.Folds.{Folded, fitting, fold_in, folded_by, shortage}
use Rattle.flow_list.specs.Ranges.{Reason, left, bad, over, judged, to_failure, bounds_of, lines_of}
use Rattle.flow_list.specs.Ranges.{reason_of, least_bound, is_past, searched}
use Rattle.flow_list.specs.Rows.{columns, end_of, fails, most_columns, to_overflow}
use Rattle.flow_list.specs.Tokens.{Token, is_end}
use Rattle.range_finder.specs.Judging.{lesser, reason_in}

-- ---- columns up to the first that breaks a rule

-- the columns up to the first that breaks a rule end no later than at the first that overflows
overflow-failure : (xs : List Column) → to_overflow (to_failure xs) ≡ to_failure xs
overflow-failure [] = refl
overflow-failure (x ∷ xs) = go x.overflow (nat_lt 0 x.level) (overflow-failure xs)
  where
    go : (o b : Bool) → to_overflow (to_failure xs) ≡ to_failure xs →
        x ∷ cond o [] (to_overflow (cond (o || b) [] (to_failure xs))) ≡ x ∷ cond (o || b) [] (to_failure xs)
    go true b again = refl
    go false true again = refl
    go false false again = ap (λ ys. x ∷ ys) again

abbrev any_overflow : List Column → Bool
any_overflow cs = list_any (λ (x : Column). x.overflow) cs

abbrev worst_from : ℕ → List Column → ℕ
worst_from level cs = fold (λ worst (x : Column). max worst x.level) level cs

-- the reason by what is told of columns, of which the first is column c
abbrev reason_by : Flow → ℕ → Token → List Column → Option Reason
reason_by f c q cs =
    cond (any_overflow cs) (Some (over (c + length cs - 1)))
    (cond (nat_lt 0 (worst_from 0 cs)) (Some (bad (c + length cs - 1)))
    (cond (is_end f (end_of q cs)) None (Some (left (end_of q cs)))))

-- the reason of columns up to the first that breaks a rule is told by all of them
reason-told : (f : Flow) (c : ℕ) (q : Token) (xs : List Column) →
    reason_of f c q (to_failure xs) ≡ reason_by f c q (to_failure xs)
reason-told f c q [] = refl
reason-told f c q (x ∷ xs) = go x.overflow x.level (cases_lt 0 x.level) (reason-told f (c + 1) x.end xs)
  where
    this : c + 1 - 1 ≡ c
    this = omega arith

    next : (ys : List Column) → c + 1 + length ys - 1 ≡ c + length (x ∷ ys) - 1
    next ys = omega arith

    go : (o : Bool) (level : ℕ) → (0 < level) ⊎ (level ≤ 0) →
        reason_of f (c + 1) x.end (to_failure xs) ≡ reason_by f (c + 1) x.end (to_failure xs) →
        cond o (Some (over c)) (cond (nat_lt 0 level) (Some (bad c))
        (reason_of f (c + 1) x.end (cond (o || nat_lt 0 level) [] (to_failure xs))))
        ≡ cond (o || any_overflow (cond (o || nat_lt 0 level) [] (to_failure xs)))
        (Some (over (c + length (x ∷ cond (o || nat_lt 0 level) [] (to_failure xs)) - 1)))
        (cond (nat_lt 0 (worst_from (max 0 level) (cond (o || nat_lt 0 level) [] (to_failure xs))))
        (Some (bad (c + length (x ∷ cond (o || nat_lt 0 level) [] (to_failure xs)) - 1)))
        (cond (is_end f (end_of x.end (cond (o || nat_lt 0 level) [] (to_failure xs)))) None
        (Some (left (end_of x.end (cond (o || nat_lt 0 level) [] (to_failure xs)))))))
    go true level some again = ap (λ n. Some (over n)) (sym this)
    go false level (inl some) again =
        let above : nat_lt 0 (max 0 level) ≡ true = lt-ltb 0 (max 0 level) (omega arith) in
        rw (lt-ltb 0 level some, above) (ap (λ n. Some (bad n)) (sym this))
    go false level (inr none) again =
        let zero_is : max 0 level ≡ 0 = omega arith in
        rw (le-ltb 0 level none, zero_is, ← next (to_failure xs)) again

-- ---- bounds

least-from : (a b : ℕ) (bs : List ℕ) → fold min (min a b) bs ≡ min a (fold min b bs)
least-from a b [] = refl
least-from a b (c ∷ bs) =
    let e : min (min a b) c ≡ min a (min b c) = omega arith in
    ap (λ m. fold min m bs) e ∙ least-from a (min b c) bs

least-above : (low b : ℕ) (bs : List ℕ) → low < b → All (λ c. low < c) bs → low < fold min b bs
least-above low b [] above each = above
least-above low b (c ∷ bs) above each =
    let this : low < c = All-head (λ c. low < c) c bs each in
    least-above low (min b c) bs (omega arith) (All-tail (λ c. low < c) c bs each)

all-above : (low b : ℕ) (bs : List ℕ) → All (λ c. low < c) (b ∷ bs) → low < fold min b bs
all-above low b bs each = least-above low b bs (All-head (λ c. low < c) b bs each) (All-tail (λ c. low < c) b bs each)

-- the least bound is the height with what the shortage adds to it
bound-told : (top : Option ℕ) (low : ℕ) (bs : List ℕ) → All (λ b. low < b) bs →
    least_bound top bs ≡ lesser top (option_map (λ short. low + short) (shortage low bs))
bound-told None low [] each = refl
bound-told (Some t) low [] each = refl
bound-told None low (b ∷ bs) each =
    let above : low < fold min b bs = all-above low b bs each in
    ap Some (omega arith)
bound-told (Some t) low (b ∷ bs) each =
    let above : low < fold min b bs = all-above low b bs each in
    let is : fold min b bs ≡ low + (fold min b bs - low) = omega arith in
    ap Some (least-from t b bs ∙ ap (λ m. min t m) is)

-- ---- one step of the search

abbrev told_at : Inner → FlowsData → ℕ → Token → ℕ → Folded
told_at inner d r q low = fold_in fitting inner d r (most_columns (row_of d r).n (flow_in d r) q) q low

-- what is told of the columns that are judged
reason-at : (inner : Inner) (d : FlowsData) (r : ℕ) (q : Token) (low : ℕ) →
    reason_of (flow_in d r) 1 q (judged inner d r q low) ≡ reason_in (told_at inner d r q low)
unfolding judged
reason-at inner d r q low =
    let xs = columns inner d (flow_in d r) (most_columns (row_of d r).n (flow_in d r) q) q low in
    reason-told (flow_in d r) 1 q xs ∙ count (to_failure xs)
  where
    count : (cs : List Column) → reason_by (flow_in d r) 1 q cs ≡ reason_in (folded_by (flow_in d r) q low cs)
    count cs = let one : 1 + length cs - 1 ≡ length cs = omega arith in rw one refl

bound-at : (inner : Inner) (d : FlowsData) (r : ℕ) (q : Token) (top : Option ℕ) (low : ℕ) →
    All (λ b. low < b) (bounds_of (judged inner d r q low)) →
    least_bound top (bounds_of (judged inner d r q low))
    ≡ lesser top (option_map (λ short. low + short) (told_at inner d r q low).short)
unfolding judged
bound-at inner d r q top low each =
    let xs = columns inner d (flow_in d r) (most_columns (row_of d r).n (flow_in d r) q) q low in
    bound-told top low (bounds_of (to_failure xs)) each
    ∙ ap (λ cs. lesser top (option_map (λ short. low + short) (shortage low (bounds_of cs)))) (sym (overflow-failure xs))

lines-at : (inner : Inner) (d : FlowsData) (r : ℕ) (q : Token) (low : ℕ) →
    lines_of (judged inner d r q low) ≡ (told_at inner d r q low).lines
unfolding judged
lines-at inner d r q low =
    let xs = columns inner d (flow_in d r) (most_columns (row_of d r).n (flow_in d r) q) q low in
    ap lines_of (sym (overflow-failure xs))

-- at the top the search ends
pub ends-at-top : (inner : Inner) (d : FlowsData) (r n : ℕ) (q : Token) (top : Option ℕ) (low : ℕ) → is_past top low ≡ true →
    searched inner d r q top (suc n) low ≡ []
unfolding searched
ends-at-top inner d r n q top low past = rw (searched, past) refl

-- where there is no reason the search ends
pub ends-fitting : (inner : Inner) (d : FlowsData) (r n : ℕ) (q : Token) (top : Option ℕ) (low : ℕ) → is_past top low ≡ false →
    reason_in (told_at inner d r q low) ≡ None → searched inner d r q top (suc n) low ≡ []
unfolding searched
ends-fitting inner d r n q top low below fits = rw (searched, below, reason-at inner d r q low, fits) refl

-- where nothing bounds the range it ends too
pub ends-unbounded : (inner : Inner) (d : FlowsData) (r n : ℕ) (q : Token) (top : Option ℕ) (low : ℕ) (reason : Reason) →
    All (λ b. low < b) (bounds_of (judged inner d r q low)) → is_past top low ≡ false →
    reason_in (told_at inner d r q low) ≡ Some reason →
    lesser top (option_map (λ short. low + short) (told_at inner d r q low).short) ≡ None →
    searched inner d r q top (suc n) low ≡ []
unfolding searched
ends-unbounded inner d r n q top low reason each below fails none =
    rw (searched, below, reason-at inner d r q low, fails, bound-at inner d r q top low each, none) refl

-- else the range is the next one
pub goes-on : (inner : Inner) (d : FlowsData) (r n : ℕ) (q : Token) (top : Option ℕ) (low high : ℕ) (reason : Reason) →
    All (λ b. low < b) (bounds_of (judged inner d r q low)) → is_past top low ≡ false →
    reason_in (told_at inner d r q low) ≡ Some reason →
    lesser top (option_map (λ short. low + short) (told_at inner d r q low).short) ≡ Some high →
    searched inner d r q top (suc n) low
    ≡ record { low = low; high = high; reason = reason; lines = (told_at inner d r q low).lines }
    ∷ searched inner d r q top n high
unfolding searched
goes-on inner d r n q top low high reason each below fails bound =
    let up_to = bound-at inner d r q top low each in
    rw (searched, below, reason-at inner d r q low, fails, up_to, bound, lines-at inner d r q low) refl
