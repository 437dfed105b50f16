-- The ranges that are given for a row reject by their reasons, and follow one another up to its size or the top.
use Rattle.std.proofs.Common.{◌≡◌, ℕ, zero, suc, ◌+◌, ◌-◌, ◌*◌, ◌/◌, ◌<◌, ◌≤◌, Bool, true, false, cond, ◌||◌, List, [], ◌∷◌, ◌++◌}
use Rattle.std.proofs.Common.{length, drop, max, min, Option, Some, None, refl, sym, subst, ◌∙◌, ap, arith, ◌⊎◌, inl, inr}
use Rattle.std.specs.Prelude.{nat_lt, fold, All, IfSome}
use Rattle.std.specs.List.{list_any}
use Rattle.std.proofs.lemmas.Bool.{or_from, or_left, or_right, cases_lt}
use Rattle.std.proofs.lemmas.Bool.Decides.{nat_tests}
use Rattle.std.proofs.lemmas.List.{drop_more, drop_all}
use Rattle.std.proofs.lemmas.List.Elements.{All-nil, All-cons, All-append}
use Rattle.std.proofs.lemmas.Nat.{mul-le}
use Rattle.flow_list.specs.Data.{Flow, FlowsData, Item, Atom, Row}
use Rattle.flow_data.specs.Flows.{row_of, flow_in, item_of, no_item}
use Rattle.flow_list.specs.Atoms.{IsAtom}
use Rattle.flow_list.specs.Tokens.{Token, item_number, is_end}
use Rattle.flow_list.specs.Column.{Column, ColumnLine, Inner, loose_need}
use Rattle.flow_list.specs.Rows.{columns, end_of, fits, fails, most_columns, reach, up_to, size_in, all_rows}
use Rattle.flow_list.specs.Ranges.{Range, Reason, tall, area, left, bad, over, FailsAt, LeavesRest, RangeRejects, Tallest, taller}
use Rattle.flow_list.specs.Ranges.{loose_atom, tallest_of, tallest_from, atoms_height, spread, reason_of, least_bound, is_past}
use Rattle.flow_list.specs.Ranges.{searched, range_up_to, top_of, ranges, judged, bounds_of, lines_of}
use Rattle.flow_list.proofs.Fitting.{size-least, size-reach}
use Rattle.flow_laws.specs.Constant.{IsBelowEach}
use Rattle.flow_laws.specs.TallAndArea.{TallAndAreaReject}
use Rattle.flow_laws.specs.RangeLaws.{FollowOn, told_of, ranged_to, RangesAccount}
use Rattle.flow_laws.proofs.OneRange.{fails-unfit, leaves-unfit, judged-fits, range-rejects, unfit-to}
use Rattle.flow_laws.proofs.BoundsAbove.{judged-above}

-- ---- the reason of columns

-- of these columns, of which the first is column c, number k is the last and the first that breaks a rule
pub record FailsFrom (cs : List Column) (c k : ℕ) (overflows : Bool) : Type 0 where
  pub before : List Column
  pub column : Column
  pub judged_are : cs ≡ before ++ column ∷ []
  pub number : k ≡ length before + c
  pub fail : fails column ≡ true
  pub overflow : column.overflow ≡ overflows

-- what this reason says of columns from a place on, of which the first is column c; without one they break no rule and reach the
-- end
abbrev pub IsJudged : Flow → ℕ → Token → List Column → Option Reason → Type 0
IsJudged f c q cs None = (list_any fails cs ≡ false) × (is_end f (end_of q cs) ≡ true)
IsJudged f c q cs (Some (tall k)) = ⊥
IsJudged f c q cs (Some area) = ⊥
IsJudged f c q cs (Some (left at)) = LeavesRest f q cs at
IsJudged f c q cs (Some (bad k)) = FailsFrom cs c k false
IsJudged f c q cs (Some (over k)) = FailsFrom cs c k true

fails-here : (c : ℕ) (x : Column) (o : Bool) → fails x ≡ true → x.overflow ≡ o → FailsFrom (x ∷ []) c c o
fails-here c x o e is = record { before = []; column = x; judged_are = refl; number = omega arith; fail = e; overflow = is }

fails-later : (c k : ℕ) (x : Column) (cs : List Column) (o : Bool) → FailsFrom cs (c + 1) k o → FailsFrom (x ∷ cs) c k o
fails-later c k x cs o f = record {
  before = x ∷ f.before;
  column = f.column;
  judged_are = ap (λ xs. x ∷ xs) f.judged_are;
  number = let e = f.number in omega arith;
  fail = f.fail;
  overflow = f.overflow;
}

judged-more : (f : Flow) (c : ℕ) (q : Token) (x : Column) (cs : List Column) → fails x ≡ false → (o : Option Reason)
    → IsJudged f (c + 1) x.end cs o → IsJudged f c q (x ∷ cs) o
judged-more f c q x cs fine None j = (or_from (fails x) (list_any fails cs) fine j.0, j.1)
judged-more f c q x cs fine (Some (tall k)) j = j
judged-more f c q x cs fine (Some area) j = j
judged-more f c q x cs fine (Some (left at)) j =
    record { none_fails = All-cons (λ y. fails y ≡ false) x cs fine j.none_fails; place = j.place; rest = j.rest }
judged-more f c q x cs fine (Some (bad k)) j = fails-later c k x cs false j
judged-more f c q x cs fine (Some (over k)) j = fails-later c k x cs true j

pub judged-by : (f : Flow) (c : ℕ) (q : Token) (cs : List Column) → IsJudged f c q (up_to fails cs) (reason_of f c q (up_to fails cs))
judged-by f c q [] = go (is_end f q) refl
  where
    go : (b : Bool) → is_end f q ≡ b → IsJudged f c q [] (cond b None (Some (left q)))
    go true e = (refl, e)
    go false e = record { none_fails = All-nil (λ y. fails y ≡ false); place = refl; rest = e }
judged-by f c q (x ∷ xs) = go x.overflow refl (nat_lt 0 x.level) refl (judged-by f (c + 1) x.end xs)
  where
    go : (o : Bool) → x.overflow ≡ o → (l : Bool) → nat_lt 0 x.level ≡ l
        → IsJudged f (c + 1) x.end (up_to fails xs) (reason_of f (c + 1) x.end (up_to fails xs)) →
        IsJudged f c q (x ∷ cond (o || l) [] (up_to fails xs))
        (cond o (Some (over c)) (cond l (Some (bad c)) (reason_of f (c + 1) x.end (cond (o || l) [] (up_to fails xs)))))
    go true e l is j = fails-here c x true (or_left x.overflow (nat_lt 0 x.level) e) e
    go false e true is j = fails-here c x false (or_right x.overflow (nat_lt 0 x.level) is) e
    go false e false is j = judged-more f c q x (up_to fails xs) (or_from x.overflow (nat_lt 0 x.level) e is)
        (reason_of f (c + 1) x.end (up_to fails xs)) j

pub first-fails : (cs : List Column) (k : ℕ) (o : Bool) → FailsFrom cs 1 k o → FailsAt cs k o
first-fails cs k o f = record {
  before = f.before;
  column = f.column;
  judged_are = f.judged_are;
  number = f.number;
  fail = f.fail;
  overflow = f.overflow;
}

-- ---- the least bound

fold-least : (n : ℕ) (bs : List ℕ) → (fold min n bs ≤ n) × All (λ b. fold min n bs ≤ b) bs
fold-least n [] = (omega arith, All-nil (λ b. n ≤ b))
fold-least n (x ∷ xs) =
    let k = fold-least (min n x) xs in
    let le = k.0 in
    (omega arith, All-cons (λ b. fold min (min n x) xs ≤ b) x xs (omega arith) k.1)

fold-above : (low n : ℕ) (bs : List ℕ) → low < n → IsBelowEach low bs → low < fold min n bs
fold-above low n [] lt below = lt
fold-above low n (x ∷ xs) lt below = let k = below.0 in fold-above low (min n x) xs (omega arith) below.1

least-of-each : (top : Option ℕ) (bs : List ℕ) → IfSome (least_bound top bs) (λ high. All (λ b. high ≤ b) bs)
least-of-each None [] = tt
least-of-each (Some t) [] = All-nil (λ b. t ≤ b)
least-of-each None (b ∷ bs) = let k = fold-least b bs in All-cons (λ x. fold min b bs ≤ x) b bs k.0 k.1
least-of-each (Some t) (b ∷ bs) =
    let k = fold-least (min t b) bs in
    let le = k.0 in
    All-cons (λ x. fold min (min t b) bs ≤ x) b bs (omega arith) k.1

least-of-top : (t : ℕ) (bs : List ℕ) → IfSome (least_bound (Some t) bs) (λ high. high ≤ t)
least-of-top t [] = omega arith
least-of-top t (b ∷ bs) = let le = (fold-least (min t b) bs).0 in omega arith

pub least-above : (top : Option ℕ) (bs : List ℕ) (low : ℕ) → is_past top low ≡ false → IsBelowEach low bs
    → IfSome (least_bound top bs) (λ high. low < high)
least-above None [] low past below = tt
least-above (Some t) [] low past below = grind (arith, nat_tests)
least-above None (b ∷ bs) low past below = fold-above low b bs below.0 below.1
least-above (Some t) (b ∷ bs) low past below =
    let k = below.0 in
    let lt : low < t = grind (arith, nat_tests) in
    fold-above low (min t b) bs (omega arith) below.1

least-some : (top : Option ℕ) (bs : List ℕ) → (bs ≡ [] → ⊥) → least_bound top bs ≡ None → ⊥
least-some top [] some e = some refl
least-some None (b ∷ bs) some e = cc
least-some (Some t) (b ∷ bs) some e = cc

-- ---- heights up to the top

-- the lesser of a height and the top, where that is given
abbrev capped : Option ℕ → ℕ → ℕ
capped None h = h
capped (Some top) h = min h top

capped-below : (top : Option ℕ) (h : ℕ) → is_past top h ≡ false → capped top h ≡ h
capped-below None h e = refl
capped-below (Some t) h e = let lt : h < t = grind (arith, nat_tests) in omega arith

capped-past : (top : Option ℕ) (low h : ℕ) → is_past top low ≡ true → low ≤ h → capped top low ≡ capped top h
capped-past None low h e le = cc
capped-past (Some t) low h e le = let past : t ≤ low = grind (arith, nat_tests) in omega arith

capped-least : (top : Option ℕ) (bs : List ℕ) (high : ℕ) → least_bound top bs ≡ Some high → capped top high ≡ high
capped-least None bs high is = refl
capped-least (Some t) bs high is = let le : high ≤ t = subst (λ o. IfSome o (λ h. h ≤ t)) is (least-of-top t bs) in omega arith

ranged-capped : (available : Option ℕ) (size : ℕ) → ranged_to available size ≡ capped (top_of available) size
ranged-capped None size = refl
ranged-capped (Some a) size = refl

-- ---- the tallest atom

-- it needs nothing, or an atom from item i on needs this after an unforced break
data IsTallest (inner : Inner) (d : FlowsData) (f : Flow) (i : ℕ) : Tallest → Type 0 where
  nothing : {best : Tallest} → best.need ≡ 0 → IsTallest inner d f i best
  atom : {best : Tallest} → i ≤ best.item → best.item < length f.items → IsAtom (item_of f best.item)
      → best.need ≤ loose_need inner d f best.item → IsTallest inner d f i best

module _ (inner : Inner) (d : FlowsData) (f : Flow) (i : ℕ) where
  one-taller : (best : Tallest) (k : ℕ) (item : Item) → item ≡ item_of f k → i ≤ k → k < length f.items
      → IsTallest inner d f i best → IsTallest inner d f i (taller best k (loose_atom inner d f k item))
  one-taller best k item is le lt old = go item is (nat_lt best.need (loose_atom inner d f k item)) refl
    where
      go : (item : Item) → item ≡ item_of f k → (b : Bool) → nat_lt best.need (loose_atom inner d f k item) ≡ b →
          IsTallest inner d f i (record { need = max best.need (loose_atom inner d f k item); item = cond b k best.item })
      go (Atom height kind) is true e =
          let more : best.need < loose_need inner d f k = grind (arith, nat_tests) in
          atom le lt (rw (sym is) tt) (omega arith)
      go (Row r) is true e = absurd (grind (arith, nat_tests))
      go item is false e = kept old
        where
          same : max best.need (loose_atom inner d f k item) ≡ best.need
          same = let le : loose_atom inner d f k item ≤ best.need = grind (arith, nat_tests) in omega arith

          kept : IsTallest inner d f i best
              → IsTallest inner d f i (record { need = max best.need (loose_atom inner d f k item); item = best.item })
          kept (nothing e) = nothing (same ∙ e)
          kept (atom a b c e) = let s = same in atom a b c (omega arith)

  each-taller : (best : Tallest) (k : ℕ) (items : List Item) → items ≡ drop k f.items → i ≤ k → IsTallest inner d f i best
      → IsTallest inner d f i (tallest_of inner d f best k items)
  each-taller best k [] is le old = old
  each-taller best k (item ∷ items) is le old =
      go (λ same rest within. each-taller (taller best k (loose_atom inner d f k item)) (k + 1) items rest (omega arith)
      (one-taller best k item same le within old)) (cases_lt k (length f.items))
    where
      go : (item ≡ item_of f k → items ≡ drop (k + 1) f.items → k < length f.items
          → IsTallest inner d f i (tallest_of inner d f (taller best k (loose_atom inner d f k item)) (k + 1) items)) →
          (k < length f.items) ⊎ (length f.items ≤ k)
          → IsTallest inner d f i (tallest_of inner d f (taller best k (loose_atom inner d f k item)) (k + 1) items)
      go again (inl lt) = let e = drop_more f.items k no_item lt in again (cc) (cc) lt
      go again (inr past) = let e = drop_all k f.items past in absurd (cc)

-- ---- room in the columns

mul-one-less : (n h : ℕ) → 0 < h → n * (h - 1) + n ≡ n * h
mul-one-less n zero lt = absurd (omega arith)
mul-one-less n (suc h) lt = let e : suc h - 1 ≡ h = omega arith in rw e (omega arith)

-- below the height at which this much can stand in the columns there is too much
below-spread : (much n h : ℕ) → 0 < n → 0 < h → h ≤ spread much n → n * (h - 1) < much
below-spread much n h some more le =
    let a = mul-one-less n h more in
    let b : n * h ≤ n * spread much n = mul-le n h n (spread much n) (omega arith) le in
    let c : n * ((much + n - 1) / n) ≤ much + n - 1 = omega arith in
    omega arith

-- ---- the law

module _ (d : FlowsData) (r : ℕ) (q : Token) (law : TallAndAreaReject d r q) where
  abbrev Rejects : Range → Type 0
  Rejects x = RangeRejects (all_rows d) d r q x.low x.high x.reason

  abbrev Tells : Range → Type 0
  Tells x = x.lines ≡ lines_of (told_of d r q x.low x.reason)

  -- these ranges reject, tell of their columns, and go from one height up to another
  record Accounts (low high : ℕ) (xs : List Range) : Type 0 where
    rejects : All Rejects xs
    tells : All Tells xs
    follow : FollowOn low high xs

  accounts-none : (low high : ℕ) → low ≡ high → Accounts low high []
  accounts-none low high e = record { rejects = All-nil Rejects; tells = All-nil Tells; follow = e }

  accounts-more : (low high : ℕ) (x : Range) (xs : List Range) → x.low ≡ low → low < x.high → Rejects x → Tells x
      → Accounts x.high high xs → Accounts low high (x ∷ xs)
  accounts-more low high x xs at lt rejects tells rest =
      record {
        rejects = All-cons Rejects x xs rejects rest.rejects;
        tells = All-cons Tells x xs tells rest.tells;
        follow = (at, lt, rest.follow);
      }

  follow-append : (a b c : ℕ) (xs ys : List Range) → FollowOn a b xs → FollowOn b c ys → FollowOn a c (xs ++ ys)
  follow-append a b c [] ys e f = rw e f
  follow-append a b c (x ∷ xs) ys e f = (e.0, e.1, follow-append x.high b c xs ys e.2 f)

  accounts-append : (a b c : ℕ) (xs ys : List Range) → Accounts a b xs → Accounts b c ys → Accounts a c (xs ++ ys)
  accounts-append a b c xs ys e f =
      record {
        rejects = All-append Rejects xs ys e.rejects f.rejects;
        tells = All-append Tells xs ys e.tells f.tells;
        follow = follow-append a b c xs ys e.follow f.follow;
      }

  size : ℕ
  size = size_in (all_rows d) d r q

  size-fits : fits (all_rows d) d r q size ≡ true
  unfolding size
  size-fits = (size-least (all_rows d) d r q).itself

  below-size : (h : ℕ) → h < size → fits (all_rows d) d r q h ≡ false
  unfolding size
  below-size h lt = (size-least (all_rows d) d r q).below h lt

  -- a range that rejects ends at the size at most
  up-to-size : (low high : ℕ) (reason : Reason) → RangeRejects (all_rows d) d r q low high reason → low ≤ size → high ≤ size
  up-to-size low high reason rejects le = go (cases_lt size high)
    where
      go : (size < high) ⊎ (high ≤ size) → high ≤ size
      go (inl lt) = let a = range-rejects d r q law low high size reason rejects le lt in let b = size-fits in absurd (cc)
      go (inr e) = e

  -- ---- the first two ranges

  range-accounts : (top : Option ℕ) (low high : ℕ) (reason : Reason)
      → ((h : ℕ) → low < h → h ≤ high → RangeRejects (all_rows d) d r q low h reason) → told_of d r q low reason ≡ [] →
      Accounts (capped top low) (capped top (max low high)) (range_up_to top low high reason)
  range-accounts None low high reason rejects told = go (nat_lt low high) refl
    where
      go : (b : Bool) → nat_lt low high ≡ b
          → Accounts low (max low high) (cond b (record { low = low; high = high; reason = reason; lines = [] } ∷ []) [])
      go true e =
          let lt : low < high = grind (arith, nat_tests) in
          accounts-more low (max low high) (record { low = low; high = high; reason = reason; lines = [] }) [] refl lt
          (rejects high lt (omega arith)) (rw told refl) (accounts-none high (max low high) (omega arith))
      go false e = let le : high ≤ low = grind (arith, nat_tests) in accounts-none low (max low high) (omega arith)
  range-accounts (Some t) low high reason rejects told = go (nat_lt low (min high t)) refl
    where
      go : (b : Bool) → nat_lt low (min high t) ≡ b
          → Accounts (min low t) (min (max low high) t)
          (cond b (record { low = low; high = min high t; reason = reason; lines = [] } ∷ []) [])
      go true e =
          let lt : low < min high t = grind (arith, nat_tests) in
          accounts-more (min low t) (min (max low high) t) (record { low = low; high = min high t; reason = reason; lines = [] })
          [] (omega arith) (omega arith) (rejects (min high t) lt (omega arith)) (rw told refl)
          (accounts-none (min high t) (min (max low high) t) (omega arith))
      go false e = let le : min high t ≤ low = grind (arith, nat_tests)
          in accounts-none (min low t) (min (max low high) t) (omega arith)

  tall-range : (best : Tallest) → IsTallest (all_rows d) d (flow_in d r) (item_number q) best → (h : ℕ) → 0 < h → h ≤ best.need
      → RangeRejects (all_rows d) d r q 0 h (tall best.item)
  tall-range best (nothing e) h lt le = absurd (omega arith)
  tall-range best (atom a b c e) h lt le = (a, b, c, omega arith)

  area-range : (low h : ℕ) → low < h → h ≤ spread (atoms_height (flow_in d r) q) (most_columns (row_of d r).n (flow_in d r) q)
      → RangeRejects (all_rows d) d r q low h area
  area-range low h lt le = below-spread (atoms_height (flow_in d r) q) (most_columns (row_of d r).n (flow_in d r) q) h
      (omega arith) (omega arith) le

  -- ---- the search

  reason-rejects : (low high : ℕ) (reason : Reason) → IsJudged (flow_in d r) 1 q (judged (all_rows d) d r q low) (Some reason)
      → All (λ b. high ≤ b) (bounds_of (judged (all_rows d) d r q low)) →
      RangeRejects (all_rows d) d r q low high reason
  reason-rejects low high (tall k) j bounds = absurd j
  reason-rejects low high area j bounds = absurd j
  reason-rejects low high (left at) j bounds = (j, bounds)
  reason-rejects low high (bad c) j bounds = (first-fails _ c false j, bounds)
  reason-rejects low high (over c) j bounds = (first-fails _ c true j, bounds)

  reason-unfit : (low : ℕ) (reason : Reason) → IsJudged (flow_in d r) 1 q (judged (all_rows d) d r q low) (Some reason)
      → fits (all_rows d) d r q low ≡ false
  reason-unfit low (tall k) j = absurd j
  reason-unfit low area j = absurd j
  reason-unfit low (left at) j = leaves-unfit (all_rows d) d r q low at j
  reason-unfit low (bad c) j = fails-unfit (all_rows d) d r q low c false (first-fails _ c false j)
  reason-unfit low (over c) j = fails-unfit (all_rows d) d r q low c true (first-fails _ c true j)

  reason-tells : (low : ℕ) (reason : Reason) → IsJudged (flow_in d r) 1 q (judged (all_rows d) d r q low) (Some reason)
      → lines_of (judged (all_rows d) d r q low) ≡ lines_of (told_of d r q low reason)
  reason-tells low (tall k) j = absurd j
  reason-tells low area j = absurd j
  reason-tells low (left at) j = refl
  reason-tells low (bad c) j = refl
  reason-tells low (over c) j = refl

  judged-low : (low : ℕ) → IsJudged (flow_in d r) 1 q (judged (all_rows d) d r q low)
      (reason_of (flow_in d r) 1 q (judged (all_rows d) d r q low))
  unfolding judged
  judged-low low = judged-by (flow_in d r) 1 q
      (columns (all_rows d) d (flow_in d r) (most_columns (row_of d r).n (flow_in d r) q) q low)

  fits-is-size : (low : ℕ) → fits (all_rows d) d r q low ≡ true → low ≤ size → low ≡ size
  fits-is-size low e le = go (cases_lt low size)
    where
      go : (low < size) ⊎ (size ≤ low) → low ≡ size
      go (inl lt) = let a = below-size low lt in absurd (cc)
      go (inr ge) = omega arith

  -- a height below the size has columns that may change
  some-bound : (low : ℕ) → fits (all_rows d) d r q low ≡ false → low ≤ size → (bs : List ℕ)
      → bounds_of (judged (all_rows d) d r q low) ≡ bs → bs ≡ [] → ⊥
  some-bound low none le bs is e =
      let none_here : bounds_of (judged (all_rows d) d r q low) ≡ [] = is ∙ e in
      let bounds : All (λ b. size + 1 ≤ b) (bounds_of (judged (all_rows d) d r q low)) =
      rw none_here (All-nil (λ b. size + 1 ≤ b)) in
      let a = unfit-to d r q low (size + 1) size none bounds le (omega arith) in
      let b = size-fits in
      cc

  step-accounts : (top : Option ℕ) (low : ℕ) (reason : Reason) → is_past top low ≡ false → low ≤ size
      → IsJudged (flow_in d r) 1 q (judged (all_rows d) d r q low) (Some reason) →
      (high : ℕ) → least_bound top (bounds_of (judged (all_rows d) d r q low)) ≡ Some high → (rest : List Range)
      → (lines : List ColumnLine) → lines ≡ lines_of (judged (all_rows d) d r q low) →
      (low < high → high ≤ size → Accounts (capped top high) (capped top size) rest)
      → Accounts (capped top low) (capped top size) (record { low = low; high = high; reason = reason; lines = lines } ∷ rest)
  step-accounts top low reason past le j high is rest lines told again =
      let bs = bounds_of (judged (all_rows d) d r q low) in
      let lt : low < high = subst (λ o. IfSome o (λ h. low < h)) is (least-above top bs low past (judged-above d r q low)) in
      let bounds : All (λ b. high ≤ b) bs = subst (λ o. IfSome o (λ h. All (λ b. h ≤ b) bs)) is (least-of-each top bs) in
      let rejects = reason-rejects low high reason j bounds in
      let at = capped-below top low past in
      let next = capped-least top bs high is in
      let tail : Accounts high (capped top size) rest = rw next at (again lt (up-to-size low high reason rejects le)) in
      accounts-more (capped top low) (capped top size) (record { low = low; high = high; reason = reason; lines = lines }) rest
      (sym at) (omega arith) rejects (told ∙ reason-tells low reason j) tail

  searched-accounts : (top : Option ℕ) (n low : ℕ) → low ≤ size → size < low + n
      → Accounts (capped top low) (capped top size) (searched (all_rows d) d r q top n low)
  unfolding searched
  searched-accounts top zero low le enough = absurd (omega arith)
  searched-accounts top (suc n) low le enough = go (λ high a b. searched-accounts top n high a b) (is_past top low) refl
    where
      next : ((high : ℕ) → high ≤ size → size < high + n
          → Accounts (capped top high) (capped top size) (searched (all_rows d) d r q top n high)) → is_past top low ≡ false →
          (o : Option Reason) → IsJudged (flow_in d r) 1 q (judged (all_rows d) d r q low) o →
          Accounts (capped top low) (capped top size) (elim o [
            | None ↦ []
            | Some reason ↦
                elim (least_bound top (bounds_of (judged (all_rows d) d r q low))) [
                  | None ↦ []
                  | Some high ↦ record {
                    low = low;
                    high = high;
                    reason = reason;
                    lines = lines_of (judged (all_rows d) d r q low);
                  } ∷ searched (all_rows d) d r q top n high
                ]
          ])
      next again past None j = accounts-none (capped top low) (capped top size)
          (ap (capped top) (fits-is-size low (judged-fits (all_rows d) d r q low j.0 j.1) le))
      next again past (Some reason) j = by_bound (least_bound top (bounds_of (judged (all_rows d) d r q low))) refl
        where
          by_bound : (o : Option ℕ) → least_bound top (bounds_of (judged (all_rows d) d r q low)) ≡ o →
              Accounts (capped top low) (capped top size) (elim o [
                | None ↦ []
                | Some high ↦ record { low = low; high = high; reason = reason; lines = lines_of (judged (all_rows d) d r q low) }
                    ∷ searched (all_rows d) d r q top n high
              ])
          by_bound None is = absurd (least-some top _ (some-bound low (reason-unfit low reason j) le _ refl) is)
          by_bound (Some high) is =
              step-accounts top low reason past le j high is (searched (all_rows d) d r q top n high)
              (lines_of (judged (all_rows d) d r q low)) refl
              (λ lt le. again high le (omega arith))

      go : ((high : ℕ) → high ≤ size → size < high + n
          → Accounts (capped top high) (capped top size) (searched (all_rows d) d r q top n high)) → (p : Bool)
          → is_past top low ≡ p →
          Accounts (capped top low) (capped top size) (elim p [
            | true ↦ []
            | false ↦
                let cs = judged (all_rows d) d r q low in
                elim (reason_of (flow_in d r) 1 q cs) [
                  | None ↦ []
                  | Some reason ↦
                      elim (least_bound top (bounds_of cs)) [
                        | None ↦ []
                        | Some high ↦ record { low = low; high = high; reason = reason; lines = lines_of cs } ∷ searched
                            (all_rows d) d r q top n high
                      ]
                ]
          ])
      go again true e = accounts-none (capped top low) (capped top size) (capped-past top low size e le)
      go again false e = next again e (reason_of (flow_in d r) 1 q (judged (all_rows d) d r q low)) (judged-low low)

  -- ---- all ranges

  tallest : Tallest
  tallest = tallest_from (all_rows d) d (flow_in d r) q

  wide : ℕ
  wide = spread (atoms_height (flow_in d r) q) (most_columns (row_of d r).n (flow_in d r) q)

  is-tallest : IsTallest (all_rows d) d (flow_in d r) (item_number q) tallest
  unfolding tallest
  is-tallest = each-taller (all_rows d) d (flow_in d r) (item_number q) (record { need = 0; item = 0 }) (item_number q)
      (drop (item_number q) (flow_in d r).items) refl (omega arith) (nothing refl)

  tall-below : tallest.need ≤ size
  tall-below = go (cases_lt 0 tallest.need)
    where
      go : (0 < tallest.need) ⊎ (tallest.need ≤ 0) → tallest.need ≤ size
      go (inl lt) = up-to-size 0 tallest.need (tall tallest.item) (tall-range tallest is-tallest tallest.need lt (omega arith))
          (omega arith)
      go (inr none) = omega arith

  wide-below : wide ≤ size
  unfolding wide
  wide-below = go (cases_lt 0 wide)
    where
      go : (0 < wide) ⊎ (wide ≤ 0) → wide ≤ size
      go (inl lt) = up-to-size 0 wide area (area-range 0 wide lt (omega arith)) (omega arith)
      go (inr none) = omega arith

  all-accounts : (top : Option ℕ) →
      Accounts (capped top 0) (capped top size)
      (range_up_to top 0 tallest.need (tall tallest.item) ++ range_up_to top tallest.need wide area ++ searched (all_rows d) d r q
      top (reach (all_rows d) d (flow_in d r) q + 1) (max tallest.need wide))
  unfolding wide size
  all-accounts top =
      let t = tallest in
      let first : Accounts (capped top 0) (capped top (max 0 t.need)) (range_up_to top 0 t.need (tall t.item)) =
      range-accounts top 0 t.need (tall t.item) (λ h lt le. tall-range t is-tallest h lt le) refl in
      let zero_max : max 0 t.need ≡ t.need = omega arith in
      let second : Accounts (capped top t.need) (capped top (max t.need wide)) (range_up_to top t.need wide area) =
      range-accounts top t.need wide area (λ h lt le. area-range t.need h lt le) refl in
      let a = tall-below in
      let b = wide-below in
      let c : size_in (all_rows d) d r q ≤ reach (all_rows d) d (flow_in d r) q = size-reach (all_rows d) d r q in
      let low : max t.need wide ≤ size = omega arith in
      let third : Accounts (capped top (max t.need wide)) (capped top size)
      (searched (all_rows d) d r q top (reach (all_rows d) d (flow_in d r) q + 1) (max t.need wide)) =
      searched-accounts top (reach (all_rows d) d (flow_in d r) q + 1) (max t.need wide) low (omega arith) in
      accounts-append (capped top 0) (capped top (max t.need wide)) (capped top size)
      (range_up_to top 0 t.need (tall t.item) ++ range_up_to top t.need wide area) _
      (accounts-append (capped top 0) (capped top t.need) (capped top (max t.need wide)) (range_up_to top 0 t.need (tall t.item))
      _ (rw zero_max at first) second) third

  capped-zero : (top : Option ℕ) → capped top 0 ≡ 0
  capped-zero None = refl
  capped-zero (Some t) = omega arith

  pub ranges-account : (available : Option ℕ) → RangesAccount d r q available
  unfolding ranges tallest wide size
  ranges-account available =
      let all = all-accounts (top_of available) in
      let from : FollowOn 0 (capped (top_of available) size) (ranges (all_rows d) d r q available) =
      rw (capped-zero (top_of available)) at all.follow in
      record {
        each_rejects = all.rejects;
        each_tells = all.tells;
        follow_on = rw (ranged-capped available (size_in (all_rows d) d r q)) from;
      }
