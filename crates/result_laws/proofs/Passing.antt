-- What it tells that a clause doesn't fail.
use Rattle.std.proofs.Common.{◌≡◌, ℕ, ◌-◌, ◌*◌, ◌==◌, ◌<◌, ◌≤◌, Bool, true, false, ◌&&◌, cond, List, [], ◌∷◌, ◌++◌}
use Rattle.std.proofs.Common.{length, map, refl, subst, ap, arith, Option, Some, None}
use Rattle.std.specs.Prelude.{All, nat_lt, nat_le}
use Rattle.std.specs.List.{list_all}
use Rattle.std.proofs.lemmas.Bool.{and_parts}
use Rattle.std.proofs.lemmas.Bool.Decides.{nat_tests}
use Rattle.std.proofs.lemmas.List.Elements.{All-nil, All-cons}
use Rattle.flow_list.specs.Data.{Flow, FlowsData, Item, Atom, Row}
use Rattle.flow_data.specs.Flows.{row_of, flow_in, item_of}
use Rattle.flow_list.specs.Tokens.{Token, item_number}
use Rattle.flow_list.specs.Atoms.{IsAtom}
use Rattle.flow_list.specs.Column.{loose_need}
use Rattle.flow_list.specs.Rows.{most_columns, all_rows, columns}
use Rattle.flow_list.specs.Ranges.{Range, Reason, tall, area, left, bad, over, RangeRejects, judged}
use Rattle.flow_list.specs.Ranges.{bounds_of, atoms_height, reason_of}
use Rattle.flow_list.specs.Certificate.{same_token}
use Rattle.flow_laws.specs.RangeLaws.{FollowOn}
use Rattle.flow_laws.proofs.AllRanges.{IsJudged, judged-by, first-fails}
use Rattle.result_laws.specs.Failure.{Pass, Failure, unless, first_of}
use Rattle.result_laws.specs.Given.{GivenRange, GivenEntry}
use Rattle.result_laws.specs.Clauses.{hole, empty, tall_fails, tall_for, area_fails, area_for, tells, long, reason, is_reason}
use Rattle.result_laws.specs.Clauses.{same_reason, same_option, need_from, atom_need, as_range, last_high}
use Rattle.result_laws.specs.Verdict.{column_tests, range_tests, ranges_tests}

-- ---- tests

pub unless-true : (b : Bool) (f : Failure) → unless b f ≡ None → b ≡ true
unless-true true f e = refl
unless-true false f e = cc

pub pass-head : (t : Option Failure) (ts : List (Option Failure)) → Pass (t ∷ ts) → t ≡ None
unfolding first_of
pass-head None ts e = refl
pass-head (Some f) ts e = cc

pub pass-tail : (t : Option Failure) (ts : List (Option Failure)) → Pass (t ∷ ts) → Pass ts
unfolding first_of
pass-tail None ts e = e
pass-tail (Some f) ts e = absurd cc

pub pass-left : (xs ys : List (Option Failure)) → Pass (xs ++ ys) → Pass xs
unfolding first_of
pass-left [] ys e = refl
pass-left (None ∷ xs) ys e = pass-left xs ys e
pass-left (Some f ∷ xs) ys e = e

pub pass-right : (xs ys : List (Option Failure)) → Pass (xs ++ ys) → Pass ys
unfolding first_of
pass-right [] ys e = e
pass-right (None ∷ xs) ys e = pass-right xs ys e
pass-right (Some f ∷ xs) ys e = absurd cc

pub and-first : (x y : Bool) → (x && y) ≡ true → x ≡ true
and-first x y e = (and_parts x y e).0

pub and-second : (x y : Bool) → (x && y) ≡ true → y ≡ true
and-second x y e = (and_parts x y e).1

-- ---- equal by a test

pub token-same : (p q : Token) → same_token p q ≡ true → p ≡ q
token-same [] [] e = refl
token-same [] (j ∷ q) e = cc
token-same (i ∷ p) [] e = cc
token-same (i ∷ p) (j ∷ q) e =
    let k : i ≡ j = grind (arith, nat_tests) in
    let t : p ≡ q = token-same p q (and-second (i == j) (same_token p q) e) in
    cc

pub reason-same : (a b : Reason) → same_reason a b ≡ true → a ≡ b
reason-same (tall j) (tall k) e = ap tall (grind (arith, nat_tests))
reason-same area area e = refl
reason-same (left p) (left q) e = ap left (token-same p q e)
reason-same (bad b) (bad c) e = ap bad (grind (arith, nat_tests))
reason-same (over b) (over c) e = ap over (grind (arith, nat_tests))
reason-same _ _ e = cc

pub option-same : (a b : Option ℕ) → same_option a b ≡ true → a ≡ b
option-same None None e = refl
option-same None (Some n) e = cc
option-same (Some m) None e = cc
option-same (Some m) (Some n) e = ap Some (grind (arith, nat_tests))

-- ---- a range

pub hole-pass : (low : ℕ) (x : GivenRange) → hole low x ≡ None → x.low ≡ low
unfolding hole
hole-pass low x e = let k : (x.low == low) ≡ true = unless-true (x.low == low) _ e in grind (arith, nat_tests)

pub empty-pass : (x : GivenRange) → empty x ≡ None → x.low < x.high
unfolding empty
empty-pass x e = let k : nat_lt x.low x.high ≡ true = unless-true (nat_lt x.low x.high) _ e in grind (arith, nat_tests)

-- the item that has a need is an atom from the place on
need-is : (d : FlowsData) (f : Flow) (q : Token) (k high : ℕ) → 0 < high → high ≤ need_from d f q k →
    (item_number q ≤ k) × (k < length f.items) × IsAtom (item_of f k) × (high ≤ loose_need (all_rows d) d f k)
need-is d f q k high some le = go (nat_le (item_number q) k) refl (nat_lt k (length f.items)) refl le
  where
    is-atom : (i : Item) → high ≤ atom_need d f k i → IsAtom i × (high ≤ loose_need (all_rows d) d f k)
    is-atom (Atom h kind) le = (tt, le)
    is-atom (Row r) le = absurd (omega arith)

    go : (a : Bool) → nat_le (item_number q) k ≡ a → (b : Bool) → nat_lt k (length f.items) ≡ b
        → high ≤ cond (a && b) (atom_need d f k (item_of f k)) 0 →
        (item_number q ≤ k) × (k < length f.items) × IsAtom (item_of f k) × (high ≤ loose_need (all_rows d) d f k)
    go true ea true eb le =
        let p = is-atom (item_of f k) le in
        let m : item_number q ≤ k = grind (arith, nat_tests) in
        let n : k < length f.items = grind (arith, nat_tests) in
        (m, n, p.0, p.1)
    go true ea false eb le = absurd (omega arith)
    go false ea b eb le = absurd (omega arith)

all-high : (high : ℕ) (bs : List ℕ) → list_all (λ b. nat_le high b) bs ≡ true → All (λ b. high ≤ b) bs
all-high high [] e = All-nil (λ b. high ≤ b)
all-high high (b ∷ bs) e =
    let k : nat_le high b ≡ true = and-first (nat_le high b) (list_all (λ b. nat_le high b) bs) e in
    let le : high ≤ b = grind (arith, nat_tests) in
    All-cons (λ b. high ≤ b) b bs le (all-high high bs (and-second (nat_le high b) (list_all (λ b. nat_le high b) bs) e))

pub long-pass : (d : FlowsData) (r : ℕ) (q : Token) (x : GivenRange) → long d r q x ≡ None
    → All (λ b. x.high ≤ b) (bounds_of (judged (all_rows d) d r q x.low))
unfolding long
long-pass d r q x e =
    all-high x.high (bounds_of (judged (all_rows d) d r q x.low))
    (unless-true (list_all (λ b. nat_le x.high b) (bounds_of (judged (all_rows d) d r q x.low))) _ e)

pub reason-pass : (d : FlowsData) (r : ℕ) (q : Token) (x : GivenRange) → reason d r q x ≡ None
    → reason_of (flow_in d r) 1 q (judged (all_rows d) d r q x.low) ≡ Some x.reason
unfolding reason
reason-pass d r q x e = go (reason_of (flow_in d r) 1 q (judged (all_rows d) d r q x.low))
    (unless-true (is_reason (reason_of (flow_in d r) 1 q (judged (all_rows d) d r q x.low)) x.reason) _ e)
  where
    go : (o : Option Reason) → is_reason o x.reason ≡ true → o ≡ Some x.reason
    go None e = cc
    go (Some a) e = ap Some (reason-same a x.reason e)

-- ---- the reason of columns

-- ---- a range rejects

pub reason-tells : (d : FlowsData) (r : ℕ) (q : Token) (low : ℕ) (o : Option Reason)
    → reason_of (flow_in d r) 1 q (judged (all_rows d) d r q low) ≡ o →
    IsJudged (flow_in d r) 1 q (judged (all_rows d) d r q low) o
unfolding judged
reason-tells d r q low o e =
    let f = flow_in d r in
    subst (λ x. IsJudged f 1 q (judged (all_rows d) d r q low) x) e
    (judged-by f 1 q (columns (all_rows d) d f (most_columns (row_of d r).n f q) q low))

rejects-by : (d : FlowsData) (r : ℕ) (q : Token) (x : GivenRange) → 0 < x.high → (reason : Reason)
    → tall_for d r q x reason ≡ None → area_for d r q x reason ≡ None →
    (tells reason ≡ true → (reason_of (flow_in d r) 1 q (judged (all_rows d) d r q x.low) ≡ Some reason)
    × All (λ b. x.high ≤ b) (bounds_of (judged (all_rows d) d r q x.low))) →
    RangeRejects (all_rows d) d r q x.low x.high reason
unfolding judged
rejects-by d r q x some (tall k) t a c =
    let e : nat_le x.high (need_from d (flow_in d r) q k) ≡ true =
    unless-true (nat_le x.high (need_from d (flow_in d r) q k)) _ t in
    need-is d (flow_in d r) q k x.high some (grind (arith, nat_tests))
rejects-by d r q x some area t a c =
    let m = most_columns (row_of d r).n (flow_in d r) q * (x.high - 1) in
    let e : nat_lt m (atoms_height (flow_in d r) q) ≡ true = unless-true (nat_lt m (atoms_height (flow_in d r) q)) _ a in
    grind (arith, nat_tests)
rejects-by d r q x some (left at) t a c = let k = c refl in (reason-tells d r q x.low (Some (left at)) k.0, k.1)
rejects-by d r q x some (bad k) t a c = let m = c refl
    in (first-fails (judged (all_rows d) d r q x.low) k false (reason-tells d r q x.low (Some (bad k)) m.0), m.1)
rejects-by d r q x some (over k) t a c = let m = c refl
    in (first-fails (judged (all_rows d) d r q x.low) k true (reason-tells d r q x.low (Some (over k)) m.0), m.1)

-- the tests of a range pass: it begins where the one before it ended, isn't empty, and rejects
pub range-pass : (d : FlowsData) (cites : Bool) (before : List GivenEntry) (r : ℕ) (q : Token) (low : ℕ)
    (last : Option GivenRange) (x : GivenRange) →
    Pass (range_tests d cites before r q low last x)
    → (x.low ≡ low) × (x.low < x.high) × RangeRejects (all_rows d) d r q x.low x.high x.reason
unfolding range_tests tall_fails area_fails
range-pass d cites before r q low last x p =
    let p1 = pass-tail _ _ p in
    let p2 = pass-tail _ _ p1 in
    let p3 = pass-tail _ _ p2 in
    let p4 = pass-tail _ _ p3 in
    let p5 = pass-tail _ _ p4 in
    let h = hole-pass low x (pass-head _ _ p) in
    let n = empty-pass x (pass-head _ _ p1) in
    (h, n, rejects-by d r q x (omega arith) x.reason (pass-head _ _ p3) (pass-head _ _ p4) (λ e. told (tells x.reason) e p5))
  where
    told : (b : Bool) → b ≡ true → Pass (cond b (column_tests d cites before r q x) []) →
        (reason_of (flow_in d r) 1 q (judged (all_rows d) d r q x.low) ≡ Some x.reason)
        × All (λ b. x.high ≤ b) (bounds_of (judged (all_rows d) d r q x.low))
    told false e p = absurd cc
    told true e p =
        let p1 = pass-tail _ _ p in
        let p2 = pass-tail _ _ p1 in
        let p3 = pass-tail _ _ p2 in
        let p4 = pass-tail _ _ p3 in
        (reason-pass d r q x (pass-head _ _ p4), long-pass d r q x (pass-head _ _ p3))

-- those of all ranges pass: they follow one another, and each rejects
pub ranges-pass : (d : FlowsData) (cites : Bool) (before : List GivenEntry) (r : ℕ) (q : Token) (low : ℕ)
    (last : Option GivenRange) (xs : List GivenRange) →
    Pass (ranges_tests d cites before r q low last xs) →
    FollowOn low (last_high low xs) (map as_range xs)
    × All (λ (x : Range). RangeRejects (all_rows d) d r q x.low x.high x.reason) (map as_range xs)
unfolding ranges_tests last_high
ranges-pass d cites before r q low last [] p =
    (refl, All-nil (λ (x : Range). RangeRejects (all_rows d) d r q x.low x.high x.reason))
ranges-pass d cites before r q low last (x ∷ xs) p =
    let one = range-pass d cites before r q low last x
    (pass-left (range_tests d cites before r q low last x) (ranges_tests d cites before r q x.high (Some x) xs) p) in
    let more = ranges-pass d cites before r q x.high (Some x) xs
    (pass-right (range_tests d cites before r q low last x) (ranges_tests d cites before r q x.high (Some x) xs) p) in
    let e = one.0 in
    let lt = one.1 in (
      (e, omega arith, more.0),
      All-cons (λ (x : Range). RangeRejects (all_rows d) d r q x.low x.high x.reason) (as_range x)
          (map as_range xs) one.2 more.1,
    )
