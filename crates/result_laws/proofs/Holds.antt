-- A range that rejects and tells of its columns passes its tests.
use Rattle.std.proofs.Common.{◌≡◌, ℕ, suc, ◌+◌, ◌-◌, ◌*◌, ◌==◌, ◌<◌, ◌≤◌, Bool, true, false, ◌&&◌, cond, List, [], ◌∷◌, ◌++◌}
use Rattle.std.proofs.Common.{length, map, refl, subst, sym, ◌∙◌, ap, arith, Option, Some, None}
use Rattle.std.specs.Prelude.{All, nat_lt, nat_le}
use Rattle.std.specs.List.{list_all, list_any}
use Rattle.std.proofs.lemmas.Bool.{and_from, or_right}
use Rattle.std.proofs.lemmas.Bool.Decides.{nat_tests}
use Rattle.std.proofs.lemmas.List.Elements.{All-head, All-tail}
use Rattle.std.proofs.lemmas.List.Folds.{list_any-append, list_any_none}
use Rattle.flow_list.specs.Data.{Flow, FlowsData, Item, Atom, Row}
use Rattle.flow_data.specs.Flows.{row_of, flow_in, item_of}
use Rattle.flow_list.specs.Tokens.{Token, item_number, is_end}
use Rattle.flow_list.specs.Atoms.{IsAtom}
use Rattle.flow_list.specs.Column.{Column, ColumnLine, loose_need}
use Rattle.flow_list.specs.Rows.{end_of, fails, most_columns, all_rows}
use Rattle.flow_list.specs.Ranges.{Range, Reason, tall, area, left, bad, over, FailsAt, LeavesRest, RangeRejects, judged}
use Rattle.flow_list.specs.Ranges.{bounds_of, lines_of, atoms_height, reason_of}
use Rattle.flow_list.specs.Certificate.{same_token}
use Rattle.flow_laws.specs.RangeLaws.{FollowOn, told_of}
use Rattle.result_laws.specs.Failure.{Pass, Failure, unless, first_of}
use Rattle.result_laws.specs.Given.{GivenRange, GivenEntry}
use Rattle.result_laws.specs.Clauses.{hole, empty, same, tall_fails, tall_for, area_fails, area_for, tells, cite, end}
use Rattle.result_laws.specs.Clauses.{ends_differ, number, long, reason, is_reason, same_reason, same_option, same_end, same_line}
use Rattle.result_laws.specs.Clauses.{given_lines, need_from, atom_need, as_range}
use Rattle.result_laws.specs.OwnEntries.{Tells, RestHolds}
use Rattle.result_laws.specs.Verdict.{column_tests, range_tests, ranges_tests}
use Rattle.flow_laws.proofs.AllRanges.{IsJudged, FailsFrom}
use Rattle.result_laws.proofs.Passing.{reason-tells}

pub unless-holds : (b : Bool) (f : Failure) → b ≡ true → unless b f ≡ None
unless-holds true f e = refl
unless-holds false f e = cc

-- ---- tests of equality

same-number : (n : ℕ) → (n == n) ≡ true
same-number n = grind (arith, nat_tests)

same-token : (q : Token) → same_token q q ≡ true
same-token [] = refl
same-token (i ∷ q) = and_from (i == i) (same_token q q) (same-number i) (same-token q)

same-reason : (a : Reason) → same_reason a a ≡ true
same-reason (tall k) = same-number k
same-reason area = refl
same-reason (left q) = same-token q
same-reason (bad c) = same-number c
same-reason (over c) = same-number c

same-end : (o : Option Token) → same_end o o ≡ true
same-end None = refl
same-end (Some q) = same-token q

same-option : (o : Option ℕ) → same_option o o ≡ true
same-option None = refl
same-option (Some n) = same-number n

same-line : (l : ColumnLine) → same_line l l ≡ true
same-line l =
    and_from ((l.depth == l.depth) && same_end l.end l.end) (same_option l.stop l.stop)
    (and_from (l.depth == l.depth) (same_end l.end l.end) (same-number l.depth) (same-end l.end)) (same-option l.stop)

ends-same : (range line : ℕ) (ls : List ColumnLine) → ends_differ range line ls ls ≡ None
ends-same range line [] = refl
ends-same range line (l ∷ ls) = rw (same-line l) (ends-same range (line + 1) ls)

-- ---- the reason of columns is the one that holds

-- a list has one last element
last-one : {X : Type 0} (xs ys : List X) (x y : X) → xs ++ x ∷ [] ≡ ys ++ y ∷ [] → (x ≡ y) × (length xs ≡ length ys)
last-one [] [] x y e = (cc, refl)
last-one [] (b ∷ []) x y e = absurd cc
last-one [] (b ∷ (c ∷ ys)) x y e = absurd cc
last-one (a ∷ []) [] x y e = absurd cc
last-one (a ∷ (c ∷ xs)) [] x y e = absurd cc
last-one (a ∷ xs) (b ∷ ys) x y e =
    let t : xs ++ x ∷ [] ≡ ys ++ y ∷ [] = cc in
    let k = last-one xs ys x y t in
    (k.0, ap suc k.1)

some-fails : (cs : List Column) (c : ℕ) (o : Bool) → FailsAt cs c o → list_any fails cs ≡ true
some-fails cs c o f =
    rw (f.judged_are, list_any-append fails f.before (f.column ∷ []))
    (or_right (list_any fails f.before) (list_any fails (f.column ∷ [])) (rw f.fail refl))

fails-same : (cs : List Column) (c k : ℕ) (o p : Bool) → FailsAt cs c o → FailsFrom cs 1 k p → (c ≡ k) × (o ≡ p)
fails-same cs c k o p f g =
    let e = last-one f.before g.before f.column g.column (sym f.judged_are ∙ g.judged_are) in
    let n = f.number in
    let m = g.number in
    let l = e.1 in
    (omega arith, sym f.overflow ∙ ap (λ (x : Column). x.overflow) e.0 ∙ g.overflow)

reason-fails : (f : Flow) (q : Token) (cs : List Column) (c : ℕ) (o : Option Reason) → IsJudged f 1 q cs o → FailsAt cs c false
    → o ≡ Some (bad c)
reason-fails f q cs c None j a = let k = some-fails cs c false a in let n = j.0 in absurd cc
reason-fails f q cs c (Some (tall k)) j a = absurd j
reason-fails f q cs c (Some area) j a = absurd j
reason-fails f q cs c (Some (left at)) j a = let k = some-fails cs c false a in let n = list_any_none fails cs j.none_fails
    in absurd cc
reason-fails f q cs c (Some (bad k)) j a = ap (λ n. Some (bad n)) (sym (fails-same cs c k false false a j).0)
reason-fails f q cs c (Some (over k)) j a = let n = (fails-same cs c k false true a j).1 in absurd cc

reason-over : (f : Flow) (q : Token) (cs : List Column) (c : ℕ) (o : Option Reason) → IsJudged f 1 q cs o → FailsAt cs c true
    → o ≡ Some (over c)
reason-over f q cs c None j a = let k = some-fails cs c true a in let n = j.0 in absurd cc
reason-over f q cs c (Some (tall k)) j a = absurd j
reason-over f q cs c (Some area) j a = absurd j
reason-over f q cs c (Some (left at)) j a = let k = some-fails cs c true a in let n = list_any_none fails cs j.none_fails
    in absurd cc
reason-over f q cs c (Some (bad k)) j a = let n = (fails-same cs c k true false a j).1 in absurd cc
reason-over f q cs c (Some (over k)) j a = ap (λ n. Some (over n)) (sym (fails-same cs c k true true a j).0)

none-fail : (cs : List Column) (c : ℕ) (o : Bool) → list_any fails cs ≡ false → FailsFrom cs 1 c o → ⊥
none-fail cs c o e g =
    let k : list_any fails cs ≡ true =
    rw (g.judged_are, list_any-append fails g.before (g.column ∷ []))
    (or_right (list_any fails g.before) (list_any fails (g.column ∷ [])) (rw g.fail refl)) in
    cc

reason-left : (f : Flow) (q : Token) (cs : List Column) (at : Token) (o : Option Reason) → IsJudged f 1 q cs o
    → LeavesRest f q cs at → o ≡ Some (left at)
reason-left f q cs at None j a =
    let e : is_end f (end_of q cs) ≡ false = subst (λ t. is_end f t ≡ false) (sym a.place) a.rest in
    let n = j.1 in
    absurd cc
reason-left f q cs at (Some (tall k)) j a = absurd j
reason-left f q cs at (Some area) j a = absurd j
reason-left f q cs at (Some (left t)) j a = ap (λ x. Some (left x)) (sym j.place ∙ a.place)
reason-left f q cs at (Some (bad k)) j a = absurd (none-fail cs k false (list_any_none fails cs a.none_fails) j)
reason-left f q cs at (Some (over k)) j a = absurd (none-fail cs k true (list_any_none fails cs a.none_fails) j)

-- ---- a range

all-low : (high : ℕ) (bs : List ℕ) → All (λ b. high ≤ b) bs → list_all (λ b. nat_le high b) bs ≡ true
all-low high [] all = refl
all-low high (b ∷ bs) all =
    let le : high ≤ b = All-head (λ b. high ≤ b) b bs all in
    and_from (nat_le high b) (list_all (λ b. nat_le high b) bs) (grind (arith, nat_tests))
    (all-low high bs (All-tail (λ b. high ≤ b) b bs all))

module _ (d : FlowsData) (r : ℕ) (q : Token) where
  need-holds : (k high : ℕ) → item_number q ≤ k → k < length (flow_in d r).items → IsAtom (item_of (flow_in d r) k)
      → high ≤ loose_need (all_rows d) d (flow_in d r) k →
      high ≤ need_from d (flow_in d r) q k
  need-holds k high from lt atom le =
      let a : nat_le (item_number q) k ≡ true = grind (arith, nat_tests) in
      let b : nat_lt k (length (flow_in d r).items) ≡ true = grind (arith, nat_tests) in
      rw (a, b) (go (item_of (flow_in d r) k) atom)
    where
      go : (i : Item) → IsAtom i → high ≤ atom_need d (flow_in d r) k i
      go (Atom h kind) is = le
      go (Row s) is = absurd is

  tall-holds : (x : GivenRange) (w : Reason) → RangeRejects (all_rows d) d r q x.low x.high w → tall_for d r q x w ≡ None
  tall-holds x (tall k) a =
      let le = need-holds k x.high a.0 a.1 a.2 a.3 in
      unless-holds (nat_le x.high (need_from d (flow_in d r) q k)) _ (grind (arith, nat_tests))
  tall-holds x area a = refl
  tall-holds x (left at) a = refl
  tall-holds x (bad c) a = refl
  tall-holds x (over c) a = refl

  area-holds : (x : GivenRange) (w : Reason) → RangeRejects (all_rows d) d r q x.low x.high w → area_for d r q x w ≡ None
  area-holds x (tall k) a = refl
  area-holds x area a = unless-holds
      (nat_lt (most_columns (row_of d r).n (flow_in d r) q * (x.high - 1)) (atoms_height (flow_in d r) q)) _
      (grind (arith, nat_tests))
  area-holds x (left at) a = refl
  area-holds x (bad c) a = refl
  area-holds x (over c) a = refl

  -- what a reason of columns asks: it is the reason of the judged columns, and the range ends no higher than their bounds
  reason-holds : (low high : ℕ) (w : Reason) → tells w ≡ true → RangeRejects (all_rows d) d r q low high w →
      (reason_of (flow_in d r) 1 q (judged (all_rows d) d r q low) ≡ Some w)
      × All (λ b. high ≤ b) (bounds_of (judged (all_rows d) d r q low))
      × (told_of d r q low w ≡ judged (all_rows d) d r q low)
  reason-holds low high (tall k) e a = absurd cc
  reason-holds low high area e a = absurd cc
  reason-holds low high (left at) e a = (
    reason-left (flow_in d r) q (judged (all_rows d) d r q low) at
        (reason_of (flow_in d r) 1 q (judged (all_rows d) d r q low)) (reason-tells d r q low _ refl) a.0,
    a.1,
    refl,
  )
  reason-holds low high (bad c) e a = (
    reason-fails (flow_in d r) q (judged (all_rows d) d r q low) c
        (reason_of (flow_in d r) 1 q (judged (all_rows d) d r q low)) (reason-tells d r q low _ refl) a.0,
    a.1,
    refl,
  )
  reason-holds low high (over c) e a = (
    reason-over (flow_in d r) q (judged (all_rows d) d r q low) c (reason_of (flow_in d r) 1 q (judged (all_rows d) d r q low))
        (reason-tells d r q low _ refl) a.0,
    a.1,
    refl,
  )

  -- ---- all tests of a range

  pub pass-cons : (t : Option Failure) (ts : List (Option Failure)) → t ≡ None → Pass ts → Pass (t ∷ ts)
  unfolding first_of
  pass-cons None ts e p = p
  pass-cons (Some f) ts e p = absurd cc

  pub pass-append : (xs ys : List (Option Failure)) → Pass xs → Pass ys → Pass (xs ++ ys)
  unfolding first_of
  pass-append [] ys p s = s
  pass-append (None ∷ xs) ys p s = pass-append xs ys p s
  pass-append (Some f ∷ xs) ys p s = absurd cc

  pass-none : Pass []
  unfolding first_of
  pass-none = refl

  hole-holds : (low : ℕ) (x : GivenRange) → x.low ≡ low → hole low x ≡ None
  unfolding hole
  hole-holds low x e = unless-holds (x.low == low) _ (grind (arith, nat_tests))

  empty-holds : (x : GivenRange) → x.low < x.high → empty x ≡ None
  unfolding empty
  empty-holds x lt = unless-holds (nat_lt x.low x.high) _ (grind (arith, nat_tests))

  end-holds : (x : GivenRange) → given_lines x ≡ lines_of (judged (all_rows d) d r q x.low) → end d r q x ≡ None
  unfolding end
  end-holds x e = rw e (ends-same x.at (x.at + 1) (lines_of (judged (all_rows d) d r q x.low)))

  long-holds : (x : GivenRange) → All (λ b. x.high ≤ b) (bounds_of (judged (all_rows d) d r q x.low)) → long d r q x ≡ None
  unfolding long
  long-holds x all = unless-holds (list_all (λ b. nat_le x.high b) (bounds_of (judged (all_rows d) d r q x.low))) _
      (all-low x.high (bounds_of (judged (all_rows d) d r q x.low)) all)

  is-reason : (o : Option Reason) (w : Reason) → o ≡ Some w → is_reason o w ≡ true
  is-reason None w e = absurd cc
  is-reason (Some a) w e = let k : a ≡ w = cc in rw k (same-reason w)

  says-reason : (x : GivenRange) → reason_of (flow_in d r) 1 q (judged (all_rows d) d r q x.low) ≡ Some x.reason
      → reason d r q x ≡ None
  unfolding reason
  says-reason x e = unless-holds (is_reason (reason_of (flow_in d r) 1 q (judged (all_rows d) d r q x.low)) x.reason) _
      (is-reason (reason_of (flow_in d r) 1 q (judged (all_rows d) d r q x.low)) x.reason e)

  columns-hold : (cites : Bool) (before : List GivenEntry) (x : GivenRange) (b : Bool) → tells x.reason ≡ b
      → RangeRejects (all_rows d) d r q x.low x.high x.reason → Tells d r q x →
      (tells x.reason ≡ true → (cite d before r q x ≡ None) × (number d cites before r q x ≡ None))
      → Pass (cond b (column_tests d cites before r q x) [])
  columns-hold cites before x false e a t rest = pass-none
  columns-hold cites before x true e a t rest =
      let k = reason-holds x.low x.high x.reason e a in
      let w = rest e in
      pass-cons (cite d before r q x) _ w.0
      (pass-cons (end d r q x) _ (end-holds x (t ∙ ap (λ cs. lines_of cs) k.2))
      (pass-cons (number d cites before r q x) _ w.1
      (pass-cons (long d r q x) _ (long-holds x k.1)
      (pass-cons (reason d r q x) _ (says-reason x k.0) pass-none))))

  -- ranges that follow one another, reject and tell of their columns pass their tests, but for what is left
  pub ranges-hold : (cites : Bool) (before : List GivenEntry) (low high : ℕ) (last : Option GivenRange) (xs : List GivenRange)
      → FollowOn low high (map as_range xs) →
      All (λ (x : Range). RangeRejects (all_rows d) d r q x.low x.high x.reason) (map as_range xs)
      → All (λ (x : GivenRange). Tells d r q x) xs → RestHolds d r q cites before last xs →
      Pass (ranges_tests d cites before r q low last xs)
  unfolding ranges_tests range_tests tall_fails area_fails
  ranges-hold cites before low high last [] follow rejects told rest = pass-none
  ranges-hold cites before low high last (x ∷ xs) follow rejects told rest =
      let R : Range → Type 0 = λ y. RangeRejects (all_rows d) d r q y.low y.high y.reason in
      let T : GivenRange → Type 0 = λ y. Tells d r q y in
      let e = follow.0 in
      let lt = follow.1 in
      let a : RangeRejects (all_rows d) d r q x.low x.high x.reason = All-head R (as_range x) (map as_range xs) rejects in
      pass-append (hole low x ∷ empty x ∷ same last x ∷ tall_for d r q x x.reason ∷ area_for d r q x x.reason ∷ cond
      (tells x.reason) (column_tests d cites before r q x) [])
      (ranges_tests d cites before r q x.high (Some x) xs)
      (pass-cons (hole low x) _ (hole-holds low x e)
      (pass-cons (empty x) _ (empty-holds x (omega arith))
      (pass-cons (same last x) _ rest.0
      (pass-cons (tall_for d r q x x.reason) _ (tall-holds x x.reason a)
      (pass-cons (area_for d r q x x.reason) _ (area-holds x x.reason a)
      (columns-hold cites before x (tells x.reason) refl a (All-head T x xs told) rest.1))))))
      (ranges-hold cites before x.high high (Some x) xs follow.2 (All-tail R (as_range x) (map as_range xs) rejects)
      (All-tail T x xs told) rest.2)
