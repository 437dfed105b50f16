-- A valid result tells the layout.
use Rattle.std.proofs.Common.{◌≡◌, ℕ, ◌+◌, ◌==◌, ◌<◌, ◌≤◌, inl, inr, Bool, true, false, not, ◌&&◌, cond, List, []}
use Rattle.std.proofs.Common.{◌∷◌, ◌++◌, length, map, refl, subst, sym, ◌∙◌, ap, arith, Option, Some, None}
use Rattle.std.specs.Prelude.{All, nat_lt, nat_le, min}
use Rattle.std.specs.List.{list_all}
use Rattle.std.specs.Str.{bytes_eq}
use Rattle.std.specs.Fmt.{decimal}
use Rattle.std.proofs.lemmas.Bool.Decides.{nat_tests}
use Rattle.std.proofs.lemmas.Slice.Eq.{bytes_eq-Decides}
use Rattle.std.proofs.lemmas.List.Elements.{All-nil, All-cons}
use Rattle.flow_list.specs.Data.{Flow, FlowsData, Item, Atom, Row}
use Rattle.flow_data.specs.Flows.{row_of, flow_in, item_of}
use Rattle.flow_list.specs.Tokens.{Token, row_start, IsPlace}
use Rattle.flow_list.specs.Rows.{fits, all_rows}
use Rattle.flow_list.specs.RowHeights.{size_of, row_height, balanced_height}
use Rattle.flow_list.specs.Certificate.{StackRow, rows_in_stacks}
use Rattle.flow_list.specs.Tree.{tree_of}
use Rattle.flow_list.specs.TreeText.{tree_line_words}
use Rattle.flow_list.specs.Tokens.{IsPlaceBefore}
use Rattle.flow_laws.specs.RangeLaws.{FollowOn}
use Rattle.range_laws.specs.Deciding.{RangesDecide}
use Rattle.result_laws.specs.Failure.{Pass}
use Rattle.result_laws.specs.Given.{Head, size, balanced, filled, GivenRange, GivenEntry}
use Rattle.result_laws.specs.Clauses.{row_in, from_in, is_place, is_row_with, is_in_stack, is_named, name, avail, avail_for}
use Rattle.result_laws.specs.Clauses.{avail_of, rows_above, has_entry, available_of, same_option, as_range, last_high, reach}
use Rattle.result_laws.specs.Clauses.{reach_at, reach_for, height, height_for, height_failure, fits_at, missing, missing_of, tree}
use Rattle.result_laws.specs.Clauses.{trees_differ, tree_failure, twice, cite_height}
use Rattle.result_laws.specs.Verdict.{ranges_tests, entry_tests, entries_tests, tests, verdict}
use Rattle.result_laws.specs.Laws.{IsTrue, ValidTells}
use Rattle.result_laws.proofs.Passing.{unless-true, pass-head, pass-tail, pass-left, pass-right, and-first, and-second}
use Rattle.result_laws.proofs.Passing.{option-same, ranges-pass}

-- ---- places

place-is : (d : FlowsData) (f : Flow) (q : Token) → is_place d f q ≡ true → IsPlaceBefore d f q
unfolding is_place
place-is d f [] e = cc
place-is d f (i ∷ []) e = grind (arith, nat_tests)
place-is d f (i ∷ (j ∷ rest)) e =
    let k : nat_lt i (length f.items) ≡ true =
    and-first (nat_lt i (length f.items)) (is_row_with d (item_of f i) (λ g. is_place d g (j ∷ rest))) e in
    let lt : i < length f.items = grind (arith, nat_tests) in
    let row = go (item_of f i) refl
    (and-second (nat_lt i (length f.items)) (is_row_with d (item_of f i) (λ g. is_place d g (j ∷ rest))) e)
    (λ g. place-is d g (j ∷ rest)) in
    (lt, row.0, row.1, row.2)
  where
    go : (item : Item) → item_of f i ≡ item → is_row_with d item (λ g. is_place d g (j ∷ rest)) ≡ true
        → ((g : Flow) → is_place d g (j ∷ rest) ≡ true → IsPlaceBefore d g (j ∷ rest)) →
        (r : ℕ) × (item_of f i ≡ Row r) × IsPlaceBefore d (flow_in d r) (j ∷ rest)
    go (Atom h kind) e is later = absurd cc
    go (Row r) e is later = (r, e, later (flow_in d r) is)

-- the start of a row is a place in it, also where the row is empty
pub row-start-place : (d : FlowsData) (f : Flow) → IsPlace d f row_start
row-start-place d f = go f.items refl
  where
    go : (items : List Item) → items ≡ f.items → IsPlace d f row_start
    go [] e = inl (ap (λ (is : List Item). length is ∷ []) e)
    go (item ∷ items) e = inr (subst (λ (is : List Item). 0 < length is) e (omega arith))

-- ---- an entry

module _ (d : FlowsData) (decide : (r : ℕ) → r < length d.rows → (q : Token) → IsPlace d (flow_in d r) q
    → RangesDecide d r q) where
  start-rejects : (r : ℕ) → r < length d.rows → RangesDecide d r row_start
  start-rejects r lt = decide r lt row_start (row-start-place d (flow_in d r))

  avail-is : (before : List GivenEntry) (at r : ℕ) (a : Option ℕ) → avail_of d before at r a ≡ None → a ≡ available_of d r
  avail-is before at r a e =
      let k = unless-true (list_all (has_entry before) (rows_above d r) && same_option a (available_of d r)) _ e in
      option-same a (available_of d r)
      (and-second (list_all (has_entry before) (rows_above d r)) (same_option a (available_of d r)) k)

  reach-is : (at wanted last : ℕ) → reach_at at wanted last ≡ None → last ≡ wanted
  reach-is at wanted last e = let k : (wanted == last) ≡ true = unless-true (wanted == last) _ e in grind (arith, nat_tests)

  fits-is : (at r : ℕ) (q : Token) (h : ℕ) → fits_at d at r q h ≡ None → fits (all_rows d) d r q h ≡ true
  fits-is at r q h e = unless-true (fits (all_rows d) d r q h) _ e

  -- ranges whose tests pass, up to a height that fits, show that it is the size
  shows-size : (cites : Bool) (before : List GivenEntry) (r : ℕ) (q : Token) (h : ℕ) (xs : List GivenRange) → RangesDecide d r q
      → Pass (ranges_tests d cites before r q 0 None xs) →
      last_high 0 xs ≡ h → fits (all_rows d) d r q h ≡ true → h ≡ size_of d r q
  shows-size cites before r q h xs decides p e fit =
      let k = ranges-pass d cites before r q 0 None xs p in
      decides.size_reached h (map as_range xs) (subst (λ n. FollowOn 0 n (map as_range xs)) e k.0) k.1 fit

  shows-above : (cites : Bool) (before : List GivenEntry) (r : ℕ) (q : Token) (a : ℕ) (xs : List GivenRange) → RangesDecide d r q
      → Pass (ranges_tests d cites before r q 0 None xs) →
      last_high 0 xs ≡ a + 1 → a < size_of d r q
  shows-above cites before r q a xs decides p e =
      let k = ranges-pass d cites before r q 0 None xs p in
      (decides.available_passed a (map as_range xs) (subst (λ n. FollowOn 0 n (map as_range xs)) e k.0) k.1).size_above

  balanced-is : (r : ℕ) (a : Option ℕ) → (row_of d r).auto ≡ false → row_height d r a ≡ balanced_height a (size_of d r row_start)
  unfolding row_height
  balanced-is r a e = rw e refl

  -- what a balanced row's name tells
  in-data : (r : ℕ) → (nat_lt r (length d.rows) && is_in_stack d r && not (row_of d r).auto) ≡ true → r < length d.rows
  in-data r named = let k : nat_lt r (length d.rows) ≡ true = and-first _ _ (and-first _ _ named) in grind (arith, nat_tests)

  not-auto : (r : ℕ) → (nat_lt r (length d.rows) && is_in_stack d r && not (row_of d r).auto) ≡ true → (row_of d r).auto ≡ false
  not-auto r named = go (row_of d r).auto (and-second _ _ named)
    where
      go : (b : Bool) → not b ≡ true → b ≡ false
      go true e = cc
      go false e = refl

  pub entry-true : (cites : Bool) (before : List GivenEntry) (at : ℕ) (head : Head) (xs : List GivenRange)
      → is_named d head ≡ true → avail_for d before at head ≡ None →
      Pass (ranges_tests d cites before (row_in head) (from_in head) 0 None xs) → reach_for at head (last_high 0 xs) ≡ None
      → height_for d at head ≡ None → IsTrue d head
  entry-true cites before at (size r q h) xs named av p re he =
      let n1 = and-first _ _ named in
      let lt : r < length d.rows = (let k : nat_lt r (length d.rows) ≡ true = and-first _ _ n1 in grind (arith, nat_tests)) in
      shows-size cites before r q h xs (decide r lt q (inr (place-is d (flow_in d r) q (and-second _ _ named)))) p
      (reach-is at h (last_high 0 xs) re) (fits-is at r q h he)
  entry-true cites before at (balanced r None h true) xs named av p re he =
      let e = shows-size cites before r row_start h xs (start-rejects r (in-data r named)) p (reach-is at h (last_high 0 xs) re)
      (fits-is at r row_start h he) in
      (avail-is before at r None av, e ∙ sym (balanced-is r None (not-auto r named)), refl)
  entry-true cites before at (balanced r (Some a) h true) xs named av p re he =
      let w = within (nat_le h a) refl he in
      let e = shows-size cites before r row_start h xs (start-rejects r (in-data r named)) p (reach-is at h (last_high 0 xs) re)
      (fits-is at r row_start h w.1) in
      let le = w.0 in
      let m : h ≡ min (size_of d r row_start) a = omega arith in
      (avail-is before at r (Some a) av, m ∙ sym (balanced-is r (Some a) (not-auto r named)), grind (arith, nat_tests))
    where
      within : (b : Bool) → nat_le h a ≡ b
          → cond b (fits_at d at r row_start h) (Some (height_failure at (decimal a) (decimal h))) ≡ None
          → (h ≤ a) × (fits_at d at r row_start h ≡ None)
      within true e n = (grind (arith, nat_tests), n)
      within false e n = absurd cc
  entry-true cites before at (balanced r None h false) xs named av p re he = absurd cc
  entry-true cites before at (balanced r (Some a) h false) xs named av p re he =
      let lt = shows-above cites before r row_start a xs (start-rejects r (in-data r named)) p
      (reach-is at (a + 1) (last_high 0 xs) re) in
      let k : (h == a) ≡ true = unless-true (h == a) _ he in
      let e : h ≡ a = grind (arith, nat_tests) in
      let m : h ≡ min (size_of d r row_start) a = omega arith in
      (avail-is before at r (Some a) av, m ∙ sym (balanced-is r (Some a) (not-auto r named)), grind (arith, nat_tests))
  entry-true cites before at (filled r a h) xs named av p re he = (
    avail-is before at r a av,
    (let k : (h == row_height d r a) ≡ true = unless-true (h == row_height d r a) _ he
        in grind (arith, nat_tests)),
  )

  -- the tests of an entry pass: it says what is so
  pub entry-pass : (cites : Bool) (before : List GivenEntry) (e : GivenEntry) → Pass (entry_tests d cites before e)
      → IsTrue d e.head
  unfolding entry_tests name avail reach height
  entry-pass cites before e p =
      let first = name d e ∷ twice before e ∷ avail d before e ∷ [] in
      let middle = ranges_tests d cites before (row_in e.head) (from_in e.head) 0 None e.ranges in
      let last = reach e ∷ cite_height d before e ∷ height d e ∷ [] in
      let front : Pass first = pass-left first (middle ++ last) p in
      let after : Pass (middle ++ last) = pass-right first (middle ++ last) p in
      let ending : Pass last = pass-right middle last after in
      entry-true cites before e.at e.head e.ranges
      (unless-true (is_named d e.head) _ (pass-head (name d e) (twice before e ∷ avail d before e ∷ []) front))
      (pass-head (avail d before e) []
      (pass-tail (twice before e) (avail d before e ∷ [])
      (pass-tail (name d e) (twice before e ∷ avail d before e ∷ []) front)))
      (pass-left middle last after)
      (pass-head (reach e) (cite_height d before e ∷ height d e ∷ []) ending)
      (pass-head (height d e) [] (pass-tail (cite_height d before e) (height d e ∷ [])
      (pass-tail (reach e) (cite_height d before e ∷ height d e ∷ []) ending)))

  entries-pass : (cites : Bool) (before es : List GivenEntry) → Pass (entries_tests d cites before es)
      → All (λ (e : GivenEntry). IsTrue d e.head) es
  unfolding entries_tests
  entries-pass cites before [] p = All-nil (λ (e : GivenEntry). IsTrue d e.head)
  entries-pass cites before (e ∷ es) p =
      All-cons (λ (e : GivenEntry). IsTrue d e.head) e es
      (entry-pass cites before e (pass-left (entry_tests d cites before e) _ p))
      (entries-pass cites (before ++ e ∷ []) es (pass-right (entry_tests d cites before e) _ p))

  -- ---- the whole

  none-missing : (es : List GivenEntry) (line : ℕ) (rows : List StackRow) → Pass (map (missing_of es line) rows)
      → All (λ (s : StackRow). has_entry es s.row ≡ true) rows
  none-missing es line [] p = All-nil (λ (s : StackRow). has_entry es s.row ≡ true)
  none-missing es line (s ∷ rows) p =
      All-cons (λ (s : StackRow). has_entry es s.row ≡ true) s rows
      (unless-true (has_entry es s.row) _ (pass-head (missing_of es line s) (map (missing_of es line) rows) p))
      (none-missing es line rows (pass-tail (missing_of es line s) (map (missing_of es line) rows) p))

  tree-same : (cert line : ℕ) (right given : List (List ℕ)) → trees_differ cert line right given ≡ None → given ≡ right
  tree-same cert line [] [] e = refl
  tree-same cert line (a ∷ right) [] e = absurd cc
  tree-same cert line [] (b ∷ given) e = absurd cc
  tree-same cert line (a ∷ right) (b ∷ given) e = go (bytes_eq a b) refl e (λ n. tree-same cert (line + 1) right given n)
    where
      go : (x : Bool) → bytes_eq a b ≡ x → cond x (trees_differ cert (line + 1) right given) (tree_failure line a b) ≡ None
          → (trees_differ cert (line + 1) right given ≡ None → given ≡ right) → b ∷ given ≡ a ∷ right
      go true is e later =
          let one : a ≡ b = (bytes_eq-Decides a b).0 is in
          let more = later e in
          cc
      go false is e later = absurd cc

  pub valid-tells : ValidTells d
  unfolding verdict tests missing tree
  valid-tells r p =
      let es = entries_tests d r.cites [] r.entries in
      let none = map (missing_of r.entries r.end_at) (rows_in_stacks d) in
      let last = tree d r ∷ [] in
      let after : Pass (none ++ last) = pass-right es (none ++ last) p in
      record {
        each_is_true = entries-pass r.cites [] r.entries (pass-left es (none ++ last) p);
        none_missing = none-missing r.entries r.end_at (rows_in_stacks d) (pass-left none last after);
        same_tree = tree-same r.cert_at 2 (map tree_line_words (tree_of d)) r.tree
            (pass-head (tree d r) [] (pass-right none last after));
      }
