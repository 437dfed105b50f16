-- What a checker's loop rests on: how the tests of the first entries stand to those of all, and columns at huge heights.
use Rattle.std.proofs.Common.{◌≡◌, ℕ, ◌^◌, ◌≤◌, Bool, false, List, [], ◌∷◌, ◌++◌, refl, sym, ◌∙◌, ap, arith, Option, Some, None}
use Rattle.std.specs.Prelude.{nat_lt}
use Rattle.std.proofs.lemmas.Bool.Decides.{nat_tests}
use Rattle.std.proofs.lemmas.List.{append_assoc, append-nil}
use Rattle.flow_list.specs.Data.{FlowsData}
use Rattle.flow_data.specs.Flows.{flow_in}
use Rattle.flow_list.specs.Tokens.{Token}
use Rattle.flow_list.specs.Column.{Step, Cut, cut, column, column_up_to, avoids_at, endless_column, steps_from}
use Rattle.flow_list.specs.Rows.{all_rows}
use Rattle.flow_laws.specs.Bounds.{NeedsAreSmall, NeedsAndBounds}
use Rattle.flow_list.specs.Tokens.{IsPlaceBefore}
use Rattle.result_laws.specs.Failure.{Pass, Failure, first_of}
use Rattle.result_laws.specs.Given.{GivenEntry}
use Rattle.result_laws.specs.Verdict.{entry_tests, entries_tests}

-- what passed decides nothing
pub passed-first : (xs ys : List (Option Failure)) → Pass xs → first_of (xs ++ ys) ≡ first_of ys
unfolding first_of
passed-first [] ys p = refl
passed-first (None ∷ xs) ys p = passed-first xs ys p
passed-first (Some f ∷ xs) ys p = absurd cc

-- the first failure after what passed is the verdict
pub failed-first : (xs ys : List (Option Failure)) (f : Failure) → Pass xs → first_of (xs ++ Some f ∷ ys) ≡ Some f
unfolding first_of
failed-first [] ys f p = refl
failed-first (None ∷ xs) ys f p = failed-first xs ys f p
failed-first (Some g ∷ xs) ys f p = absurd cc

-- the tests of entries after others
pub tests-append : (d : FlowsData) (cites : Bool) (before xs ys : List GivenEntry)
    → entries_tests d cites before (xs ++ ys) ≡ entries_tests d cites before xs ++ entries_tests d cites (before ++ xs) ys
unfolding entries_tests
tests-append d cites before [] ys = rw (append-nil before) refl
tests-append d cites before (e ∷ xs) ys =
    let k = tests-append d cites (before ++ e ∷ []) xs ys in
    let a : (before ++ e ∷ []) ++ xs ≡ before ++ (e ∷ xs) = append_assoc before (e ∷ []) xs in
    let b = append_assoc (entry_tests d cites before e) (entries_tests d cites (before ++ e ∷ []) xs)
    (entries_tests d cites (before ++ e ∷ xs) ys) in
    let m : entries_tests d cites ((before ++ e ∷ []) ++ xs) ys ≡ entries_tests d cites (before ++ e ∷ xs) ys =
    ap (λ bs. entries_tests d cites bs ys) a in
    ap (λ ts. entry_tests d cites before e ++ ts) (k ∙ ap (λ ts. entries_tests d cites (before ++ e ∷ []) xs ++ ts) m) ∙ sym b

-- ---- columns at huge heights

cut-all : (h : ℕ) (ss : List Step) → 2 ^ 60 ≤ h → NeedsAreSmall ss → cut h ss ≡ record { before = ss; stop = None }
cut-all h [] le small = refl
cut-all h (s ∷ ss) le small =
    let lt = small.0 in
    let no : nat_lt h s.need ≡ false = grind (arith, nat_tests) in
    rw (no, cut-all h ss le small.2) refl

-- from 2^60 on a column is the one without end
pub huge-column : (d : FlowsData) (r : ℕ) (t : Token) (h : ℕ) → NeedsAndBounds d r → IsPlaceBefore d (flow_in d r) t
    → 2 ^ 60 ≤ h →
    column (all_rows d) d (flow_in d r) t h ≡ endless_column (all_rows d) d (flow_in d r) t
unfolding column endless_column
huge-column d r t h law place le =
    let ss = steps_from (all_rows d) d (flow_in d r) t in
    ap (λ (c : Cut). column_up_to (all_rows d) (avoids_at d (flow_in d r)) h c.before c.stop)
    (cut-all h ss le (law.needs_are_small t place))
