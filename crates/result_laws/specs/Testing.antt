-- How tests one after another decide, and columns at huge heights (this project's own): what a checker rests on that goes over
-- the entries once.
use Rattle.std.specs.Prelude.{◌≡◌, ℕ, ◌^◌, ◌≤◌, Bool, List, ◌∷◌, ◌++◌, Option, Some}
use Rattle.flow_list.specs.Data.{FlowsData}
use Rattle.flow_data.specs.Flows.{flow_in}
use Rattle.flow_list.specs.Tokens.{Token, IsPlaceBefore}
use Rattle.flow_list.specs.Column.{column, endless_column}
use Rattle.flow_list.specs.Rows.{all_rows}
use Rattle.result_laws.specs.Failure.{Failure, Pass, first_of}
use Rattle.result_laws.specs.Given.{GivenEntry}
use Rattle.result_laws.specs.Verdict.{entries_tests}

-- The law of tests one after another.
pub record TestsFollow (d : FlowsData) : Type 0 where
  -- tests that pass decide nothing
  pub passed : (xs ys : List (Option Failure)) → Pass xs → first_of (xs ++ ys) ≡ first_of ys
  -- the first failure after tests that pass is the one that is told
  pub failed : (xs ys : List (Option Failure)) (f : Failure) → Pass xs → first_of (xs ++ Some f ∷ ys) ≡ Some f
  -- the tests of entries are those of the first ones, and then those of the rest after them
  pub entries : (cites : Bool) (before xs ys : List GivenEntry) → entries_tests d cites before (xs ++ ys)
      ≡ entries_tests d cites before xs ++ entries_tests d cites (before ++ xs) ys

-- The law of row r: from 2^60 on a column is the one without end.
abbrev pub HugeColumnsAreEndless : FlowsData → ℕ → Type 0
HugeColumnsAreEndless d r = (t : Token) (h : ℕ) → IsPlaceBefore d (flow_in d r) t → 2 ^ 60 ≤ h →
    column (all_rows d) d (flow_in d r) t h ≡ endless_column (all_rows d) d (flow_in d r) t
