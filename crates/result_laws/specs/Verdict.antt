-- When a result is valid, and which clause fails first where it isn't (this project's own).
use Rattle.std.specs.Prelude.{◌≡◌, ℕ, Bool, List, [], ◌∷◌, ◌++◌, cond, Option, Some, None}
use Rattle.flow_list.specs.Data.{FlowsData}
use Rattle.flow_list.specs.Tokens.{Token}
use Rattle.result_laws.specs.Failure.{Failure, first_of}
use Rattle.result_laws.specs.Given.{GivenRange, GivenEntry, GivenResult}
use Rattle.result_laws.specs.Clauses.{row_in, from_in, name, twice, avail, hole, empty, same, tall_fails, area_fails, tells, cite}
use Rattle.result_laws.specs.Clauses.{end, number, long, reason, reach, cite_height, height, missing, tree}

-- the clauses of a range's columns, in the order of their tests
abbrev pub column_tests : FlowsData → Bool → List GivenEntry → ℕ → Token → GivenRange → List (Option Failure)
column_tests d cites before r q x = cite d before r q x ∷ end d r q x ∷ number d cites before r q x ∷ long d r q x ∷ reason d r q
    x ∷ []

-- the clauses of a range of row r from a place on, after a range that ends at low
unfoldable pub range_tests : FlowsData → Bool → List GivenEntry → ℕ → Token → ℕ → Option GivenRange → GivenRange
    → List (Option Failure)
range_tests d cites before r q low last x =
    hole low x ∷ empty x ∷ same last x ∷ tall_fails d r q x ∷ area_fails d r q x ∷ cond (tells x.reason)
    (column_tests d cites before r q x) []

unfoldable pub ranges_tests : FlowsData → Bool → List GivenEntry → ℕ → Token → ℕ → Option GivenRange → List GivenRange
    → List (Option Failure)
ranges_tests d cites before r q low last [] = []
ranges_tests d cites before r q low last (x ∷ xs) =
    range_tests d cites before r q low last x ++ ranges_tests d cites before r q x.high (Some x) xs

-- the clauses of an entry after these
unfoldable pub entry_tests : FlowsData → Bool → List GivenEntry → GivenEntry → List (Option Failure)
entry_tests d cites before e =
    (name d e ∷ twice before e ∷ avail d before e ∷ [])
    ++ (ranges_tests d cites before (row_in e.head) (from_in e.head) 0 None e.ranges
    ++ reach e ∷ cite_height d before e ∷ height d e ∷ [])

unfoldable pub entries_tests : FlowsData → Bool → List GivenEntry → List GivenEntry → List (Option Failure)
entries_tests d cites before [] = []
entries_tests d cites before (e ∷ es) = entry_tests d cites before e ++ entries_tests d cites (before ++ e ∷ []) es

-- all clauses of a result, in the order of their tests
unfoldable pub tests : FlowsData → GivenResult → List (Option Failure)
tests d r = entries_tests d r.cites [] r.entries ++ (missing d r ++ tree d r ∷ [])

-- the first that fails, or none where the result is valid
unfoldable pub verdict : FlowsData → GivenResult → Option Failure
verdict d r = first_of (tests d r)

abbrev pub IsValid : FlowsData → GivenResult → Type 0
IsValid d r = verdict d r ≡ None
