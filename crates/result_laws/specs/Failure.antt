-- Where and why a result isn't valid (this project's own).
use Rattle.std.specs.Prelude.{◌≡◌, ℕ, Bool, true, false, List, [], ◌∷◌, Option, Some, None, codes}
use Rattle.std.specs.Fmt.{decimal}
use Rattle.flow_list.specs.ResultText.{line_words}

-- the clauses, in the order of their tests in an entry, and then those of the whole result
pub data Clause : Type 0 where
  name twice avail : Clause
  hole empty same tall area cite end number long reason : Clause
  reach height : Clause
  missing tree : Clause

-- the number of the line at which a clause fails, what it wants there, and what stands there
pub record Failure : Type 0 where
  pub line : ℕ
  pub clause : Clause
  pub expected : List ℕ
  pub found : List ℕ

-- a failure unless this holds
abbrev pub unless : Bool → Failure → Option Failure
unless true f = None
unless false f = Some f

-- the first of these that there is
unfoldable pub first_of : List (Option Failure) → Option Failure
first_of [] = None
first_of (None ∷ rest) = first_of rest
first_of (Some f ∷ rest) = Some f

-- none of these tests fails
abbrev pub Pass : List (Option Failure) → Type 0
Pass ts = first_of ts ≡ None

abbrev pub clause_text : Clause → List ℕ
clause_text name = codes "name"
clause_text twice = codes "twice"
clause_text avail = codes "avail"
clause_text hole = codes "hole"
clause_text empty = codes "empty"
clause_text same = codes "same"
clause_text tall = codes "tall"
clause_text area = codes "area"
clause_text cite = codes "cite"
clause_text end = codes "end"
clause_text number = codes "number"
clause_text long = codes "long"
clause_text reason = codes "reason"
clause_text reach = codes "reach"
clause_text height = codes "height"
clause_text missing = codes "missing"
clause_text tree = codes "tree"

-- what is written of a result: `yes`, or the clause that fails first, with its line, what it wants and what it found
abbrev pub verdict_lines : Option Failure → List (List ℕ)
verdict_lines None = codes "yes" ∷ []
verdict_lines (Some f) =
    line_words (codes "no" ∷ decimal f.line ∷ clause_text f.clause ∷ []) ∷ line_words (codes "expected" ∷ f.expected ∷ [])
    ∷ line_words (codes "found" ∷ f.found ∷ []) ∷ []
