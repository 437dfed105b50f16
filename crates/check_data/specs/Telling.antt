-- The failure that a verdict tells (this project's own).
use Rattle.std.specs.Prelude.{Option, Some, None}
use Rattle.result_laws.specs.Failure as failure
use Rattle.result_laws.specs.Failure.{Failure}
use Rattle.check_data.specs.declared.verdict.Clause.{Clause}
use Rattle.check_data.specs.declared.verdict.Clause.TheVariants.{Name, Twice, Avail, Hole, Empty, Same, Tall, Area, Cite, End}
use Rattle.check_data.specs.declared.verdict.Clause.TheVariants.{Number, Long, Reason, Reach, Height, Missing, Tree}
use Rattle.check_data.specs.declared.verdict.Verdict.{Verdict}
use Rattle.check_data.specs.declared.verdict.Verdict.TheVariants.{Yes, No}

abbrev pub clause_of : Clause → failure.Clause
clause_of Name = failure.name
clause_of Twice = failure.twice
clause_of Avail = failure.avail
clause_of Hole = failure.hole
clause_of Empty = failure.empty
clause_of Same = failure.same
clause_of Tall = failure.tall
clause_of Area = failure.area
clause_of Cite = failure.cite
clause_of End = failure.end
clause_of Number = failure.number
clause_of Long = failure.long
clause_of Reason = failure.reason
clause_of Reach = failure.reach
clause_of Height = failure.height
clause_of Missing = failure.missing
clause_of Tree = failure.tree

-- none where the result is valid
abbrev pub told : Verdict → Option Failure
told Yes = None
told (No line clause expected found) =
    Some (record { line = line; clause = clause_of clause; expected = expected; found = found })
