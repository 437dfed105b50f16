-- What a call of the sink in memory leaves where it fails.
use Rattle.std.proofs.Common.{ℕ, List, Option, Some, None, Result, Ok, Err, OnErr, min}
use Rattle.mc_base.specs.Outside.{AppendsPart}
use Rattle.mc_base.specs.Memory.{Puts}
use Rattle.mc_base.specs.declared.outside.SinkFailed.{SinkFailed}

-- a failed call added a first part of its piece
pub part_put : (planned : Option ℕ) (left : ℕ) (piece old new : List ℕ) (answer : Result (Unit {0}) SinkFailed) →
    Puts planned left piece old new answer → OnErr answer (AppendsPart (Some old) (Some new) piece)
part_put planned left piece old new (Ok _) puts = tt
part_put (Some takes) left piece old new (Err _) puts = (min takes left, puts.1)
part_put None left piece old new (Err _) puts = (left, puts.1)
