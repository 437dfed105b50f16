-- A call that failed added a first part of its piece.
use Rattle.mc_base.proofs.PutParts.{part_put}
use Rattle.mc_base.proofs.memory.MemorySinkSink.put.Goals as goal

pub returns-then-is_err-clause-part : goal.returns-then-is_err-clause-part
returns-then-is_err-clause-part c = rw (← c.self.view_is) (part_put _ _ _ _ _ _ c.put_piece-done.ensures.puts)
