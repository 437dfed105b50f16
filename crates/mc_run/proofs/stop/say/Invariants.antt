-- The pieces so far were put, and the count of faults never fell.
use Rattle.std.proofs.Common.{◌≤◌, take, map}
use Rattle.std.specs.List.{concat}
use Rattle.std.specs.Io.KnownBytes.{Appends}
use Rattle.mc_run.proofs.stop.say.Given as goal

abbrev pub invariant-loop-piece : goal.invariant-loop-piece
invariant-loop-piece g l = record {
  put : Appends (g.E.Sink.written l.initial.err) (g.E.Sink.written l.err)
      (concat (map (λ piece. piece.now) (take l.piece-index l.pieces)));
  later : g.E.Sink.faults l.initial.err ≤ g.E.Sink.faults l.err;
}
