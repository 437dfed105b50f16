-- The pieces that were put, and of a piece that failed its first part.
use Rattle.std.proofs.Common.{arith, inr, sym, subst, ◌∙◌}
use Rattle.mc_base.specs.Outside.{AppendsPart}
use Rattle.std.specs.Io.KnownBytes.{Appends}
use Rattle.mc_run.proofs.Pieces.{at_err, at_ok, pieces_more, pieces_split, appends_on, part_on}
use Rattle.mc_run.proofs.stop.say.Goals as goal

pub returns-then-is_err : goal.returns-then-is_err
returns-then-is_err g c =
    let risen = at_err c.put.result (sym c.is_err.ensures.value ∙ c.if-is_err.true) c.put.ensures.risen in
    let part = at_err c.put.result (sym c.is_err.ensures.value ∙ c.if-is_err.true) c.put.ensures.part in
    inr (
      omega (arith, risen, c.put.ensures.later, c.loop-piece.invariant.later),
      subst (AppendsPart _ _) (sym (pieces_split _ c.args.pieces.now c.loop-piece.piece-index _ c.loop-piece-test.true))
          (part_on _ _ _ _ _ _ c.loop-piece.invariant.put part),
    )

pub loop-piece-preserved : goal.loop-piece-preserved
loop-piece-preserved g c =
    let ok = at_ok c.put.result (sym c.is_err.ensures.value ∙ c.if-is_err.false) c.put.ensures.ok in
    record {
      put = subst (Appends _ _) (sym (pieces_more _ c.args.pieces.now c.loop-piece.piece-index _ c.loop-piece-test.true))
          (appends_on _ _ _ _ _ c.loop-piece.invariant.put ok);
      later = omega (arith, c.put.ensures.later, c.loop-piece.invariant.later);
    }
