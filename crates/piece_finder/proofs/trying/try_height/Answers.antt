use Rattle.std.proofs.Common.{refl, sym}
use Rattle.frag_pool.proofs.Growth.{given-up, given-up-kept, grows-same-trial}
use Rattle.inner_rows.proofs.Calls.{extends-refl}
use Rattle.piece_data.specs.LeastPiece.{cut_piece}
use Rattle.piece_data.proofs.Reasons.{piece-above}
use Rattle.piece_finder.proofs.Telling.{filled-short, filled-tells}
use Rattle.piece_finder.proofs.trying.try_height.Goals as goal

pub returns-in-None-clause-trial : goal.returns-in-None-clause-trial
returns-in-None-clause-trial g c =
    sym (c.in-None.ensures (cut_piece c.args.flows.now c.args.row c.args.from.now c.args.height)
    (cut_piece c.args.flows.now c.args.row c.args.from.now c.args.low)
    (filled-tells c.args.flows.now c.args.row c.args.from.now c.args.height c.args.wanted.now c.requires.wanted)
    (filled-tells c.args.flows.now c.args.row c.args.from.now c.args.low c.in_ok-made.made c.in_ok-made.ensures.fill))

pub returns-clause-trial : goal.returns-clause-trial
returns-clause-trial g c = record {
  low_is = refl;
  high_is = c.end_of_range.ensures (cut_piece c.args.flows.now c.args.row c.args.from.now c.args.low).bounds
      (piece-above c.args.flows.now c.args.row c.args.from.now c.args.low)
      (filled-short c.args.flows.now c.args.row c.args.from.now c.args.low c.in_ok-made.made c.in_ok-made.ensures.fill);
  why = sym (c.in-Some.ensures (cut_piece c.args.flows.now c.args.row c.args.from.now c.args.height)
      (cut_piece c.args.flows.now c.args.row c.args.from.now c.args.low)
      (filled-tells c.args.flows.now c.args.row c.args.from.now c.args.height c.args.wanted.now c.requires.wanted)
      (filled-tells c.args.flows.now c.args.row c.args.from.now c.args.low c.in_ok-made.made c.in_ok-made.ensures.fill));
}

pub returns-clause-engine : goal.returns-clause-engine
returns-clause-engine g c =
    g.met.I.InnerRows.stays c.fill_row.new.inner c.args.flows.now c.fill_row.new.book c.fill_row.new.book c.fill_row.new.pool
    c.release.new.self c.in_ok-made.ensures.engine (extends-refl _) (given-up-kept _ _ _ c.release.ensures.back)

pub returns-clause-grown : goal.returns-clause-grown
returns-clause-grown g c =
    grows-same-trial _ _ (given-up _ _ _ _ c.mark-mark.ensures.trial c.in_ok-made.ensures.grown c.release.ensures.back)
