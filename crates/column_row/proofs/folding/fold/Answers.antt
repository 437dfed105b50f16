use Rattle.frag_pool.proofs.Growth.{given-up-kept}
use Rattle.inner_rows.proofs.Calls.{extends-refl}
use Rattle.column_row.proofs.folding.fold.Goals as goal

pub returns-in-Err-clause-engine : goal.returns-in-Err-clause-engine
returns-in-Err-clause-engine g c =
    g.met.I.InnerRows.stays c.made_fold.new.inner c.args.flows.now c.made_fold.new.book c.made_fold.new.book c.made_fold.new.pool
    c.release.new.self c.in-Err.ensures.engine (extends-refl c.made_fold.new.book)
    (given-up-kept c.made_fold.new.pool c.release.new.self c.mark-mark.result.trial c.release.ensures.back)
