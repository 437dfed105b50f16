use Rattle.frag_pool.proofs.Growth.{given-up, given-up-kept}
use Rattle.inner_rows.proofs.Calls.{extends-refl}
use Rattle.block_flow.proofs.Endings.{grown-within}
use Rattle.block_flow.proofs.making.column.Goals as goal

pub release-requires : goal.release-requires
release-requires g c =
    grown-within c.args.pool.now c.made_column.new.pool c.mark-mark.result.trial c.mark-mark.ensures.trial
    c.made_column.ensures.grown

pub returns-in-Err-clause-engine : goal.returns-in-Err-clause-engine
returns-in-Err-clause-engine g c =
    g.met.I.InnerRows.stays c.made_column.new.inner c.args.flows.now c.made_column.new.book c.made_column.new.book
    c.made_column.new.pool c.release.new.self c.made_column.ensures.engine (extends-refl c.made_column.new.book)
    (given-up-kept _ _ _ c.release.ensures.back)

pub returns-in-Err-clause-refused : goal.returns-in-Err-clause-refused
returns-in-Err-clause-refused g c =
    given-up c.args.pool.now c.made_column.new.pool c.release.new.self c.mark-mark.result.trial c.mark-mark.ensures.trial
    c.made_column.ensures.grown c.release.ensures.back
