use Rattle.frag_pool.proofs.Growth.{given-up, given-up-kept}
use Rattle.inner_rows.proofs.Calls.{extends-refl}
use Rattle.container_layout.proofs.Laying.{mark-known}
use Rattle.container_layout.proofs.lay.row_height.Goals as goal

pub release-requires : goal.release-requires
release-requires g c = mark-known c.args.pool.now c.make_row-made.new.pool _ c.mark-mark.ensures.trial
    c.make_row-made.ensures.grown

pub returns-clause-engine : goal.returns-clause-engine
returns-clause-engine g c =
    g.met.I.InnerRows.stays c.make_row-made.new.inner c.args.flows.now c.make_row-made.new.book c.make_row-made.new.book
    c.make_row-made.new.pool
    c.release.new.self c.make_row-made.ensures.engine (extends-refl _) (given-up-kept _ _ _ c.release.ensures.back)

pub returns-clause-pool : goal.returns-clause-pool
returns-clause-pool g c =
    given-up c.args.pool.now c.make_row-made.new.pool c.release.new.self _ c.mark-mark.ensures.trial c.make_row-made.ensures.grown
    c.release.ensures.back

pub returns-in_err-made-clause-engine : goal.returns-in_err-made-clause-engine
returns-in_err-made-clause-engine g c =
    g.met.I.InnerRows.stays c.make_row-made.new.inner c.args.flows.now c.make_row-made.new.book c.make_row-made.new.book
    c.make_row-made.new.pool
    c.release.new.self c.make_row-made.ensures.engine (extends-refl _) (given-up-kept _ _ _ c.release.ensures.back)

pub returns-in_err-made-clause-pool : goal.returns-in_err-made-clause-pool
returns-in_err-made-clause-pool g c =
    given-up c.args.pool.now c.make_row-made.new.pool c.release.new.self _ c.mark-mark.ensures.trial c.make_row-made.ensures.grown
    c.release.ensures.back
