use Rattle.frag_pool.proofs.Growth.{given-up, given-up-kept}
use Rattle.inner_rows.proofs.Calls.{extends-refl}
use Rattle.container_layout.specs.Laid.{IsLaidRow}
use Rattle.container_layout.proofs.Laying.{mark-known, row-kept}
use Rattle.container_layout.proofs.Results.{ok-map}
use Rattle.container_layout.proofs.lay.lay_row.Goals as goal

pub release-requires : goal.release-requires
release-requires g c = mark-known c.args.pool.now c.kept_row-laid.new.pool _ c.mark-mark.ensures.trial
    c.kept_row-laid.ensures.grown

pub returns-clause-laid : goal.returns-clause-laid
returns-clause-laid g c =
    let d = c.args.flows.now in
    ok-map c.kept_row-laid.result (IsLaidRow d c.kept_row-laid.new.pool _) (IsLaidRow d c.release.new.self _)
    (row-kept d c.kept_row-laid.new.pool c.release.new.self _ c.release.ensures.back c.release.ensures.stands _)
    c.kept_row-laid.ensures.laid

pub returns-clause-engine : goal.returns-clause-engine
returns-clause-engine g c =
    g.met.I.InnerRows.stays c.kept_row-laid.new.inner c.args.flows.now c.kept_row-laid.new.book c.kept_row-laid.new.book
    c.kept_row-laid.new.pool
    c.release.new.self c.kept_row-laid.ensures.engine (extends-refl _) (given-up-kept _ _ _ c.release.ensures.back)

pub returns-clause-pool : goal.returns-clause-pool
returns-clause-pool g c =
    given-up c.args.pool.now c.kept_row-laid.new.pool c.release.new.self _ c.mark-mark.ensures.trial c.kept_row-laid.ensures.grown
    c.release.ensures.back
