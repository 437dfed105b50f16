use Rattle.frag_pool.proofs.Growth.{given-up}
use Rattle.container_layout.specs.Laid.{IsLaidStack}
use Rattle.container_layout.proofs.Laying.{mark-known, stack-kept}
use Rattle.container_layout.proofs.Results.{ok-map}
use Rattle.container_layout.proofs.stack.lay_stack.Goals as goal

pub release-requires : goal.release-requires
release-requires c = mark-known c.args.pool.now c.kept_stack-laid.new.pool _ c.mark-mark.ensures.trial
    c.kept_stack-laid.ensures.grown

pub returns-clause-laid : goal.returns-clause-laid
returns-clause-laid c =
    let d = c.args.flows.now in
    ok-map c.kept_stack-laid.result (IsLaidStack d c.kept_stack-laid.new.pool _) (IsLaidStack d c.release.new.self _)
    (stack-kept d c.kept_stack-laid.new.pool c.release.new.self _ c.release.ensures.back c.release.ensures.stands c.args.number)
    c.kept_stack-laid.ensures.laid

pub returns-clause-pool : goal.returns-clause-pool
returns-clause-pool c =
    given-up c.args.pool.now c.kept_stack-laid.new.pool c.release.new.self _ c.mark-mark.ensures.trial
    c.kept_stack-laid.ensures.grown c.release.ensures.back
