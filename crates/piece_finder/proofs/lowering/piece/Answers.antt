use Rattle.frag_pool.proofs.Growth.{given-up, given-up-kept, grows-trans, kept-grows-grows, kept-grows-trans, stands-live}
use Rattle.inner_rows.proofs.Calls.{extends-refl}
use Rattle.piece_finder.proofs.lowering.piece.Goals as goal

pub with_height-requires : goal.with_height-requires
with_height-requires g c = stands-live c.find.new.pool c.in_ok-found.found.frag _ c.in_ok-found.ensures.frag

pub returns-in-Ok-clause-piece : goal.returns-in-Ok-clause-piece
returns-in-Ok-clause-piece g c =
    record { height = c.in_ok-found.ensures.found.height; reasons = c.in_ok-found.ensures.found.reasons }

pub returns-in-Ok-clause-frag : goal.returns-in-Ok-clause-frag
returns-in-Ok-clause-frag g c = c.in-Ok.ensures.tree _ c.in_ok-found.ensures.frag

pub returns-in-Ok-clause-engine : goal.returns-in-Ok-clause-engine
returns-in-Ok-clause-engine g c =
    g.met.I.InnerRows.stays c.find.new.inner c.args.flows.now c.find.new.book c.find.new.book c.find.new.pool
    c.with_height.new.pool c.in_ok-found.ensures.engine (extends-refl _) (kept-grows-grows _ _ c.in-Ok.ensures.grown)

pub returns-in-Ok-clause-grown : goal.returns-in-Ok-clause-grown
returns-in-Ok-clause-grown g c =
    grows-trans c.args.pool.now c.find.new.pool c.with_height.new.pool c.in_ok-found.ensures.grown c.in-Ok.ensures.grown

pub returns-in-Err-clause-engine : goal.returns-in-Err-clause-engine
returns-in-Err-clause-engine g c =
    g.met.I.InnerRows.stays c.find.new.inner c.args.flows.now c.find.new.book c.find.new.book c.find.new.pool
    c.release.new.self c.in_ok-found.ensures.engine (extends-refl _)
    (kept-grows-trans c.find.new.pool c.with_height.new.pool c.release.new.self (kept-grows-grows _ _ c.in-Err.ensures.grown)
    (given-up-kept _ _ _ c.release.ensures.back))

pub returns-in-Err-clause-refused : goal.returns-in-Err-clause-refused
returns-in-Err-clause-refused g c =
    given-up _ _ _ _ c.mark-mark.ensures.trial
    (grows-trans c.args.pool.now c.find.new.pool c.with_height.new.pool c.in_ok-found.ensures.grown c.in-Err.ensures.grown)
    c.release.ensures.back
