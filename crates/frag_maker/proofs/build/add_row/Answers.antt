use Rattle.std.proofs.Common.{◌∙◌, refl}
use Rattle.frag_maker.proofs.Built.{piece-stands}
use Rattle.frag_maker.proofs.Growing.{all-live, grows-same, grows-trial, trial-live}
use Rattle.frag_maker.proofs.build.add_row.Goals as goal

pub add_node-requires : goal.add_node-requires
add_node-requires c =
    rw (c.in_ok-columns.ensures, c.ids_in.ensures)
    (all-live c.args.pool.now c.args.stands.now.made c.requires _ c.get.ensures.below)

pub returns-clause-piece : goal.returns-clause-piece
returns-clause-piece c = λ columns made. rw c.in_ok-id.ensures.id
    (piece-stands c.args.pool.now c.add_node.new.pool c.args.stands.now c.args.y c.get.result.now _ _ _ c.get.ensures.node
    c.copy.ensures (c.in_ok-columns.ensures ∙ c.ids_in.ensures) c.height_of.ensures c.in_ok-id.ensures.ok columns made)

pub returns-clause-live : goal.returns-clause-live
returns-clause-live c = rw c.in_ok-id.ensures.id (trial-live c.args.pool.now c.add_node.new.pool _ c.in_ok-id.ensures.ok)

pub returns-clause-grown : goal.returns-clause-grown
returns-clause-grown c = grows-trial c.args.pool.now c.add_node.new.pool _ c.in_ok-id.ensures.ok

pub returns-in_err-columns-clause-grown : goal.returns-in_err-columns-clause-grown
returns-in_err-columns-clause-grown c = grows-same c.args.pool.now c.args.pool.now refl

pub returns-in_err-id-clause-grown : goal.returns-in_err-id-clause-grown
returns-in_err-id-clause-grown c = grows-same c.args.pool.now c.add_node.new.pool c.in_err-id.ensures.err
