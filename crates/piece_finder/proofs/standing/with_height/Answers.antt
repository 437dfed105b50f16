use Rattle.std.proofs.Common.{◌∙◌, refl}
use Rattle.frag_maker.proofs.Growing.{all-live, grows-same, grows-trial}
use Rattle.piece_finder.proofs.Pieces.{with-height}
use Rattle.piece_finder.proofs.standing.with_height.Goals as goal

pub add_node-requires : goal.add_node-requires
add_node-requires c =
    rw (c.in_ok-columns.ensures, c.ids_in.ensures)
    (all-live c.args.pool.now c.args.piece c.requires _ c.get.ensures.below)

pub returns-clause-tree : goal.returns-clause-tree
returns-clause-tree c = λ columns stand. rw c.in_ok-made.ensures.id
    (with-height c.args.pool.now c.add_node.new.pool c.args.piece c.args.row c.args.from.now c.copy.result c.args.height
    c.get.result.now _ columns c.get.ensures.node (c.in_ok-columns.ensures ∙ c.ids_in.ensures) c.copy.ensures
    c.in_ok-made.ensures.ok stand)

pub returns-clause-grown : goal.returns-clause-grown
returns-clause-grown c = grows-trial c.args.pool.now c.add_node.new.pool _ c.in_ok-made.ensures.ok

pub returns-in_err-columns-clause-grown : goal.returns-in_err-columns-clause-grown
returns-in_err-columns-clause-grown c = grows-same c.args.pool.now c.args.pool.now refl

pub returns-in_err-made-clause-grown : goal.returns-in_err-made-clause-grown
returns-in_err-made-clause-grown c = grows-same c.args.pool.now c.add_node.new.pool c.in_err-made.ensures.err
