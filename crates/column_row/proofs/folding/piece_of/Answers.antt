use Rattle.column_row.proofs.SoFar.{added-grows, added-piece}
use Rattle.column_row.proofs.folding.piece_of.Goals as goal

pub returns-clause-frag : goal.returns-clause-frag
returns-clause-frag c = added-piece c.add_node.result c.args.pool.now c.add_node.new.pool c.args.row c.args.from.now _ c.args.columns
    c.copy.ensures c.add_node.ensures.ok c.add_node.ensures.id

pub returns-clause-grown : goal.returns-clause-grown
returns-clause-grown c = added-grows c.add_node.result c.args.pool.now c.add_node.new.pool _ c.add_node.ensures.ok c.add_node.ensures.err
