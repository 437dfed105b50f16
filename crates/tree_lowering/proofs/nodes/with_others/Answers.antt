use Rattle.std.proofs.Common.{refl}
use Rattle.frag_maker.proofs.Growing.{grows-same}
use Rattle.tree_lowering.proofs.nodes.with_others.Goals as goal

pub returns-then-are_same-clause-grown : goal.returns-then-are_same-clause-grown
returns-then-are_same-clause-grown c = grows-same c.args.pool.now c.args.pool.now refl
