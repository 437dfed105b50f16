use Rattle.frag_pool.proofs.Growth.{grows-same-trial}
use Rattle.block_flow.proofs.making.fill_again.Goals as goal

pub returns-in_err-filled-clause-grown : goal.returns-in_err-filled-clause-grown
returns-in_err-filled-clause-grown g c = grows-same-trial c.args.pool.now c.fill-filled.new.pool c.in_err-filled.ensures.refused
