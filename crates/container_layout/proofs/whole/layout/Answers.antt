use Rattle.std.proofs.Common.{[]}
use Rattle.flow_list.specs.Certificate.{rows_in_stacks}
use Rattle.container_layout.proofs.Laying.{rows-stay}
use Rattle.container_layout.proofs.Numbers.{empty-true}
use Rattle.container_layout.proofs.whole.layout.Goals as goal

pub find_rows-requires-clause-engine : goal.find_rows-requires-clause-engine
find_rows-requires-clause-engine c = c.two_deep-scratch.ensures.engine c.args.flows.now [] c.args.pool.now

pub returns-in_err-found-clause-book : goal.returns-in_err-found-clause-book
returns-in_err-found-clause-book c = rw c.requires (empty-true c.args.flows.now)

pub lay_rows-requires-clause-engine : goal.lay_rows-requires-clause-engine
lay_rows-requires-clause-engine c = c.two_deep-engine.ensures.engine c.args.flows.now c.args.book.now c.find_rows.new.pool

pub returns-clause-rows : goal.returns-clause-rows
returns-clause-rows c =
    rows-stay c.args.flows.now c.lay_rows.new.pool c.lay_stacks.new.pool c.in_ok-stacks.ensures.pool []
    (rows_in_stacks c.args.flows.now) c.in_ok-laid.laid.rows c.in_ok-laid.ensures.rows
