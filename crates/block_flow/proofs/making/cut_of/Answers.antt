use Rattle.std.proofs.Common.{sym}
use Rattle.flow_list.specs.Entries.{uses_in}
use Rattle.frag_pool.proofs.Growth.{grows-refl}
use Rattle.inner_rows.proofs.Calls.{book-refl}
use Rattle.column_walk.proofs.Chain.{uses-none}
use Rattle.block_flow.proofs.making.cut_of.Goals as goal

pub returns-in-None-clause-grown : goal.returns-in-None-clause-grown
returns-in-None-clause-grown g c = grows-refl c.args.pool.now

pub returns-in-None-clause-book : goal.returns-in-None-clause-book
returns-in-None-clause-book g c = book-refl c.args.flows.now c.args.book.now c.requires.book

pub returns-in-None-clause-uses : goal.returns-in-None-clause-uses
returns-in-None-clause-uses g c = rw c.in-None.is (sym (uses-none c.args.flows.now (uses_in c.args.book.now)))
