use Rattle.std.proofs.lemmas.List.Elements.{All-nil}
use Rattle.column_walk.proofs.Empty.{empty-true}
use Rattle.column_walk.proofs.tests.column_of_atoms.Goals as goal

pub decide-requires-clause-nests : goal.decide-requires-clause-nests
decide-requires-clause-nests c = rw c.requires.atoms (All-nil _)

pub decide-requires-clause-some : goal.decide-requires-clause-some
decide-requires-clause-some c = rw c.requires.atoms (All-nil _)

pub decide-requires-clause-book : goal.decide-requires-clause-book
decide-requires-clause-book c = rw c.new-book.ensures (empty-true c.args.flows.now)
