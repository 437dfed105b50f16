use Rattle.doc_flows.proofs.ReadTexts.{only_memory}
use Rattle.doc_flows.proofs.trees.styled.Goals as goal

pub returns-clause-memory : goal.returns-clause-memory
returns-clause-memory c = only_memory c.args.dom.now.nodes c.cascade.result c.requires.read c.cascade.ensures.refused
