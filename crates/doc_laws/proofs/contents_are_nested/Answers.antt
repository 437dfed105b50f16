use Rattle.doc_laws.proofs.NestedContent.{contents_nested}
use Rattle.doc_laws.proofs.contents_are_nested.Goals as goal

pub returns : goal.returns
returns c = contents_nested
