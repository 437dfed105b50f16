use Rattle.doc_laws.proofs.NumberedContent.{boxes_numbered}
use Rattle.doc_laws.proofs.boxes_are_numbered.Goals as goal

pub returns : goal.returns
returns c = boxes_numbered
