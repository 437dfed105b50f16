use Rattle.doc_laws.proofs.Documents.{boxes_near}
use Rattle.doc_laws.proofs.boxes_are_near.Goals as goal

pub returns : goal.returns
returns c = boxes_near
