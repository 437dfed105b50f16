use Rattle.doc_laws.proofs.Documents.{documents_sound}
use Rattle.doc_laws.proofs.documents_are_sound.Goals as goal

pub returns : goal.returns
returns c = documents_sound
