use Rattle.doc_flows.proofs.OneAnswer.{one_answer}
use Rattle.doc_flows.proofs.laws.documents_have_one_answer.Goals as goal

pub returns : goal.returns
returns c = one_answer
