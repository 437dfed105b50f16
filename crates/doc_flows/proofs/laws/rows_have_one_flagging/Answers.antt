use Rattle.doc_flows.proofs.OneFlags.{one_flagging}
use Rattle.doc_flows.proofs.laws.rows_have_one_flagging.Goals as goal

pub returns : goal.returns
returns c = one_flagging
