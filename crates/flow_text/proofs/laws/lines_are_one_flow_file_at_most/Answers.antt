use Rattle.flow_text.proofs.Unique.{one_file}
use Rattle.flow_text.proofs.laws.lines_are_one_flow_file_at_most.Goals as goal

pub returns : goal.returns
returns c = one_file
