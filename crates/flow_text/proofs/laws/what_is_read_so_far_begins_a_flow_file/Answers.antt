use Rattle.flow_text.proofs.Stands.{is_front}
use Rattle.flow_text.proofs.laws.what_is_read_so_far_begins_a_flow_file.Goals as goal

pub returns : goal.returns
returns c = is_front
