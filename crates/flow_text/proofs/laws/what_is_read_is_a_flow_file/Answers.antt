use Rattle.flow_text.proofs.Sound.{read_is_file}
use Rattle.flow_text.proofs.laws.what_is_read_is_a_flow_file.Goals as goal

pub returns : goal.returns
returns c = read_is_file
