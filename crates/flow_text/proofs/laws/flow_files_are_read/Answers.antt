use Rattle.flow_text.proofs.Complete.{file_is_read}
use Rattle.flow_text.proofs.laws.flow_files_are_read.Goals as goal

pub returns : goal.returns
returns c = file_is_read
