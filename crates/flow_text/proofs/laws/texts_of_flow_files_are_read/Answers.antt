use Rattle.flow_text.proofs.Complete.{file_is_read}
use Rattle.flow_text.proofs.TextLaws.{text_again}
use Rattle.flow_text.proofs.laws.texts_of_flow_files_are_read.Goals as goal

pub returns : goal.returns
returns c text lines file spelled is = text_again text lines spelled (file_is_read lines file is)
