use Rattle.flow_text.proofs.Sound.{read_is_file}
use Rattle.flow_text.proofs.TextLaws.{text_takes}
use Rattle.flow_text.proofs.laws.what_is_read_is_the_text_of_a_flow_file.Goals as goal

pub returns : goal.returns
returns c text lines e = let t = text_takes text lines e in let f = read_is_file lines t.1 in (t.0, f.0, f.1)
