use Rattle.result_laws.proofs.TextRead.{reads, said, alone}
use Rattle.result_laws.proofs.one_reading.Goals as goal

pub returns : goal.returns
returns c = λ text. record { read = reads text; said = said text; alone = alone text }
