use Rattle.result_reader.proofs.Whole.{read-again}
use Rattle.result_reader.proofs.read.read_result.Goals as goal

pub returns-in-Ok-clause-again : goal.returns-in-Ok-clause-again
returns-in-Ok-clause-again c = λ tree cert can a is.
    read-again c.args.text.now c.in-Ok.found c.in-Ok.ensures.read c.in-Ok.ensures.cites tree cert can a is
