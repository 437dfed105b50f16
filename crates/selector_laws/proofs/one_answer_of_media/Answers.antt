use Rattle.selector_laws.proofs.Media.{one_answer}
use Rattle.selector_laws.proofs.one_answer_of_media.Goals as goal

pub returns : goal.returns
returns c = one_answer
