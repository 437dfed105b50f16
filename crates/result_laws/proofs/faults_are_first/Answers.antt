use Rattle.result_laws.proofs.FaultPlace.{first}
use Rattle.result_laws.proofs.faults_are_first.Goals as goal

pub returns : goal.returns
returns c = λ text f e. first text f e
