use Rattle.result_laws.proofs.Steps.{passed-first, failed-first, tests-append}
use Rattle.result_laws.proofs.tests_follow.Goals as goal

pub returns : goal.returns
returns c = λ d. record { passed = passed-first; failed = failed-first; entries = tests-append d }
