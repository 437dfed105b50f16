use Rattle.css_laws.proofs.Whole.{bad_said, bad_refused}
use Rattle.css_laws.proofs.bad_bytes_are_faults.Goals as goal

pub returns-clause-faults : goal.returns-clause-faults
returns-clause-faults c = bad_said

pub returns-clause-refused : goal.returns-clause-refused
returns-clause-refused c = bad_refused
