use Rattle.line_breaker.proofs.OneList.{one_end, one_list}
use Rattle.line_breaker.proofs.laws.a_run_has_one_list_of_lines.Goals as goal

pub returns-clause-end : goal.returns-clause-end
returns-clause-end c = one_end

pub returns-clause-lines : goal.returns-clause-lines
returns-clause-lines c = one_list
