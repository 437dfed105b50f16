use Rattle.mc_session.proofs.Denied.{denied, early}
use Rattle.mc_session.proofs.session.Session.print.Goals as goal
use Rattle.mc_session.proofs.session.Session.print.Goals.{in-Ok, in-Err}

pub returns-clause-refused : goal.returns-clause-refused
returns-clause-refused c = elim c.match-flows.branch [
  | in-Ok w ↦ rw w.result-is (denied c.args.self.now w.in-Ok.flows c.args.most w.result_or_limit.result w.in-Ok.ensures.flows
      w.result_or_limit.ensures.err)
  | in-Err w ↦ rw w.result-is (early c.args.self.now c.args.most w.in-Err.refusal w.in-Err.ensures.refused)
]
