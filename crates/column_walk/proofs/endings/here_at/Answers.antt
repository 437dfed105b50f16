use Rattle.std.proofs.Common.{arith}
use Rattle.flow_data.specs.Flows.{flow_of}
use Rattle.column_walk.proofs.Small.{begin-small, follow-small, high-small, need-small}
use Rattle.column_walk.proofs.endings.here_at.Goals as goal

pub overflow_add-result-2 : goal.overflow_add-result-2
overflow_add-result-2 c =
    let n = need-small c.args.flows.now (flow_of c.args.flows.now c.args.flow) c.args.k c.args.height c.args.before c.args.behind
    c.requires.before c.requires.behind in
    omega arith

pub returns-clause-small : goal.returns-clause-small
returns-clause-small c = record {
  high = high-small c.args.flows.now (flow_of c.args.flows.now c.args.flow) c.args.k c.args.height c.args.before c.args.behind
      c.requires.before c.requires.behind;
  needs = need-small c.args.flows.now (flow_of c.args.flows.now c.args.flow) c.args.k c.args.height c.args.before c.args.behind
      c.requires.before c.requires.behind;
  begins = begin-small c.args.flows.now (flow_of c.args.flows.now c.args.flow) c.args.k c.args.height c.args.before c.args.behind
      c.requires.before c.requires.behind;
  follows = follow-small c.args.flows.now (flow_of c.args.flows.now c.args.flow) c.args.k c.args.height c.args.before
      c.args.behind c.requires.before c.requires.behind;
}
