use Rattle.std.proofs.Common.{◌≡◌, ◌+◌, ◌-◌, length}
use Rattle.cite_laws.specs.Starts.{before_forced}
use Rattle.flow_data.specs.Flows.{flow_of}
use Rattle.cert_maker.proofs.items.forced_end.Given as goal

abbrev pub invariant-loop-k : goal.invariant-loop-k
invariant-loop-k l =
    let f = flow_of l.flows l.flow in
    l.first + before_forced f l.first (length f.items - l.first) ≡ l.k + before_forced f l.k (length f.items - l.k)
