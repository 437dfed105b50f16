-- the items of the flows so far
use Rattle.std.proofs.Common.{◌≡◌, length, sum_by, take}
use Rattle.flow_data.specs.declared.data.Flow.{Flow}
use Rattle.page_views.proofs.summary.items_in.Given as goal

abbrev pub invariant-loop-flow : goal.invariant-loop-flow
invariant-loop-flow l = l.items ≡ sum_by (λ (f : Flow). length f.items) (take l.flow l.flows.flows)
