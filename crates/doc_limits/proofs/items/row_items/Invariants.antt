use Rattle.std.proofs.Common.{◌≡◌, ◌-◌, ◌^◌, length, min, sum_by, take}
use Rattle.flow_data.specs.declared.data.RowInfo.{RowInfo}
use Rattle.flow_data.specs.Flows.{flow_of}
use Rattle.doc_limits.proofs.items.row_items.Given as goal

abbrev pub invariant-loop-row : goal.invariant-loop-row
invariant-loop-row l = l.count
    ≡ min (sum_by (λ (r : RowInfo). length (flow_of l.parts r.flow).items) (take l.row-index l.parts.rows)) (2 ^ 64 - 1)
