use Rattle.std.proofs.Common.{◌∙◌, ap}
use Rattle.flow_data.specs.Data.{RowInfo}
use Rattle.flow_data.specs.Flows.{flow_of, flow_in}
use Rattle.flow_data.specs.Soundness.{IsInnerRow}
use Rattle.flow_data.proofs.Everywhere.{of_rows}
use Rattle.flow_data.proofs.sound_rows.has_inner_rows.Goals as goal

pub returns : goal.returns
returns c =
    let d = c.args.parts.now in
    of_rows (IsInnerRow d c.args.outer) c.items_of-items.result.now (flow_in d c.args.outer)
    (c.items_of-items.ensures ∙ ap (λ (r : RowInfo). (flow_of d r.flow).items) c.row_of.ensures) c.may_all_stand_in.ensures
