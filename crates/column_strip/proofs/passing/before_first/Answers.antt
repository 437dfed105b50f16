use Rattle.flow_data.specs.Flows.{flow_of}
use Rattle.flow_laws.proofs.Places.{in-items}
use Rattle.column_strip.proofs.passing.before_first.Goals as goal

pub across_seam-across-requires-clause-item : goal.across_seam-across-requires-clause-item
across_seam-across-requires-clause-item c =
    rw c.item-i.ensures (in-items c.args.flows.now (flow_of c.args.flows.now c.args.flow) c.args.from.now c.requires.place)
