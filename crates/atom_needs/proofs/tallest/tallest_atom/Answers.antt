use Rattle.std.proofs.Common.{arith}
use Rattle.flow_data.specs.Flows.{flow_of}
use Rattle.atom_needs.proofs.Needs.{behind-small}
use Rattle.atom_needs.proofs.tallest.tallest_atom.Goals as goal

pub taller_of-best-requires : goal.taller_of-best-requires
taller_of-best-requires g c =
    let small = behind-small c.args.flows.now (flow_of c.args.flows.now c.row_at.result.now.flow) c.loop-k.k
    c.past_loose-behind.result c.past_loose-behind.ensures.behind in
    omega arith
