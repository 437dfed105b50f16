use Rattle.flow_maker.specs.Making.{begun}
use Rattle.flow_maker.proofs.Made.{AreMade}
use Rattle.flow_maker.proofs.making.make_flows.Given as goal

abbrev pub invariant-loop-mark : goal.invariant-loop-mark
invariant-loop-mark l = AreMade l.places (begun l.fn.width l.fn.height) l.marks l.mark-index l.parts
