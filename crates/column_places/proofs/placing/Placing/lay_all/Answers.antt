use Rattle.std.proofs.Common.{◌∙◌}
use Rattle.flow_list.specs.Data.{Margin}
use Rattle.column_places.proofs.Edges.{edge-room, leads-edge}
use Rattle.column_places.proofs.placing.Placing.lay_all.Goals as goal

pub lay-requires-clause-room : goal.lay-requires-clause-room
lay-requires-clause-room c =
    edge-room c.args.edges.now c.loop-edge.edge-index (Margin 0) c.loop-edge-test.true c.args.self.now c.loop-edge.self
    c.loop-edge.invariant.leads c.requires.room

pub loop-edge-preserved : goal.loop-edge-preserved
loop-edge-preserved c = record {
  leads = leads-edge c.args.edges.now c.loop-edge.edge-index (Margin 0) c.loop-edge-test.true c.args.self.now c.loop-edge.self
      c.loop-edge.invariant.leads c.lay.new.self c.in_ok-lay.ensures.leads;
  rows = c.in_ok-lay.ensures.rows ∙ c.loop-edge.invariant.rows;
}
