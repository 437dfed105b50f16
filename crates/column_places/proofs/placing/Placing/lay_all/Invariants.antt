use Rattle.std.proofs.Common.{◌≡◌, take}
use Rattle.flow_list.specs.Placing.{laid_edges}
use Rattle.flow_list.specs.Strip.{lay_all}
use Rattle.column_places.specs.Placing.{Leads, rows_of, strip_of}
use Rattle.column_places.proofs.placing.Placing.lay_all.Given as goal

abbrev pub invariant-loop-edge : goal.invariant-loop-edge
invariant-loop-edge l = record {
  leads : Leads l.initial.self (laid_edges (strip_of l.initial.self) (take l.edge-index l.edges))
      (lay_all (strip_of l.initial.self) (take l.edge-index l.edges)) l.self;
  rows : rows_of l.self ≡ rows_of l.initial.self;
}
