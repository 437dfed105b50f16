use Rattle.std.proofs.Common.{◌≡◌, ◌+◌, [], ◌++◌, drop, map}
use Rattle.flow_list.specs.ClonedEdges.{tops}
use Rattle.flow_list.specs.Fragments.{continued_from}
use Rattle.frag_maker.specs.Building.{placed_as}
use Rattle.column_places.specs.Placing.{rows_placed}
use Rattle.container_layout.proofs.walk.continued.Given as goal

abbrev pub invariant-loop-number : goal.invariant-loop-number
invariant-loop-number l = record {
  placed : map placed_as l.placed.items ++ continued_from l.flows l.y (drop l.number-index l.boxes)
      ≡ continued_from l.flows 0 l.boxes;
  y : l.y + tops l.flows (drop l.number-index l.boxes) ≡ tops l.flows l.boxes;
  rows : rows_placed l.placed.items ≡ [];
}
