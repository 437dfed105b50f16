-- what stands there with the gap to come, the boxes that started in the gap so far, and the rows
use Rattle.std.proofs.Common.{◌≡◌, ℕ, [], ◌++◌, map, take, drop, nat_eq}
use Rattle.std.specs.HashSet.{contains}
use Rattle.flow_list.specs.Placing.{gap_places, greatest_margin, opens_among}
use Rattle.frag_maker.specs.Building.{placed_as}
use Rattle.column_places.specs.Placing.{laid_as, rows_placed, rows_waiting}
use Rattle.column_places.proofs.placing.place_gap.Given as goal

abbrev pub invariant-loop-waiting : goal.invariant-loop-waiting
invariant-loop-waiting l = record {
  places : map placed_as l.placed.items
      ++ gap_places l.y l.end (map laid_as (take l.waiting-index l.gap)) (map laid_as (drop l.waiting-index l.gap))
      ≡ map placed_as l.initial.placed.items ++ gap_places l.y l.end [] (map laid_as l.gap);
  margin : l.margin ≡ greatest_margin (map laid_as (take l.waiting-index l.gap));
  started : (q : ℕ) → contains nat_eq l.started q ≡ opens_among q (map laid_as (take l.waiting-index l.gap));
  rows : rows_placed l.placed.items ++ rows_waiting (drop l.waiting-index l.gap)
      ≡ rows_placed l.initial.placed.items ++ rows_waiting l.gap;
}
