use Rattle.std.proofs.Common.{◌≡◌, ◌+◌, ◌-◌, ◌≤◌, ◌<◌, drop, length}
use Rattle.flow_data.specs.Flows.{flow_of}
use Rattle.flow_list.specs.Ranges.{tallest_from, tallest_of}
use Rattle.flow_list.specs.Rows.{all_rows}
use Rattle.flow_list.specs.Tokens.{item_number}
use Rattle.column_strip.specs.Boxes.{IsAcross, IsOpen}
use Rattle.atom_needs.specs.Told.{told}
use Rattle.atom_needs.proofs.tallest.tallest_atom.Given as goal

abbrev pub invariant-loop-k : goal.invariant-loop-k
invariant-loop-k g l = record {
  tallest : tallest_of (all_rows l.flows) l.flows (flow_of l.flows l.flow) (told l.best) l.k
      (drop l.k (flow_of l.flows l.flow).items)
      ≡ tallest_from (all_rows l.flows) l.flows (flow_of l.flows l.flow) l.fn.from;
  across : IsAcross l.flows (flow_of l.flows l.flow) l.k l.across;
  here : l.k < length (flow_of l.flows l.flow).items → IsOpen l.flows (flow_of l.flows l.flow) l.k l.here;
  reads : g.C.Tally.read_count l.tally + (length (flow_of l.flows l.flow).items - l.k)
      ≤ g.C.Tally.read_count l.initial.tally + (length (flow_of l.flows l.flow).items - item_number l.fn.from);
  below : g.C.Tally.below_count l.tally ≡ g.C.Tally.below_count l.initial.tally;
  folds : g.C.Tally.fold_count l.tally ≡ g.C.Tally.fold_count l.initial.tally;
}
