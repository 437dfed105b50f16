use Rattle.std.proofs.Common.{◌≡◌, ◌+◌, ◌-◌, ◌≤◌, drop, length, sum_by}
use Rattle.flow_data.specs.Flows.{atom_height, flow_of}
use Rattle.flow_list.specs.Tokens.{item_number}
use Rattle.range_finder.proofs.room.atoms_height.Given as goal

abbrev pub invariant-loop-k : goal.invariant-loop-k
invariant-loop-k g l = record {
  so_far : l.sum + sum_by atom_height (drop l.k (flow_of l.flows l.flow).items)
      ≡ sum_by atom_height (drop (item_number l.fn.from) (flow_of l.flows l.flow).items);
  reads : g.C.Tally.read_count l.tally + (length (flow_of l.flows l.flow).items - l.k)
      ≤ g.C.Tally.read_count l.initial.tally + (length (flow_of l.flows l.flow).items - item_number l.fn.from);
  below : g.C.Tally.below_count l.tally ≡ g.C.Tally.below_count l.initial.tally;
  folds : g.C.Tally.fold_count l.tally ≡ g.C.Tally.fold_count l.initial.tally;
}
