use Rattle.std.proofs.Common.{◌≡◌, ◌*◌, ◌^◌, ◌++◌, None, All, drop}
use Rattle.box_data.specs.Limits.{all_used_lengths, long}
use Rattle.box_places.specs.Bounds.{IsWithin}
use Rattle.box_places.specs.Passes.{placed_behind, all_placed}
use Rattle.box_places.proofs.pass.all_places.Given as goal

abbrev pub invariant-loop-number : goal.invariant-loop-number
invariant-loop-number l = record {
  so_far : l.places ++ placed_behind l.styles l.outer l.blocks.items l.number (drop l.number l.nodes)
      ≡ all_placed l.styles l.width l.nodes;
  lengths : long (all_used_lengths l.places) ≡ None;
  within : All (IsWithin (l.number * (3 * 2 ^ 24))) l.blocks.items;
}
