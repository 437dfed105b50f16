use Rattle.std.proofs.Common.{◌≡◌, ◌++◌, take, flat_map, map}
use Rattle.flow_data.specs.Across.{place_of}
use Rattle.flow_data.specs.Soundness.{held_in}
use Rattle.flow_data.proofs.across.push_places.Given as goal

abbrev pub invariant-loop-item : goal.invariant-loop-item
invariant-loop-item l = l.places.items ≡ l.initial.places.items ++ map (place_of l.left l.depth)
    (flat_map (held_in l.parts) (take l.item-index l.items))
