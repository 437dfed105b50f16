use Rattle.std.proofs.Common.{◌++◌, drop, reverse, flat_map}
use Rattle.std.specs.Prelude.{◌↔◌}
use Rattle.flow_data.specs.Data.{Seam}
use Rattle.flow_data.specs.Soundness.{AreNested, edges_of}
use Rattle.flow_data.proofs.sound_boxes.are_nested.Given as goal

-- the seams so far left these boxes open
abbrev pub invariant-loop-seam : goal.invariant-loop-seam
invariant-loop-seam l = AreNested (reverse l.fn.flow.opened) (edges_of l.fn.flow) ↔ AreNested (reverse l.inside.items)
    (flat_map (λ (s : Seam). s.tail ++ s.head) (drop l.seam-index l.fn.flow.seams))
