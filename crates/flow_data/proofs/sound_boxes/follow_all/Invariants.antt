use Rattle.std.proofs.Common.{List, ◌++◌, drop, reverse}
use Rattle.std.specs.Prelude.{◌↔◌}
use Rattle.flow_data.specs.Data.{Edge}
use Rattle.flow_data.specs.Soundness.{AreNested}
use Rattle.flow_data.proofs.sound_boxes.follow_all.Given as goal

-- the edges so far left these boxes open
abbrev pub invariant-loop-edge : goal.invariant-loop-edge
invariant-loop-edge l = (rest : List Edge)
    → AreNested (reverse l.fn.inside.items) (l.edges ++ rest) ↔ AreNested (reverse l.inside.items)
    (drop l.edge-index l.edges ++ rest)
