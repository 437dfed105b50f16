-- what stands there, and the shapes of the lines to come
use Rattle.std.proofs.Common.{◌≡◌, ◌++◌, drop, take, []}
use Rattle.tree_lines.specs.Lines.{lines_of}
use Rattle.mc_draw.specs.Shapes.{shapes_after}
use Rattle.mc_draw.proofs.shapes.put_lines.Given as goal

abbrev pub invariant-loop-i : goal.invariant-loop-i
invariant-loop-i l =
    l.shapes ++ shapes_after l.flows l.rule (lines_of (take l.i l.lines)) (lines_of (drop l.i l.lines))
    ≡ l.initial.shapes ++ shapes_after l.flows l.rule [] (lines_of l.lines)
