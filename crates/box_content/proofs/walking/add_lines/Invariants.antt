use Rattle.std.proofs.Common.{◌≡◌, ◌++◌, take}
use Rattle.box_content.specs.Walking.{line_marks}
use Rattle.box_content.proofs.walking.add_lines.Given as goal

abbrev pub invariant-loop-index : goal.invariant-loop-index
invariant-loop-index l = l.so_far.items ≡ l.fn.so_far.items ++ line_marks l.place.number 0 (take l.index l.place.lines)
