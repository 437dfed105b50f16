use Rattle.std.proofs.Common.{◌≡◌, map, take}
use Rattle.kept_lines.specs.Same.{styled}
use Rattle.kept_lines.proofs.alike.same_pieces.Given as goal

abbrev pub invariant-loop-number : goal.invariant-loop-number
invariant-loop-number l = map (styled l.styles) (take l.number l.pieces) ≡ map (styled l.more) (take l.number l.others)
