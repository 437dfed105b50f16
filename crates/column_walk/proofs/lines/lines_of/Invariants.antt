use Rattle.std.proofs.Common.{◌≡◌, ◌∷◌, take, map}
use Rattle.flow_list.specs.Column.{deeper}
use Rattle.column_walk.specs.Deciding.{first_line}
use Rattle.column_walk.proofs.lines.lines_of.Given as goal

abbrev pub invariant-loop-line : goal.invariant-loop-line
invariant-loop-line l = l.lines ≡ first_line l.spot.overflow l.spot.end l.fn.stop ∷ map deeper (take l.line-index l.inner)
