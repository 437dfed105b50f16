-- what was found, and the lines to come
use Rattle.std.proofs.Common.{◌≡◌, ◌++◌, drop}
use Rattle.hit_index.specs.Cover.{held_from, held_between}
use Rattle.hit_index.proofs.cover.held_between.Given as goal

abbrev pub invariant-loop-n : goal.invariant-loop-n
invariant-loop-n l = l.held ++ held_from l.marks l.from l.to l.n (drop l.n l.marks) ≡ held_between l.marks l.from l.to
