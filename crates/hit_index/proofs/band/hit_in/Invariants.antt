-- what was found, and the leaves to come
use Rattle.std.proofs.Common.{◌≡◌, drop}
use Rattle.hit_index.specs.Bands.{best, later}
use Rattle.hit_index.proofs.band.hit_in.Given as goal

abbrev pub invariant-loop-leaf : goal.invariant-loop-leaf
invariant-loop-leaf l = later l.found (best l.x l.y (drop l.leaf-index l.leaf-items)) ≡ best l.x l.y l.leaf-items
