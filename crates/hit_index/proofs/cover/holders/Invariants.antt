-- what was found, and the leaves to come
use Rattle.std.proofs.Common.{◌≡◌, [], drop}
use Rattle.hit_index.specs.Cover.{holders_after}
use Rattle.hit_index.proofs.cover.holders.Given as goal

abbrev pub invariant-loop-leaf : goal.invariant-loop-leaf
invariant-loop-leaf l = holders_after l.numbers (drop l.leaf-index l.held) ≡ holders_after [] l.held
