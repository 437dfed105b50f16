-- what was found, and the lines to come
use Rattle.std.proofs.Common.{◌≡◌, ◌++◌, drop, filter}
use Rattle.hit_index.specs.declared.mark.Leaf.{Leaf}
use Rattle.hit_index.specs.Scan.{leaves_from, meets, numbers_of, within}
use Rattle.hit_index.proofs.index.Index.within.Given as goal

abbrev pub invariant-loop-n : goal.invariant-loop-n
invariant-loop-n l =
    l.leaves ++ numbers_of (filter (λ (leaf : Leaf). meets leaf.rect l.rect) (leaves_from l.n (drop l.n l.marks)))
    ≡ within l.marks l.rect
