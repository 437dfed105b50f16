-- what stands there, and what is to come
use Rattle.std.proofs.Common.{◌≡◌, ◌++◌, drop}
use Rattle.hit_index.specs.Cover.{covered}
use Rattle.hit_index.proofs.cover.put_covered.Given as goal

abbrev pub invariant-loop-holder : goal.invariant-loop-holder
invariant-loop-holder l =
    l.rects ++ covered l.held (drop l.holder-index l.holders) ≡ l.initial.rects ++ covered l.held l.holders
