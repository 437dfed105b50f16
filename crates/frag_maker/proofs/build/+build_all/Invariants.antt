use Rattle.std.proofs.Common.{◌≤◌, ◌-◌, length, All}
use Rattle.frag_pool.specs.Nodes.{IsLive}
use Rattle.frag_pool.specs.Growing.{Grows}
use Rattle.frag_maker.proofs.Built.{Built}
use Rattle.frag_maker.proofs.build.+build_all.Given as goal

abbrev pub decreases-build_all : goal.decreases-build_all
decreases-build_all l = length l.placed.now

abbrev pub decreases-loop-i : goal.decreases-loop-i
decreases-loop-i l = length l.placed - l.i

abbrev pub invariant-loop-i : goal.invariant-loop-i
invariant-loop-i l = record {
  bound : l.i ≤ length l.placed;
  grown : Grows l.fn.pool l.pool;
  live : All (IsLive l.pool) l.ids;
  trees : Built l.fn.pool l.pool l.ids l.i l.placed;
}
