use Rattle.std.proofs.Common.{◌≡◌, length}
use Rattle.frag_pool.specs.Nodes.{SameTrial}
use Rattle.container_layout.specs.Laid.{AreLaidStacks}
use Rattle.container_layout.proofs.stack.lay_stacks.Given as goal

abbrev pub invariant-loop-number : goal.invariant-loop-number
invariant-loop-number l = record {
  stacks : AreLaidStacks l.flows l.pool l.stacks;
  count : length l.stacks ≡ l.number;
  pool : SameTrial l.fn.pool l.pool;
}
