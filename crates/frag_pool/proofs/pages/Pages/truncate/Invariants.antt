use Rattle.std.proofs.Common.{◌≡◌, ◌≤◌, length, take}
use Rattle.frag_pool.specs.Pages.{AreFull, paged}
use Rattle.frag_pool.proofs.pages.Pages.truncate.Given as goal

abbrev pub invariant-loop-self : goal.invariant-loop-self
invariant-loop-self l = record {
  full : AreFull l.self-inside.stack.full.items;
  last : length l.self-inside.stack.last.items ≤ 256;
  long : l.fn.count ≤ length (paged l.self-inside.stack.full.items l.self-inside.stack.last.items);
  same : take l.fn.count (paged l.self-inside.stack.full.items l.self-inside.stack.last.items)
      ≡ take l.fn.count l.fn.self;
}

abbrev pub decreases-loop-self : goal.decreases-loop-self
decreases-loop-self l = length l.self-inside.stack.full.items
