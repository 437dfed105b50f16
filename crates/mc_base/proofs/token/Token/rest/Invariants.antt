use Rattle.std.proofs.Common.{◌≡◌, ◌≤◌, length, take}
use Rattle.mc_base.proofs.token.Token.rest.Given as goal

abbrev pub invariant-loop-number : goal.invariant-loop-number
invariant-loop-number l = record {
  so_far : l.rest.items ≡ take l.number-index l.number-items;
  room : l.rest.capacity ≡ 4;
  short : length l.number-items ≤ 2;
  index : length l.rest.items ≡ l.number-index;
}
