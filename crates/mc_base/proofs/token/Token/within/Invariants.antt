use Rattle.std.proofs.Common.{◌≡◌, ◌≤◌, ◌∷◌, ◌+◌, length, take}
use Rattle.mc_base.proofs.token.Token.within.Given as goal

abbrev pub invariant-loop-number : goal.invariant-loop-number
invariant-loop-number l = record {
  so_far : l.numbers.items ≡ l.item ∷ take l.number-index l.number-items;
  room : l.numbers.capacity ≡ 4;
  short : length l.number-items ≤ 2;
  index : length l.numbers.items ≡ l.number-index + 1;
}
