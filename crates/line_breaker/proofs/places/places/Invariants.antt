use Rattle.std.proofs.Common.{◌≡◌, ◌++◌, ◌≤◌, ◌*◌, ◌^◌, drop, All}
use Rattle.line_breaker.specs.Arrays.{places_from, start, IsSmall}
use Rattle.line_breaker.proofs.places.places.Given as goal

abbrev pub invariant-loop-piece : goal.invariant-loop-piece
invariant-loop-piece l = record {
  so_far : l.found.items ++ places_from l.styles l.fonts l.place (drop l.piece-index l.pieces)
      ≡ places_from l.styles l.fonts start l.pieces;
  small : All IsSmall l.found.items;
  hyphen : l.place.hyphen ≤ 10 * 2 ^ 24;
  before : l.place.before ≤ l.piece-index * (10 * 2 ^ 24);
  space : l.place.space ≤ 10 * 2 ^ 24;
  contents : l.place.contents ≤ l.piece-index;
}
