use Rattle.std.proofs.Common.{◌≡◌, ◌+◌, ◌≤◌, drop}
use Rattle.css_tokens.specs.Facts.{front_len}
use Rattle.css_tokens.specs.Stops.{stops_at}
use Rattle.css_tokens.proofs.depth.front_len.Given as goal

abbrev pub invariant-loop-i : goal.invariant-loop-i
invariant-loop-i l = record {
  so_far : l.i + front_len (stops_at l.stop) l.depth (drop l.i l.lexemes) ≡ front_len (stops_at l.stop) 0 l.lexemes;
  few : l.depth ≤ l.i;
}
