use Rattle.std.proofs.Common.{◌≡◌, ◌≤◌, drop}
use Rattle.css_values.specs.Values.{significant}
use Rattle.css_values.specs.Shorthands.{line_from, no_line}
use Rattle.css_values.proofs.border.given_line.Given as goal

abbrev pub invariant-loop-token : goal.invariant-loop-token
invariant-loop-token l = record {
  few : l.depth ≤ l.token-index;
  so_far : line_from l.line l.depth (significant (drop l.token-index l.value)) ≡ line_from no_line 0 (significant l.value);
}
