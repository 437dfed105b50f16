use Rattle.std.proofs.Common.{◌≡◌, ◌-◌, ◌≤◌, length}
use Rattle.css_syntax.specs.Rules.{rules_from, no_rules}
use Rattle.css_syntax.proofs.rules.sheet_rules.Given as goal

abbrev pub invariant-loop : goal.invariant-loop
invariant-loop l = record {
  so_far : rules_from (length l.lexemes - l.counter) l.state l.rest ≡ rules_from (length l.lexemes) no_rules l.lexemes;
  count : l.state.count ≤ l.counter;
  off : l.state.off ≤ l.counter;
}
