use Rattle.std.proofs.Common.{◌≡◌, take}
use Rattle.css_winner.specs.Rules.{rules_settings}
use Rattle.css_winner.proofs.rules.sheet_settings.Given as goal

abbrev pub invariant-loop-rule : goal.invariant-loop-rule
invariant-loop-rule l = l.found ≡ rules_settings (take l.rule-index l.rules)
