use Rattle.std.proofs.Common.{◌≡◌, drop}
use Rattle.css_syntax.specs.AtRules.{after_dash}
use Rattle.css_syntax.proofs.at_rules.after_dash.Given as goal

abbrev pub invariant-loop-i : goal.invariant-loop-i
invariant-loop-i l = after_dash (drop l.i l.name) ≡ after_dash l.name
