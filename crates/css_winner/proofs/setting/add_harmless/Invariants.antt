use Rattle.std.proofs.Common.{◌≡◌, ◌++◌, drop}
use Rattle.css_winner.specs.Settings.{harmless}
use Rattle.css_winner.proofs.setting.add_harmless.Given as goal

abbrev pub invariant-loop-target : goal.invariant-loop-target
invariant-loop-target l = l.found ++ harmless l.important (drop l.target-index l.targets)
    ≡ l.initial.found ++ harmless l.important l.targets
