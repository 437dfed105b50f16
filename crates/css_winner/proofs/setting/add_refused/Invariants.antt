use Rattle.std.proofs.Common.{◌≡◌, ◌++◌, take}
use Rattle.css_winner.specs.Settings.{refused}
use Rattle.css_winner.proofs.setting.add_refused.Given as goal

abbrev pub invariant-loop-target : goal.invariant-loop-target
invariant-loop-target l = l.found ≡ l.initial.found ++ refused l.important (take l.target-index l.targets) l.name
