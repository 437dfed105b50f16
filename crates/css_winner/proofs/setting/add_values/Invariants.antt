use Rattle.std.proofs.Common.{◌≡◌, ◌++◌}
use Rattle.css_winner.specs.Settings.{valued}
use Rattle.css_winner.proofs.setting.add_values.Given as goal

abbrev pub invariant-loop-longhand : goal.invariant-loop-longhand
invariant-loop-longhand l = l.found ≡ l.initial.found ++ valued l.important l.yielded
