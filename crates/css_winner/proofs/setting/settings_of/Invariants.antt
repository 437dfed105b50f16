use Rattle.std.proofs.Common.{◌≡◌, ◌++◌, drop}
use Rattle.css_winner.specs.Settings.{settings_of}
use Rattle.css_winner.proofs.setting.settings_of.Given as goal

abbrev pub invariant-loop-declaration : goal.invariant-loop-declaration
invariant-loop-declaration l = l.found ++ settings_of (drop l.declaration-index l.declarations) ≡ settings_of l.declarations
