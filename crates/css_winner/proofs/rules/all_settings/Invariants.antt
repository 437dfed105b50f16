use Rattle.std.proofs.Common.{◌≡◌, ◌∷◌, take}
use Rattle.css_winner.specs.Rules.{all_settings}
use Rattle.css_winner.proofs.rules.all_settings.Given as goal

abbrev pub invariant-loop-sheet : goal.invariant-loop-sheet
invariant-loop-sheet l = l.found ≡ all_settings (l.built_in ∷ take l.sheet-index l.sheets)
