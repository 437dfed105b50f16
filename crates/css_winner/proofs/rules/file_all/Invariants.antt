use Rattle.std.proofs.Common.{◌≡◌, ◌+◌, ◌<◌, ℕ, ◌∷◌, Some}
use Rattle.std.specs.Prelude.{slice_get}
use Rattle.css_data.specs.declared.rule.Sheet.{Sheet}
use Rattle.css_winner.specs.Filing.{IsSound}
use Rattle.css_winner.specs.Rules.{HasFiled}
use Rattle.css_winner.proofs.rules.file_all.Given as goal

abbrev pub invariant-loop-number : goal.invariant-loop-number
invariant-loop-number l = record {
  sound : IsSound l.filing;
  filed : (s : ℕ) (sheet : Sheet) → s < l.number + 1 → slice_get (l.built_in ∷ l.sheets) s ≡ Some sheet
      → HasFiled l.filing s sheet.rules;
}
