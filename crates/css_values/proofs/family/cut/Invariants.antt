use Rattle.std.proofs.Common.{◌≡◌, take, false}
use Rattle.std.specs.List.{list_any}
use Rattle.css_values.specs.Families.{is_comma}
use Rattle.css_values.proofs.family.cut.Given as goal

abbrev pub invariant-loop-i : goal.invariant-loop-i
invariant-loop-i l = list_any is_comma (take l.i l.value) ≡ false
