use Rattle.std.proofs.Common.{◌≡◌, map, take}
use Rattle.box_style.specs.Styles.{entry_style}
use Rattle.box_style.proofs.all.box_styles.Given as goal

abbrev pub invariant-loop-entry : goal.invariant-loop-entry
invariant-loop-entry l = l.all ≡ map entry_style (take l.entry-index l.entries)
