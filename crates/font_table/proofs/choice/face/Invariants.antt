use Rattle.std.proofs.Common.{◌≡◌, drop}
use Rattle.font_table.specs.Choice.{chosen}
use Rattle.font_table.proofs.choice.face.Given as goal

abbrev pub invariant-loop-family : goal.invariant-loop-family
invariant-loop-family l = chosen l.faces (drop l.family-index l.families) l.weight l.italic
    ≡ chosen l.faces l.families l.weight l.italic
