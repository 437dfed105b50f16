-- the last so far
use Rattle.std.proofs.Common.{◌≡◌, take}
use Rattle.std.specs.Prelude.{option_map}
use Rattle.tree_lines.specs.Lines.{line_of, lines_of}
use Rattle.mc_draw.specs.Shapes.{last_above}
use Rattle.mc_draw.proofs.rules.last_above.Given as goal

abbrev pub invariant-loop-line : goal.invariant-loop-line
invariant-loop-line l = option_map (λ x. line_of x.now) l.last ≡ last_above l.depth (lines_of (take l.line-index l.lines))
