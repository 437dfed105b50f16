-- what stands there, and the lines to come
use Rattle.std.proofs.Common.{◌≡◌, ◌++◌, drop}
use Rattle.tree_lines.specs.Lines.{lines_of}
use Rattle.page_views.specs.Views.{numbered_text}
use Rattle.page_views.proofs.point.numbered_text.Given as goal

abbrev pub invariant-loop-number : goal.invariant-loop-number
invariant-loop-number l =
    l.text ++ numbered_text (lines_of l.lines) (drop l.number-index l.numbers) ≡ numbered_text (lines_of l.lines) l.numbers
