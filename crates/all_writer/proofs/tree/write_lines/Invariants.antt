-- what stands there, and the lines to come
use Rattle.std.proofs.Common.{◌≡◌, ◌++◌, drop}
use Rattle.flow_list.specs.TreeText.{tree_text}
use Rattle.tree_lines.specs.Lines.{lines_of}
use Rattle.all_writer.proofs.tree.write_lines.Given as goal

abbrev pub invariant-loop-line : goal.invariant-loop-line
invariant-loop-line l = l.text ++ tree_text (lines_of (drop l.line-index l.line-items))
    ≡ l.fn.front ++ tree_text (lines_of l.line-items)
