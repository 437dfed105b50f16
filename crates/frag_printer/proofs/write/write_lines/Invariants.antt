-- what stands there, and the lines to come
use Rattle.std.proofs.Common.{◌≡◌, ◌≤◌, ◌++◌, drop, length}
use Rattle.flow_list.specs.TreeText.{tree_text}
use Rattle.tree_lines.specs.Lines.{lines_of}
use Rattle.frag_printer.proofs.write.write_lines.Given as goal

abbrev pub invariant-loop-line : goal.invariant-loop-line
invariant-loop-line l = record {
  text : l.text ++ tree_text (lines_of (drop l.line-index l.line-items)) ≡ l.fn.front ++ tree_text (lines_of l.line-items);
  short : length l.text ≤ l.most;
}
