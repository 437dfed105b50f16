-- what is kept of the lines so far, and the lines to come
use Rattle.std.proofs.Common.{◌≡◌, ◌++◌, drop, map}
use Rattle.tree_lines.specs.Lines.{lines_of}
use Rattle.hit_index.specs.Scan.{mark_of}
use Rattle.hit_index.specs.Filling.{IsFilled}
use Rattle.hit_index.proofs.index.Index.of.Given as goal

abbrev pub invariant-loop-line : goal.invariant-loop-line
invariant-loop-line l = record {
  kept : l.marks ++ map mark_of (lines_of (drop l.line-index l.line-items)) ≡ map mark_of (lines_of l.line-items);
  filled : IsFilled l.marks l.filling;
}
