use Rattle.std.proofs.Common.{◌-◌, ◌≤◌, ℕ, Some}
use Rattle.html_grammar.specs.Tree.{Forest}
use Rattle.box_maker.specs.Standing.{Stands}
use Rattle.box_maker.proofs.Front.{IsSkipped}
use Rattle.box_maker.proofs.boxes.next_block.Given as goal

abbrev pub invariant-loop-at : goal.invariant-loop-at
invariant-loop-at l = record {
  above : l.k ≤ l.at;
  within : l.at ≤ l.end;
  skipped : (parent : ℕ) (forest : Forest) → Stands l.source.nodes.now l.source.ends.now (Some parent) l.k l.end forest →
      IsSkipped l.source.nodes.now l.source.ends.now l.source.styles.now parent l.k l.end l.at forest;
}

abbrev pub decreases-loop-at : goal.decreases-loop-at
decreases-loop-at l = l.end - l.at
