-- An element has fewer nodes than those around it.
use Rattle.std.proofs.Common.{◌-◌, ◌≡◌, ◌≤◌, ◌+◌, ◌*◌, ◌++◌, ℕ, Option}
use Rattle.html_grammar.specs.Tree.{Forest}
use Rattle.box_data.specs.BoxTree.{shown_from}
use Rattle.box_maker.specs.Standing.{Stands}
use Rattle.box_maker.proofs.shown.+shown.Given as goal

abbrev pub decreases-push_node : goal.decreases-push_node
decreases-push_node l = 2 * (l.end - l.k)

abbrev pub decreases-push_shown : goal.decreases-push_shown
decreases-push_shown l = 2 * (l.end - l.k) + 1

abbrev pub invariant-push_shown-loop-at : goal.invariant-push_shown-loop-at
invariant-push_shown-loop-at l = record {
  above : l.k ≤ l.at;
  made : (parent : Option ℕ) (forest : Forest) → Stands l.source.nodes.now l.source.ends.now parent l.k l.end forest →
      (rest : Forest) × Stands l.source.nodes.now l.source.ends.now parent l.at l.end rest
      × (l.shown ++ shown_from l.source.styles.now l.at rest ≡ l.fn.shown ++ shown_from l.source.styles.now l.k forest);
}

abbrev pub decreases-push_shown-loop-at : goal.decreases-push_shown-loop-at
decreases-push_shown-loop-at l = l.end - l.at
