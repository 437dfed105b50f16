-- An element has fewer nodes than those around it.
use Rattle.std.proofs.Common.{◌-◌, ◌≡◌, ◌≤◌, ◌+◌, ◌*◌, ◌++◌, Some}
use Rattle.html_grammar.specs.Tree.{Forest}
use Rattle.box_data.specs.BoxTree.{front, with_characters}
use Rattle.box_maker.specs.Standing.{Stands}
use Rattle.box_maker.proofs.inline.+inline.Given as goal

abbrev pub decreases-push_element : goal.decreases-push_element
decreases-push_element l = 3 * (l.end - l.k)

abbrev pub decreases-push_node : goal.decreases-push_node
decreases-push_node l = 3 * (l.end - l.k) + 1

abbrev pub decreases-push_front : goal.decreases-push_front
decreases-push_front l = 3 * (l.end - l.k) + 2

abbrev pub invariant-push_front-loop-at : goal.invariant-push_front-loop-at
invariant-push_front-loop-at l = record {
  above : l.k ≤ l.at;
  made : (forest : Forest) → Stands l.source.nodes.now l.source.ends.now (Some l.parent) l.k l.end forest →
      (rest : Forest) × Stands l.source.nodes.now l.source.ends.now (Some l.parent) l.at l.end rest
      × (l.pieces.items ++ front l.source.styles.now l.parent l.at (with_characters rest)
      ≡ l.fn.pieces.items ++ front l.source.styles.now l.parent l.k (with_characters forest));
}

abbrev pub decreases-push_front-loop-at : goal.decreases-push_front-loop-at
decreases-push_front-loop-at l = l.end - l.at
