-- An element has fewer nodes than those around it.
use Rattle.std.proofs.Common.{◌-◌, ◌≡◌, ◌≤◌, ◌+◌, ◌*◌, ℕ, Option}
use Rattle.html_grammar.specs.Tree.{Forest}
use Rattle.box_data.specs.BoxTree.{construct_from}
use Rattle.box_maker.specs.Standing.{Stands}
use Rattle.box_maker.proofs.constructs.+constructs.Given as goal

abbrev pub decreases-construct_of_element : goal.decreases-construct_of_element
decreases-construct_of_element l = 3 * (l.end - l.k)

abbrev pub decreases-construct_at : goal.decreases-construct_at
decreases-construct_at l = 3 * (l.end - l.k) + 1

abbrev pub decreases-construct_in : goal.decreases-construct_in
decreases-construct_in l = 3 * (l.end - l.k) + 2

abbrev pub invariant-construct_in-loop-at : goal.invariant-construct_in-loop-at
invariant-construct_in-loop-at l = record {
  above : l.k ≤ l.at;
  left : (parent : Option ℕ) (forest : Forest) → Stands l.source.nodes.now l.source.ends.now parent l.k l.end forest →
      (rest : Forest) × Stands l.source.nodes.now l.source.ends.now parent l.at l.end rest
      × (construct_from l.source.styles.now l.around_is_block l.k forest
      ≡ construct_from l.source.styles.now l.around_is_block l.at rest);
}

abbrev pub decreases-construct_in-loop-at : goal.decreases-construct_in-loop-at
decreases-construct_in-loop-at l = l.end - l.at
