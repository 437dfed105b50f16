-- A box has fewer nodes than the boxes around it.
use Rattle.std.proofs.Common.{◌-◌, ◌≡◌, ◌<◌, ◌≤◌, ◌+◌, ◌*◌, true, Some}
use Rattle.html_grammar.specs.Tree.{Forest}
use Rattle.box_data.specs.BoxTree.{boxes_behind, with_characters}
use Rattle.box_maker.specs.Standing.{Stands, starts_block}
use Rattle.box_maker.specs.Parts.{boxes_in, followed_by}
use Rattle.box_maker.proofs.boxes.+boxes.Given as goal

abbrev pub decreases-push_element : goal.decreases-push_element
decreases-push_element l = 3 * (l.end - l.k)

abbrev pub decreases-push_block : goal.decreases-push_block
decreases-push_block l = 3 * (l.end - l.k) + 1

abbrev pub decreases-push_boxes : goal.decreases-push_boxes
decreases-push_boxes l = 3 * (l.end - l.k) + 2

abbrev pub invariant-push_boxes-loop-at : goal.invariant-push_boxes-loop-at
invariant-push_boxes-loop-at l = record {
  above : l.k ≤ l.at;
  within : l.at ≤ l.end;
  block : l.at < l.end → starts_block l.source.nodes.now l.source.styles.now l.at ≡ true;
  made : (forest : Forest) → Stands l.source.nodes.now l.source.ends.now (Some l.parent) l.k l.end forest →
      (rest : Forest) × Stands l.source.nodes.now l.source.ends.now (Some l.parent) l.at l.end rest
      × (followed_by l.number l.out (boxes_behind l.source.styles.now l.parent l.at (with_characters rest))
      ≡ followed_by l.number l.fn.out (boxes_in l.source.styles.now l.parent l.k forest));
}

abbrev pub decreases-push_boxes-loop-at : goal.decreases-push_boxes-loop-at
decreases-push_boxes-loop-at l = l.end - l.at
