use Rattle.std.proofs.Common.{◌≡◌, ◌<◌, sym, ap, ◌∙◌, arith, append-nil, Some}
use Rattle.std.specs.Prelude.{slice_get}
use Rattle.html_grammar.specs.declared.dom.NodeKind.TheVariants as kinds
use Rattle.box_data.specs.BoxTree.{boxes_behind, with_characters}
use Rattle.box_maker.specs.Parts.{followed_by}
use Rattle.box_maker.proofs.Standing.{ends-here, stands-over, element-first}
use Rattle.box_maker.proofs.Blocks.{block-first}
use Rattle.box_maker.proofs.Walks.{on-ok}
use Rattle.box_maker.proofs.boxes.+boxes.Goals as goal

pub push_block-returns-in-Element : goal.push_block-returns-in-Element
push_block-returns-in-Element t c = λ parent last forest s lt e starts.
    let d = c.args.source.now in
    let name = c.as_slice.result.now in
    let attributes = c.as_slice-in-Element.result.now in
    let node = c.in-Some.node.now in
    let is : slice_get d.nodes.now c.args.k ≡ Some node = sym c.in-Some.ensures in
    let kind : node.kind ≡ kinds.Element name attributes = rw (c.as_slice.ensures, c.as_slice-in-Element.ensures)
    c.in-Element.is in
    let w = element-first d.nodes.now d.ends.now (Some parent) c.args.k last c.args.end forest node name attributes s lt is kind
    e in
    on-ok c.push_element.result _ _ (λ made. block-first d.nodes.now d.ends.now d.styles.now parent c.args.k last c.args.end
    forest node.offset name attributes
    c.args.number c.args.out.now c.push_element.new.out s w starts made) (c.push_element.ensures w.kids w.inside)

pub push_boxes-loop-at-preserved : goal.push_boxes-loop-at-preserved
push_boxes-loop-at-preserved t c = record {
  above = omega (arith, c.after-next.ensures.bounds, c.in_ok-at-2.ensures.bounds);
  within = omega (arith, c.after-next.ensures.bounds, c.in_ok-at-2.ensures.bounds);
  block = c.in_ok-at-2.ensures.block;
  made = λ forest s.
      let d = c.args.source.now in
      let w = c.loop-at.invariant.made forest s in
      let lt : c.loop-at.at < c.args.end = c.loop-at-test.true in
      let e = ends-here d.nodes.now d.ends.now (Some c.args.parent) c.loop-at.at c.args.end w.0 c.after-next.result w.1 lt
      c.after-next.ensures.exact in
      let p = c.in_ok-push_block.ensures c.args.parent c.args.end w.0 w.1 lt e (c.loop-at.invariant.block lt) in
      let q = c.in_ok-at-2.ensures.boxes p.0 p.1 in
      (q.0, q.1, q.2 ∙ p.2 ∙ w.2);
}

pub push_boxes-returns : goal.push_boxes-returns
push_boxes-returns t c = λ forest s.
    let d = c.args.source.now in
    let w = c.loop-at.invariant.made forest s in
    let over = stands-over d.nodes.now d.ends.now (Some c.args.parent) c.loop-at.at c.args.end w.0 w.1 c.loop-at-test.false in
    sym (append-nil c.loop-at.out)
    ∙ ap (λ f. followed_by c.args.number c.loop-at.out (boxes_behind d.styles.now c.args.parent c.loop-at.at (with_characters
    f))) (sym over) ∙ w.2
