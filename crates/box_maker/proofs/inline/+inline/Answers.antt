use Rattle.std.proofs.Common.{◌≡◌, ◌<◌, ◌++◌, false, true, sym, ap, ◌∙◌, arith, append-nil, Some}
use Rattle.std.specs.Prelude.{slice_get}
use Rattle.html_grammar.specs.declared.dom.NodeKind.TheVariants as kinds
use Rattle.box_data.specs.BoxTree.{front, with_characters}
use Rattle.box_maker.specs.Standing.{starts_block}
use Rattle.box_maker.proofs.Standing.{ends-here, element-first, words-first, none-over}
use Rattle.box_maker.proofs.Front.{front-over, front-words, front-element}
use Rattle.box_maker.proofs.Walks.{on-ok}
use Rattle.box_maker.proofs.inline.+inline.Goals as goal

pub push_front-loop-at-preserved : goal.push_front-loop-at-preserved
push_front-loop-at-preserved t c = record {
  above = omega (arith, c.after-next.ensures.bounds);
  made = λ forest s.
      let d = c.args.source.now in
      let w = c.loop-at.invariant.made forest s in
      let lt : c.loop-at.at < c.args.end = c.loop-at-test.true in
      let e = ends-here d.nodes.now d.ends.now (Some c.args.parent) c.loop-at.at c.args.end w.0 c.after-next.result w.1 lt
      c.after-next.ensures.exact in
      let free : starts_block d.nodes.now d.styles.now c.loop-at.at ≡ false = sym c.if-not-starts_block.ensures in
      let p = c.in_ok-push_node.ensures c.args.end w.0 w.1 lt e free in
      (p.0, p.1, p.2 ∙ w.2);
}

pub push_front-returns-else-not-starts_block : goal.push_front-returns-else-not-starts_block
push_front-returns-else-not-starts_block t c = λ forest s.
    let d = c.args.source.now in
    let w = c.loop-at.invariant.made forest s in
    let starts : starts_block d.nodes.now d.styles.now c.loop-at.at ≡ true = sym c.if-not-starts_block.ensures in
    let over = front-over d.nodes.now d.ends.now d.styles.now c.args.parent c.loop-at.at c.args.end w.0 w.1 (λ lt. starts) in
    sym (append-nil c.loop-at.pieces.items) ∙ ap (λ xs. c.loop-at.pieces.items ++ xs) (sym over) ∙ w.2

pub push_front-returns-after-loop-at : goal.push_front-returns-after-loop-at
push_front-returns-after-loop-at t c = λ forest s.
    let d = c.args.source.now in
    let w = c.loop-at.invariant.made forest s in
    let over = front-over d.nodes.now d.ends.now d.styles.now c.args.parent c.loop-at.at c.args.end w.0 w.1 (λ lt. absurd (omega
    arith)) in
    sym (append-nil c.loop-at.pieces.items) ∙ ap (λ xs. c.loop-at.pieces.items ++ xs) (sym over) ∙ w.2

pub push_node-returns-in-Element : goal.push_node-returns-in-Element
push_node-returns-in-Element t c = λ last forest s lt e free.
    let d = c.args.source.now in
    let name = c.as_slice.result.now in
    let attributes = c.as_slice-in-Element.result.now in
    let node = c.in-Some.node.now in
    let old = c.args.pieces.now.items in
    let is : slice_get d.nodes.now c.args.k ≡ Some node = sym c.in-Some.ensures in
    let kind : node.kind ≡ kinds.Element name attributes = rw (c.as_slice.ensures, c.as_slice-in-Element.ensures)
    c.in-Element.is in
    let w = element-first d.nodes.now d.ends.now (Some c.args.parent) c.args.k last c.args.end forest node name attributes s lt
    is kind e in
    let v = front-element d.nodes.now d.ends.now d.styles.now c.args.parent c.args.k last c.args.end forest node.offset name
    attributes old s w free in
    on-ok c.push_element.result _ _ (λ made. (
      v.0,
      v.1,
      ap (λ xs. xs ++ front d.styles.now c.args.parent c.args.end (with_characters v.0)) made ∙ v.2,
    )) (c.push_element.ensures w.kids w.inside)

pub push_node-returns-in-Words : goal.push_node-returns-in-Words
push_node-returns-in-Words t c = λ last forest s lt e free.
    let d = c.args.source.now in
    let text = c.as_slice-in-Words.result.now in
    let node = c.in-Some.node.now in
    let old = c.args.pieces.now.items in
    let is : slice_get d.nodes.now c.args.k ≡ Some node = sym c.in-Some.ensures in
    let kind : node.kind ≡ kinds.Words text = rw c.as_slice-in-Words.ensures c.in-Words.is in
    let w = words-first d.nodes.now d.ends.now (Some c.args.parent) c.args.k last c.args.end forest node text s lt is kind e in
    let v = front-words d.nodes.now d.ends.now d.styles.now c.args.parent c.args.k last c.args.end forest text old w in
    on-ok c.push_text.result _ _ (λ made. (
      v.0,
      v.1,
      ap (λ xs. xs ++ front d.styles.now c.args.parent c.args.end (with_characters v.0)) made ∙ v.2,
    )) (c.push_text.ensures w.utf8)

pub push_node-returns-in-None : goal.push_node-returns-in-None
push_node-returns-in-None t c = λ last forest s lt e free.
    let d = c.args.source.now in
    absurd (none-over d.nodes.now d.ends.now (Some c.args.parent) c.args.k last forest s lt (sym c.in-None.ensures))
