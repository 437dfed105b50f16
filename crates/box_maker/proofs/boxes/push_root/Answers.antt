use Rattle.std.proofs.Common.{◌≡◌, ◌<◌, ◌≤◌, ◌++◌, true, length, sym, ap, ◌∙◌, arith, append-nil, Some, None}
use Rattle.std.specs.Prelude.{slice_get}
use Rattle.html_grammar.specs.declared.dom.NodeKind.TheVariants as kinds
use Rattle.box_data.specs.Styles.{style_of}
use Rattle.box_data.specs.BoxTree.{Boxes, Node, box_nodes, boxes_of, is_shown, with_characters}
use Rattle.box_maker.proofs.Standing.{ends-here, stands-over, element-first, words-first, none-over}
use Rattle.box_maker.proofs.Blocks.{root-first}
use Rattle.box_maker.proofs.Walks.{on-ok}
use Rattle.box_maker.proofs.boxes.push_root.Goals as goal

pub returns-then-count-eq0 : goal.returns-then-count-eq0
returns-then-count-eq0 c = λ forest s.
    let d = c.args.source.now in
    let out = c.args.out.now in
    let le : c.args.count ≤ 0 = omega arith in
    let over = stands-over d.nodes.now d.ends.now None 0 c.args.count forest s le in
    sym (append-nil out) ∙ ap (λ f. out ++ box_nodes None (length out) (boxes_of d.styles.now (with_characters f))) (sym over)

pub returns-in-Element : goal.returns-in-Element
returns-in-Element c = λ forest s.
    let d = c.args.source.now in
    let out = c.args.out.now in
    let name = c.as_slice.result.now in
    let attributes = c.as_slice-in-Element.result.now in
    let node = c.in-Some.node.now in
    let lt : 0 < c.args.count = omega arith in
    let e = ends-here d.nodes.now d.ends.now None 0 c.args.count forest c.after-end.result s lt c.after-end.ensures.exact in
    let is : slice_get d.nodes.now 0 ≡ Some node = sym c.in-Some.ensures in
    let kind : node.kind ≡ kinds.Element name attributes = rw (c.as_slice.ensures, c.as_slice-in-Element.ensures)
    c.in-Element.is in
    let shown : is_shown (style_of d.styles.now 0) ≡ true = sym c.if-not-is_shown_at.ensures in
    let w = element-first d.nodes.now d.ends.now None 0 c.args.count c.after-end.result forest node name attributes s lt is kind
    e in
    let whole = root-first d.nodes.now d.ends.now d.styles.now c.args.count c.after-end.result forest node.offset name
    attributes w shown in
    on-ok c.push_element.result _ _ (λ made. made ∙ ap (λ (b : Boxes Node). out ++ box_nodes None (length out) b) (sym whole))
    (c.push_element.ensures w.kids w.inside)

pub returns-in-Words : goal.returns-in-Words
returns-in-Words c = λ forest s.
    let d = c.args.source.now in
    let out = c.args.out.now in
    let text = c.in-Words.text in
    let node = c.in-Some.node.now in
    let lt : 0 < c.args.count = omega arith in
    let e = ends-here d.nodes.now d.ends.now None 0 c.args.count forest c.after-end.result s lt c.after-end.ensures.exact in
    let is : slice_get d.nodes.now 0 ≡ Some node = sym c.in-Some.ensures in
    let w = words-first d.nodes.now d.ends.now None 0 c.args.count c.after-end.result forest node text s lt is c.in-Words.is e in
    sym (append-nil out) ∙ ap (λ f. out ++ box_nodes None (length out) (boxes_of d.styles.now (with_characters f))) (sym w.is)

pub returns-in-None : goal.returns-in-None
returns-in-None c = λ forest s.
    let d = c.args.source.now in
    let lt : 0 < c.args.count = omega arith in
    absurd (none-over d.nodes.now d.ends.now None 0 c.args.count forest s lt (sym c.in-None.ensures))
