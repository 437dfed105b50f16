use Rattle.std.proofs.Common.{◌≡◌, ◌<◌, ◌≤◌, true, sym, ap, ◌∙◌, arith, Some, None}
use Rattle.std.specs.Prelude.{slice_get}
use Rattle.html_grammar.specs.declared.dom.NodeKind.TheVariants as kinds
use Rattle.box_data.specs.Styles.{style_of}
use Rattle.box_data.specs.BoxTree.{first_construct, is_shown}
use Rattle.box_maker.proofs.Standing.{ends-here, stands-over, element-first}
use Rattle.box_maker.proofs.Walks.{first-of-element}
use Rattle.box_maker.proofs.constructs.first_construct.Goals as goal

pub returns-then-count-eq0 : goal.returns-then-count-eq0
returns-then-count-eq0 c = λ forest s.
    let d = c.args.source.now in
    let le : c.args.count ≤ 0 = omega arith in
    let over = stands-over d.nodes.now d.ends.now None 0 c.args.count forest s le in
    sym (ap (first_construct d.styles.now) over)

pub returns-else-not-is_shown_at : goal.returns-else-not-is_shown_at
returns-else-not-is_shown_at c = λ forest s.
    let d = c.args.source.now in
    let lt : 0 < c.args.count = omega arith in
    let e = ends-here d.nodes.now d.ends.now None 0 c.args.count forest c.after-end.result s lt c.after-end.ensures.exact in
    let is : slice_get d.nodes.now 0 ≡ Some c.in_ok-node.node.now = sym c.in_ok-node.ensures in
    let kind : c.in_ok-node.node.now.kind ≡ kinds.Element c.as_slice.result.now c.as_slice-in-Element.result.now =
    rw (c.as_slice.ensures, c.as_slice-in-Element.ensures) c.in-Element.is in
    let shown : is_shown (style_of d.styles.now 0) ≡ true = sym c.if-not-is_shown_at.ensures in
    let w = element-first d.nodes.now d.ends.now None 0 c.args.count c.after-end.result forest c.in_ok-node.node.now
    c.as_slice.result.now c.as_slice-in-Element.result.now s lt is kind e in
    c.construct_of_element.ensures w.kids w.inside
    ∙ sym (first-of-element d.nodes.now d.ends.now d.styles.now c.args.count c.after-end.result forest
    c.in_ok-node.node.now.offset
    c.as_slice.result.now c.as_slice-in-Element.result.now w shown)
