use Rattle.doc_flows.proofs.Laid.{are_boxes, laid_flows, laid_limit, box_refused}
use Rattle.doc_flows.proofs.trees.laid_out.Goals as goal

pub with_boxes-requires-clause-made : goal.with_boxes-requires-clause-made
with_boxes-requires-clause-made g c =
    let formed = c.requires.formed in (
      formed.tree,
      are_boxes c.args.dom.now c.args.styles.now c.in-Ok.tree formed.tree formed c.requires.size formed.nodes
          (c.in-Ok.ensures.boxes formed.tree formed.nodes).0,
    )

pub returns-in-Ok-clause-flows : goal.returns-in-Ok-clause-flows
returns-in-Ok-clause-flows g c tree nodes =
    let made = c.in-Ok.ensures.boxes tree nodes in
    laid_flows c.args.fonts.now c.args.styles.now c.args.width c.args.height tree c.in-Ok.tree c.with_boxes.result made.1 made.0
    (c.with_boxes.ensures.flows tree
    (are_boxes c.args.dom.now c.args.styles.now c.in-Ok.tree tree c.requires.formed c.requires.size nodes made.0))
    c.with_boxes.ensures.boxes

pub returns-in-Ok-clause-refused : goal.returns-in-Ok-clause-refused
returns-in-Ok-clause-refused g c tree nodes =
    let made = c.in-Ok.ensures.boxes tree nodes in
    laid_limit c.args.fonts.now c.args.styles.now c.args.width c.args.height tree c.with_boxes.result made.1
    (c.with_boxes.ensures.limit tree
    (are_boxes c.args.dom.now c.args.styles.now c.in-Ok.tree tree c.requires.formed c.requires.size nodes made.0))

pub returns-in-Err-clause-refused : goal.returns-in-Err-clause-refused
returns-in-Err-clause-refused g c tree nodes =
    box_refused c.args.fonts.now c.args.styles.now c.args.width c.args.height tree c.args.dom.now c.in-Err.refusal nodes
    c.in-Err.ensures.refused
