use Rattle.doc_flows.proofs.Laid.{tree_says, tree_refused}
use Rattle.doc_flows.proofs.trees.tree_flows.Goals as goal

pub returns-in-Ok-clause-flows : goal.returns-in-Ok-clause-flows
returns-in-Ok-clause-flows g c =
    let formed = c.requires.formed in
    tree_says c.args.dom.now c.args.sheets.now c.args.fonts.now c.args.width c.args.height c.in_ok-styles.styles formed.tree
    c.in-Ok.all
    (record { styled = c.in_ok-styles.ensures.styles; nodes = formed.nodes }) (c.in-Ok.ensures.flows formed.tree formed.nodes)

pub returns-clause-refused : goal.returns-clause-refused
returns-clause-refused g c =
    let formed = c.requires.formed in
    tree_refused c.args.dom.now c.args.sheets.now c.args.fonts.now c.args.width c.args.height c.in_ok-styles.styles formed.tree
    c.in-Err.refusal (record { styled = c.in_ok-styles.ensures.styles; nodes = formed.nodes })
    (c.in-Err.ensures.refused formed.tree formed.nodes)
