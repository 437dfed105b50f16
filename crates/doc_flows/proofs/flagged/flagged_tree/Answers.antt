use Rattle.doc_flows.proofs.Laid.{flagged_says, flagged_flags, tree_refused}
use Rattle.doc_flows.proofs.flagged.flagged_tree.Goals as goal

pub returns-in-Ok-clause-flows : goal.returns-in-Ok-clause-flows
returns-in-Ok-clause-flows c =
    let formed = c.requires.formed in
    flagged_says c.args.dom.now c.args.sheets.now c.args.fonts.now c.args.width c.args.height c.in_ok-styles.styles formed.tree
    c.in-Ok.all c.with_flags.result (record { styled = c.in_ok-styles.ensures.styles; nodes = formed.nodes })
    (c.in-Ok.ensures.flows formed.tree formed.nodes) c.with_flags.ensures.same

pub returns-in-Ok-clause-flags : goal.returns-in-Ok-clause-flags
returns-in-Ok-clause-flags c =
    let formed = c.requires.formed in
    flagged_flags c.args.dom.now c.args.sheets.now c.args.fonts.now c.args.width c.args.height c.in_ok-styles.styles formed.tree
    c.in-Ok.all c.with_flags.result (record { styled = c.in_ok-styles.ensures.styles; nodes = formed.nodes })
    (c.in-Ok.ensures.flows formed.tree formed.nodes) c.with_flags.ensures.same c.with_flags.ensures.flags

pub returns-clause-refused : goal.returns-clause-refused
returns-clause-refused c =
    let formed = c.requires.formed in
    tree_refused c.args.dom.now c.args.sheets.now c.args.fonts.now c.args.width c.args.height c.in_ok-styles.styles formed.tree
    c.in-Err.refusal (record { styled = c.in_ok-styles.ensures.styles; nodes = formed.nodes })
    (c.in-Err.ensures.refused formed.tree formed.nodes)
