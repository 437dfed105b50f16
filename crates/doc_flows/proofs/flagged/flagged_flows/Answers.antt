use Rattle.std.proofs.Common.{◌≡◌, ◌⊎◌, ◌∙◌, subst}
use Rattle.std.specs.Prelude.{IfOk, IfErr}
use Rattle.mc_base.specs.declared.refusal.Refusal.TheVariants as refusals
use Rattle.doc_flows.specs.Flags.{HasTreeFlags}
use Rattle.doc_flows.specs.Parts.{read_as}
use Rattle.doc_flows.specs.Trees.{TreeSays, RefusesTree}
use Rattle.doc_flows.proofs.Laid.{document_says, document_flags, document_refused}
use Rattle.doc_flows.proofs.flagged.flagged_flows.Goals as goal

pub returns-clause-flows : goal.returns-clause-flows
returns-clause-flows c =
    let r = read_as c.in_ok-dom.field-0 in
    document_says c.args.document.now c.args.sheet.now c.args.metrics.now c.args.width c.args.height r c.in_ok-dom.ensures.read
    (λ all. all.flows) c.flagged_tree.result
    (subst (λ sheets. IfOk c.flagged_tree.result (λ all. TreeSays r.dom sheets r.faces c.args.width c.args.height all.flows))
    (c.as_slice.ensures ∙ c.in_ok-sheets.ensures) c.flagged_tree.ensures.flows)

pub returns-clause-flags : goal.returns-clause-flags
returns-clause-flags c =
    let r = read_as c.in_ok-dom.field-0 in
    document_flags c.args.document.now c.args.sheet.now c.args.metrics.now r c.in_ok-dom.ensures.read c.flagged_tree.result
    (subst (λ sheets. IfOk c.flagged_tree.result (λ all. HasTreeFlags r.dom sheets all.flows all.flags))
    (c.as_slice.ensures ∙ c.in_ok-sheets.ensures) c.flagged_tree.ensures.flags)

pub returns-clause-refused : goal.returns-clause-refused
returns-clause-refused c =
    let r = read_as c.in_ok-dom.field-0 in
    document_refused c.args.document.now c.args.sheet.now c.args.metrics.now c.args.width c.args.height r c.in_ok-dom.ensures.read
    c.flagged_tree.result
    (subst (λ sheets. IfErr c.flagged_tree.result (λ e. (e ≡ refusals.NoMemory)
    ⊎ RefusesTree r.dom sheets r.faces c.args.width c.args.height e))
    (c.as_slice.ensures ∙ c.in_ok-sheets.ensures) c.flagged_tree.ensures.refused)
