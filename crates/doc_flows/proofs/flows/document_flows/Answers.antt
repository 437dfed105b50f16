use Rattle.std.proofs.Common.{◌≡◌, ◌⊎◌, ◌∙◌, subst}
use Rattle.std.specs.Prelude.{IfOk, IfErr}
use Rattle.mc_base.specs.declared.refusal.Refusal.TheVariants as refusals
use Rattle.doc_flows.specs.Parts.{read_as}
use Rattle.doc_flows.specs.Trees.{TreeSays, RefusesTree}
use Rattle.doc_flows.proofs.Laid.{document_says, document_refused}
use Rattle.doc_flows.proofs.flows.document_flows.Goals as goal

pub returns-clause-flows : goal.returns-clause-flows
returns-clause-flows c =
    let r = read_as c.in_ok-dom.field-0 in
    document_says c.args.document.now c.args.sheet.now c.args.metrics.now c.args.width c.args.height r c.in_ok-dom.ensures.read
    (λ d. d) c.tree_flows.result
    (subst (λ sheets. IfOk c.tree_flows.result (TreeSays r.dom sheets r.faces c.args.width c.args.height))
    (c.as_slice.ensures ∙ c.in_ok-sheets.ensures) c.tree_flows.ensures.flows)

pub returns-clause-refused : goal.returns-clause-refused
returns-clause-refused c =
    let r = read_as c.in_ok-dom.field-0 in
    document_refused c.args.document.now c.args.sheet.now c.args.metrics.now c.args.width c.args.height r c.in_ok-dom.ensures.read
    c.tree_flows.result
    (subst (λ sheets. IfErr c.tree_flows.result (λ e. (e ≡ refusals.NoMemory)
    ⊎ RefusesTree r.dom sheets r.faces c.args.width c.args.height e))
    (c.as_slice.ensures ∙ c.in_ok-sheets.ensures) c.tree_flows.ensures.refused)
