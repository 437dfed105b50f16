use Rattle.std.proofs.Common.{sym, subst}
use Rattle.css_syntax.specs.Answers.{IsUnlessMemory}
use Rattle.css_winner.specs.Own.{own_settings}
use Rattle.doc_sheets.specs.Own.{node_part, kind_part}
use Rattle.doc_sheets.proofs.OwnLemmas.{after_ok, after_err}
use Rattle.doc_sheets.proofs.own.node_part.Goals as goal
use Rattle.doc_sheets.proofs.own.node_part.Goals.{in-Ok, in-Err}

pub returns : goal.returns
unfolding node_part
returns c =
    let node = c.args.node.now in
    let part = kind_part c.args.document.now c.args.number node.offset c.args.after.now node.kind in
    elim c.match-own_settings.branch [
      | in-Ok w ↦
          subst (λ r. IsUnlessMemory r (node_part c.args.document.now c.args.number node c.args.after.now)) (sym w.result-is)
          (after_ok (own_settings node) w.in-Ok.field-0 part w.kind_part.result w.in-Ok.ensures w.kind_part.ensures)
      | in-Err w ↦
          subst (λ r. IsUnlessMemory r (node_part c.args.document.now c.args.number node c.args.after.now)) (sym w.result-is)
          (after_err (own_settings node) w.in-Err.refusal part w.in-Err.ensures)
    ]
