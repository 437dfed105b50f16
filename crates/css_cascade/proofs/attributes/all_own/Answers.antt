use Rattle.std.proofs.Common.{length, inl, inr, map, refl, sym, ap, subst, ◌∙◌}
use Rattle.std.proofs.lemmas.List.{take_all}
use Rattle.std.proofs.lemmas.Option.{slice_get_read}
use Rattle.css_winner.specs.Own.{own_settings}
use Rattle.css_cascade.specs.Attributes.{read_as, IsFirstFault}
use Rattle.css_cascade.proofs.AttributeLemmas.{fault_is_first, was_read, read_more}
use Rattle.css_cascade.proofs.attributes.all_own.Goals as goal

pub loop-node-init : goal.loop-node-init
loop-node-init c = ap (map read_as) c.new-found.ensures

pub returns-in-Err-clause-refused : goal.returns-in-Err-clause-refused
returns-in-Err-clause-refused c = elim c.in-Err.ensures [
  | inl memory ↦ inl cc
  | inr e ↦
      let nodes = c.as_slice-nodes.result.now in
      let at = slice_get_read nodes (length nodes) c.loop-node.node-index c.node-item.result refl c.loop-node-test.true
      c.node-item.is in
      inr (subst (λ ns. IsFirstFault ns c.in-Err.refusal) c.as_slice-nodes.ensures
      (fault_is_first c.loop-node.found nodes c.loop-node.node-index c.node-item.result c.in-Err.refusal c.loop-node.invariant at
      (sym e)))
]

pub loop-node-preserved : goal.loop-node-preserved
loop-node-preserved c =
    read_more c.loop-node.found c.as_slice-nodes.result.now c.loop-node.node-index c.node-item.result c.in-Ok.settings
    c.push.new.self
    c.loop-node-test.true c.node-item.is c.loop-node.invariant
    (was_read c.in-Ok.settings (own_settings c.node-item.result) c.in-Ok.ensures) c.in_ok-push-in-Ok.ensures.ok

pub returns-clause-read : goal.returns-clause-read
returns-clause-read c =
    let whole = take_all c.loop-node.node-index c.as_slice-nodes.result.now c.loop-node-test.false in
    c.loop-node.invariant ∙ ap (map own_settings) (whole ∙ c.as_slice-nodes.ensures)
