use Rattle.std.proofs.Common.{◌≡◌, ◌+◌, drop, sym, subst}
use Rattle.std.specs.Prelude.{Ok}
use Rattle.std.proofs.lemmas.List.{take_rest}
use Rattle.css_syntax.specs.Answers.{IsUnlessMemory}
use Rattle.doc_sheets.specs.Own.{node_part, own_from, own_of}
use Rattle.doc_sheets.proofs.OwnLemmas.{before, only_ok, part_step}
use Rattle.doc_sheets.proofs.own.own_sheets.Goals as goal

pub loop-number-preserved : goal.loop-number-preserved
loop-number-preserved c =
    let text = c.args.text.now in
    let nodes = c.as_slice-nodes.result.now in
    let n = c.loop-number.number in
    let node = c.index-nodes-number.result in
    let answer = subst (λ after. IsUnlessMemory (Ok c.in-Ok.part) (node_part text n node after)) (take_rest nodes (n + 1))
    c.in-Ok.ensures in
    let is = only_ok c.in-Ok.part (node_part text n node (drop (n + 1) nodes)) answer in
    subst (λ own. before own (own_from text (n + 1) (drop (n + 1) nodes)) ≡ own_of text nodes) (sym c.in_ok-found-in-Ok.ensures)
    (part_step text nodes n node c.loop-number.found c.in-Ok.part c.loop-number-test.true c.index-nodes-number.is is
    c.loop-number.invariant)
