use Rattle.dom_edits.proofs.Classes.{class_of_node}
use Rattle.dom_edits.proofs.Results.{on_ok}
use Rattle.dom_edits.proofs.changing.change_class.Goals as goal

pub returns-clause-ok : goal.returns-clause-ok
returns-clause-ok c =
    on_ok _ _ c.node_classed.result c.node_classed.ensures.ok (λ is. rw (
      is,
      c.index_mut.ensures.value,
      c.of-value.ensures,
      c.in_ok-from_slice.ensures.items,
    ) (class_of_node c.args.value.now c.args.nodes.now.items c.args.start _ c.requires))
