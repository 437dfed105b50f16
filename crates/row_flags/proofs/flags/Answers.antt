use Rattle.std.proofs.Common.{List, ◌++◌, length, subst}
use Rattle.flow_data.specs.Flows.{flow_of}
use Rattle.box_data.specs.declared.tree.BoxNode.{BoxNode}
use Rattle.row_flags.specs.Asking.{AreFlags, asking_in, asking_to, box_asks}
use Rattle.row_flags.proofs.Flagging.{next-flow}
use Rattle.row_flags.proofs.flags.Goals as goal

pub loop-flow-preserved : goal.loop-flow-preserved
loop-flow-preserved c =
    let d = c.args.flows.now in
    let asks = box_asks c.args.styles.now c.args.boxes.now.nodes in
    let P : List BoxNode → Type 0 = λ boxes. AreFlags d (asking_to asks d c.loop-flow.flow
    ++ asking_in (box_asks c.args.styles.now boxes) (flow_of d c.loop-flow.flow) (length (flow_of d c.loop-flow.flow).items))
    c.flag_flow.new.flags.items in
    record {
      count = c.in_ok-flag_flow.ensures.count;
      flags = next-flow d asks c.loop-flow.flow c.flag_flow.new.flags.items
          (subst P c.as_slice.ensures
          (c.in_ok-flag_flow.ensures.flags (asking_to asks d c.loop-flow.flow) c.loop-flow.invariant.flags));
    }
