use Rattle.std.proofs.Common.{ℕ, ◌++◌, subst, arith, length, ◌≡◌}
use Rattle.flow_data.specs.Flows.{flow_of}
use Rattle.row_flags.specs.Asking.{AreFlags, asking_in, box_asks}
use Rattle.row_flags.proofs.Flagging.{next-item}
use Rattle.row_flags.proofs.flag_flow.Goals as goal

pub loop-k-preserved : goal.loop-k-preserved
loop-k-preserved c = record {
  across = c.in_ok-pass_tail.ensures;
  count = c.flag_item.ensures.count;
  flags = λ rows has. next-item c.args.flows.now (box_asks c.args.styles.now c.args.boxes.now)
      (flow_of c.args.flows.now c.args.flow) c.loop-k.k rows c.flag_item.new.flags.items
      (c.flag_item.ensures.flags _ (c.loop-k.invariant.flags rows has));
}

pub returns-clause-flags : goal.returns-clause-flags
returns-clause-flags c = λ rows has.
    let n = c.item_count-count.ensures in
    let a = c.loop-k.auto.k-end in
    let t = c.loop-k-test.false in
    let end : c.loop-k.k ≡ length (flow_of c.args.flows.now c.args.flow).items = omega arith in
    let P : ℕ → Type 0 = λ k. AreFlags c.args.flows.now
    (rows ++ asking_in (box_asks c.args.styles.now c.args.boxes.now) (flow_of c.args.flows.now c.args.flow) k)
    c.loop-k.flags.items in
    subst P end (c.loop-k.invariant.flags rows has)
