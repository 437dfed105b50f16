use Rattle.std.proofs.Common.{◌≡◌, ◌<◌, ◌≤◌, ◌∙◌, arith, length, subst, ℕ, ◌++◌}
use Rattle.flow_data.specs.Flows.{flow_of}
use Rattle.container_layout.specs.Found.{HasFound, rows_before}
use Rattle.container_layout.proofs.Rooms.{in-flows}
use Rattle.container_layout.proofs.Tables.{alike, item-goes, none-noted}
use Rattle.container_layout.proofs.find.find_alike.Goals as goal

pub item_count-count-requires : goal.item_count-count-requires
item_count-count-requires c = in-flows c.args.flows.now c.flow_counts-counts.ensures.sound c.args.stack c.requires.stack

pub loop-k-init : goal.loop-k-init
loop-k-init c = record {
  found = λ rows more split has. none-noted c.args.flows.now c.args.stack.bound (flow_of c.args.flows.now c.args.stack.flow) rows
      c.args.table.now.items has;
  table = c.requires.table;
}

pub note_item-requires-clause-available : goal.note_item-requires-clause-available
note_item-requires-clause-available c = alike c.args.stack.bound c.requires.alike 0 _

pub loop-k-preserved : goal.loop-k-preserved
loop-k-preserved c =
    let f = flow_of c.args.flows.now c.args.stack.flow in
    let n = c.item_count-count.ensures in
    let t = c.loop-k-test.true in
    let lt : c.loop-k.k < length f.items = omega arith in
    record {
      found = λ rows more split has. item-goes c.args.flows.now c.args.stack.bound f c.loop-k.k lt rows more c.loop-k.table.items
          c.note_item.new.table.items split (c.loop-k.invariant.found rows more split has) c.note_item.ensures.found;
      table = c.note_item.ensures.table ∙ c.loop-k.invariant.table;
    }

pub returns-clause-found : goal.returns-clause-found
returns-clause-found c = λ rows more split has.
    let d = c.args.flows.now in
    let f = flow_of d c.args.stack.flow in
    let n = c.item_count-count.ensures in
    let a : c.loop-k.k ≤ c.item_count-count.result = c.loop-k.auto.k-end in
    let t = c.loop-k-test.false in
    let end : c.loop-k.k ≡ length f.items = omega arith in
    let P : ℕ → Type 0 = λ k. HasFound d (rows ++ rows_before d c.args.stack.bound f k) c.loop-k.table.items in
    subst P end (c.loop-k.invariant.found rows more split has)
