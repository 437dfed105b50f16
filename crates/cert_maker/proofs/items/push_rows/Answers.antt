use Rattle.flow_data.specs.Flows.{flow_of}
use Rattle.flow_list.specs.Entries.{uses_in}
use Rattle.cert_maker.proofs.ItemRows.{numbers-on}
use Rattle.cert_maker.proofs.items.push_rows.Goals as goal

pub loop-k-preserved : goal.loop-k-preserved
loop-k-preserved c =
    numbers-on (flow_of c.args.flows.now c.args.flow) (uses_in c.args.book.now) c.loop-k.sizes c.push_row.new.sizes _ c.loop-k.k
    c.loop-k.place c.start-place.result c.args.end c.start-place.ensures c.loop-k-test.true c.in_ok-push_row.ensures
    c.loop-k.invariant
