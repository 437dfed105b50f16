use Rattle.height_cert.proofs.Texts.{entry-step, entries-end}
use Rattle.height_cert.proofs.write.put_entries.Goals as goal

pub loop-entry-preserved : goal.loop-entry-preserved
loop-entry-preserved c =
    let text = rw c.ranges_of.ensures at (c.in_ok-rest.ensures.text 1) in
    let rest = rw c.ranges_of.ensures at c.in_ok-rest.ensures.rest in
    rw rest (entry-step c.loop-entry.out c.put_head.new.out _ _ c.loop-entry.rest.now c.args.entries.now
    c.loop-entry.entry-index c.entry-item.result c.loop-entry-test.true c.entry-item.is c.in_ok-put_head.ensures text
    c.loop-entry.invariant)

pub returns : goal.returns
returns c = λ n. entries-end n c.loop-entry.out c.args.out.now c.args.cites.now c.loop-entry.rest.now c.args.entries.now
    c.loop-entry.entry-index c.loop-entry-test.false c.loop-entry.invariant
