use Rattle.cert_maker.proofs.Entries.{size-known, sizes-on, size-cites-on}
use Rattle.cert_maker.proofs.make.put_sizes.Goals as goal

pub put_size-requires : goal.put_size-requires
put_size-requires c =
    size-known _ c.args.book.now c.loop-i.i c.at.result.now c.at.ensures c.requires.known

pub loop-i-preserved : goal.loop-i-preserved
loop-i-preserved c = record {
  entries =
      sizes-on c.args.book.now c.loop-i.entries c.put_size.new.entries _ c.loop-i.i c.args.to c.at.result.now c.loop-i-test.true
      c.at.ensures c.in_ok-put_size.ensures.entries c.loop-i.invariant.entries;
  cites =
      size-cites-on c.args.flows.now c.args.book.now c.loop-i.cites c.put_size.new.cites _ c.loop-i.i c.args.to c.at.result.now
      c.loop-i-test.true c.at.ensures c.in_ok-put_size.ensures.cites c.loop-i.invariant.cites;
}
