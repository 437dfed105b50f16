use Rattle.height_cert.proofs.Texts.{range-step, range-lists, ranges-end}
use Rattle.height_cert.proofs.write.put_ranges.Goals as goal

pub loop-range-preserved : goal.loop-range-preserved
loop-range-preserved c =
    let text = rw c.lines_of.ensures at c.in_ok-rest.ensures.text in
    let rest = rw c.lines_of.ensures at c.in_ok-rest.ensures.rest in
    record {
      text = rw rest (range-step c.loop-range.out c.put_bounds.new.out _ _ c.loop-range.rest.now c.args.ranges.now
          c.loop-range.range-index c.range-item.result c.loop-range-test.true c.range-item.is c.in_ok-put_bounds.ensures text
          c.loop-range.invariant.text);
      rest = range-lists _ c.loop-range.rest.now _ c.args.ranges.now c.loop-range.range-index c.range-item.result
          c.loop-range-test.true c.range-item.is rest c.loop-range.invariant.rest;
    }

pub returns-clause-text : goal.returns-clause-text
returns-clause-text c = λ n. ranges-end n c.loop-range.out c.args.out.now c.args.cites.now c.loop-range.rest.now
    c.args.ranges.now c.loop-range.range-index c.loop-range-test.false c.loop-range.invariant.text
