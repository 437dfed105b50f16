use Rattle.std.proofs.Common.{◌≡◌, ◌<◌, false, ◌∙◌, arith, Some}
use Rattle.box_maker.specs.Standing.{starts_block}
use Rattle.box_maker.proofs.Standing.{ends-here}
use Rattle.box_maker.proofs.Front.{skip}
use Rattle.box_maker.proofs.boxes.next_block.Goals as goal

pub loop-at-preserved : goal.loop-at-preserved
loop-at-preserved c = record {
  above = omega (arith, c.after-at.ensures.bounds);
  within = omega (arith, c.after-at.ensures.bounds);
  skipped = λ parent forest s.
      let d = c.args.source.now in
      let w = c.loop-at.invariant.skipped parent forest s in
      let lt : c.loop-at.at < c.args.end = c.loop-at-test.true in
      let e = ends-here d.nodes.now d.ends.now (Some parent) c.loop-at.at c.args.end w.0 c.after-at.result w.1 lt
      c.after-at.ensures.exact in
      let free : starts_block d.nodes.now d.styles.now c.loop-at.at ≡ false = cc in
      let v = skip d.nodes.now d.ends.now d.styles.now parent c.loop-at.at c.args.end c.after-at.result w.0 w.1 lt e free in
      (v.0, v.1, w.2 ∙ v.2, w.3 ∙ v.3);
}
