use Rattle.std.proofs.Common.{◌<◌, sym, ap, ◌∙◌, arith}
use Rattle.box_data.specs.BoxTree.{construct_from, or_else}
use Rattle.box_maker.proofs.Standing.{ends-here, stands-over}
use Rattle.box_maker.proofs.Walks.{construct-left}
use Rattle.box_maker.proofs.constructs.+constructs.Goals as goal

pub construct_in-returns-in-Some : goal.construct_in-returns-in-Some
construct_in-returns-in-Some t c = λ parent forest s.
    let d = c.args.source.now in
    let w = c.loop-at.invariant.left parent forest s in
    let lt : c.loop-at.at < c.args.end = c.loop-at-test.true in
    let e = ends-here d.nodes.now d.ends.now parent c.loop-at.at c.args.end w.0 c.after-next.result w.1 lt
    c.after-next.ensures.exact in
    let p = c.in-Some.ensures parent c.args.end w.0 w.1 lt e in
    let v = construct-left d.nodes.now d.ends.now d.styles.now c.args.around_is_block parent c.loop-at.at c.args.end
    c.after-next.result w.0 w.1 lt e in
    sym (w.2 ∙ v.2 ∙ ap (λ o. or_else o (construct_from d.styles.now c.args.around_is_block c.after-next.result v.0)) (sym p))

pub construct_in-loop-at-preserved : goal.construct_in-loop-at-preserved
construct_in-loop-at-preserved t c = record {
  above = omega (arith, c.after-next.ensures.bounds);
  left = λ parent forest s.
      let d = c.args.source.now in
      let w = c.loop-at.invariant.left parent forest s in
      let lt : c.loop-at.at < c.args.end = c.loop-at-test.true in
      let e = ends-here d.nodes.now d.ends.now parent c.loop-at.at c.args.end w.0 c.after-next.result w.1 lt
      c.after-next.ensures.exact in
      let p = c.in-None.ensures parent c.args.end w.0 w.1 lt e in
      let v = construct-left d.nodes.now d.ends.now d.styles.now c.args.around_is_block parent c.loop-at.at c.args.end
      c.after-next.result w.0 w.1 lt e in (
        v.0,
        v.1,
        w.2 ∙ v.2 ∙ ap (λ o. or_else o (construct_from d.styles.now c.args.around_is_block c.after-next.result v.0))
            (sym p),
      );
}

pub construct_in-returns : goal.construct_in-returns
construct_in-returns t c = λ parent forest s.
    let d = c.args.source.now in
    let w = c.loop-at.invariant.left parent forest s in
    let over = stands-over d.nodes.now d.ends.now parent c.loop-at.at c.args.end w.0 w.1 c.loop-at-test.false in
    sym (w.2 ∙ ap (construct_from d.styles.now c.args.around_is_block c.loop-at.at) over)
