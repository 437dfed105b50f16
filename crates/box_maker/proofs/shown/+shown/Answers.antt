use Rattle.std.proofs.Common.{◌<◌, ◌++◌, sym, ap, ◌∙◌, arith, append_assoc, append-nil}
use Rattle.box_data.specs.BoxTree.{shown_from}
use Rattle.box_maker.specs.Parts.{shown_first}
use Rattle.box_maker.proofs.Standing.{ends-here, stands-over}
use Rattle.box_maker.proofs.Walks.{shown-left}
use Rattle.box_maker.proofs.shown.+shown.Goals as goal

pub push_shown-loop-at-preserved : goal.push_shown-loop-at-preserved
push_shown-loop-at-preserved t c = record {
  above = omega (arith, c.after-next.ensures.bounds);
  made = λ parent forest s.
      let d = c.args.source.now in
      let w = c.loop-at.invariant.made parent forest s in
      let lt : c.loop-at.at < c.args.end = c.loop-at-test.true in
      let e = ends-here d.nodes.now d.ends.now parent c.loop-at.at c.args.end w.0 c.after-next.result w.1 lt
      c.after-next.ensures.exact in
      let p = c.in_ok-push_node.ensures parent c.args.end w.0 w.1 lt e in
      let v = shown-left d.nodes.now d.ends.now d.styles.now parent c.loop-at.at c.args.end c.after-next.result w.0 w.1 lt e in
      let after = shown_from d.styles.now c.after-next.result v.0 in
      let first = shown_first d.styles.now c.loop-at.at w.0 in (
        v.0,
        v.1,
        ap (λ xs. xs ++ after) p ∙ append_assoc c.loop-at.shown first after ∙ ap (λ xs. c.loop-at.shown ++ xs) (sym v.2) ∙ w.2,
      );
}

pub push_shown-returns : goal.push_shown-returns
push_shown-returns t c = λ parent forest s.
    let d = c.args.source.now in
    let w = c.loop-at.invariant.made parent forest s in
    let over = stands-over d.nodes.now d.ends.now parent c.loop-at.at c.args.end w.0 w.1 c.loop-at-test.false in
    sym (append-nil c.loop-at.shown) ∙ ap (λ f. c.loop-at.shown ++ shown_from d.styles.now c.loop-at.at f) (sym over) ∙ w.2
