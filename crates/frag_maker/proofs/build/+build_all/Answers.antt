use Rattle.std.proofs.Common.{refl, arith}
use Rattle.std.proofs.lemmas.List.Elements.{All-nil, All-push, All-weaker}
use Rattle.frag_pool.specs.Nodes.{IsLive}
use Rattle.frag_maker.proofs.Built.{built-first, built-last, built-closes, built-atom, built-row, built-opens, live-row}
use Rattle.frag_maker.proofs.Built.{within-more}
use Rattle.frag_pool.proofs.Growth.{grows-trans}
use Rattle.frag_maker.proofs.Growing.{grows-same, grows-trial, live-grows, trial-live}
use Rattle.frag_maker.proofs.build.+build_all.Goals as goal

pub loop-i-init : goal.loop-i-init
loop-i-init t c = record {
  bound = omega arith;
  grown = grows-same c.args.pool.now c.args.pool.now refl;
  live = rw c.new-ids.ensures (All-nil (IsLive c.args.pool.now));
  trees = rw c.new-ids.ensures (built-first c.args.pool.now c.args.placed.now);
}

pub loop-i-preserved-in-Closes : goal.loop-i-preserved-in-Closes
loop-i-preserved-in-Closes t c = record {
  bound = omega arith;
  grown = c.loop-i.invariant.grown;
  live = c.loop-i.invariant.live;
  trees = built-closes c.args.pool.now c.args.placed.now c.loop-i.i _ c.loop-i-test.true c.index-placed-i.is
      c.loop-i.pool c.loop-i.ids _ _ c.in-Closes.is c.loop-i.invariant.trees;
}

pub loop-i-preserved-in-Atom : goal.loop-i-preserved-in-Atom
loop-i-preserved-in-Atom t c =
    let old = c.loop-i.pool in
    let new = c.add_node-in-Atom.new.pool in
    let grows = grows-trial old new _ c.in_ok-id-in-Atom.ensures.ok in
    record {
      bound = omega arith;
      grown = grows-trans c.args.pool.now old new c.loop-i.invariant.grown grows;
      live = rw c.in_ok-push-in-Atom.ensures.ok (All-push (IsLive new) c.loop-i.ids c.in_ok-id-in-Atom.id
          (All-weaker (IsLive old) (IsLive new) (live-grows old new grows) c.loop-i.ids c.loop-i.invariant.live)
          (rw c.in_ok-id-in-Atom.ensures.id (trial-live old new _ c.in_ok-id-in-Atom.ensures.ok)));
      trees = rw (c.in_ok-push-in-Atom.ensures.ok, c.in_ok-id-in-Atom.ensures.id)
          (built-atom c.args.pool.now c.args.placed.now c.loop-i.i _ c.loop-i-test.true c.index-placed-i.is old new
          c.loop-i.ids _ _ c.in-Atom.is c.in_ok-id-in-Atom.ensures.ok c.loop-i.invariant.trees);
    }

pub add_row-requires : goal.add_row-requires
add_row-requires t c =
    live-row c.args.pool.now c.args.placed.now c.loop-i.i _ c.loop-i-test.true c.index-placed-i.is
    c.loop-i.pool c.loop-i.invariant.grown _ _ c.in-Row.is c.requires.rows

pub loop-i-preserved : goal.loop-i-preserved
loop-i-preserved t c =
    let old = c.loop-i.pool in
    let new = c.add_row.new.pool in
    let grows = c.in_ok-id-in-Row.ensures.grown in
    record {
      bound = omega arith;
      grown = grows-trans c.args.pool.now old new c.loop-i.invariant.grown grows;
      live = rw c.in_ok-push-in-Row.ensures.ok (All-push (IsLive new) c.loop-i.ids c.in_ok-id-in-Row.id
          (All-weaker (IsLive old) (IsLive new) (live-grows old new grows) c.loop-i.ids c.loop-i.invariant.live)
          c.in_ok-id-in-Row.ensures.live);
      trees = rw c.in_ok-push-in-Row.ensures.ok
          (built-row c.args.pool.now c.args.placed.now c.loop-i.i _ c.loop-i-test.true c.index-placed-i.is old new
          c.loop-i.ids _ _ _ c.in-Row.is c.loop-i.invariant.grown grows c.in_ok-id-in-Row.ensures.piece
          c.loop-i.invariant.trees);
    }

pub returns-clause-trees : goal.returns-clause-trees
returns-clause-trees t c =
    built-last c.args.pool.now c.loop-i.pool c.loop-i.ids c.loop-i.i c.args.placed.now (omega arith) c.loop-i.invariant.trees

pub loop-i-preserved-in-Opens : goal.loop-i-preserved-in-Opens
loop-i-preserved-in-Opens t c =
    let old = c.loop-i.pool in
    let made = c.build_all.new.pool in
    let new = c.add_node.new.pool in
    let grows = grows-trial made new _ c.in_ok-id-in-Opens.ensures.ok in
    let both = grows-trans old made new c.in_ok-kids-in-Opens.ensures.grown grows in
    let end = c.end_of_box-end in
    record {
      bound = within-more c.args.placed.now c.loop-i.i end.result.next c.later-rest.result.now c.loop-i-test.true
          c.later-rest.ensures end.ensures.next;
      grown = grows-trans c.args.pool.now old new c.loop-i.invariant.grown both;
      live = rw c.in_ok-push-in-Opens.ensures.ok (All-push (IsLive new) c.loop-i.ids c.in_ok-id-in-Opens.id
          (All-weaker (IsLive old) (IsLive new) (live-grows old new both) c.loop-i.ids c.loop-i.invariant.live)
          (rw c.in_ok-id-in-Opens.ensures.id (trial-live made new _ c.in_ok-id-in-Opens.ensures.ok)));
      trees = rw (c.in_ok-push-in-Opens.ensures.ok, c.in_ok-id-in-Opens.ensures.id)
          (built-opens c.args.pool.now c.args.placed.now c.loop-i.i _ c.loop-i-test.true c.index-placed-i.is old made new
          c.loop-i.ids c.in_ok-kids-in-Opens.kids _ _ _ end.result.at end.result.next end.result.bottom
          c.later-rest.result.now c.in-Opens.is c.loop-i.invariant.grown c.in_ok-kids-in-Opens.ensures.grown
          c.later-rest.ensures end.ensures.inside end.ensures.after end.ensures.bottom
          (λ columns rows. rw c.first.ensures at (c.in_ok-kids-in-Opens.ensures.trees columns (rw c.first.ensures rows)))
          c.in_ok-id-in-Opens.ensures.ok c.loop-i.invariant.trees);
    }

pub returns-in_err-push-in-Opens-clause-grown : goal.returns-in_err-push-in-Opens-clause-grown
returns-in_err-push-in-Opens-clause-grown t c =
    let grows = grows-trial c.build_all.new.pool c.add_node.new.pool _ c.in_ok-id-in-Opens.ensures.ok in
    grows-trans c.args.pool.now c.loop-i.pool c.add_node.new.pool c.loop-i.invariant.grown
    (grows-trans c.loop-i.pool c.build_all.new.pool c.add_node.new.pool c.in_ok-kids-in-Opens.ensures.grown grows)
