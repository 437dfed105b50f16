use Rattle.std.proofs.Common.{◌≡◌, arith, ap, ◌∙◌, length, Some, Ok, All}
use Rattle.frag_pool.specs.Nodes.{IsKept, node_of, ids_of, kept_more}
use Rattle.frag_pool.specs.Standing.{Equals}
use Rattle.frag_pool.proofs.Promoting.{promoting-round, promoting-equals, promoting-one, live-growing, node-same, if-ok, on-ok}
use Rattle.frag_pool.proofs.Promoting.{if-some, over-kept}
use Rattle.frag_pool.proofs.pool.Pool.+promote.Goals as goal

pub loop-i-preserved : goal.loop-i-preserved
loop-i-preserved t c = record {
  so_far = rw c.in_ok-push.ensures.ok (promoting-round c.args.self.now c.loop-i.self c.promote.new.self c.args.id
      c.get-in-loop-i.result.now c.loop-i.ids c.loop-i.i c.id_in-kid.result c.in_ok-promote.field-0
      c.requires c.loop-i.invariant.so_far c.get-in-loop-i.ensures.node c.id_in-kid.ensures c.in_ok-promote.ensures.trial
      c.in_ok-promote.ensures.kept c.in_ok-promote.ensures.live c.in_ok-promote.ensures.equal
      (λ k. let e = c.in_ok-promote.ensures.as_it_is k in (cc, e.1)));
  live = live-growing c.loop-i.self c.promote.new.self c.in_ok-promote.ensures.trial c.args.id c.loop-i.invariant.live;
}

pub returns-clause-equal : goal.returns-clause-equal
returns-clause-equal t c =
    let node_is : node_of c.args.self.now c.args.id ≡ Some c.get-2.result.now = node-same c.args.self.now c.loop-i.self
    c.loop-i.invariant.so_far.same c.args.id c.requires c.get-2.result.now c.get-2.ensures.node in
    let one : c.get.result.now ≡ c.get-2.result.now = cc (c.get.ensures.node) in
    let ids_are : length c.ids_in-i-end.result.now ≡ length (ids_of c.get-2.result.now) = ap length c.ids_in-i-end.ensures
    ∙ ap (λ n. length (ids_of n)) one in
    let all : c.loop-i.i ≡ length (ids_of c.get-2.result.now) = omega (arith, ids_are) in
    if-ok c.keep_or_refuse.result (Equals c.args.self.now c.args.id c.keep_or_refuse.new.self) (λ v e.
    promoting-equals c.args.self.now c.loop-i.self c.keep_or_refuse.new.self c.args.id v c.get-2.result.now c.loop-i.ids
    c.loop-i.i c.requires (λ n is. c.in_default.not-Kept n is)
    c.loop-i.invariant.so_far c.get-2.ensures.node all (rw e at c.keep_or_refuse.ensures.ok
    ∙ ap (kept_more c.loop-i.self) c.with_ids-node.ensures) (rw e at c.keep_or_refuse.ensures.id))

pub returns-clause-one : goal.returns-clause-one
returns-clause-one t c =
    let node_is : node_of c.args.self.now c.args.id ≡ Some c.get-2.result.now = node-same c.args.self.now c.loop-i.self
    c.loop-i.invariant.so_far.same c.args.id c.requires c.get-2.result.now c.get-2.ensures.node in
    let one : c.get.result.now ≡ c.get-2.result.now = cc (c.get.ensures.node) in
    let ids_are : length c.ids_in-i-end.result.now ≡ length (ids_of c.get-2.result.now) = ap length c.ids_in-i-end.ensures
    ∙ ap (λ n. length (ids_of n)) one in
    let all : c.loop-i.i ≡ length (ids_of c.get-2.result.now) = omega (arith, ids_are) in
    on-ok c.keep_or_refuse.result _ (λ v e over. if-some (node_of c.args.self.now c.args.id) _ (λ node is.
    let same : c.get-2.result.now ≡ node = cc in
    let kept : All IsKept (ids_of c.get-2.result.now) = over-kept c.args.self.now c.args.id over c.get-2.result.now node_is in
    let made = promoting-one c.args.self.now c.loop-i.self c.keep_or_refuse.new.self c.args.id v c.get-2.result.now c.loop-i.ids
    c.loop-i.i c.requires
    c.loop-i.invariant.so_far c.get-2.ensures.node all
    (rw e at c.keep_or_refuse.ensures.ok ∙ ap (kept_more c.loop-i.self) c.with_ids-node.ensures)
    (rw e at c.keep_or_refuse.ensures.id) kept in
    (e ∙ ap Ok made.1, made.2 ∙ ap (kept_more c.args.self.now) same)))
