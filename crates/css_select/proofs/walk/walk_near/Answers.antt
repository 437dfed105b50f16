use Rattle.std.proofs.Common.{◌≡◌, ℕ, zero, suc, ◌-◌, true, false, subst, arith}
use Rattle.std.proofs.lemmas.Bool.{iff_false}
use Rattle.css_select.specs.Walking.{is_near, IsOn, MeetsAt}
use Rattle.css_select.proofs.Searches.{on_lost, on_edge, on_left, on_matched}
use Rattle.css_select.proofs.walk.walk_near.Goals as goal

pub returns-then-not-meets_at-clause-tells : goal.returns-then-not-meets_at-clause-tells
returns-then-not-meets_at-clause-tells c =
    let lost : c.meets_at.result ≡ false = cc in
    on_lost c.args.dom.now c.args.selector.now is_near c.args.start c.args.node c.loop-place.place c.loop-place.at
    c.loop-place.invariant.on (iff_false c.meets_at.ensures lost)

pub returns-in-None-clause-tells : goal.returns-in-None-clause-tells
returns-in-None-clause-tells c =
    let e : c.loop-place.place ≡ suc (c.loop-place.place - 1) = omega arith in
    let P : ℕ → Type 0 = λ v. IsOn is_near c.args.dom.now c.args.selector.now c.args.start c.args.node v c.loop-place.at in
    on_edge c.args.dom.now c.args.selector.now is_near c.args.start c.args.node (c.loop-place.place - 1) c.loop-place.at
    c.join_before-join.result (subst P e c.loop-place.invariant.on) c.join_before-join.ensures c.in-None.ensures

pub loop-place-preserved : goal.loop-place-preserved
loop-place-preserved c =
    let e : c.loop-place.place ≡ suc (c.loop-place.place - 1) = omega arith in
    let P : ℕ → Type 0 = λ v. IsOn is_near c.args.dom.now c.args.selector.now c.args.start c.args.node v c.loop-place.at in
    let Q : ℕ → Type 0 = λ v. MeetsAt c.args.dom.now c.args.selector.now v c.loop-place.at in
    let met : c.meets_at.result ≡ true = cc in
    let near : is_near c.join_before-join.result ≡ true = cc in
    let within = c.loop-place.invariant.within in
    record {
      within = omega arith;
      on = on_left c.args.dom.now c.args.selector.now c.args.start c.args.node (c.loop-place.place - 1) c.loop-place.at
          c.in-Some.left c.join_before-join.result
          (subst P e c.loop-place.invariant.on) (subst Q e (c.meets_at.ensures.0 met)) c.join_before-join.ensures near
          c.in-Some.ensures;
    }

pub returns-then-meets_at-clause-tells : goal.returns-then-meets_at-clause-tells
returns-then-meets_at-clause-tells c =
    let e : c.loop-place.place ≡ zero = omega arith in
    let P : ℕ → Type 0 = λ v. IsOn is_near c.args.dom.now c.args.selector.now c.args.start c.args.node v c.loop-place.at in
    let met : c.meets_at-2.result ≡ true = cc in
    on_matched c.args.dom.now c.args.selector.now is_near c.args.start c.args.node c.loop-place.at
    (subst P e c.loop-place.invariant.on) (c.meets_at-2.ensures.0 met)
