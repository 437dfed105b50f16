use Rattle.std.proofs.Common.{ap, subst, arith}
use Rattle.css_select.specs.declared.walk.Walk.{Walk}
use Rattle.css_select.specs.Walking.{is_near, is_level, Tells, place_of}
use Rattle.css_select.proofs.Searches.{tells_level, tells_on}
use Rattle.css_select.proofs.walk.walk_level.Goals as goal

pub loop-walk-init : goal.loop-walk-init
loop-walk-init c = record {
  tells = tells_level c.args.dom.now c.args.selector.now is_near c.args.start c.args.node c.walk_near-walk.result
      c.walk_near-walk.ensures.tells;
  within = c.walk_near-walk.ensures.less;
}

pub loop-walk-preserved : goal.loop-walk-preserved
loop-walk-preserved c =
    let P : Walk → Type 0 = λ v. Tells is_level is_near c.args.dom.now c.args.selector.now c.args.start c.args.node v in
    let here = subst P c.in-At.is c.loop-walk.invariant.tells in
    let place = ap place_of c.in-At.is in
    let within = c.loop-walk.invariant.within in
    let less = c.search_siblings-walk.ensures.less in
    record {
      tells = tells_on c.args.dom.now c.args.selector.now is_level is_near c.args.start c.args.node c.in-At.place c.in-At.at
          c.search_siblings-walk.result here.0 c.search_siblings-walk.ensures.tells;
      within = omega arith;
    }
