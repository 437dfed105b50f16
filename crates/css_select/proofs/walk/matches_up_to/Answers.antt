use Rattle.std.proofs.Common.{subst}
use Rattle.css_select.specs.declared.walk.Walk.{Walk}
use Rattle.css_select.specs.Walking.{any_join, is_level, Tells}
use Rattle.css_select.proofs.Searches.{tells_any, tells_on}
use Rattle.css_select.proofs.walk.matches_up_to.Goals as goal

pub loop-walk-init : goal.loop-walk-init
loop-walk-init c = tells_any c.args.dom.now c.args.selector.now is_level c.args.start c.args.node c.walk_level-walk.result
    c.walk_level-walk.ensures.tells

pub loop-walk-preserved : goal.loop-walk-preserved
loop-walk-preserved c =
    let P : Walk → Type 0 = λ v. Tells any_join is_level c.args.dom.now c.args.selector.now c.args.start c.args.node v in
    let here = subst P c.in-At.is c.loop-walk.invariant in
    tells_on c.args.dom.now c.args.selector.now any_join is_level c.args.start c.args.node c.in-At.place c.in-At.at
    c.search_ancestors-walk.result here.0 c.search_ancestors-walk.ensures.tells
