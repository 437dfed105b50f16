use Rattle.std.proofs.Common.{◌≡◌, ℕ, suc, ◌-◌, false, Option, refl, subst, sym, arith}
use Rattle.std.proofs.lemmas.Bool.{iff_false}
use Rattle.css_data.specs.declared.selector.Join.TheVariants.{Later}
use Rattle.css_select.specs.declared.walk.Walk.{Walk}
use Rattle.css_select.specs.declared.walk.Walk.TheVariants as walks
use Rattle.css_select.specs.Walking.{is_near, is_level, MeetsAt, Tells, UpTo}
use Rattle.css_select.proofs.Searches.{found_sibling, search_begins, search_goes_on, search_ends, stops_above, IsSearching}
use Rattle.css_select.proofs.walk.search_siblings.Goals as goal

pub loop-next-init : goal.loop-next-init
loop-next-init c = search_begins c.args.dom.now c.args.selector.now Later (c.args.place - 1) c.args.node c.nearest-next.result
    c.requires.node_in_range c.nearest-next.ensures

pub loop-next-preserved : goal.loop-next-preserved
loop-next-preserved c =
    let P : Option ℕ → Type 0 = λ v. IsSearching c.args.dom.now c.args.selector.now Later (c.args.place - 1) c.args.node v in
    let Q : Walk → Type 0 = λ v. Tells is_near is_near c.args.dom.now c.args.selector.now (c.args.place - 1) c.in-Some.at v in
    let lost : c.walk_near-walk.result ≡ walks.Lost = c.is_lost.ensures.0 cc in
    search_goes_on c.args.dom.now c.args.selector.now Later (c.args.place - 1) c.args.node c.in-Some.at
    c.nearest-next-in-Some.result refl (subst P c.in-Some.is c.loop-next.invariant)
    (subst Q lost c.walk_near-walk.ensures.tells) c.nearest-next-in-Some.ensures

pub returns-then-not-is_lost-clause-tells : goal.returns-then-not-is_lost-clause-tells
returns-then-not-is_lost-clause-tells c =
    let above = stops_above is_near c.args.selector.now c.args.place c.requires.stopped.stops in
    let e : c.args.place ≡ suc (c.args.place - 1) = omega arith in
    let P : ℕ → Type 0 = λ v. MeetsAt c.args.dom.now c.args.selector.now v c.args.node in
    let Q : ℕ → Type 0 = λ v. Tells is_level is_near c.args.dom.now c.args.selector.now v c.args.node c.walk_near-walk.result in
    let R : Option ℕ → Type 0 = λ v. IsSearching c.args.dom.now c.args.selector.now Later (c.args.place - 1) c.args.node v in
    let here = subst R c.in-Some.is c.loop-next.invariant in
    let found : c.is_lost.result ≡ false = cc in
    subst Q (sym e) (found_sibling c.args.dom.now c.args.selector.now (c.args.place - 1) c.args.node c.in-Some.at
    c.walk_near-walk.result c.requires.later
    (subst P e c.requires.stopped.meets) here.stands here.rest (iff_false c.is_lost.ensures found) c.walk_near-walk.ensures.tells)

pub returns-clause-tells : goal.returns-clause-tells
returns-clause-tells c =
    let above = stops_above is_near c.args.selector.now c.args.place c.requires.stopped.stops in
    let e : c.args.place ≡ suc (c.args.place - 1) = omega arith in
    let R : Option ℕ → Type 0 = λ v. IsSearching c.args.dom.now c.args.selector.now Later (c.args.place - 1) c.args.node v in
    let S : ℕ → Type 0 = λ v. UpTo c.args.dom.now c.args.selector.now v c.args.node → ⊥ in
    let none = c.in_default.is in
    subst S (sym e) (search_ends c.args.dom.now c.args.selector.now Later (c.args.place - 1) c.args.node c.requires.later
    (subst R none c.loop-next.invariant))
