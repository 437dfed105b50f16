use Rattle.std.proofs.Common.{◌≡◌, ◌<◌, ◌+◌, ◌-◌, true, List, length, take, drop, get_or, refl, sym, ap, subst, ◌∙◌}
use Rattle.std.proofs.lemmas.List.{take_rest}
use Rattle.std.proofs.lemmas.Option.{slice_get_read}
use Rattle.html_grammar.specs.declared.dom.DomNode.{DomNode}
use Rattle.css_select.specs.Places.{is_outside}
use Rattle.css_select.proofs.PlaceLemmas.{none_after}
use Rattle.css_select.proofs.places.is_last_child.Goals as goal

pub returns-then-is_outside : goal.returns-then-is_outside
returns-then-is_outside c = (
  λ t.
      let x = c.other-item.result in
      let i = c.loop-other.other-index in
      let nodes = c.args.dom.now.nodes in
      let from = c.args.node + 1 in
      let after : List DomNode → List DomNode = λ v. take (length v - from) (drop from v) in
      let same : after c.as_slice.result.now ≡ drop from nodes = ap after c.as_slice.ensures ∙ take_rest nodes from in
      let below = subst (λ v. i < length v) same c.loop-other-test.true in
      let at = slice_get_read (drop from nodes) (length (drop from nodes)) i x refl below
      (subst (λ v. x ≡ get_or v i x) same c.other-item.is) in
      let out = subst (λ o. is_outside x.parent o ≡ true) c.parent_of-parent.ensures
      (sym c.is_outside.ensures ∙ c.if-is_outside.true) in
      none_after c.args.dom.now c.args.node i x c.requires.parents c.requires.ends at out c.loop-other.invariant,
  λ h. refl,
)
