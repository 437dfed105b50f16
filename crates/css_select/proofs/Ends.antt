-- In a well-formed document no node stands in an element after the end of that: the nodes are in preorder.
use Rattle.std.proofs.Common.{◌≡◌, ℕ, zero, suc, ◌+◌, ◌<◌, ◌≤◌, ◌⊎◌, inl, inr, List, length, true, Option, Some, None, sym, ap}
use Rattle.std.proofs.Common.{subst, ◌∙◌, arith}
use Rattle.std.specs.Prelude.{slice_get}
use Rattle.std.proofs.lemmas.Bool.{ltb-true}
use Rattle.std.proofs.lemmas.Option.{same_Some, none-some, slice_get_within}
use Rattle.html_grammar.specs.declared.dom.Dom.{Dom}
use Rattle.html_grammar.specs.declared.dom.DomNode.{DomNode}
use Rattle.html_grammar.specs.Tree.{Forest, Nil, Element, Words, nodes_from, element_node, words_node}
use Rattle.html_subset.specs.WellFormed.{IsWellFormed}
use Rattle.css_select.specs.Places.{is_outside, ElementsEnd}
use Rattle.css_select.proofs.Parents.{get_append}

-- the node stands in this parent, or in one from the number k on
abbrev IsFrom : Option ℕ → ℕ → DomNode → Type 0
IsFrom parent k x = (x.parent ≡ parent) ⊎ ((q : ℕ) × (x.parent ≡ Some q) × (k ≤ q))

-- the parent, if any, is before this number
abbrev IsBefore : Option ℕ → ℕ → Type 0
IsBefore None k = Unit {0}
IsBefore (Some q) k = q < k

inside_from : (parent : Option ℕ) (k : ℕ) (x : DomNode) → IsFrom (Some k) (suc k) x → IsFrom parent k x
inside_from parent k x (inl e) = inr (k, e, omega arith)
inside_from parent k x (inr (q, e, le)) = inr (q, e, omega arith)

later_from : (parent : Option ℕ) (k m : ℕ) (x : DomNode) → k ≤ m → IsFrom parent m x → IsFrom parent k x
later_from parent k m x le (inl e) = inl e
later_from parent k m x le (inr (q, e, more)) = inr (q, e, omega arith)

parents_from : (parent : Option ℕ) (k : ℕ) (f : Forest) (i : ℕ) (x : DomNode) →
    slice_get (nodes_from parent k f) i ≡ Some x → IsFrom parent k x
parents_from parent k Nil i x h = absurd (none-some x h)
parents_from parent k (Element at m attrs kids next) zero x h =
    inl (ap (λ n. n.parent) (sym (same_Some (element_node parent at m attrs) x h)))
parents_from parent k (Element at m attrs kids next) (suc j) x h =
    let inside = nodes_from (Some k) (suc k) kids in
    let behind = nodes_from parent (suc k + length inside) next in
    elim (get_append inside behind j x h) [
      | inl here ↦ inside_from parent k x (parents_from (Some k) (suc k) kids j x here)
      | inr (i, is, here) ↦
          later_from parent k (suc k + length inside) x (omega arith) (parents_from parent (suc k + length inside) next i x here)
    ]
parents_from parent k (Words at text next) zero x h = inl (ap (λ n. n.parent) (sym (same_Some (words_node parent at text) x h)))
parents_from parent k (Words at text next) (suc j) x h =
    later_from parent k (suc k) x (omega arith) (parents_from parent (suc k) next j x h)

before_more : (parent : Option ℕ) (k m : ℕ) → k ≤ m → IsBefore parent k → IsBefore parent m
before_more None k m le below = tt
before_more (Some q) k m le below = omega arith

-- what stands in an element from k on stands in one from m on, where it does or stands in a parent before k
at_least : (parent : Option ℕ) (k m p : ℕ) (y : DomNode) →
    IsBefore parent k → IsFrom parent m y → k ≤ p → y.parent ≡ Some p → m ≤ p
at_least parent k m p y below (inl e) le is =
    let lt : p < k = subst (λ o. IsBefore o k) (sym e ∙ is) below in
    absurd (omega arith)
at_least parent k m p y below (inr (q, e, more)) le is = let same : q ≡ p = same_Some q p (sym e ∙ is) in omega arith

-- what stands in m, or in an element after it, doesn't stand outside of one up to m
not_outside : (m p : ℕ) (x : DomNode) → IsFrom (Some m) m x → p ≤ m → is_outside x.parent (Some p) ≡ true → ⊥
not_outside m p x (inl e) le out =
    let lt : m < p = ltb-true m p (subst (λ o. is_outside o (Some p) ≡ true) e out) in
    omega arith
not_outside m p x (inr (q, e, more)) le out =
    let lt : q < p = ltb-true q p (subst (λ o. is_outside o (Some p) ≡ true) e out) in
    omega arith

first_or_later : (k p : ℕ) → k ≤ p → (p ≤ k) ⊎ (suc k ≤ p)
first_or_later zero zero le = inl (omega arith)
first_or_later zero (suc p) le = inr (omega arith)
first_or_later (suc k) zero le = absurd (omega arith)
first_or_later (suc k) (suc p) le = elim (first_or_later k p (omega arith)) [
  | inl same ↦ inl (omega arith)
  | inr more ↦ inr (omega arith)
]

-- of the nodes from number k on, of which some stand in a parent before k: after one that stands outside of p none stands in p
left_for_good : (parent : Option ℕ) (k : ℕ) (f : Forest) (p i j : ℕ) (x y : DomNode) →
    IsBefore parent k → k ≤ p → p < k + i → i ≤ j →
    slice_get (nodes_from parent k f) i ≡ Some x → slice_get (nodes_from parent k f) j ≡ Some y →
    is_outside x.parent (Some p) ≡ true → y.parent ≡ Some p → ⊥
left_for_good parent k Nil p i j x y below le lt order hx hy out is = none-some x hx
left_for_good parent k (Words at text next) p zero j x y below le lt order hx hy out is = omega arith
left_for_good parent k (Words at text next) p (suc i) zero x y below le lt order hx hy out is = omega arith
left_for_good parent k (Words at text next) p (suc i) (suc j) x y below le lt order hx hy out is =
    let far = at_least parent k (suc k) p y below (parents_from parent (suc k) next j y hy) le is in
    let below_next = before_more parent k (suc k) (omega arith) below in
    left_for_good parent (suc k) next p i j x y below_next far (omega arith) (omega arith) hx hy out is
left_for_good parent k (Element at m attrs kids next) p zero j x y below le lt order hx hy out is = omega arith
left_for_good parent k (Element at m attrs kids next) p (suc i) zero x y below le lt order hx hy out is = omega arith
left_for_good parent k (Element at m attrs kids next) p (suc i) (suc j) x y below le lt order hx hy out is =
    let inside = nodes_from (Some k) (suc k) kids in
    let start = suc k + length inside in
    let behind = nodes_from parent start next in
    elim (get_append inside behind i x hx) [
      | inl xin ↦ elim (get_append inside behind j y hy) [
        | inl yin ↦ elim (first_or_later k p le) [
          | inl same ↦
              let from = inside_from (Some k) k x (parents_from (Some k) (suc k) kids i x xin) in
              not_outside k p x from same out
          | inr more ↦
              left_for_good (Some k) (suc k) kids p i j x y (omega arith) more (omega arith) (omega arith) xin yin out is
        ]
        | inr (b, jis, there) ↦
            let far : start ≤ p = at_least parent k start p y below (parents_from parent start next b y there) le is in
            let within : i < length inside = slice_get_within inside i x xin in
            omega arith
      ]
      | inr (a, iis, here) ↦ elim (get_append inside behind j y hy) [
        | inl yin ↦
            let within : j < length inside = slice_get_within inside j y yin in
            omega arith
        | inr (b, jis, there) ↦
            let far : start ≤ p = at_least parent k start p y below (parents_from parent start next b y there) le is in
            let below_next = before_more parent k start (omega arith) below in
            left_for_good parent start next p a b x y below_next far (omega arith) (omega arith) here there out is
      ]
    ]

pub elements_end : (dom : Dom) → IsWellFormed dom → ElementsEnd dom
elements_end dom formed p k j x y lt le hx hy out is =
    let At : ℕ → DomNode → List DomNode → Type 0 = λ i z nodes. slice_get nodes i ≡ Some z in
    let first = subst (At k x) formed.nodes hx in
    let second = subst (At j y) formed.nodes hy in
    left_for_good None 0 formed.tree p k j x y tt (omega arith) (omega arith) le first second out is
