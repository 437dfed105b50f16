-- In a well-formed document each element stands before what stands in it.
use Rattle.std.proofs.Common.{◌≡◌, ℕ, zero, suc, ◌+◌, ◌<◌, ◌⊎◌, inl, inr, List, [], ◌∷◌, ◌++◌, length, Option, Some, None, sym}
use Rattle.std.proofs.Common.{ap, subst, ◌∙◌, arith}
use Rattle.std.specs.Prelude.{slice_get, IsSomeAnd, IsTrue}
use Rattle.std.proofs.lemmas.Option.{same_Some, none-some, option_and_then_some}
use Rattle.html_grammar.specs.declared.dom.Dom.{Dom}
use Rattle.html_grammar.specs.declared.dom.DomNode.{DomNode}
use Rattle.html_grammar.specs.Tree.{Forest, Nil, Element, Words, nodes_from, element_node, words_node}
use Rattle.html_grammar.specs.Whole.{is_element}
use Rattle.html_subset.specs.WellFormed.{IsWellFormed}
use Rattle.css_select.specs.Places.{ParentsAreEarlier, IsElementAt}

-- an element of two lists, one after the other
pub get_append : {X : Type 0} (xs ys : List X) (j : ℕ) (x : X) → slice_get (xs ++ ys) j ≡ Some x
    → (slice_get xs j ≡ Some x) ⊎ ((i : ℕ) × (j ≡ length xs + i) × (slice_get ys i ≡ Some x))
get_append [] ys j x h = inr (j, omega arith, h)
get_append (y ∷ xs) ys zero x h = inl h
get_append {X} (y ∷ xs) ys (suc j) x h = further xs ys j x (get_append xs ys j x h)
  where
    further : (xs ys : List X) (j : ℕ) (x : X)
        → (slice_get xs j ≡ Some x) ⊎ ((i : ℕ) × (j ≡ length xs + i) × (slice_get ys i ≡ Some x))
        → (slice_get xs j ≡ Some x) ⊎ ((i : ℕ) × (suc j ≡ suc (length xs) + i) × (slice_get ys i ≡ Some x))
    further xs ys j x (inl h) = inl h
    further xs ys j x (inr (i, e, h)) = inr (i, omega arith, h)

-- the node i of those from the number k stands in this parent, or in one of those before it
abbrev IsEarly : Option ℕ → ℕ → ℕ → DomNode → Type 0
IsEarly parent k i x = (x.parent ≡ parent) ⊎ ((p : ℕ) × (x.parent ≡ Some p) × (p < k + i))

inside_early : (parent : Option ℕ) (k j : ℕ) (x : DomNode) → IsEarly (Some k) (suc k) j x → IsEarly parent k (suc j) x
inside_early parent k j x (inl e) = inr (k, e, omega arith)
inside_early parent k j x (inr (p, e, lt)) = inr (p, e, omega arith)

behind_early : (parent : Option ℕ) (k j n i : ℕ) (x : DomNode) → j ≡ n + i → IsEarly parent (suc k + n) i x
    → IsEarly parent k (suc j) x
behind_early parent k j n i x is (inl e) = inl e
behind_early parent k j n i x is (inr (p, e, lt)) = inr (p, e, omega arith)

after_early : (parent : Option ℕ) (k j : ℕ) (x : DomNode) → IsEarly parent (suc k) j x → IsEarly parent k (suc j) x
after_early parent k j x (inl e) = inl e
after_early parent k j x (inr (p, e, lt)) = inr (p, e, omega arith)

parents_early : (parent : Option ℕ) (k : ℕ) (f : Forest) (i : ℕ) (x : DomNode) → slice_get (nodes_from parent k f) i ≡ Some x
    → IsEarly parent k i x
parents_early parent k Nil i x h = absurd (none-some x h)
parents_early parent k (Element at m attrs kids next) zero x h =
    inl (ap (λ n. n.parent) (sym (same_Some (element_node parent at m attrs) x h)))
parents_early parent k (Element at m attrs kids next) (suc j) x h =
    let inside = nodes_from (Some k) (suc k) kids in
    let behind = nodes_from parent (suc k + length inside) next in
    elim (get_append inside behind j x h) [
      | inl here ↦ inside_early parent k j x (parents_early (Some k) (suc k) kids j x here)
      | inr (i, is, here) ↦ behind_early parent k j (length inside) i x is
          (parents_early parent (suc k + length inside) next i x here)
    ]
parents_early parent k (Words at text next) zero x h = inl (ap (λ n. n.parent) (sym (same_Some (words_node parent at text) x h)))
parents_early parent k (Words at text next) (suc j) x h = after_early parent k j x (parents_early parent (suc k) next j x h)

root_early : (n p : ℕ) (x : DomNode) → IsEarly None 0 n x → x.parent ≡ Some p → p < n
root_early n p x (inl e) is = absurd (none-some p (sym e ∙ is))
root_early n p x (inr (q, e, lt)) is = let same : q ≡ p = same_Some q p (sym e ∙ is) in omega arith

pub parents_are_earlier : (dom : Dom) → IsWellFormed dom → ParentsAreEarlier dom
parents_are_earlier dom formed n p h =
    option_and_then_some (λ node. node.parent) (slice_get dom.nodes n) p h (λ x at e.
    let P : List DomNode → Type 0 = λ v. slice_get v n ≡ Some x in
    root_early n p x (parents_early None 0 formed.tree n x (subst P formed.nodes at)) e)

pub element_within : (dom : Dom) (n : ℕ) → IsElementAt dom n → n < length dom.nodes
element_within dom n h = from dom.nodes n h
  where
    from : (nodes : List DomNode) (n : ℕ) → IsSomeAnd (slice_get nodes n) (λ node. IsTrue (is_element node)) → n < length nodes
    from [] n h = absurd h
    from (x ∷ nodes) zero h = omega arith
    from (x ∷ nodes) (suc n) h = let more = from nodes n h in omega arith
