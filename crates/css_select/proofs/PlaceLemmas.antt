-- Earlier siblings, and the test by which they are found.
use Rattle.std.proofs.Common.{◌≡◌, ℕ, zero, suc, ◌+◌, ◌<◌, Bool, true, false, cond, List, [], ◌∷◌, take, drop, Option, Some, None}
use Rattle.std.proofs.Common.{refl, sym, ap, subst, ◌∙◌, arith}
use Rattle.std.specs.Prelude.{count_by, slice_get, option_and_then, IsSomeAnd, IsTrue}
use Rattle.std.proofs.lemmas.Option.{none-some}
use Rattle.std.proofs.lemmas.Bool.{eqb-true, eq-eqb, and_parts, and_from, false_from_ne_true}
use Rattle.std.proofs.lemmas.List.Sums.{sum_by-cons, sum_by-take-drop}
use Rattle.html_grammar.specs.declared.dom.Dom.{Dom}
use Rattle.html_grammar.specs.declared.dom.DomNode.{DomNode}
use Rattle.html_grammar.specs.Whole.{is_element}
use Rattle.css_select.specs.Places.{parent_at, same_parent, stands_in, is_outside, siblings_after, ElementsEnd, IsEarlierSibling}
use Rattle.css_select.specs.Places.{ParentsAreEarlier}

pub same_parent_is : (a b : Option ℕ) → same_parent a b ≡ true → a ≡ b
same_parent_is None None h = refl
same_parent_is None (Some p) h = absurd cc
same_parent_is (Some m) None h = absurd cc
same_parent_is (Some m) (Some p) h = ap Some (eqb-true m p h)

itself : (a : Option ℕ) → same_parent a a ≡ true
itself None = refl
itself (Some m) = eq-eqb m m refl

pub same_parent_of : (a b : Option ℕ) → a ≡ b → same_parent a b ≡ true
same_parent_of a b e = let P : Option ℕ → Type 0 = λ o. same_parent a o ≡ true in subst P e (itself a)

-- the parent of a node that is known
pub parent_is : (dom : Dom) (m : ℕ) (x : DomNode) → slice_get dom.nodes m ≡ Some x → parent_at dom m ≡ x.parent
parent_is dom m x at = ap (option_and_then (λ node. node.parent)) at

pub earlier_from : (dom : Dom) (m n : ℕ) (x : DomNode) → slice_get dom.nodes m ≡ Some x → m < n
    → stands_in (parent_at dom n) x ≡ true → IsEarlierSibling dom m n
earlier_from dom m n x at lt holds =
    let parts = and_parts (is_element x) (same_parent x.parent (parent_at dom n)) holds in
    let P : Option DomNode → Type 0 = λ o. IsSomeAnd o (λ node. IsTrue (is_element node)) in
    record {
      before = lt;
      element = subst P (sym at) parts.0;
      beside = parent_is dom m x at ∙ same_parent_is x.parent (parent_at dom n) parts.1;
    }

pub earlier_is : (dom : Dom) (m n : ℕ) (x : DomNode) → slice_get dom.nodes m ≡ Some x → IsEarlierSibling dom m n
    → stands_in (parent_at dom n) x ≡ true
earlier_is dom m n x at h =
    let P : Option DomNode → Type 0 = λ o. IsSomeAnd o (λ node. IsTrue (is_element node)) in
    and_from (is_element x) (same_parent x.parent (parent_at dom n)) (subst P at h.element)
    (same_parent_of x.parent (parent_at dom n) (sym (parent_is dom m x at) ∙ h.beside))

-- a prefix of which no element passes counts nothing
count_none : {X : Type 0} (p : X → Bool) (xs : List X) (n : ℕ) → ((k : ℕ) (x : X) → slice_get xs k ≡ Some x → k < n → p x ≡ false)
    → count_by p (take n xs) ≡ 0
count_none p [] zero f = refl
count_none p [] (suc n) f = refl
count_none p (x ∷ xs) zero f = refl
count_none p (x ∷ xs) (suc n) f =
    let first : p x ≡ false = f zero x refl (omega arith) in
    let others : count_by p (take n xs) ≡ 0 = count_none p xs n (λ k y at lt. f (suc k) y at (omega arith)) in
    sum_by-cons (λ y. cond (p y) 1 0) x (take n xs) ∙ rw (first, others) refl

-- up to its parent no element stands in the parent of a node
pub none_up_to_parent : (dom : Dom) (node parent : ℕ) → ParentsAreEarlier dom → parent_at dom node ≡ Some parent
    → count_by (stands_in (parent_at dom node)) (take (parent + 1) dom.nodes) ≡ 0
none_up_to_parent dom node parent parents e =
    count_none (stands_in (parent_at dom node)) dom.nodes (parent + 1)
    (λ k x at lt. false_from_ne_true (stands_in (parent_at dom node) x) (λ holds.
    let parts = and_parts (is_element x) (same_parent x.parent (parent_at dom node)) holds in
    let above : parent_at dom k ≡ Some parent = parent_is dom k x at
    ∙ (same_parent_is x.parent (parent_at dom node) parts.1 ∙ e) in
    let before : parent < k = parents k parent above in
    absurd (omega arith)))

-- a list of which no element passes counts nothing
count_none_of : {X : Type 0} (p : X → Bool) (xs : List X) →
    ((k : ℕ) (x : X) → slice_get xs k ≡ Some x → p x ≡ false) → count_by p xs ≡ 0
count_none_of p [] f = refl
count_none_of p (x ∷ xs) f =
    let first : p x ≡ false = f zero x refl in
    let others : count_by p xs ≡ 0 = count_none_of p xs (λ k y at. f (suc k) y at) in
    sum_by-cons (λ y. cond (p y) 1 0) x xs ∙ rw (first, others) refl

get_drop : {X : Type 0} (a : ℕ) (xs : List X) (i j : ℕ) (x : X) → j ≡ a + i →
    slice_get (drop a xs) i ≡ Some x → slice_get xs j ≡ Some x
get_drop zero xs i j x is at = let same : i ≡ j = omega arith in subst (λ n. slice_get xs n ≡ Some x) same at
get_drop (suc a) [] i j x is at = absurd (none-some x at)
get_drop (suc a) (y ∷ xs) i zero x is at = absurd (omega arith)
get_drop (suc a) (y ∷ xs) i (suc j) x is at = get_drop a xs i j x (omega arith) at

-- once a node stands outside of an element, no node from there on stands in that
none_in : (dom : Dom) (n i : ℕ) (x : DomNode) (element : Option ℕ) →
    element ≡ parent_at dom n → ParentsAreEarlier dom → ElementsEnd dom →
    slice_get (drop (n + 1) dom.nodes) i ≡ Some x → is_outside x.parent element ≡ true →
    (k : ℕ) (y : DomNode) → slice_get (drop i (drop (n + 1) dom.nodes)) k ≡ Some y → stands_in element y ≡ false
none_in dom n i x None e parents ends at out k y there = absurd cc
none_in dom n i x (Some p) e parents ends at out k y there = false_from_ne_true (stands_in (Some p) y) (λ holds.
    let parts = and_parts (is_element y) (same_parent y.parent (Some p)) holds in
    let before : p < n = parents n p (sym e) in
    let here = get_drop (n + 1) dom.nodes i (n + 1 + i) x refl at in
    let between = get_drop i (drop (n + 1) dom.nodes) k (i + k) y refl there in
    let further = get_drop (n + 1) dom.nodes (i + k) (n + 1 + (i + k)) y refl between in
    let inside = same_parent_is y.parent (Some p) parts.1 in
    ends p (n + 1 + i) (n + 1 + (i + k)) x y (omega arith) (omega arith) here further out inside)

pub none_after : (dom : Dom) (n i : ℕ) (x : DomNode) → ParentsAreEarlier dom → ElementsEnd dom →
    slice_get (drop (n + 1) dom.nodes) i ≡ Some x → is_outside x.parent (parent_at dom n) ≡ true →
    count_by (stands_in (parent_at dom n)) (take i (drop (n + 1) dom.nodes)) ≡ 0 → siblings_after dom n ≡ 0
none_after dom n i x parents ends at out before =
    let test = stands_in (parent_at dom n) in
    let rest = drop (n + 1) dom.nodes in
    let none = none_in dom n i x (parent_at dom n) refl parents ends at out in
    let after : count_by test (drop i rest) ≡ 0 = count_none_of test (drop i rest) none in
    sym (sum_by-take-drop (λ y. cond (test y) 1 0) rest i) ∙ rw (before, after) refl
