-- How the elements of a document stand to one another (Selectors 3, section 8).
use Rattle.std.specs.Prelude.{◌≡◌, ◌+◌, ◌<◌, ◌≤◌, ℕ, zero, suc, Bool, false, true, ◌&&◌, ◌==◌, count_by, drop, take, Option, None}
use Rattle.std.specs.Prelude.{Some, IsTrue, IsSomeAnd, nat_lt, option_and_then, slice_get}
use Rattle.html_grammar.specs.declared.dom.Dom.{Dom}
use Rattle.html_grammar.specs.declared.dom.DomNode.{DomNode}
use Rattle.html_grammar.specs.Whole.{is_element}

-- the number of the element that a node stands in
abbrev pub parent_at : Dom → ℕ → Option ℕ
parent_at dom n = option_and_then (λ node. node.parent) (slice_get dom.nodes n)

-- each element stands after the one that it stands in
abbrev pub ParentsAreEarlier : Dom → Type 0
ParentsAreEarlier dom = (n p : ℕ) → parent_at dom n ≡ Some p → p < n

-- a node that stands in the first, or in none, stands outside of the second, where that comes after the first
abbrev pub is_outside : Option ℕ → Option ℕ → Bool
is_outside own None = false
is_outside None (Some p) = true
is_outside (Some m) (Some p) = nat_lt m p

-- where a node after an element stands outside of it, the element has ended, and no node from there on stands in it
abbrev pub ElementsEnd : Dom → Type 0
ElementsEnd dom = (p k j : ℕ) (x y : DomNode) → p < k → k ≤ j →
    slice_get dom.nodes k ≡ Some x → slice_get dom.nodes j ≡ Some y →
    is_outside x.parent (Some p) ≡ true → y.parent ≡ Some p → ⊥

abbrev pub IsElementAt : Dom → ℕ → Type 0
IsElementAt dom n = IsSomeAnd (slice_get dom.nodes n) (λ node. IsTrue (is_element node))

-- the parent of a node, the parent of that, and so on, so many steps up
abbrev pub ancestor_at : Dom → ℕ → ℕ → Option ℕ
ancestor_at dom zero n = parent_at dom n
ancestor_at dom (suc k) n = option_and_then (ancestor_at dom k) (parent_at dom n)

abbrev pub IsAncestor : Dom → ℕ → ℕ → Type 0
IsAncestor dom m n = (k : ℕ) × (ancestor_at dom k n ≡ Some m)

abbrev pub IsParent : Dom → ℕ → ℕ → Type 0
IsParent dom m n = parent_at dom n ≡ Some m

-- the first is an element before the second, with the same parent
pub record IsEarlierSibling (dom : Dom) (m n : ℕ) : Type 0 where
  pub before : m < n
  pub element : IsElementAt dom m
  pub beside : parent_at dom m ≡ parent_at dom n

-- and no other element stands between them there: texts don't part them
pub record IsPreviousSibling (dom : Dom) (m n : ℕ) : Type 0 where
  pub earlier : IsEarlierSibling dom m n
  pub nearest : (k : ℕ) → m < k → IsEarlierSibling dom k n → ⊥

abbrev pub same_parent : Option ℕ → Option ℕ → Bool
same_parent None None = true
same_parent None (Some p) = false
same_parent (Some m) None = false
same_parent (Some m) (Some p) = m == p

-- an element with this parent
abbrev pub stands_in : Option ℕ → DomNode → Bool
stands_in parent node = is_element node && same_parent node.parent parent

-- how many elements stand before a node, and how many after it, with the same parent
abbrev pub siblings_before : Dom → ℕ → ℕ
siblings_before dom n = count_by (stands_in (parent_at dom n)) (take n dom.nodes)

abbrev pub siblings_after : Dom → ℕ → ℕ
siblings_after dom n = count_by (stands_in (parent_at dom n)) (drop (n + 1) dom.nodes)
