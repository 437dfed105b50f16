-- How the nodes of a tree stand in preorder, and the laws of that.
use Rattle.std.specs.Prelude.{◌≡◌, ◌<◌, ◌≤◌, ◌↔◌, ℕ, zero, suc, Bool, true, false, List, [], length, slice_get, Option, None}
use Rattle.std.specs.Prelude.{Some, IsTrue, IsSome}
use Rattle.std.specs.Option.{option_and_then}
use Rattle.html_grammar.specs.declared.dom.Attribute.{Attribute}
use Rattle.html_grammar.specs.declared.dom.DomNode.{DomNode}
use Rattle.html_grammar.specs.declared.dom.NodeKind.{NodeKind}
use Rattle.html_grammar.specs.declared.dom.NodeKind.TheVariants as kinds
use Rattle.html_grammar.specs.Tree.{Forest, Nil, Element, nodes_from}

abbrev pub is_element_kind : NodeKind → Bool
is_element_kind (kinds.Element name attributes) = true
is_element_kind (kinds.Words text) = false

abbrev pub is_element_there : Option DomNode → Bool
is_element_there None = false
is_element_there (Some node) = is_element_kind node.kind

-- whether the node of this number is an element
abbrev pub is_element_at : List DomNode → ℕ → Bool
is_element_at nodes i = is_element_there (slice_get nodes i)

-- the number of the element that a node stands in
abbrev pub parent_at : List DomNode → ℕ → Option ℕ
parent_at nodes i = option_and_then (λ (node : DomNode). node.parent) (slice_get nodes i)

-- where this many steps from a node to its parent lead
abbrev pub above : List DomNode → ℕ → ℕ → Option ℕ
above nodes zero i = Some i
above nodes (suc n) i = option_and_then (above nodes n) (parent_at nodes i)

-- a node stands in this element, or in one that does
abbrev pub IsInside : List DomNode → (element i : ℕ) → Type 0
IsInside nodes element i = (n : ℕ) × (above nodes (suc n) i ≡ Some element)

-- Each node stands in an element before it, or in none.
abbrev pub ParentsAreEarlier : Type 0
ParentsAreEarlier =
    (nodes : List DomNode) (tree : Forest) (i p : ℕ) → nodes ≡ nodes_from None 0 tree → parent_at nodes i ≡ Some p
    → (p < i) × IsTrue (is_element_at nodes p)

-- Where one element holds the whole tree, each node but that one stands in an element.
abbrev pub AllButTheRootHaveParents : Type 0
AllButTheRootHaveParents =
    (nodes : List DomNode) (at : ℕ) (name : List ℕ) (attributes : List Attribute) (kids : Forest) (i : ℕ)
    → nodes ≡ nodes_from None 0 (Element at name attributes kids Nil) → 0 < i → i < length nodes → IsSome (parent_at nodes i)

-- The nodes inside a node are those after it up to some place, and no other.
abbrev pub SubtreesAreContiguous : Type 0
SubtreesAreContiguous =
    (nodes : List DomNode) (tree : Forest) (i : ℕ) → nodes ≡ nodes_from None 0 tree → i < length nodes
    → (end : ℕ) × (i < end) × (end ≤ length nodes) × ((j : ℕ) → IsInside nodes i j ↔ ((i < j) × (j < end)))

-- The nodes have one tree.
abbrev pub NodesHaveOneTree : Type 0
NodesHaveOneTree = (tree other : Forest) → nodes_from None 0 tree ≡ nodes_from None 0 other → tree ≡ other
