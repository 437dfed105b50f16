-- Trees, and the nodes of a tree one after the other.
use Rattle.std.specs.Prelude.{ℕ, suc, ◌+◌, List, [], ◌∷◌, ◌++◌, length, Option, Some}
use Rattle.html_grammar.specs.declared.dom.Attribute.{Attribute}
use Rattle.html_grammar.specs.declared.dom.DomNode.{DomNode}
use Rattle.html_grammar.specs.declared.dom.NodeKind.TheVariants as kinds

-- nodes side by side: the first, with what is in it, and those after it
pub data Forest : Type 0 where
  Nil : Forest
  Element : (at : ℕ) (name : List ℕ) (attributes : List Attribute) (kids next : Forest) → Forest
  Words : (at : ℕ) (text : List ℕ) (next : Forest) → Forest

abbrev pub element_node : Option ℕ → ℕ → List ℕ → List Attribute → DomNode
element_node parent at name attrs = record { parent = parent; offset = at; kind = kinds.Element name attrs }

abbrev pub words_node : Option ℕ → ℕ → List ℕ → DomNode
words_node parent at text = record { parent = parent; offset = at; kind = kinds.Words text }

-- the nodes in preorder, numbered from k, in an element of this number
abbrev pub nodes_from : Option ℕ → ℕ → Forest → List DomNode
nodes_from parent k Nil = []
nodes_from parent k (Element at name attrs kids next) =
    element_node parent at name attrs
    ∷ (nodes_from (Some k) (suc k) kids ++ nodes_from parent (suc k + length (nodes_from (Some k) (suc k) kids)) next)
nodes_from parent k (Words at text next) = words_node parent at text ∷ nodes_from parent (suc k) next
