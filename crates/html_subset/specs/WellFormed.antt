-- What holds of every document that is read: its nodes are those of a tree, and its texts and numbers are bounded.
use Rattle.std.specs.Prelude.{◌≡◌, ◌≤◌, ◌+◌, ◌^◌, ℕ, length, sum_by, codes, IsUtf8, None}
use Rattle.std.specs.List.{AllByRecursion}
use Rattle.html_grammar.specs.declared.dom.Attribute.{Attribute}
use Rattle.html_grammar.specs.declared.dom.Dom.{Dom}
use Rattle.html_grammar.specs.declared.dom.DomNode.{DomNode}
use Rattle.html_grammar.specs.declared.dom.NodeKind.{NodeKind}
use Rattle.html_grammar.specs.declared.dom.NodeKind.TheVariants as kinds
use Rattle.html_grammar.specs.Tree.{Forest, Nil, Element, Words, nodes_from}
use Rattle.html_grammar.specs.Grammar.{depth_of}

-- the texts of an attribute are UTF-8
abbrev pub AttributeIsUtf8 : Attribute → Type 0
AttributeIsUtf8 a = IsUtf8 a.name × IsUtf8 a.value

abbrev pub KindIsUtf8 : NodeKind → Type 0
KindIsUtf8 (kinds.Element name attributes) = IsUtf8 name × AllByRecursion AttributeIsUtf8 attributes
KindIsUtf8 (kinds.Words text) = IsUtf8 text

-- the texts of a node are UTF-8
abbrev pub NodeIsUtf8 : DomNode → Type 0
NodeIsUtf8 n = KindIsUtf8 n.kind

-- how many bytes the texts of an attribute have
abbrev pub attribute_bytes : Attribute → ℕ
attribute_bytes a = length a.name + length a.value

abbrev pub kind_bytes : NodeKind → ℕ
kind_bytes (kinds.Element name attributes) = length name + sum_by attribute_bytes attributes
kind_bytes (kinds.Words text) = length text

-- how many bytes the texts of a node have
abbrev pub node_bytes : DomNode → ℕ
node_bytes n = kind_bytes n.kind

-- no text of an attribute has more than so many bytes
abbrev pub AttributeIsWithin : ℕ → Attribute → Type 0
AttributeIsWithin n a = (length a.name ≤ n) × (length a.value ≤ n)

abbrev pub KindIsWithin : ℕ → NodeKind → Type 0
KindIsWithin n (kinds.Element name attributes) = (length name ≤ n) × AllByRecursion (AttributeIsWithin n) attributes
KindIsWithin n (kinds.Words text) = length text ≤ n

-- no text of a node has more than so many bytes
abbrev pub NodeIsWithin : ℕ → DomNode → Type 0
NodeIsWithin n node = KindIsWithin n node.kind

-- one element html, with all that is in it
abbrev pub IsHtml : Forest → Type 0
IsHtml Nil = ⊥
IsHtml (Element at name attributes kids next) = (name ≡ codes "html") × (next ≡ Nil)
IsHtml (Words at text next) = ⊥

-- The nodes are those of a tree in preorder, each with the number of the element that it stands in: the root is html, and
-- at most 64 elements stand one inside another. There are at most 2^28 nodes. Their texts are UTF-8, each with at most 2^28
-- bytes, and with at most 2^28 + 64 together.
pub record IsWellFormed (dom : Dom) : Type 0 where
  pub tree : Forest
  pub nodes : dom.nodes ≡ nodes_from None 0 tree
  pub root : IsHtml tree
  pub depth : depth_of tree ≤ 64
  pub count : length dom.nodes ≤ 2 ^ 28
  pub utf8 : AllByRecursion NodeIsUtf8 dom.nodes
  pub texts : AllByRecursion (NodeIsWithin (2 ^ 28)) dom.nodes
  pub bytes : sum_by node_bytes dom.nodes ≤ 2 ^ 28 + 64
