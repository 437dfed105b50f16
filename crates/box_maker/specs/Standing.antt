-- Where the nodes of a tree stand in a document's list of nodes.
use Rattle.std.specs.Prelude.{◌≡◌, ℕ, suc, ◌+◌, Bool, ◌&&◌, List, slice_get, IsUtf8, Option, Some}
use Rattle.html_grammar.specs.declared.dom.DomNode.{DomNode}
use Rattle.html_grammar.specs.Tree.{Forest, Nil, Element, Words, element_node, words_node}
use Rattle.html_grammar.specs.NodeOrder.{is_element_at}
use Rattle.box_data.specs.declared.style.BoxStyle.{BoxStyle}
use Rattle.box_data.specs.Styles.{style_of}
use Rattle.box_data.specs.BoxTree.{node_count, is_block}

-- From number k on up to `end` stand the nodes of this tree, in an element of this number, each with its text in UTF-8;
-- `ends` has for each the number after those in it.
abbrev pub Stands : List DomNode → List ℕ → (parent : Option ℕ) → (k end : ℕ) → Forest → Type 0
Stands nodes ends parent k end Nil = k ≡ end
Stands nodes ends parent k end (Words at text next) =
    (slice_get nodes k ≡ Some (words_node parent at text)) × IsUtf8 text × (slice_get ends k ≡ Some (suc k))
    × Stands nodes ends parent (suc k) end next
Stands nodes ends parent k end (Element at name attributes kids next) =
    (slice_get nodes k ≡ Some (element_node parent at name attributes)) × (slice_get ends k ≡ Some (suc k + node_count kids))
    × Stands nodes ends (Some k) (suc k) (suc k + node_count kids) kids
    × Stands nodes ends parent (suc k + node_count kids) end next

-- node k is a block-level element
abbrev pub starts_block : List DomNode → List BoxStyle → ℕ → Bool
starts_block nodes styles k = is_element_at nodes k && is_block (style_of styles k)
