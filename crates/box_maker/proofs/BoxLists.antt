-- The list of some boxes, by the box that stands first.
use Rattle.std.proofs.Common.{◌≡◌, ℕ, suc, ◌+◌, ◌++◌, List, ◌∷◌, length, Option, Some, refl}
use Rattle.std.proofs.Common.{arith, append_assoc, append-nil, length-append}
use Rattle.html_grammar.specs.declared.dom.Attribute.{Attribute}
use Rattle.html_grammar.specs.Tree.{Forest}
use Rattle.box_data.specs.declared.tree.BoxNode.{BoxNode}
use Rattle.box_data.specs.declared.style.BoxStyle.{BoxStyle}
use Rattle.box_data.specs.Styles.{style_of}
use Rattle.box_data.specs.BoxTree.{Boxes, none, box, Node, box_count, box_nodes, runs_of, boxes_behind}
use Rattle.box_data.specs.BoxTree.{element_box, kind_of, own_run}
use Rattle.box_maker.specs.Parts.{followed_by}

pub length-box_nodes : (parent : Option ℕ) (n : ℕ) (boxes : Boxes Node) → length (box_nodes parent n boxes) ≡ box_count boxes
length-box_nodes parent n none = refl
length-box_nodes parent n (box node kids next) =
    let a = length-box_nodes (Some n) (suc n) kids in
    let b = length-box_nodes parent (suc n + box_count kids) next in
    rw (length-append, a, b)

abbrev pub node_of : Option ℕ → Node → BoxNode
node_of parent node = record { parent = parent; element = node.element; kind = node.kind; runs = runs_of node.run }

-- boxes after the first one
pub followed-box : (number : ℕ) (out : List BoxNode) (node : Node) (kids next : Boxes Node) →
    followed_by number (out ++ box_nodes (Some number) (length out) (box node kids none)) next
    ≡ followed_by number out (box node kids next)
followed-box number out node kids next =
    let one = node_of (Some number) node in
    let inner = box_nodes (Some (length out)) (suc (length out)) kids in
    let a : length inner ≡ box_count kids = length-box_nodes (Some (length out)) (suc (length out)) kids in
    let b : length (out ++ one ∷ inner) ≡ suc (length out) + box_count kids = omega (arith, length-append out (one ∷ inner), a) in
    rw (append-nil inner, b, append_assoc)

module _ (styles : List BoxStyle) (k : ℕ) (name : List ℕ) (attributes : List Attribute) (kids : Forest) where
  -- the node of block-level element k, and the boxes in it
  abbrev pub own_node : Node
  own_node = record { element = k; kind = kind_of (style_of styles k) name; run = own_run styles k name attributes kids }

  abbrev pub own_box : Boxes Node → Boxes Node
  own_box next = element_box styles k name attributes kids (boxes_behind styles k (suc k) kids) next
