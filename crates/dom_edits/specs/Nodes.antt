-- Nodes one after the other, as an edit finds and changes them.
use Rattle.std.specs.Prelude.{ℕ, zero, suc, IfSome, ◌<◌, ◌+◌, ◌-◌, nat_lt, nat_le, List, [], ◌∷◌, ◌++◌, length, take, drop, map}
use Rattle.std.specs.Prelude.{slice_get, slice_range, Bool, false, if◌then◌else◌, codes, Option, None, Some, Result, Ok, Err}
use Rattle.std.specs.List.{list_any, position}
use Rattle.std.specs.Option.{option_map}
use Rattle.html_grammar.specs.declared.dom.Attribute.{Attribute}
use Rattle.html_grammar.specs.declared.dom.DomNode.{DomNode}
use Rattle.html_grammar.specs.declared.dom.NodeKind.{NodeKind}
use Rattle.html_grammar.specs.declared.dom.NodeKind.TheVariants as kinds
use Rattle.html_grammar.specs.Names.{same}
use Rattle.html_grammar.specs.Tree.{nodes_from}
use Rattle.edit_script.specs.declared.script.Edit.{Edit}
use Rattle.edit_script.specs.declared.script.Edit.TheVariants as edits
use Rattle.edit_script.specs.declared.script.EditFault.{EditFault}
use Rattle.edit_script.specs.declared.script.EditFault.TheVariants.{NoElement, NotAllowed}
use Rattle.dom_edits.specs.declared.finding.Place.{Place}
use Rattle.edit_script.specs.Spelling.{id_of}
use Rattle.edit_script.specs.Edited.{has_id, with_class, allowed_at, text_of}

abbrev pub kind_has_id : List ℕ → NodeKind → Bool
kind_has_id id (kinds.Element name attributes) = has_id id attributes
kind_has_id id (kinds.Words text) = false

-- an element with this id
abbrev pub node_has_id : List ℕ → DomNode → Bool
node_has_id id node = kind_has_id id node.kind

abbrev pub kind_is_style : NodeKind → Bool
kind_is_style (kinds.Element name attributes) = same name (codes "style")
kind_is_style (kinds.Words text) = false

abbrev pub node_is_style : DomNode → Bool
node_is_style node = kind_is_style node.kind

abbrev pub kind_name : NodeKind → List ℕ
kind_name (kinds.Element name attributes) = name
kind_name (kinds.Words text) = []

-- a node after an element stands in it where its parent is the element or comes after it
abbrev pub stands_from : ℕ → Option ℕ → Bool
stands_from i None = false
stands_from i (Some p) = nat_le i p

-- how many of the nodes after an element stand in it
abbrev pub inside_len : ℕ → List DomNode → ℕ
inside_len i [] = 0
inside_len i (n ∷ nodes) = if stands_from i n.parent then suc (inside_len i nodes) else 0

-- the number of a node after a change, where the node that had the first number has the second
abbrev pub moved : ℕ → ℕ → ℕ → ℕ
moved from to p = if nat_lt p from then p else to + (p - from)

abbrev pub renumbered : (ℕ → ℕ) → DomNode → DomNode
renumbered f node = record { parent = option_map f node.parent; offset = node.offset; kind = node.kind }

abbrev pub kind_with_class : ℕ → List ℕ → NodeKind → NodeKind
kind_with_class at value (kinds.Element name attributes) = kinds.Element name (with_class at value attributes)
kind_with_class at value (kinds.Words text) = kinds.Words text

abbrev pub node_with_class : List ℕ → DomNode → DomNode
node_with_class value node = record {
  parent = node.parent;
  offset = node.offset;
  kind = kind_with_class node.offset value
      node.kind;
}

-- the class of the node of this number
abbrev pub classed_at : ℕ → List ℕ → List DomNode → List DomNode
classed_at i value [] = []
classed_at zero value (n ∷ nodes) = node_with_class value n ∷ nodes
classed_at (suc i) value (n ∷ nodes) = n ∷ classed_at i value nodes

-- a parent's number is below a bound
abbrev pub ParentIsBelow : ℕ → Option ℕ → Type 0
ParentIsBelow bound parent = IfSome parent (λ p. p < bound)

abbrev pub is_class : Attribute → Bool
is_class a = same a.name (codes "class")

abbrev pub end_from : List DomNode → ℕ → ℕ
end_from nodes i = i + 1 + inside_len i (drop (i + 1) nodes)

abbrev pub name_in : Option DomNode → List ℕ
name_in None = []
name_in (Some node) = kind_name node.kind

-- the edit may be done at the element of this number, which ends there
abbrev pub allowed_in : Edit → List DomNode → ℕ → ℕ → Bool
allowed_in edit nodes i end = allowed_at edit (name_in (slice_get nodes i)) (list_any node_is_style (slice_range nodes i end))

-- where an edit is done
abbrev pub place_from : Edit → List DomNode → Option ℕ → Result Place EditFault
place_from edit nodes None = Err NoElement
place_from edit nodes (Some i) =
    if allowed_in edit nodes i (end_from nodes i) then Ok (record { start = i; end = end_from nodes i }) else Err NotAllowed

abbrev pub place_in : Edit → List DomNode → Result Place EditFault
place_in edit nodes = place_from edit nodes (position (node_has_id (id_of edit)) nodes)

abbrev pub offset_in : Option DomNode → ℕ
offset_in None = 0
offset_in (Some node) = node.offset

-- nodes with others in place of those from one number up to another
abbrev pub replaced : ℕ → ℕ → List DomNode → List DomNode → List DomNode
replaced start end new nodes = map (renumbered (moved end (start + length new))) (take start nodes ++ (new ++ drop end nodes))

abbrev pub words_at : ℕ → ℕ → List ℕ → List DomNode
words_at start at rest = nodes_from (Some start) (suc start) (text_of at rest)

-- the nodes after an edit
abbrev pub changed_nodes : Edit → ℕ → ℕ → List DomNode → List DomNode
changed_nodes (edits.Words id rest) start end nodes =
    replaced (start + 1) end (words_at start (offset_in (slice_get nodes start)) rest) nodes
changed_nodes (edits.Class id rest) start end nodes = classed_at start rest nodes
changed_nodes (edits.Remove id) start end nodes = replaced start end [] nodes
