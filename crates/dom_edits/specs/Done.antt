-- What an edit leaves of a document.
use Rattle.std.specs.Prelude.{◌≡◌, ◌⊎◌, List, Result, Ok, Err, None}
use Rattle.html_grammar.specs.declared.dom.DomNode.{DomNode}
use Rattle.html_grammar.specs.Tree.{Forest, nodes_from}
use Rattle.edit_script.specs.declared.script.Edit.{Edit}
use Rattle.edit_script.specs.declared.script.EditFault.{EditFault}
use Rattle.edit_script.specs.declared.script.EditFault.TheVariants.{NoMemory}
use Rattle.edit_script.specs.Edited.{edited}

-- the nodes are those of the tree after the edit
pub record IsDone (edit : Edit) (tree : Forest) (nodes : List DomNode) : Type 0 where
  pub after : Forest
  pub done : edited edit tree ≡ Ok after
  pub nodes_of : nodes ≡ nodes_from None 0 after

-- what an edit answers, and what the nodes are then
abbrev pub Answers : Edit → Forest → List DomNode → Result (Unit {0}) EditFault → Type 0
Answers edit tree nodes (Ok done) = IsDone edit tree nodes
Answers edit tree nodes (Err fault) = (fault ≡ NoMemory) ⊎ (edited edit tree ≡ Err fault)
