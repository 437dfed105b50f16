-- When an edited document stays well formed.
use Rattle.std.specs.Prelude.{◌≡◌, None, Ok}
use Rattle.html_grammar.specs.declared.dom.Dom.{Dom}
use Rattle.html_grammar.specs.Tree.{Forest, nodes_from}
use Rattle.html_subset.specs.WellFormed.{IsWellFormed}
use Rattle.edit_script.specs.declared.script.Edit.{Edit}
use Rattle.edit_script.specs.Edited.{edited}

-- where the edit is done, the edited tree is well formed
abbrev pub StaysFormed : Edit → Dom → Type 0
StaysFormed edit dom = (tree after : Forest) (left : Dom) → dom.nodes ≡ nodes_from None 0 tree → edited edit tree ≡ Ok after
    → left.nodes ≡ nodes_from None 0 after → IsWellFormed left
