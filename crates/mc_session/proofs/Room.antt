-- Where there is room for an edit, the edited document is well formed.
use Rattle.std.proofs.Common.{◌≡◌, ◌∙◌, sym, subst}
use Rattle.std.specs.Prelude.{Ok}
use Rattle.html_grammar.specs.Tree.{Forest}
use Rattle.html_grammar.proofs.NodeOrder.{one_tree_of_nodes}
use Rattle.edit_script.specs.Edited.{edited}
use Rattle.dom_edits.proofs.Formed.{formed_again}
use Rattle.mc_session.specs.Laws.{RoomIsEnough}

pub room_is_enough : RoomIsEnough
room_is_enough edit dom formed room tree after left nodes done was =
    let same : formed.tree ≡ tree = one_tree_of_nodes formed.tree tree (sym formed.nodes ∙ nodes) in
    formed_again edit dom left formed after (subst (λ (t : Forest). edited edit t ≡ Ok after) (sym same) done) was room
