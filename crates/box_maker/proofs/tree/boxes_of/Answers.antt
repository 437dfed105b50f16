use Rattle.std.proofs.Common.{◌≡◌, ℕ, ◌++◌, List, [], length, refl, sym, ap, ◌∙◌, subst, inr, None}
use Rattle.std.specs.List.{AllByRecursion}
use Rattle.html_grammar.specs.declared.dom.Dom.{Dom}
use Rattle.html_grammar.specs.declared.dom.DomNode.{DomNode}
use Rattle.html_grammar.specs.Tree.{Forest, nodes_from}
use Rattle.html_subset.specs.WellFormed.{IsWellFormed, NodeIsUtf8}
use Rattle.box_data.specs.BoxTree.{box_nodes, boxes_of, shown_from, with_characters}
use Rattle.box_maker.specs.Standing.{Stands}
use Rattle.box_maker.specs.Ends.{HasEnds}
use Rattle.box_maker.proofs.Whole.{stands-whole}
use Rattle.box_maker.proofs.tree.boxes_of.Goals as goal

standing : (dom : Dom) → IsWellFormed dom → (nodes : List DomNode) (own ends : List ℕ) (tree : Forest) → nodes ≡ dom.nodes →
    ends ≡ own →
    ((t : Forest) → nodes ≡ nodes_from None 0 t → HasEnds own 0 t) → dom.nodes ≡ nodes_from None 0 tree →
    Stands nodes ends None 0 (length nodes) tree
standing dom formed nodes own ends tree same ends_same has is =
    let utf8 = subst (AllByRecursion NodeIsUtf8) (sym same) formed.utf8 in
    stands-whole nodes ends utf8 tree (same ∙ is) (subst (λ xs. HasEnds xs 0 tree) (sym ends_same) (has tree (same ∙ is)))

from-empty : {A : Type 0} (old new : List A) (f : ℕ → List A) → old ≡ [] → new ≡ old ++ f (length old) → new ≡ f 0
from-empty old new f empty made = made ∙ ap (λ xs. xs ++ f (length xs)) empty

pub returns-in-Some-clause-refused : goal.returns-in-Some-clause-refused
returns-in-Some-clause-refused c = inr (λ tree is.
    let st = standing c.args.dom.now c.requires.formed c.as_slice-nodes.result.now c.in_ok-ends.ends.items
    c.as_slice-2.result.now tree
    c.as_slice-nodes.ensures c.as_slice-2.ensures.value c.in_ok-ends.ensures is in
    (c.in-Some.found, sym (c.in-Some.ensures tree st), refl))

pub returns-clause-boxes : goal.returns-clause-boxes
returns-clause-boxes c = λ tree is.
    let st = standing c.args.dom.now c.requires.formed c.as_slice-nodes.result.now c.in_ok-ends.ends.items
    c.as_slice-2.result.now tree
    c.as_slice-nodes.ensures c.as_slice-2.ensures.value c.in_ok-ends.ensures is in
    let made = from-empty c.new-boxes.result c.push_root.new.out (λ n. box_nodes None n (boxes_of c.args.styles.now
    (with_characters tree))) c.new-boxes.ensures
    (c.in_ok-push_root.ensures tree st) in
    let shown = from-empty c.new-shown.result c.push_shown.new.shown (λ n. shown_from c.args.styles.now 0 tree)
    c.new-shown.ensures
    (c.in_ok-push_shown.ensures None tree st) in
    (λ i. record { nodes = made i; shown = shown i }, sym (c.in-None.ensures tree st))
