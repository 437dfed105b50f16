-- Style attributes stay as they were read.
use Rattle.std.proofs.Common.{◌≡◌, ℕ, zero, suc, List, [], ◌∷◌, Bool, true, false, Option, None, Some, Ok}
use Rattle.std.proofs.Common.{refl, ap, ◌∙◌}
use Rattle.std.specs.Prelude.{map, find, codes, IsOk}
use Rattle.std.specs.List.{AllByRecursion}
use Rattle.std.proofs.lemmas.Slice.Eq.{bytes_eq-Decides}
use Rattle.html_grammar.specs.declared.dom.Attribute.{Attribute}
use Rattle.html_grammar.specs.declared.dom.DomNode.{DomNode}
use Rattle.html_grammar.specs.Names.{same}
use Rattle.html_grammar.specs.Tree.{Forest, nodes_from, element_node}
use Rattle.css_winner.specs.Own.{own_settings, is_style}
use Rattle.css_cascade.specs.Attributes.{AllAreRead}
use Rattle.edit_script.specs.declared.script.Edit.{Edit}
use Rattle.edit_script.specs.declared.script.Edit.TheVariants as edits
use Rattle.edit_script.specs.Edited.{Whole, edited, with_class}
use Rattle.dom_edits.specs.Nodes.{renumbered, is_class}
use Rattle.dom_edits.proofs.Shifted.{kids_nodes, outermost}
use Rattle.dom_edits.proofs.Spots.{spot, new_nodes}
use Rattle.dom_edits.proofs.Formed.{spot_all, was_done}

abbrev IsRead : DomNode → Type 0
IsRead node = IsOk (own_settings node)

all_from : (nodes : List DomNode) → AllAreRead nodes → AllByRecursion IsRead nodes
all_from [] all = tt
all_from (n ∷ nodes) all = (all 0 n refl, all_from nodes (λ k m at. all (suc k) m at))

read_at : (n : DomNode) (nodes : List DomNode) → IsRead n → AllAreRead nodes → AllAreRead (n ∷ nodes)
read_at n nodes here more zero m at = let e : n ≡ m = cc in rw (← e) here
read_at n nodes here more (suc k) m at = more k m at

all_to : (nodes : List DomNode) → AllByRecursion IsRead nodes → AllAreRead nodes
all_to [] all = λ k m at. absurd (let e : None ≡ Some m = at in cc)
all_to (n ∷ nodes) all = read_at n nodes all.0 (all_to nodes all.1)

read_again : (f : ℕ → ℕ) (nodes : List DomNode) → AllByRecursion IsRead nodes → AllByRecursion IsRead (map (renumbered f) nodes)
read_again f [] all = tt
read_again f (n ∷ nodes) all = (all.0, read_again f nodes all.1)

-- an attribute `class` is no style attribute
no_style : (a : Attribute) → is_class a ≡ true → is_style a ≡ false
unfolding same
no_style a is = let e : a.name ≡ codes "class" = (bytes_eq-Decides a.name (codes "class")).0 is in rw e refl

style_kept : (at : ℕ) (value : List ℕ) (xs : List Attribute) → find is_style (with_class at value xs) ≡ find is_style xs
style_kept at value [] = refl
style_kept at value (a ∷ xs) = by_class (is_class a) refl (style_kept at value xs)
  where
    by_class : (t : Bool) → is_class a ≡ t → find is_style (with_class at value xs) ≡ find is_style xs
        → find is_style (with_class at value (a ∷ xs)) ≡ find is_style (a ∷ xs)
    by_class true is below = rw (is, no_style a is) refl
    by_class false is below = rw (is, below) refl

new_read : (edit : Edit) (q : Option ℕ) (i : ℕ) (e : Whole) → IsRead (element_node q e.at e.name e.attributes)
    → AllByRecursion IsRead (kids_nodes i e.kids) → AllByRecursion IsRead (new_nodes edit q i e)
new_read (edits.Words id []) q i e own inner = (own, tt)
new_read (edits.Words id (b ∷ rest)) q i e own inner = (own, (refl, tt))
new_read (edits.Class id rest) q i e own inner = (rw (style_kept e.at rest e.attributes) own, inner)
new_read (edits.Remove id) q i e own inner = tt

-- the style attributes of an edited document are on their grammar
pub still_read : (edit : Edit) (tree after : Forest) (nodes left : List DomNode) → nodes ≡ nodes_from None 0 tree
    → edited edit tree ≡ Ok after → left ≡ nodes_from None 0 after → AllAreRead nodes → AllAreRead left
still_read edit tree after nodes left is done was all =
    let d = was_done edit tree after done in
    let s = spot edit None 0 tree d.e outermost d.found in
    all_to left (spot_all IsRead edit tree d.e s nodes left is (was ∙ ap (λ t. nodes_from None 0 t) d.is) read_again
    (new_read edit s.q s.i d.e) (all_from nodes all))
