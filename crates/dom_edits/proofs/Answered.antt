-- An edit of a tree's nodes is the edit of the tree.
use Rattle.std.proofs.Common.{◌≡◌, ℕ, suc, ◌+◌, ◌-◌, ◌<◌, List, [], ◌∷◌, ◌++◌, length, Bool, true, false, cond}
use Rattle.std.proofs.Common.{Option, None, Some, Ok, Err, take, drop, refl, sym, ap, ◌∙◌, arith, append_assoc}
use Rattle.std.specs.Prelude.{map, option_map, slice_get, slice_range}
use Rattle.std.specs.List.{position}
use Rattle.std.proofs.lemmas.List.{map-append}
use Rattle.std.proofs.Math.Seq.{take-append_seam, drop-append_seam, take-append-add, drop-append-add}
use Rattle.html_grammar.specs.declared.dom.DomNode.{DomNode}
use Rattle.html_grammar.specs.Tree.{Forest, element_node, nodes_from}
use Rattle.edit_script.specs.declared.script.Edit.{Edit}
use Rattle.edit_script.specs.declared.script.Edit.TheVariants as edits
use Rattle.edit_script.specs.declared.script.EditFault.{EditFault}
use Rattle.edit_script.specs.declared.script.EditFault.TheVariants.{NoElement, NotAllowed}
use Rattle.edit_script.specs.Spelling.{id_of}
use Rattle.edit_script.specs.Edited.{Whole, first_with, edited, changed_in, is_allowed, text_of}
use Rattle.dom_edits.specs.declared.finding.Place.{Place}
use Rattle.dom_edits.specs.Done.{IsDone}
use Rattle.dom_edits.specs.Nodes.{renumbered, moved, inside_len, node_has_id, place_in, end_from, allowed_in}
use Rattle.dom_edits.specs.Nodes.{changed_nodes, classed_at, node_with_class}
use Rattle.dom_edits.proofs.Positions.{position_front, position_none}
use Rattle.dom_edits.proofs.Shifted.{kids_nodes, IsBelow, outermost, kept, moved_below, inside}
use Rattle.dom_edits.proofs.Spots.{Spot, new_nodes, end_of, spot, styles, none_there}

get_seam : (pre : List DomNode) (x : DomNode) (rest : List DomNode) → slice_get (pre ++ x ∷ rest) (length pre) ≡ Some x
get_seam [] x rest = refl
get_seam (y ∷ pre) x rest = get_seam pre x rest

classed_seam : (value : List ℕ) (pre : List DomNode) (x : DomNode) (rest : List DomNode)
    → classed_at (length pre) value (pre ++ x ∷ rest) ≡ pre ++ node_with_class value x ∷ rest
classed_seam value [] x rest = refl
classed_seam value (y ∷ pre) x rest = ap (λ ys. y ∷ ys) (classed_seam value pre x rest)

-- nodes in front, an element, the nodes in it and those after it
abbrev laid : List DomNode → DomNode → List DomNode → List DomNode → List DomNode
laid pre x ks post = pre ++ x ∷ (ks ++ post)

ends_there : (i : ℕ) (pre : List DomNode) (x : DomNode) (tree : Forest) (post : List DomNode) → i ≡ length pre
    → inside_len i post ≡ 0
    → end_from (laid pre x (kids_nodes i tree) post) i ≡ i + 1 + length (kids_nodes i tree)
ends_there i pre x tree post is none =
    let n : i + 1 ≡ length pre + 1 = omega (arith, is) in
    let rest : drop (i + 1) (laid pre x (kids_nodes i tree) post) ≡ kids_nodes i tree ++ post =
    rw n (drop-append-add pre (x ∷ (kids_nodes i tree ++ post)) 1) in
    let count = inside i i (suc i) tree post (omega arith) (omega arith) in
    rw (rest, count, none) (omega arith)

get_there : (i : ℕ) (pre : List DomNode) (x : DomNode) (rest : List DomNode) → i ≡ length pre
    → slice_get (pre ++ x ∷ rest) i ≡ Some x
get_there i pre x rest is = rw is (get_seam pre x rest)

classed_there : (i : ℕ) (value : List ℕ) (pre : List DomNode) (x : DomNode) (rest : List DomNode) → i ≡ length pre
    → classed_at i value (pre ++ x ∷ rest) ≡ pre ++ node_with_class value x ∷ rest
classed_there i value pre x rest is = rw is (classed_seam value pre x rest)

front_there : (i : ℕ) (pre rest : List DomNode) → i ≡ length pre → take i (pre ++ rest) ≡ pre
front_there i pre rest is = rw is (take-append_seam pre rest)

drop_there : (i end : ℕ) (pre : List DomNode) (x : DomNode) (ks post : List DomNode) → i ≡ length pre → end ≡ i + 1 + length ks
    → drop end (laid pre x ks post) ≡ post
drop_there i end pre x ks post is e =
    let n : end ≡ length pre + suc (length ks) = omega (arith, is, e) in
    rw n (drop-append-add pre (x ∷ (ks ++ post)) (suc (length ks)) ∙ drop-append_seam ks post)

take_there : (i : ℕ) (pre : List DomNode) (x : DomNode) (ks post : List DomNode) → i ≡ length pre
    → take (i + 1) (laid pre x ks post) ≡ pre ++ x ∷ []
take_there i pre x ks post is =
    let n : i + 1 ≡ length pre + 1 = omega (arith, is) in rw n (take-append-add pre (x ∷ (ks ++ post)) 1)

range_there : (i end : ℕ) (pre : List DomNode) (x : DomNode) (ks post : List DomNode) → i ≡ length pre → end ≡ i + 1 + length ks
    → slice_range (laid pre x ks post) i end ≡ x ∷ ks
range_there i end pre x ks post is e =
    let n : end - i ≡ suc (length ks) = omega (arith, e) in
    rw (n, is, drop-append_seam pre (x ∷ (ks ++ post))) (ap (λ ys. x ∷ ys) (take-append_seam ks post))

same_all : (f : ℕ → ℕ) → ((p : ℕ) → f p ≡ p) → (node : DomNode) → renumbered f node ≡ node
same_all f same node = ap (λ (p : Option ℕ). record { parent = p; offset = node.offset; kind = node.kind })
    (by_parent node.parent)
  where
    by_parent : (parent : Option ℕ) → option_map f parent ≡ parent
    by_parent None = refl
    by_parent (Some p) = ap Some (same p)

same_list : (f : ℕ → ℕ) → ((p : ℕ) → f p ≡ p) → (nodes : List DomNode) → map (renumbered f) nodes ≡ nodes
same_list f same [] = refl
same_list f same (n ∷ nodes) = rw (same_all f same n, same_list f same nodes) refl

moved_same : (e p : ℕ) → moved e e p ≡ p
moved_same e p = grind arith

text_still : (f : ℕ → ℕ) (i at : ℕ) (rest : List ℕ) → f i ≡ i
    → map (renumbered f) (nodes_from (Some i) (suc i) (text_of at rest)) ≡ nodes_from (Some i) (suc i) (text_of at rest)
text_still f i at [] is = refl
text_still f i at (b ∷ rest) is = rw is refl

-- an edit's nodes, where the parts are known
changed_there : (edit : Edit) (i : ℕ) (q : Option ℕ) (pre post : List DomNode) (e : Whole) → i ≡ length pre → IsBelow q i
    → ((f : ℕ → ℕ) → ((p : ℕ) → p < i → f p ≡ p) → map (renumbered f) pre ≡ pre)
    → changed_nodes edit i (end_of i e) (laid pre (element_node q e.at e.name e.attributes) (kids_nodes i e.kids) post)
    ≡ pre ++ (new_nodes edit q i e ++ map (renumbered (moved (end_of i e) (i + length (new_nodes edit q i e)))) post)
changed_there (edits.Words id rest) i q pre post e is lt keep =
    let x = element_node q e.at e.name e.attributes in
    let ks = kids_nodes i e.kids in
    let w = nodes_from (Some i) (suc i) (text_of e.at rest) in
    let to : i + 1 + length w ≡ i + suc (length w) = omega arith in
    let f = moved (end_of i e) (i + suc (length w)) in
    let small : (p : ℕ) → p < i → f p ≡ p = λ p less. moved_below (end_of i e) (i + suc (length w)) p (omega arith) in
    let own : f i ≡ i = moved_below (end_of i e) (i + suc (length w)) i (omega arith) in
    let at : slice_get (laid pre x ks post) i ≡ Some x = get_there i pre x (ks ++ post) is in
    rw (
      at,
      take_there i pre x ks post is,
      drop_there i (end_of i e) pre x ks post is refl,
      to,
      map-append (renumbered f) (pre ++ x ∷ []) (w ++ post),
      map-append (renumbered f) pre (x ∷ []),
      keep f small,
      map-append (renumbered f) w post,
      text_still f i e.at rest own,
      kept f q i small lt,
    )
    (append_assoc pre (x ∷ []) (w ++ map (renumbered f) post))
changed_there (edits.Class id rest) i q pre post e is lt keep =
    let x = element_node q e.at e.name e.attributes in
    let ks = kids_nodes i e.kids in
    let to : i + suc (length ks) ≡ end_of i e = omega arith in
    let n : classed_at i rest (laid pre x ks post) ≡ pre ++ node_with_class rest x ∷ (ks ++ post) =
    classed_there i rest pre x (ks ++ post) is in
    rw (to, same_list (moved (end_of i e) (end_of i e)) (moved_same (end_of i e)) post) n
changed_there (edits.Remove id) i q pre post e is lt keep =
    let x = element_node q e.at e.name e.attributes in
    let ks = kids_nodes i e.kids in
    let f = moved (end_of i e) (i + 0) in
    let small : (p : ℕ) → p < i → f p ≡ p = λ p less. moved_below (end_of i e) (i + 0) p (omega arith) in
    let front : take i (laid pre x ks post) ≡ pre = front_there i pre (x ∷ (ks ++ post)) is in
    rw (front, drop_there i (end_of i e) pre x ks post is refl, map-append (renumbered f) pre post, keep f small) refl

-- the parts of a tree's nodes, and where the element is found
abbrev parts : (edit : Edit) (tree : Forest) (e : Whole) → Spot edit None 0 tree e → List DomNode
parts edit tree e s = laid s.pre (element_node s.q e.at e.name e.attributes) (kids_nodes s.i e.kids) s.post

found_there : (edit : Edit) (tree : Forest) (e : Whole) (s : Spot edit None 0 tree e)
    → position (node_has_id (id_of edit)) (parts edit tree e s) ≡ Some s.i
found_there edit tree e s =
    let is : s.i ≡ length s.pre = omega (arith, s.place) in
    rw (position_front (node_has_id (id_of edit)) s.pre (element_node s.q e.at e.name e.attributes)
    (kids_nodes s.i e.kids ++ s.post) s.first s.own) (ap Some (sym is))

end_there : (edit : Edit) (tree : Forest) (e : Whole) (s : Spot edit None 0 tree e)
    → end_from (parts edit tree e s) s.i ≡ end_of s.i e
end_there edit tree e s =
    ends_there s.i s.pre (element_node s.q e.at e.name e.attributes) e.kids s.post (omega (arith, s.place)) s.ends

allowed_there : (edit : Edit) (tree : Forest) (e : Whole) (s : Spot edit None 0 tree e)
    → allowed_in edit (parts edit tree e s) s.i (end_of s.i e) ≡ is_allowed edit e
allowed_there edit tree e s =
    let is : s.i ≡ length s.pre = omega (arith, s.place) in
    let x = element_node s.q e.at e.name e.attributes in
    rw (
      get_there s.i s.pre x (kids_nodes s.i e.kids ++ s.post) is,
      range_there s.i (end_of s.i e) s.pre x (kids_nodes s.i e.kids) s.post is refl,
      styles (Some s.i) (suc s.i) e.kids,
    ) refl

abbrev place_at : ℕ → ℕ → Place
place_at i end = record { start = i; end = end }

-- where the edit is done on the parts
place_there : (edit : Edit) (tree : Forest) (e : Whole) (s : Spot edit None 0 tree e)
    → place_in edit (parts edit tree e s) ≡ cond (is_allowed edit e) (Ok (place_at s.i (end_of s.i e))) (Err NotAllowed)
place_there edit tree e s =
    rw (found_there edit tree e s, end_there edit tree e s, allowed_there edit tree e s) refl

spot_of : (edit : Edit) (tree : Forest) (w : Whole) → first_with (id_of edit) tree ≡ Some w → Spot edit None 0 tree w
spot_of edit tree w found = spot edit None 0 tree w outermost found

no_place : (edit : Edit) (tree : Forest) (nodes : List DomNode) → nodes ≡ nodes_from None 0 tree
    → first_with (id_of edit) tree ≡ None
    → place_in edit nodes ≡ Err NoElement
no_place edit tree nodes all none =
    rw (all, position_none (node_has_id (id_of edit)) (nodes_from None 0 tree) (none_there (id_of edit) tree none)) refl

some_place : (edit : Edit) (tree : Forest) (nodes : List DomNode) (w : Whole) (s : Spot edit None 0 tree w)
    → nodes ≡ nodes_from None 0 tree
    → place_in edit nodes ≡ cond (is_allowed edit w) (Ok (place_at s.i (end_of s.i w))) (Err NotAllowed)
some_place edit tree nodes w s all = rw (all ∙ s.nodes) (place_there edit tree w s)

not_ok : (p : Place) (fault : EditFault) → cond false (Ok p) (Err NotAllowed) ≡ Err fault → NotAllowed ≡ fault
not_ok p fault e = cc

-- a fault on the nodes is that on the tree
pub refused : (edit : Edit) (tree : Forest) (nodes : List DomNode) (fault : EditFault) → nodes ≡ nodes_from None 0 tree
    → place_in edit nodes ≡ Err fault → edited edit tree ≡ Err fault
refused edit tree nodes fault all e = by_found (first_with (id_of edit) tree) refl
  where
    by_allowed : (w : Whole) (p : Place) (t : Bool) → is_allowed edit w ≡ t → first_with (id_of edit) tree ≡ Some w
        → cond t (Ok p) (Err NotAllowed) ≡ Err fault → edited edit tree ≡ Err fault
    by_allowed w p true is found miss = absurd (let n : Ok p ≡ Err fault = miss in cc)
    by_allowed w p false is found miss = let same : NotAllowed ≡ fault = not_ok p fault miss in rw (found, is) (ap Err same)

    by_found : (f : Option Whole) → first_with (id_of edit) tree ≡ f → edited edit tree ≡ Err fault
    by_found None found =
        let same : Err NoElement ≡ Err fault = sym (no_place edit tree nodes all found) ∙ e in rw found (cc)
    by_found (Some w) found =
        let s = spot_of edit tree w found in
        by_allowed w (place_at s.i (end_of s.i w)) (is_allowed edit w) refl found (sym (some_place edit tree nodes w s all) ∙ e)

-- the nodes after an edit at its place are those of the tree after it
pub done : (edit : Edit) (tree : Forest) (nodes left : List DomNode) (place : Place) → nodes ≡ nodes_from None 0 tree
    → place_in edit nodes ≡ Ok place → left ≡ changed_nodes edit place.start place.end nodes → IsDone edit tree left
done edit tree nodes left place all e is = by_found (first_with (id_of edit) tree) refl
  where
    by_allowed : (w : Whole) (s : Spot edit None 0 tree w) (t : Bool) → is_allowed edit w ≡ t
        → first_with (id_of edit) tree ≡ Some w
        → cond t (Ok (place_at s.i (end_of s.i w))) (Err NotAllowed) ≡ Ok place → IsDone edit tree left
    by_allowed w s false may found hit = absurd (let n : Err NotAllowed ≡ Ok place = hit in cc)
    by_allowed w s true may found hit =
        let at : place_at s.i (end_of s.i w) ≡ place = cc in
        let changed : changed_nodes edit place.start place.end nodes ≡ nodes_from None 0 (changed_in edit tree) =
        rw (← at, all ∙ s.nodes) (changed_there edit s.i s.q s.pre s.post w (omega (arith, s.place)) s.above s.still_pre
        ∙ sym s.after) in
        record { after = changed_in edit tree; done = rw (found, may) refl; nodes_of = is ∙ changed }

    by_found : (f : Option Whole) → first_with (id_of edit) tree ≡ f → IsDone edit tree left
    by_found None found = absurd (let n : Err NoElement ≡ Ok place = sym (no_place edit tree nodes all found) ∙ e in cc)
    by_found (Some w) found =
        let s = spot_of edit tree w found in
        by_allowed w s (is_allowed edit w) refl found (sym (some_place edit tree nodes w s all) ∙ e)
