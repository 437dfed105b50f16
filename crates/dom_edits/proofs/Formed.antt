-- A document is well formed after an edit.
use Rattle.std.proofs.Common.{◌≡◌, ℕ, suc, ◌+◌, ◌^◌, ◌≤◌, List, [], ◌∷◌, ◌++◌, length, Bool, true, false, cond, ◌||◌, not, max}
use Rattle.std.proofs.Common.{Option, None, Some, Ok, Err, refl, sym, ap, ◌∙◌, arith, length-append}
use Rattle.std.specs.Prelude.{map, sum_by, codes, IsUtf8}
use Rattle.std.specs.List.{AllByRecursion}
use Rattle.std.proofs.lemmas.List.{length-map}
use Rattle.std.proofs.lemmas.List.Sums.{sum_by-append, sum_by-cons}
use Rattle.std.proofs.lemmas.Str.{IsUtf8-from_ascii}
use Rattle.std.proofs.lemmas.Str.Ascii.{IsAscii-cons, IsAscii-nil}
use Rattle.std.proofs.Common.{lit<, lit≤}
use Rattle.html_grammar.specs.declared.dom.Attribute.{Attribute}
use Rattle.html_grammar.specs.declared.dom.Dom.{Dom}
use Rattle.html_grammar.specs.declared.dom.DomNode.{DomNode}
use Rattle.html_grammar.specs.Names.{same}
use Rattle.html_grammar.specs.Tree.{Forest, Nil, Element, Words, element_node, words_node, nodes_from}
use Rattle.html_grammar.specs.Grammar.{depth_of}
use Rattle.html_subset.specs.WellFormed.{AttributeIsUtf8, NodeIsUtf8, NodeIsWithin, AttributeIsWithin, attribute_bytes}
use Rattle.html_subset.specs.WellFormed.{node_bytes}
use Rattle.html_subset.specs.WellFormed.{IsHtml, IsWellFormed}
use Rattle.edit_script.specs.declared.script.Edit.{Edit}
use Rattle.edit_script.specs.declared.script.Edit.TheVariants as edits
use Rattle.edit_script.specs.declared.script.EditFault.TheVariants.{NoElement, NotAllowed}
use Rattle.edit_script.specs.Spelling.{id_of}
use Rattle.edit_script.specs.Edited.{Whole, first_with, edited, changed, changed_in, is_allowed, text_of, with_class, has_id}
use Rattle.edit_script.specs.Edited.{is_there, where_allowed}
use Rattle.dom_edits.specs.Nodes.{renumbered, moved, is_class}
use Rattle.dom_edits.specs.Sizes.{rest_of, added_bytes, GrowsBy, HasRoom}
use Rattle.dom_edits.proofs.Shifted.{kids_nodes, outermost}
use Rattle.dom_edits.proofs.Spots.{Spot, new_nodes, end_of, spot}

both : {X : Type 0} (P : X → Type 0) (xs ys : List X) → AllByRecursion P xs → AllByRecursion P ys → AllByRecursion P (xs ++ ys)
both P [] ys a b = b
both P (x ∷ xs) ys a b = (a.0, both P xs ys a.1 b)

fronts : {X : Type 0} (P : X → Type 0) (xs ys : List X) → AllByRecursion P (xs ++ ys) → AllByRecursion P xs
fronts P [] ys a = tt
fronts P (x ∷ xs) ys a = (a.0, fronts P xs ys a.1)

backs : {X : Type 0} (P : X → Type 0) (xs ys : List X) → AllByRecursion P (xs ++ ys) → AllByRecursion P ys
backs P [] ys a = a
backs P (x ∷ xs) ys a = backs P xs ys a.1

-- other numbers change no text
utf8_again : (f : ℕ → ℕ) (nodes : List DomNode) → AllByRecursion NodeIsUtf8 nodes
    → AllByRecursion NodeIsUtf8 (map (renumbered f) nodes)
utf8_again f [] a = tt
utf8_again f (n ∷ nodes) a = (a.0, utf8_again f nodes a.1)

within_again : (m : ℕ) (f : ℕ → ℕ) (nodes : List DomNode) → AllByRecursion (NodeIsWithin m) nodes
    → AllByRecursion (NodeIsWithin m) (map (renumbered f) nodes)
within_again m f [] a = tt
within_again m f (n ∷ nodes) a = (a.0, within_again m f nodes a.1)

bytes_again : (f : ℕ → ℕ) (nodes : List DomNode) → sum_by node_bytes (map (renumbered f) nodes) ≡ sum_by node_bytes nodes
bytes_again f [] = refl
bytes_again f (n ∷ nodes) =
    sum_by-cons node_bytes (renumbered f n) (map (renumbered f) nodes) ∙ ap (λ m. node_bytes n + m) (bytes_again f nodes)
    ∙ sym (sum_by-cons node_bytes n nodes)

class_utf8 : IsUtf8 (codes "class")
class_utf8 = IsUtf8-from_ascii (codes "class") (IsAscii-cons 99 (108 ∷ 97 ∷ 115 ∷ 115 ∷ []) (lit< tt)
    (IsAscii-cons 108 (97 ∷ 115 ∷ 115 ∷ []) (lit< tt) (IsAscii-cons 97 (115 ∷ 115 ∷ []) (lit< tt)
    (IsAscii-cons 115 (115 ∷ []) (lit< tt) (IsAscii-cons 115 [] (lit< tt) IsAscii-nil)))))

attributes_utf8 : (at : ℕ) (value : List ℕ) (xs : List Attribute) → IsUtf8 value → AllByRecursion AttributeIsUtf8 xs
    → AllByRecursion AttributeIsUtf8 (with_class at value xs)
attributes_utf8 at value [] u all = ((class_utf8, u), tt)
attributes_utf8 at value (a ∷ xs) u all = by_test (is_class a) refl (attributes_utf8 at value xs u all.1)
  where
    by_test : (t : Bool) → is_class a ≡ t → AllByRecursion AttributeIsUtf8 (with_class at value xs)
        → AllByRecursion AttributeIsUtf8 (with_class at value (a ∷ xs))
    by_test true is below = rw is ((all.0.0, u), all.1)
    by_test false is below = rw is (all.0, below)

attributes_within : (m at : ℕ) (value : List ℕ) (xs : List Attribute) → 5 ≤ m → length value ≤ m
    → AllByRecursion (AttributeIsWithin m) xs
    → AllByRecursion (AttributeIsWithin m) (with_class at value xs)
attributes_within m at value [] five u all = ((five, u), tt)
attributes_within m at value (a ∷ xs) five u all = by_test (is_class a) refl (attributes_within m at value xs five u all.1)
  where
    by_test : (t : Bool) → is_class a ≡ t → AllByRecursion (AttributeIsWithin m) (with_class at value xs)
        → AllByRecursion (AttributeIsWithin m) (with_class at value (a ∷ xs))
    by_test true is below = rw is ((all.0.0, u), all.1)
    by_test false is below = rw is (all.0, below)

attributes_bytes : (at : ℕ) (value : List ℕ) (xs : List Attribute)
    → sum_by attribute_bytes (with_class at value xs) ≤ sum_by attribute_bytes xs + (length value + 5)
attributes_bytes at value [] = omega arith
attributes_bytes at value (a ∷ xs) = by_test (is_class a) refl (attributes_bytes at value xs)
  where
    by_test : (t : Bool) → is_class a ≡ t
        → sum_by attribute_bytes (with_class at value xs) ≤ sum_by attribute_bytes xs + (length value + 5)
        → sum_by attribute_bytes (with_class at value (a ∷ xs)) ≤ sum_by attribute_bytes (a ∷ xs) + (length value + 5)
    by_test true is below =
        let one = sum_by-cons attribute_bytes a xs in
        let two = sum_by-cons attribute_bytes (record { name = a.name; value = value; offset = a.offset }) xs in
        rw is (omega (arith, one, two))
    by_test false is below =
        let one = sum_by-cons attribute_bytes a xs in
        let two = sum_by-cons attribute_bytes a (with_class at value xs) in
        rw is (omega (arith, one, two, below))

-- the new nodes
new_utf8 : (edit : Edit) (q : Option ℕ) (i : ℕ) (e : Whole) → IsUtf8 (rest_of edit)
    → NodeIsUtf8 (element_node q e.at e.name e.attributes) → AllByRecursion NodeIsUtf8 (kids_nodes i e.kids)
    → AllByRecursion NodeIsUtf8 (new_nodes edit q i e)
new_utf8 (edits.Words id []) q i e u own inner = (own, tt)
new_utf8 (edits.Words id (b ∷ rest)) q i e u own inner = (own, (u, tt))
new_utf8 (edits.Class id rest) q i e u own inner = ((own.0, attributes_utf8 e.at rest e.attributes u own.1), inner)
new_utf8 (edits.Remove id) q i e u own inner = tt

new_within : (m : ℕ) (edit : Edit) (q : Option ℕ) (i : ℕ) (e : Whole) → 5 ≤ m → length (rest_of edit) ≤ m
    → NodeIsWithin m (element_node q e.at e.name e.attributes) → AllByRecursion (NodeIsWithin m) (kids_nodes i e.kids)
    → AllByRecursion (NodeIsWithin m) (new_nodes edit q i e)
new_within m (edits.Words id []) q i e five u own inner = (own, tt)
new_within m (edits.Words id (b ∷ rest)) q i e five u own inner = (own, (u, tt))
new_within m (edits.Class id rest) q i e five u own inner =
    ((own.0, attributes_within m e.at rest e.attributes five u own.1), inner)
new_within m (edits.Remove id) q i e five u own inner = tt

new_bytes : (edit : Edit) (q : Option ℕ) (i : ℕ) (e : Whole)
    → sum_by node_bytes (new_nodes edit q i e)
    ≤ node_bytes (element_node q e.at e.name e.attributes) + sum_by node_bytes (kids_nodes i e.kids) + added_bytes edit
new_bytes (edits.Words id []) q i e = omega (arith, sum_by-cons node_bytes (element_node q e.at e.name e.attributes) [])
new_bytes (edits.Words id (b ∷ rest)) q i e =
    let one = sum_by-cons node_bytes (element_node q e.at e.name e.attributes) (words_node (Some i) e.at (b ∷ rest) ∷ []) in
    let two = sum_by-cons node_bytes (words_node (Some i) e.at (b ∷ rest)) [] in
    omega (arith, one, two)
new_bytes (edits.Class id rest) q i e =
    let one = sum_by-cons node_bytes (element_node q e.at e.name (with_class e.at rest e.attributes)) (kids_nodes i e.kids) in
    let two = attributes_bytes e.at rest e.attributes in
    omega (arith, one, two)
new_bytes (edits.Remove id) q i e = omega arith

new_count : (edit : Edit) (q : Option ℕ) (i : ℕ) (e : Whole)
    → length (new_nodes edit q i e) ≤ 1 + length (kids_nodes i e.kids) + 1
new_count (edits.Words id []) q i e = omega arith
new_count (edits.Words id (b ∷ rest)) q i e = omega arith
new_count (edits.Class id rest) q i e = omega arith
new_count (edits.Remove id) q i e = omega arith

-- elements stand no deeper
text_flat : (at : ℕ) (rest : List ℕ) → depth_of (text_of at rest) ≡ 0
text_flat at [] = refl
text_flat at (b ∷ rest) = refl

changed_depth : (edit : Edit) (e : Whole) (next : Forest)
    → depth_of (changed edit e next) ≤ max (suc (depth_of e.kids)) (depth_of next)
changed_depth (edits.Words id rest) e next = omega (arith, text_flat e.at rest)
changed_depth (edits.Class id rest) e next = omega arith
changed_depth (edits.Remove id) e next = omega arith

depth_again : (edit : Edit) (tree : Forest) → depth_of (changed_in edit tree) ≤ depth_of tree
depth_again edit Nil = omega arith
depth_again edit (Words at text next) = depth_again edit next
depth_again edit (Element at name attributes kids next) =
    by_own (has_id (id_of edit) attributes) (is_there (first_with (id_of edit) kids)) refl refl (depth_again edit kids)
    (depth_again edit next)
  where
    by_own : (t u : Bool) → has_id (id_of edit) attributes ≡ t → is_there (first_with (id_of edit) kids) ≡ u
        → depth_of (changed_in edit kids) ≤ depth_of kids → depth_of (changed_in edit next) ≤ depth_of next
        → depth_of (changed_in edit (Element at name attributes kids next)) ≤ depth_of (Element at name attributes kids next)
    by_own true u own there inner outer =
        rw own (changed_depth edit (record { at = at; name = name; attributes = attributes; kids = kids }) next)
    by_own false true own there inner outer = rw (own, there) (omega (arith, inner, outer))
    by_own false false own there inner outer = rw (own, there) (omega (arith, inner, outer))

-- the document is still one element html
not_html : (t : Bool) (rest : Bool) → t ≡ true → not (t || rest) ≡ true → ⊥
not_html t rest is may = let e : false ≡ true = rw is at may in cc

same_html : (name : List ℕ) → name ≡ codes "html" → same name (codes "html") ≡ true
unfolding same
same_html name is = rw is refl

html_again : (edit : Edit) (tree : Forest) (w : Whole) → IsHtml tree → first_with (id_of edit) tree ≡ Some w
    → is_allowed edit w ≡ true → IsHtml (changed_in edit tree)
html_again edit Nil w html found may = html
html_again edit (Words at text next) w html found may = html
html_again edit (Element at name attributes kids next) w html found may =
    by_own edit (has_id (id_of edit) attributes) (is_there (first_with (id_of edit) kids)) refl refl found may
  where
    last : (edit : Edit) → changed_in edit next ≡ Nil
    last edit = rw html.1 refl

    own_is : (edit : Edit) → has_id (id_of edit) attributes ≡ true
        → first_with (id_of edit) (Element at name attributes kids next) ≡ Some w
        → record { at = at; name = name; attributes = attributes; kids = kids } ≡ w
    own_is edit own found =
        let e : Some (record { at = at; name = name; attributes = attributes; kids = kids }) ≡ Some w = rw own at found in cc

    named : (edit : Edit) → has_id (id_of edit) attributes ≡ true
        → first_with (id_of edit) (Element at name attributes kids next) ≡ Some w
        → same w.name (codes "html") ≡ true
    named edit own found = rw (← own_is edit own found) (same_html name html.0)

    by_own : (edit : Edit) (t u : Bool) → has_id (id_of edit) attributes ≡ t → is_there (first_with (id_of edit) kids) ≡ u
        → first_with (id_of edit) (Element at name attributes kids next) ≡ Some w → is_allowed edit w ≡ true
        → IsHtml (changed_in edit (Element at name attributes kids next))
    by_own (edits.Words id rest) true u own there found may =
        absurd (not_html (same w.name (codes "html")) _ (named (edits.Words id rest) own found) may)
    by_own (edits.Class id rest) true u own there found may = rw own html
    by_own (edits.Remove id) true u own there found may =
        absurd (not_html (same w.name (codes "html")) _ (named (edits.Remove id) own found) may)
    by_own (edits.Words id rest) false true own there found may = rw (own, there) html
    by_own (edits.Words id rest) false false own there found may = rw (own, there) (html.0, last (edits.Words id rest))
    by_own (edits.Class id rest) false true own there found may = rw (own, there) html
    by_own (edits.Class id rest) false false own there found may = rw (own, there) (html.0, last (edits.Class id rest))
    by_own (edits.Remove id) false true own there found may = rw (own, there) html
    by_own (edits.Remove id) false false own there found may = rw (own, there) (html.0, last (edits.Remove id))

-- what an edit that is done was done at
pub record WasDone (edit : Edit) (tree after : Forest) : Type 0 where
  pub e : Whole
  pub found : first_with (id_of edit) tree ≡ Some e
  pub may : is_allowed edit e ≡ true
  pub is : after ≡ changed_in edit tree

pub was_done : (edit : Edit) (tree after : Forest) → edited edit tree ≡ Ok after → WasDone edit tree after
was_done edit tree after done = by_found (first_with (id_of edit) tree) refl done
  where
    by_allowed : (w : Whole) (t : Bool) → is_allowed edit w ≡ t → first_with (id_of edit) tree ≡ Some w
        → cond t (Ok (changed_in edit tree)) (Err NotAllowed) ≡ Ok after → WasDone edit tree after
    by_allowed w true may found e = record {
      e = w;
      found = found;
      may = may;
      is = (let s : after ≡ changed_in edit tree = cc in
          s);
    }
    by_allowed w false may found e = absurd (let n : Err NotAllowed ≡ Ok after = e in cc)

    by_found : (f : Option Whole) → first_with (id_of edit) tree ≡ f → where_allowed edit tree f ≡ Ok after
        → WasDone edit tree after
    by_found None found e = absurd (let n : Err NoElement ≡ Ok after = e in cc)
    by_found (Some w) found e = by_allowed w (is_allowed edit w) refl found e

-- the bytes and the count of nodes, part by part
laid_bytes : (pre : List DomNode) (x : DomNode) (ks post : List DomNode)
    → sum_by node_bytes (pre ++ x ∷ (ks ++ post))
    ≡ sum_by node_bytes pre + (node_bytes x + (sum_by node_bytes ks + sum_by node_bytes post))
laid_bytes pre x ks post =
    sum_by-append node_bytes pre (x ∷ (ks ++ post)) ∙ ap (λ n. sum_by node_bytes pre + n) (sum_by-cons node_bytes x (ks ++ post)
    ∙ ap (λ n. node_bytes x + n) (sum_by-append node_bytes ks post))

left_bytes : (f : ℕ → ℕ) (pre new post : List DomNode)
    → sum_by node_bytes (pre ++ (new ++ map (renumbered f) post))
    ≡ sum_by node_bytes pre + (sum_by node_bytes new + sum_by node_bytes post)
left_bytes f pre new post =
    sum_by-append node_bytes pre (new ++ map (renumbered f) post) ∙ ap (λ n. sum_by node_bytes pre + n)
    (sum_by-append node_bytes new (map (renumbered f) post) ∙ ap (λ n. sum_by node_bytes new + n) (bytes_again f post))

laid_count : (pre : List DomNode) (x : DomNode) (ks post : List DomNode)
    → length (pre ++ x ∷ (ks ++ post)) ≡ length pre + suc (length ks + length post)
laid_count pre x ks post = length-append pre (x ∷ (ks ++ post)) ∙ ap (λ n. length pre + suc n) (length-append ks post)

left_count : (f : ℕ → ℕ) (pre new post : List DomNode)
    → length (pre ++ (new ++ map (renumbered f) post)) ≡ length pre + (length new + length post)
left_count f pre new post =
    length-append pre (new ++ map (renumbered f) post) ∙ ap (λ n. length pre + n) (length-append new (map (renumbered f) post)
    ∙ ap (λ n. length new + n) (length-map post (renumbered f)))

abbrev spot_f : (edit : Edit) (tree : Forest) (e : Whole) → Spot edit None 0 tree e → ℕ → ℕ
spot_f edit tree e s = moved (end_of s.i e) (s.i + length (new_nodes edit s.q s.i e))

abbrev pub spot_x : (edit : Edit) (tree : Forest) (e : Whole) → Spot edit None 0 tree e → DomNode
spot_x edit tree e s = element_node s.q e.at e.name e.attributes

spot_grows : (edit : Edit) (tree : Forest) (e : Whole) (s : Spot edit None 0 tree e) (nodes left : List DomNode)
    → nodes ≡ nodes_from None 0 tree → left ≡ nodes_from None 0 (changed_in edit tree) → GrowsBy edit nodes left
spot_grows edit tree e s nodes left is was =
    let f = spot_f edit tree e s in
    let x = spot_x edit tree e s in
    let new = new_nodes edit s.q s.i e in
    let ks = kids_nodes s.i e.kids in
    let count : length nodes ≡ length s.pre + suc (length ks + length s.post) = ap length (is ∙ s.nodes)
    ∙ laid_count s.pre x ks s.post in
    let count' : length left ≡ length s.pre + (length new + length s.post) = ap length (was ∙ s.after)
    ∙ left_count f s.pre new s.post in
    let bytes : sum_by node_bytes nodes ≡ sum_by node_bytes s.pre + (node_bytes x +
    (sum_by node_bytes ks + sum_by node_bytes s.post)) =
    ap (λ ns. sum_by node_bytes ns) (is ∙ s.nodes) ∙ laid_bytes s.pre x ks s.post in
    let bytes' : sum_by node_bytes left ≡ sum_by node_bytes s.pre + (sum_by node_bytes new + sum_by node_bytes s.post) =
    ap (λ ns. sum_by node_bytes ns) (was ∙ s.after) ∙ left_bytes f s.pre new s.post in
    record {
      count = omega (arith, count, count', new_count edit s.q s.i e);
      bytes = omega (arith, bytes, bytes', new_bytes edit s.q s.i e);
    }

pub spot_all : (P : DomNode → Type 0) (edit : Edit) (tree : Forest) (e : Whole) (s : Spot edit None 0 tree e)
    (nodes left : List DomNode)
    → nodes ≡ nodes_from None 0 tree → left ≡ nodes_from None 0 (changed_in edit tree)
    → ((f : ℕ → ℕ) (ns : List DomNode) → AllByRecursion P ns → AllByRecursion P (map (renumbered f) ns))
    → (P (spot_x edit tree e s) → AllByRecursion P (kids_nodes s.i e.kids) → AllByRecursion P (new_nodes edit s.q s.i e))
    → AllByRecursion P nodes → AllByRecursion P left
spot_all P edit tree e s nodes left is was again new all =
    let f = spot_f edit tree e s in
    let x = spot_x edit tree e s in
    let ks = kids_nodes s.i e.kids in
    let parts : AllByRecursion P (s.pre ++ x ∷ (ks ++ s.post)) = rw (is ∙ s.nodes) at all in
    let rest : AllByRecursion P (x ∷ (ks ++ s.post)) = backs P s.pre (x ∷ (ks ++ s.post)) parts in
    let made : AllByRecursion P (new_nodes edit s.q s.i e) = new rest.0 (fronts P ks s.post rest.1) in
    let past : AllByRecursion P (map (renumbered f) s.post) = again f s.post (backs P ks s.post rest.1) in
    rw (was ∙ s.after) (both P s.pre _ (fronts P s.pre (x ∷ (ks ++ s.post)) parts)
    (both P (new_nodes edit s.q s.i e) (map (renumbered f) s.post) made past))

spot_formed : (edit : Edit) (dom left : Dom) (e : Whole) (wf : IsWellFormed dom) (s : Spot edit None 0 wf.tree e)
    → first_with (id_of edit) wf.tree ≡ Some e → is_allowed edit e ≡ true
    → left.nodes ≡ nodes_from None 0 (changed_in edit wf.tree) → HasRoom edit dom → IsWellFormed left
spot_formed edit dom left e wf s found may was room =
    let grows = spot_grows edit wf.tree e s dom.nodes left.nodes wf.nodes was in
    record {
      tree = changed_in edit wf.tree;
      nodes = was;
      root = html_again edit wf.tree e wf.root found may;
      depth = omega (arith, depth_again edit wf.tree, wf.depth);
      count = omega (arith, grows.count, room.count);
      utf8 = spot_all NodeIsUtf8 edit wf.tree e s dom.nodes left.nodes wf.nodes was utf8_again
          (new_utf8 edit s.q s.i e room.utf8) wf.utf8;
      texts = spot_all (NodeIsWithin (2 ^ 28)) edit wf.tree e s dom.nodes left.nodes wf.nodes was (within_again (2 ^ 28))
          (new_within (2 ^ 28) edit s.q s.i e (lit≤ tt) room.text) wf.texts;
      bytes = omega (arith, grows.bytes, room.bytes);
    }

-- an edit that is done adds so much at most
pub grows_by : (edit : Edit) (tree after : Forest) (nodes left : List DomNode) → nodes ≡ nodes_from None 0 tree
    → edited edit tree ≡ Ok after → left ≡ nodes_from None 0 after → GrowsBy edit nodes left
grows_by edit tree after nodes left is done was =
    let d = was_done edit tree after done in
    let s = spot edit None 0 tree d.e outermost d.found in
    spot_grows edit tree d.e s nodes left is (was ∙ ap (λ t. nodes_from None 0 t) d.is)

-- and leaves a well formed document where there is room
pub formed_again : (edit : Edit) (dom left : Dom) (wf : IsWellFormed dom) (after : Forest) → edited edit wf.tree ≡ Ok after
    → left.nodes ≡ nodes_from None 0 after → HasRoom edit dom → IsWellFormed left
formed_again edit dom left wf after done was room =
    let d = was_done edit wf.tree after done in
    let s = spot edit None 0 wf.tree d.e outermost d.found in
    spot_formed edit dom left d.e wf s d.found d.may (was ∙ ap (λ t. nodes_from None 0 t) d.is) room
