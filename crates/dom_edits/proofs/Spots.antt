-- The element that an edit names, among the nodes of a tree.
use Rattle.std.proofs.Common.{◌≡◌, ℕ, suc, ◌+◌, ◌<◌, List, [], ◌∷◌, ◌++◌, length, Bool, true, false, cond}
use Rattle.std.proofs.Common.{Option, None, Some, refl, sym, ap, ◌∙◌, arith, length-append, append_assoc, subst}
use Rattle.std.specs.Prelude.{map}
use Rattle.std.specs.List.{list_any}
use Rattle.std.proofs.lemmas.List.{map-append, length-map}
use Rattle.std.proofs.lemmas.List.Folds.{list_any-append}
use Rattle.html_grammar.specs.declared.dom.Attribute.{Attribute}
use Rattle.html_grammar.specs.declared.dom.DomNode.{DomNode}
use Rattle.html_grammar.specs.Tree.{Forest, Nil, Element, Words, element_node, words_node, nodes_from}
use Rattle.edit_script.specs.declared.script.Edit.{Edit}
use Rattle.edit_script.specs.declared.script.Edit.TheVariants as edits
use Rattle.edit_script.specs.Spelling.{id_of}
use Rattle.edit_script.specs.Edited.{Whole, has_id, first_with, or_else, is_there, changed, changed_in, text_of, with_class}
use Rattle.edit_script.specs.Edited.{holds_style}
use Rattle.dom_edits.specs.Nodes.{renumbered, moved, inside_len, node_has_id, node_is_style}
use Rattle.dom_edits.proofs.Shifted.{kids_nodes, next_nodes, IsBelow, below_more, own_below, kept, still, shift_past, outside}
use Rattle.dom_edits.proofs.Shifted.{outside_both}

-- what stands in place of an element and of what is in it
abbrev pub new_nodes : Edit → Option ℕ → ℕ → Whole → List DomNode
new_nodes (edits.Words id rest) q i e = element_node q e.at e.name e.attributes ∷ nodes_from (Some i) (suc i) (text_of e.at rest)
new_nodes (edits.Class id rest) q i e = element_node q e.at e.name (with_class e.at rest e.attributes) ∷ kids_nodes i e.kids
new_nodes (edits.Remove id) q i e = []

-- the number of the node after an element and what is in it
abbrev pub end_of : ℕ → Whole → ℕ
end_of i e = i + 1 + length (kids_nodes i e.kids)

-- The nodes of a tree are those before an element, the element, those in it and those after it; and after the edit those before
-- it, the new ones, and those after it with their new numbers.
pub record Spot (edit : Edit) (parent : Option ℕ) (k : ℕ) (tree : Forest) (e : Whole) : Type 0 where
  pub pre : List DomNode
  pub post : List DomNode
  pub q : Option ℕ
  pub i : ℕ
  pub place : i ≡ k + length pre
  pub nodes : nodes_from parent k tree ≡ pre ++ element_node q e.at e.name e.attributes ∷ (kids_nodes i e.kids ++ post)
  pub first : list_any (node_has_id (id_of edit)) pre ≡ false
  pub own : has_id (id_of edit) e.attributes ≡ true
  pub above : IsBelow q i
  pub ends : inside_len i post ≡ 0
  pub still_pre : (f : ℕ → ℕ) → ((p : ℕ) → p < i → f p ≡ p) → map (renumbered f) pre ≡ pre
  pub after : nodes_from parent k (changed_in edit tree)
      ≡ pre ++ (new_nodes edit q i e ++ map (renumbered (moved (end_of i e) (i + length (new_nodes edit q i e)))) post)

abbrev whole_of : ℕ → List ℕ → List Attribute → Forest → Whole
whole_of at name attributes kids = record { at = at; name = name; attributes = attributes; kids = kids }

-- the element itself
here_after : (edit : Edit) (parent : Option ℕ) (k at : ℕ) (name : List ℕ) (attributes : List Attribute) (kids next : Forest)
    → IsBelow parent k
    → let e : Whole = record { at = at; name = name; attributes = attributes; kids = kids } in
    nodes_from parent k (changed edit e next)
    ≡ new_nodes edit parent k e ++ map (renumbered (moved (end_of k e) (k + length (new_nodes edit parent k e))))
    (next_nodes parent k kids next)
here_after (edits.Words id rest) parent k at name attributes kids next lt =
    let words = nodes_from (Some k) (suc k) (text_of at rest) in
    let past = shift_past parent (k + 1 + length (kids_nodes k kids)) (k + suc (length words)) 0 (suc k + length
    (kids_nodes k kids))
    (suc k + length words) next (below_more parent k _ lt (omega arith)) (omega arith) (omega arith) in
    rw past refl
here_after (edits.Class id rest) parent k at name attributes kids next lt =
    let past = shift_past parent (k + 1 + length (kids_nodes k kids)) (k + suc (length (kids_nodes k kids))) 0
    (suc k + length (kids_nodes k kids)) (suc k + length (kids_nodes k kids)) next (below_more parent k _ lt (omega arith))
    (omega arith) (omega arith) in
    rw past refl
here_after (edits.Remove id) parent k at name attributes kids next lt =
    let past = shift_past parent (k + 1 + length (kids_nodes k kids)) (k + 0) 0 (suc k + length (kids_nodes k kids)) k next
    (below_more parent k _ lt (omega arith)) (omega arith) (omega arith) in
    rw past refl

here : (edit : Edit) (parent : Option ℕ) (k at : ℕ) (name : List ℕ) (attributes : List Attribute) (kids next : Forest)
    → IsBelow parent k → has_id (id_of edit) attributes ≡ true
    → Spot edit parent k (Element at name attributes kids next)
    (record { at = at; name = name; attributes = attributes; kids = kids })
here edit parent k at name attributes kids next lt is = record {
  pre = [];
  post = next_nodes parent k kids next;
  q = parent;
  i = k;
  place = omega arith;
  nodes = refl;
  first = refl;
  own = is;
  above = lt;
  ends = outside k (suc k + length (kids_nodes k kids)) parent next lt;
  still_pre = λ f same. refl;
  after = rw is (here_after edit parent k at name attributes kids next lt);
}

joined : (pre m post x whole : List DomNode) → whole ≡ pre ++ (m ++ post) → whole ++ x ≡ pre ++ (m ++ (post ++ x))
joined pre m post x whole is = rw (is, append_assoc pre (m ++ post) x, append_assoc m post x) refl

-- an element after a text
in_words : (edit : Edit) (parent : Option ℕ) (k at : ℕ) (text : List ℕ) (next : Forest) (e : Whole)
    → IsBelow parent k → Spot edit parent (suc k) next e → Spot edit parent k (Words at text next) e
in_words edit parent k at text next e lt s =
    let front = words_node parent at text in
    let place : s.i ≡ suc k + length s.pre = s.place in
    record {
      pre = front ∷ s.pre;
      post = s.post;
      q = s.q;
      i = s.i;
      place = omega (arith, place);
      nodes = ap (λ ys. front ∷ ys) s.nodes;
      first = s.first;
      own = s.own;
      above = s.above;
      ends = s.ends;
      still_pre = λ f same. rw (
        kept f parent s.i same (below_more parent k s.i lt (omega
            (arith, place))),
        s.still_pre f same,
      ) refl;
      after = ap (λ ys. front ∷ ys) s.after;
    }

-- an element in the first one
in_kids : (edit : Edit) (parent : Option ℕ) (k at : ℕ) (name : List ℕ) (attributes : List Attribute) (kids next : Forest)
    (e : Whole)
    → IsBelow parent k → has_id (id_of edit) attributes ≡ false → is_there (first_with (id_of edit) kids) ≡ true
    → Spot edit (Some k) (suc k) kids e → Spot edit parent k (Element at name attributes kids next) e
in_kids edit parent k at name attributes kids next e lt other is s =
    let x = next_nodes parent k kids next in
    let front = element_node parent at name attributes in
    let all : length (kids_nodes k kids) ≡ length s.pre + suc (length (kids_nodes s.i e.kids) + length s.post) =
    ap length s.nodes ∙ length-append s.pre (element_node s.q e.at e.name e.attributes ∷ (kids_nodes s.i e.kids ++ s.post))
    ∙ ap (λ n. length s.pre + suc n) (length-append (kids_nodes s.i e.kids) s.post) in
    let f = moved (end_of s.i e) (s.i + length (new_nodes edit s.q s.i e)) in
    let len : length (kids_nodes k (changed_in edit kids)) ≡ length s.pre + (length (new_nodes edit s.q s.i e) + length s.post) =
    ap length s.after ∙ length-append s.pre (new_nodes edit s.q s.i e ++ map (renumbered f) s.post)
    ∙ ap (λ n. length s.pre + n) (length-append (new_nodes edit s.q s.i e) (map (renumbered f) s.post)
    ∙ ap (λ n. length (new_nodes edit s.q s.i e) + n) (length-map s.post (renumbered f))) in
    let place : s.i ≡ suc k + length s.pre = s.place in
    let past : map (renumbered f) x ≡ nodes_from parent (suc k + length (kids_nodes k (changed_in edit kids))) next =
    shift_past parent (end_of s.i e) (s.i + length (new_nodes edit s.q s.i e)) (length s.post) _ _ next
    (below_more parent k _ lt (omega (arith, place))) (omega (arith, all, place)) (omega (arith, len, place)) in
    record {
      pre = front ∷ s.pre;
      post = s.post ++ x;
      q = s.q;
      i = s.i;
      place = omega (arith, place);
      nodes = ap (λ ys. front ∷ ys) (joined s.pre (element_node s.q e.at e.name e.attributes ∷ kids_nodes s.i e.kids) s.post x
          (kids_nodes k kids) s.nodes);
      first = rw (other, s.first) refl;
      own = s.own;
      above = s.above;
      ends = outside_both s.i s.post x s.ends (outside s.i _ parent next (below_more parent k s.i lt (omega (arith, place))));
      still_pre = λ f same. rw (
        kept f parent s.i same (below_more parent k s.i lt (omega
            (arith, place))),
        s.still_pre f same,
      ) refl;
      after = rw (other, is) (ap (λ ys. front ∷ ys) (ap (λ ys. kids_nodes k (changed_in edit kids) ++ ys) (sym past)
          ∙ joined s.pre (new_nodes edit s.q s.i e) (map (renumbered f) s.post) (map (renumbered f) x)
          (kids_nodes k (changed_in edit kids)) s.after
          ∙ ap (λ ys. s.pre ++ (new_nodes edit s.q s.i e ++ ys)) (sym (map-append (renumbered f) s.post x))));
    }

-- no element with the id
misses : (id : List ℕ) (parent : Option ℕ) (k : ℕ) (tree : Forest) → first_with id tree ≡ None
    → list_any (node_has_id id) (nodes_from parent k tree) ≡ false
misses id parent k Nil none = refl
misses id parent k (Words at text next) none = misses id parent (suc k) next none
misses id parent k (Element at name attributes kids next) none =
    by_own (has_id id attributes) (first_with id kids) refl refl none (misses id (Some k) (suc k) kids)
    (misses id parent (suc k + length (kids_nodes k kids)) next)
  where
    by_own : (t : Bool) (f : Option Whole) → has_id id attributes ≡ t → first_with id kids ≡ f
        → cond t (Some (whole_of at name attributes kids)) (or_else f (first_with id next)) ≡ None
        → (first_with id kids ≡ None → list_any (node_has_id id) (kids_nodes k kids) ≡ false)
        → (first_with id next ≡ None → list_any (node_has_id id) (next_nodes parent k kids next) ≡ false)
        → list_any (node_has_id id) (nodes_from parent k (Element at name attributes kids next)) ≡ false
    by_own true f is found e inner outer = absurd (let n : Some (whole_of at name attributes kids) ≡ None = e in cc)
    by_own false (Some w) is found e inner outer = absurd (let n : Some w ≡ None = e in cc)
    by_own false None is found e inner outer =
        rw (is, list_any-append (node_has_id id) (kids_nodes k kids) (next_nodes parent k kids next), inner found, outer e) refl

-- an element after the first one
in_next : (edit : Edit) (parent : Option ℕ) (k at : ℕ) (name : List ℕ) (attributes : List Attribute) (kids next : Forest)
    (e : Whole)
    → IsBelow parent k → has_id (id_of edit) attributes ≡ false → first_with (id_of edit) kids ≡ None
    → Spot edit parent (suc k + length (kids_nodes k kids)) next e → Spot edit parent k (Element at name attributes kids next) e
in_next edit parent k at name attributes kids next e lt other none s =
    let front = element_node parent at name attributes in
    let k_nodes = kids_nodes k kids in
    let len : length (k_nodes ++ s.pre) ≡ length k_nodes + length s.pre = length-append k_nodes s.pre in
    let place : s.i ≡ suc k + length k_nodes + length s.pre = s.place in
    let is : is_there (first_with (id_of edit) kids) ≡ false = rw none refl in
    record {
      pre = front ∷ (k_nodes ++ s.pre);
      post = s.post;
      q = s.q;
      i = s.i;
      place = omega (arith, place, len);
      nodes = ap (λ ys. front ∷ ys) (ap (λ ys. k_nodes ++ ys) s.nodes ∙ sym (append_assoc k_nodes s.pre _));
      first = rw (
        other,
        list_any-append (node_has_id (id_of edit)) k_nodes s.pre,
        misses (id_of edit) (Some k)
            (suc k) kids none,
        s.first,
      ) refl;
      own = s.own;
      above = s.above;
      ends = s.ends;
      still_pre = λ f same. rw (
        kept f parent s.i same (below_more parent k s.i lt (omega (arith, place))),
        map-append (renumbered f) k_nodes s.pre,
        still f (Some k) (suc k) s.i kids (own_below k) (omega (arith, place)) same,
        s.still_pre f same,
      ) refl;
      after = rw (other, is) (ap (λ ys. front ∷ ys) (ap (λ ys. k_nodes ++ ys) s.after ∙ sym (append_assoc k_nodes s.pre _)));
    }

one_is : (x y : Whole) → Some x ≡ Some y → x ≡ y
one_is x y e = cc

-- where an element has the id, the first one is there
pub spot : (edit : Edit) (parent : Option ℕ) (k : ℕ) (tree : Forest) (e : Whole) → IsBelow parent k
    → first_with (id_of edit) tree ≡ Some e → Spot edit parent k tree e
spot edit parent k Nil e lt is = absurd (let n : None ≡ Some e = is in cc)
spot edit parent k (Words at text next) e lt is =
    in_words edit parent k at text next e lt (spot edit parent (suc k) next e (below_more parent k (suc k) lt (omega arith)) is)
spot edit parent k (Element at name attributes kids next) e lt is =
    by_own (has_id (id_of edit) attributes) (first_with (id_of edit) kids) refl refl is
    (λ w found. spot edit (Some k) (suc k) kids w (own_below k) found)
    (λ found. spot edit parent (suc k + length (kids_nodes k kids)) next e (below_more parent k _ lt (omega arith)) found)
  where
    by_own : (t : Bool) (f : Option Whole) → has_id (id_of edit) attributes ≡ t → first_with (id_of edit) kids ≡ f
        → cond t (Some (record { at = at; name = name; attributes = attributes; kids = kids })) (or_else f (first_with
        (id_of edit) next)) ≡ Some e
        → ((w : Whole) → first_with (id_of edit) kids ≡ Some w → Spot edit (Some k) (suc k) kids w)
        → (first_with (id_of edit) next ≡ Some e → Spot edit parent (suc k + length (kids_nodes k kids)) next e)
        → Spot edit parent k (Element at name attributes kids next) e
    by_own true f own found it inner outer =
        let same = one_is _ e it in
        let P : Whole → Type 0 = λ w. Spot edit parent k (Element at name attributes kids next) w in
        subst P same (here edit parent k at name attributes kids next lt own)
    by_own false (Some w) own found it inner outer =
        let same = one_is w e it in
        in_kids edit parent k at name attributes kids next e lt own (rw found refl)
        (let P : Whole → Type 0 = λ w. Spot edit (Some k) (suc k) kids w in subst P same (inner w found))
    by_own false None own found it inner outer = in_next edit parent k at name attributes kids next e lt own found (outer it)

pub styles : (parent : Option ℕ) (k : ℕ) (tree : Forest) → list_any node_is_style (nodes_from parent k tree) ≡ holds_style tree
styles parent k Nil = refl
styles parent k (Words at text next) = styles parent (suc k) next
styles parent k (Element at name attributes kids next) =
    rw (
      list_any-append node_is_style (kids_nodes k kids) (next_nodes parent k kids next),
      styles (Some k) (suc k) kids,
      styles parent (suc k + length (kids_nodes k kids)) next,
    ) refl

pub none_there : (id : List ℕ) (tree : Forest) → first_with id tree ≡ None
    → list_any (node_has_id id) (nodes_from None 0 tree) ≡ false
none_there id tree none = misses id None 0 tree none
