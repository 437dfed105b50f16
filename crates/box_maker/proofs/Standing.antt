-- What stands at a number, by the tree that stands from there on.
use Rattle.std.proofs.Common.{◌≡◌, ℕ, suc, ◌+◌, ◌<◌, ◌≤◌, List, Option, Some, None, refl, sym, ap, ◌∙◌, subst, arith}
use Rattle.std.specs.Prelude.{slice_get, IsUtf8}
use Rattle.std.proofs.lemmas.Option.{same_Some, none-some}
use Rattle.html_grammar.specs.declared.dom.Attribute.{Attribute}
use Rattle.html_grammar.specs.declared.dom.DomNode.{DomNode}
use Rattle.html_grammar.specs.declared.dom.NodeKind.TheVariants as kinds
use Rattle.html_grammar.specs.Tree.{Forest, Nil, Element, Words, element_node, words_node}
use Rattle.box_data.specs.BoxTree.{node_count, with_characters}
use Rattle.box_maker.specs.Standing.{Stands}

pub node_count-with_characters : (f : Forest) → node_count (with_characters f) ≡ node_count f
node_count-with_characters Nil = refl
node_count-with_characters (Element at name attributes kids next) =
    let a = node_count-with_characters kids in
    let b = node_count-with_characters next in cc
node_count-with_characters (Words at text next) = let b = node_count-with_characters next in cc

module _ (nodes : List DomNode) (ends : List ℕ) where
  pub stands-count : (parent : Option ℕ) (k end : ℕ) (f : Forest) → Stands nodes ends parent k end f → k + node_count f ≡ end
  stands-count parent k end Nil h = omega (arith, h)
  stands-count parent k end (Words at text next) h = let r = stands-count parent (suc k) end next h.3 in omega arith
  stands-count parent k end (Element at name attributes kids next) h =
      let r = stands-count parent (suc k + node_count kids) end next h.3 in omega arith

  -- the nodes of the first of them end by a number within
  pub stands-next : (parent : Option ℕ) (k last : ℕ) (f : Forest) → Stands nodes ends parent k last f → k < last →
      (next : ℕ) × (slice_get ends k ≡ Some next) × (k < next) × (next ≤ last)
  stands-next parent k last Nil h lt = absurd (omega (arith, h))
  stands-next parent k last (Words at text next) h lt =
      let r = stands-count parent (suc k) last next h.3 in (suc k, h.2, omega arith, omega arith)
  stands-next parent k last (Element at name attributes kids next) h lt =
      let r = stands-count parent (suc k + node_count kids) last next h.3 in
      (suc k + node_count kids, h.1, omega arith, omega arith)

  pub stands-over : (parent : Option ℕ) (k last : ℕ) (f : Forest) → Stands nodes ends parent k last f → last ≤ k → f ≡ Nil
  stands-over parent k last Nil h le = refl
  stands-over parent k last (Words at text next) h le =
      let r = stands-count parent (suc k) last next h.3 in absurd (omega arith)
  stands-over parent k last (Element at name attributes kids next) h le =
      let r = stands-count parent (suc k + node_count kids) last next h.3 in absurd (omega arith)

  -- an element that stands first, with what is in it and after it
  pub record IsElementFirst (parent : Option ℕ) (k last end : ℕ)
      (f : Forest) (at : ℕ) (name : List ℕ) (attributes : List Attribute) : Type 0 where
    pub kids : Forest
    pub next : Forest
    pub is : f ≡ Element at name attributes kids next
    pub end_is : end ≡ suc k + node_count kids
    pub inside : Stands nodes ends (Some k) (suc k) end kids
    pub behind : Stands nodes ends parent end last next

  pub element-first : (parent : Option ℕ) (k last end : ℕ) (f : Forest) (x : DomNode) (name : List ℕ) (attributes : List
      Attribute) →
      Stands nodes ends parent k last f → k < last → slice_get nodes k ≡ Some x → x.kind ≡ kinds.Element name attributes →
      slice_get ends k ≡ Some end → IsElementFirst parent k last end f x.offset name attributes
  element-first parent k last end Nil x name attributes h lt is kind e = absurd (omega (arith, h))
  element-first parent k last end (Words at text next) x name attributes h lt is kind e =
      let same : words_node parent at text ≡ x = same_Some (words_node parent at text) x (sym h.0 ∙ is) in
      let k1 : kinds.Words text ≡ kinds.Element name attributes = ap (λ (n : DomNode). n.kind) same ∙ kind in
      cc
  element-first parent k last end (Element at m attrs kids next) x name attributes h lt is kind e =
      let same : element_node parent at m attrs ≡ x = same_Some (element_node parent at m attrs) x (sym h.0 ∙ is) in
      let k1 : kinds.Element m attrs ≡ kinds.Element name attributes = ap (λ (n : DomNode). n.kind) same ∙ kind in
      let at1 : at ≡ x.offset = ap (λ (n : DomNode). n.offset) same in
      let end1 : suc k + node_count kids ≡ end = same_Some (suc k + node_count kids) end (sym h.1 ∙ e) in
      let named : m ≡ name = cc in
      let given : attrs ≡ attributes = cc in
      record {
        kids = kids;
        next = next;
        is = cc;
        end_is = sym end1;
        inside = subst (λ n. Stands nodes ends (Some k) (suc k) n kids) end1 h.2;
        behind = subst (λ n. Stands nodes ends parent n last next) end1 h.3;
      }

  -- a text that stands first
  pub record IsWordsFirst (parent : Option ℕ) (k last end : ℕ) (f : Forest) (text : List ℕ) : Type 0 where
    pub at : ℕ
    pub next : Forest
    pub is : f ≡ Words at text next
    pub end_is : end ≡ suc k
    pub utf8 : IsUtf8 text
    pub behind : Stands nodes ends parent end last next

  pub words-first : (parent : Option ℕ) (k last end : ℕ) (f : Forest) (x : DomNode) (text : List ℕ) →
      Stands nodes ends parent k last f → k < last → slice_get nodes k ≡ Some x → x.kind ≡ kinds.Words text →
      slice_get ends k ≡ Some end → IsWordsFirst parent k last end f text
  words-first parent k last end Nil x text h lt is kind e = absurd (omega (arith, h))
  words-first parent k last end (Words at t next) x text h lt is kind e =
      let same : words_node parent at t ≡ x = same_Some (words_node parent at t) x (sym h.0 ∙ is) in
      let k1 : kinds.Words t ≡ kinds.Words text = ap (λ (n : DomNode). n.kind) same ∙ kind in
      let end1 : suc k ≡ end = same_Some (suc k) end (sym h.2 ∙ e) in
      let texts : t ≡ text = cc in
      record {
        at = at;
        next = next;
        is = cc;
        end_is = sym end1;
        utf8 = subst IsUtf8 texts h.1;
        behind = subst (λ n. Stands nodes ends parent n last next) end1 h.3;
      }
  words-first parent k last end (Element at m attrs kids next) x text h lt is kind e =
      let same : element_node parent at m attrs ≡ x = same_Some (element_node parent at m attrs) x (sym h.0 ∙ is) in
      let k1 : kinds.Element m attrs ≡ kinds.Words text = ap (λ (n : DomNode). n.kind) same ∙ kind in
      cc

  -- something stands at each number that isn't over
  pub none-over : (parent : Option ℕ) (k last : ℕ) (f : Forest) → Stands nodes ends parent k last f → k < last →
      slice_get nodes k ≡ None → ⊥
  none-over parent k last Nil h lt is = omega (arith, h)
  none-over parent k last (Words at t next) h lt is = none-some (words_node parent at t) (sym is ∙ h.0)
  none-over parent k last (Element at m attrs kids next) h lt is = none-some (element_node parent at m attrs) (sym is ∙ h.0)

  -- the number that stands after the first of them
  pub ends-here : (parent : Option ℕ) (k last : ℕ) (f : Forest) (end : ℕ) → Stands nodes ends parent k last f → k < last →
      ((next : ℕ) → slice_get ends k ≡ Some next → k < next → next ≤ last → end ≡ next) → slice_get ends k ≡ Some end
  ends-here parent k last f end h lt exact =
      let n = stands-next parent k last f h lt in
      n.1 ∙ ap Some (sym (exact n.0 n.1 n.2 n.3))
