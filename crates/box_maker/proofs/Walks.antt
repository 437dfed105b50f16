-- What is left of nodes side by side after the first: constructs, shown elements and blocks.
use Rattle.std.proofs.Common.{◌≡◌, ℕ, suc, ◌+◌, ◌<◌, ◌++◌, Bool, true, false, nat_lt, List, Option, Some, None, Result, Ok, Err}
use Rattle.std.proofs.Common.{OnOk, refl, sym, ◌∙◌, subst, arith}
use Rattle.std.specs.Prelude.{slice_get}
use Rattle.std.proofs.lemmas.Bool.{false≢true}
use Rattle.std.proofs.lemmas.Bool.Decides.{nat_tests}
use Rattle.std.proofs.lemmas.Option.{same_Some}
use Rattle.html_grammar.specs.declared.dom.Attribute.{Attribute}
use Rattle.html_grammar.specs.declared.dom.DomNode.{DomNode}
use Rattle.html_grammar.specs.Tree.{Forest, Nil, Element, Words}
use Rattle.html_grammar.specs.NodeOrder.{is_element_at}
use Rattle.box_data.specs.declared.style.BoxStyle.{BoxStyle}
use Rattle.box_data.specs.Styles.{style_of}
use Rattle.box_data.specs.BoxTree.{node_count, with_characters, is_block, is_shown, has_blocks, or_else, found_at, construct_of}
use Rattle.box_data.specs.BoxTree.{construct_from, first_construct, shown_from}
use Rattle.box_maker.specs.Standing.{Stands, starts_block}
use Rattle.box_maker.specs.Parts.{construct_first, shown_first}
use Rattle.box_maker.proofs.Standing.{stands-count, IsElementFirst}

pub on-ok : {A E : Type 0} (r : Result A E) (P Q : Type 0) → (P → Q) → OnOk r P → OnOk r Q
on-ok (Ok a) P Q f p = f p
on-ok (Err e) P Q f p = tt

module _ (nodes : List DomNode) (ends : List ℕ) (styles : List BoxStyle) where
  abbrev pub ConstructLeft : (around : Bool) (parent : Option ℕ) (k last end : ℕ) → Forest → Type 0
  ConstructLeft around parent k last end f =
      (rest : Forest) × Stands nodes ends parent end last rest
      × (construct_from styles around k f ≡ or_else (construct_first styles around k f) (construct_from styles around end rest))

  pub construct-left : (around : Bool) (parent : Option ℕ) (k last end : ℕ) (f : Forest) → Stands nodes ends parent k last f →
      k < last →
      slice_get ends k ≡ Some end → ConstructLeft around parent k last end f
  construct-left around parent k last end Nil h lt e = absurd (omega (arith, h))
  construct-left around parent k last end (Words at text next) h lt e =
      let e1 : suc k ≡ end = same_Some (suc k) end (sym h.2 ∙ e) in
      subst (λ n. ConstructLeft around parent k last n (Words at text next)) e1 (next, h.3, refl)
  construct-left around parent k last end (Element at name attributes kids next) h lt e =
      let e1 : suc k + node_count kids ≡ end = same_Some (suc k + node_count kids) end (sym h.1 ∙ e) in
      subst (λ n. ConstructLeft around parent k last n (Element at name attributes kids next)) e1 (next, h.3, refl)

  abbrev pub ShownLeft : (parent : Option ℕ) (k last end : ℕ) → Forest → Type 0
  ShownLeft parent k last end f =
      (rest : Forest) × Stands nodes ends parent end last rest
      × (shown_from styles k f ≡ shown_first styles k f ++ shown_from styles end rest)

  pub shown-left : (parent : Option ℕ) (k last end : ℕ) (f : Forest) → Stands nodes ends parent k last f → k < last →
      slice_get ends k ≡ Some end → ShownLeft parent k last end f
  shown-left parent k last end Nil h lt e = absurd (omega (arith, h))
  shown-left parent k last end (Words at text next) h lt e =
      let e1 : suc k ≡ end = same_Some (suc k) end (sym h.2 ∙ e) in
      subst (λ n. ShownLeft parent k last n (Words at text next)) e1 (next, h.3, refl)
  shown-left parent k last end (Element at name attributes kids next) h lt e =
      let e1 : suc k + node_count kids ≡ end = same_Some (suc k + node_count kids) end (sym h.1 ∙ e) in
      subst (λ n. ShownLeft parent k last n (Element at name attributes kids next)) e1 (next, h.3, refl)

  -- whether something is left before the end says whether a block-level element is there
  pub blocks-here : (parent k last : ℕ) (f : Forest) → Stands nodes ends (Some parent) k last f →
      (k < last → starts_block nodes styles k ≡ true) → nat_lt k last ≡ has_blocks styles k (with_characters f)
  blocks-here parent k last Nil h block = let e : k ≡ last = h in rw (sym e) (grind (arith, nat_tests))
  blocks-here parent k last (Words at text next) h block =
      let r = stands-count nodes ends (Some parent) (suc k) last next h.3 in
      let e : is_element_at nodes k ≡ false = rw h.0 in
      absurd (false≢true (rw e at (block (omega arith))))
  blocks-here parent k last (Element at name attributes kids next) h block =
      let r = stands-count nodes ends (Some parent) (suc k + node_count kids) last next h.3 in
      let e : is_element_at nodes k ≡ true = rw h.0 in
      let b : is_block (style_of styles k) ≡ true = rw e at (block (omega arith)) in
      let lt : k < last = omega arith in
      let less : nat_lt k last ≡ true = grind (arith, nat_tests) in
      rw (b, less)

  pub first-of-element : (last end : ℕ) (f : Forest) (at : ℕ) (name : List ℕ) (attributes : List Attribute) →
      (w : IsElementFirst nodes ends None 0 last end f at name attributes) → is_shown (style_of styles 0) ≡ true →
      first_construct styles f
      ≡ or_else (found_at at (construct_of (style_of styles 0) true true name attributes)) (construct_from styles true 1 w.kids)
  first-of-element last end f at name attributes w shown = rw (w.is, shown)
