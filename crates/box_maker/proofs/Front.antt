-- The inline content of nodes side by side, by what stands first.
use Rattle.std.proofs.Common.{◌≡◌, ℕ, suc, ◌+◌, ◌<◌, ◌++◌, true, false, List, [], Some, refl, sym, ◌∙◌, subst, arith}
use Rattle.std.proofs.Common.{append_assoc}
use Rattle.std.specs.Prelude.{slice_get}
use Rattle.std.proofs.lemmas.Bool.{false≢true}
use Rattle.std.proofs.lemmas.Option.{same_Some}
use Rattle.html_grammar.specs.declared.dom.Attribute.{Attribute}
use Rattle.html_grammar.specs.declared.dom.DomNode.{DomNode}
use Rattle.html_grammar.specs.NodeOrder.{is_element_at, is_element_there}
use Rattle.html_grammar.specs.Tree.{Forest, Nil, Element, Words}
use Rattle.inline_text.specs.declared.content.Piece.{Piece}
use Rattle.box_data.specs.declared.style.BoxStyle.{BoxStyle}
use Rattle.box_data.specs.Styles.{style_of}
use Rattle.box_data.specs.BoxTree.{node_count, with_characters, front, inline_pieces, is_block, boxes_behind, has_blocks}
use Rattle.box_maker.specs.Standing.{Stands, starts_block}
use Rattle.box_maker.specs.Parts.{text_pieces}
use Rattle.box_maker.proofs.Standing.{node_count-with_characters, stands-count, IsElementFirst, IsWordsFirst}

module _ (nodes : List DomNode) (ends : List ℕ) (styles : List BoxStyle) where
  -- a block-level element that doesn't begin here, and one that does
  no-block : (k : ℕ) (node : DomNode) → slice_get nodes k ≡ Some node → is_element_there (Some node) ≡ true →
      starts_block nodes styles k ≡ false → is_block (style_of styles k) ≡ false
  no-block k node is element free =
      let e : is_element_at nodes k ≡ true = rw is element in
      (rw e at free)

  pub block-there : (k : ℕ) (node : DomNode) → slice_get nodes k ≡ Some node → is_element_there (Some node) ≡ true →
      starts_block nodes styles k ≡ true → is_block (style_of styles k) ≡ true
  block-there k node is element starts =
      let e : is_element_at nodes k ≡ true = rw is element in
      (rw e at starts)

  -- nothing stands before the next block-level element, or before the end
  pub front-over : (parent : ℕ) (k last : ℕ) (f : Forest) → Stands nodes ends (Some parent) k last f →
      (k < last → starts_block nodes styles k ≡ true) → front styles parent k (with_characters f) ≡ []
  front-over parent k last Nil h block = refl
  front-over parent k last (Words at text next) h block =
      let r = stands-count nodes ends (Some parent) (suc k) last next h.3 in
      let e : is_element_at nodes k ≡ false = rw h.0 in
      absurd (false≢true (rw e at (block (omega arith))))
  front-over parent k last (Element at name attributes kids next) h block =
      let r = stands-count nodes ends (Some parent) (suc k + node_count kids) last next h.3 in
      let e : is_element_at nodes k ≡ true = rw h.0 in
      let b : is_block (style_of styles k) ≡ true = rw e at (block (omega arith)) in
      rw b

  pub front-words : (parent k last end : ℕ) (f : Forest) (text : List ℕ) (before : List Piece) →
      IsWordsFirst nodes ends (Some parent) k last end f text →
      (rest : Forest) × Stands nodes ends (Some parent) end last rest
      × ((before ++ text_pieces parent text) ++ front styles parent end (with_characters rest) ≡ before
      ++ front styles parent k (with_characters f))
  front-words parent k last end f text before w =
      (w.next, w.behind, rw (w.is, w.end_is, append_assoc))

  pub front-element : (parent k last end : ℕ) (f : Forest) (at : ℕ) (name : List ℕ) (attributes : List Attribute) (before : List
      Piece) →
      Stands nodes ends (Some parent) k last f →
      (w : IsElementFirst nodes ends (Some parent) k last end f at name attributes) → starts_block nodes styles k ≡ false →
      (rest : Forest) × Stands nodes ends (Some parent) end last rest
      × ((before ++ inline_pieces (style_of styles k) k name attributes (front styles k (suc k) (with_characters w.kids)))
      ++ front styles parent end (with_characters rest)
      ≡ before ++ front styles parent k (with_characters f))
  front-element parent k last end f at name attributes before h w free =
      let first = subst (Stands nodes ends (Some parent) k last) w.is h in
      let b : is_block (style_of styles k) ≡ false = no-block k _ first.0 refl free in
      (w.next, w.behind, rw (w.is, w.end_is, b, append_assoc, node_count-with_characters w.kids))

  abbrev pub IsSkipped : (parent k last end : ℕ) → Forest → Type 0
  IsSkipped parent k last end f =
      (rest : Forest) × Stands nodes ends (Some parent) end last rest
      × (boxes_behind styles parent k (with_characters f) ≡ boxes_behind styles parent end (with_characters rest))
      × (has_blocks styles k (with_characters f) ≡ has_blocks styles end (with_characters rest))

  -- what isn't block-level is passed over
  pub skip : (parent k last end : ℕ) (f : Forest) → Stands nodes ends (Some parent) k last f → k < last →
      slice_get ends k ≡ Some end →
      starts_block nodes styles k ≡ false →
      IsSkipped parent k last end f
  skip parent k last end Nil h lt e free = absurd (omega (arith, h))
  skip parent k last end (Words at text next) h lt e free =
      let e1 : suc k ≡ end = same_Some (suc k) end (sym h.2 ∙ e) in
      subst (λ n. IsSkipped parent k last n (Words at text next)) e1 (next, h.3, refl, refl)
  skip parent k last end (Element at name attributes kids next) h lt e free =
      let e1 : suc k + node_count kids ≡ end = same_Some (suc k + node_count kids) end (sym h.1 ∙ e) in
      let b : is_block (style_of styles k) ≡ false = no-block k _ h.0 refl free in
      subst (λ n. IsSkipped parent k last n (Element at name attributes kids next)) e1
      (next, h.3, rw (b, node_count-with_characters kids), rw (b, node_count-with_characters kids))
