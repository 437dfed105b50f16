-- The boxes of nodes side by side, by the block-level element that stands first.
use Rattle.std.proofs.Common.{◌≡◌, ℕ, suc, ◌++◌, true, List, length, Some, None, refl, sym, ap, ◌∙◌, subst}
use Rattle.std.specs.Prelude.{if◌then◌else◌}
use Rattle.html_grammar.specs.declared.dom.Attribute.{Attribute}
use Rattle.html_grammar.specs.declared.dom.DomNode.{DomNode}
use Rattle.html_grammar.specs.Tree.{Forest}
use Rattle.box_data.specs.declared.style.BoxStyle.{BoxStyle}
use Rattle.box_data.specs.declared.tree.BoxNode.{BoxNode}
use Rattle.box_data.specs.Styles.{style_of}
use Rattle.box_data.specs.BoxTree.{none, box_nodes, boxes_behind, boxes_of, front, has_blocks, is_block, is_empty, is_shown}
use Rattle.box_data.specs.BoxTree.{run_of, with_run, with_characters}
use Rattle.box_maker.specs.Standing.{Stands, starts_block}
use Rattle.box_maker.specs.Parts.{boxes_in, followed_by}
use Rattle.box_maker.proofs.Standing.{node_count-with_characters, IsElementFirst}
use Rattle.box_maker.proofs.Front.{block-there}
use Rattle.box_maker.proofs.BoxLists.{followed-box, own_node, own_box}

module _ (nodes : List DomNode) (ends : List ℕ) (styles : List BoxStyle) where
  pub block-first : (parent k last end : ℕ) (f : Forest) (at : ℕ) (name : List ℕ) (attributes : List Attribute) (number : ℕ)
      (out all : List BoxNode) →
      Stands nodes ends (Some parent) k last f →
      (w : IsElementFirst nodes ends (Some parent) k last end f at name attributes) → starts_block nodes styles k ≡ true →
      all ≡ out ++ box_nodes (Some number) (length out) (own_box styles k name attributes (with_characters w.kids) none) →
      (rest : Forest) × Stands nodes ends (Some parent) end last rest
      × (followed_by number all (boxes_in styles parent end rest)
      ≡ followed_by number out (boxes_behind styles parent k (with_characters f)))
  block-first parent k last end f at name attributes number out all h w starts made =
      let first = subst (Stands nodes ends (Some parent) k last) w.is h in
      let b : is_block (style_of styles k) ≡ true = block-there nodes ends styles k _ first.0 refl starts in
      let kids = with_characters w.kids in
      let later = boxes_in styles parent end w.next in
      let within = with_run k (run_of styles (front styles k (suc k) kids)) (boxes_behind styles k (suc k) kids) in
      let inner = if is_empty name then none else if has_blocks styles (suc k) kids then within else none in
      let whole : boxes_behind styles parent k (with_characters f) ≡ own_box styles k name attributes kids later =
      rw (w.is, b, node_count-with_characters w.kids, w.end_is) in (
        w.next,
        w.behind,
        ap (λ xs. followed_by number xs later) made
            ∙ followed-box number out (own_node styles k name attributes kids) inner later
            ∙ ap (followed_by number out) (sym whole),
      )

  -- the root's boxes
  pub root-first : (last end : ℕ) (f : Forest) (at : ℕ) (name : List ℕ) (attributes : List Attribute) →
      (w : IsElementFirst nodes ends None 0 last end f at name attributes) → is_shown (style_of styles 0) ≡ true →
      boxes_of styles (with_characters f) ≡ own_box styles 0 name attributes (with_characters w.kids) none
  root-first last end f at name attributes w shown = rw (w.is, shown)
