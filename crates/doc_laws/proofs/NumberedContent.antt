-- Each box has its number in document order, and what the content of a document names stands by its number.
use Rattle.std.proofs.Common.{◌≡◌, ℕ, suc, ◌+◌, List, [], ◌∷◌, ◌++◌, drop, Option, Some, None, refl, sym, ap, ◌∙◌, subst}
use Rattle.std.proofs.Common.{append_assoc, append-nil}
use Rattle.std.specs.Prelude.{slice_get}
use Rattle.flow_data.proofs.Dropped.{behind_first, behind_front}
use Rattle.line_breaker.specs.declared.line.Line.{Line}
use Rattle.box_data.specs.declared.style.BoxStyle.{BoxStyle}
use Rattle.box_data.specs.declared.placed.Placed.{Placed}
use Rattle.box_data.specs.BoxTree.{Boxes, none, box, box_count, in_order, Node}
use Rattle.box_data.specs.Widths.{Place, outermost, placed, placed_from, placed_one, place_in}
use Rattle.box_data.specs.Content.{Leaf, line, image, void, Holder, stack, row, Content, done, opens, closes, leaf, holds}
use Rattle.box_data.specs.Content.{spanner, content_of}
use Rattle.box_data.specs.Bounds.{AreParented, IsNumbered, LeafIsNumbered, HolderIsNumbered, AreNumbered}
use Rattle.doc_laws.specs.Laws.{BoxesAreNumbered}
use Rattle.doc_laws.proofs.Rises.{Numbered}
use Rattle.doc_laws.proofs.Everywhere.{InLeaf, InHolder, Everywhere, Each, in_content, line_at}
use Rattle.doc_laws.proofs.Made.{box_count-placed, numbered}
use Rattle.doc_laws.proofs.Known.{length-in_order}

parented : (styles : List BoxStyle) (lines : List (List Line)) (parent : Option ℕ) (n : ℕ) (place : Place) (boxes : Boxes Node)
    → AreParented parent n (placed_from styles lines parent n place boxes)
parented styles lines parent n place none = tt
parented styles lines parent n place (box node kids next) =
    let inner = place_in (placed_one styles lines parent n node place) place in (
      refl,
      refl,
      parented styles lines (Some n) (suc n) inner kids,
      subst (λ (m : ℕ). AreParented parent (suc n + m) (placed_from styles lines parent (suc n + box_count kids) place next))
          (sym (box_count-placed styles lines (Some n) (suc n) inner kids))
          (parented styles lines parent (suc n + box_count kids) place next),
    )

-- the boxes from n on stand in the list of all from n on
each_numbered : (all : List Placed) (n : ℕ) (boxes : Boxes Placed) (after : List Placed) → Numbered n boxes
    → drop n all ≡ in_order boxes ++ after → Each (IsNumbered all) boxes
each_numbered all n none after h at = tt
each_numbered all n (box p kids next) after h at =
    let inside = in_order kids in
    let behind = in_order next in
    let whole : drop n all ≡ p ∷ (inside ++ (behind ++ after)) =
    at ∙ ap (λ (ps : List Placed). p ∷ ps) (append_assoc inside behind after) in
    let inner : drop (suc n) all ≡ inside ++ (behind ++ after) = behind_first all (inside ++ (behind ++ after)) n p whole in
    let rest : drop (suc n + box_count kids) all ≡ behind ++ after =
    behind_front all inside (behind ++ after) (suc n) (box_count kids) (length-in_order kids) inner in (
      subst (λ (m : ℕ). slice_get all m ≡ Some p) (sym h.0) (line_at all (inside ++ (behind ++ after)) n p whole),
      each_numbered all (suc n) kids (behind ++ after) h.1 inner,
      each_numbered all (suc n + box_count kids) next after h.2 rest,
    )

leaf_numbered : (places : List Placed) (l : Leaf) → InLeaf (IsNumbered places) l → LeafIsNumbered places l
leaf_numbered places (line p index size) h = h
leaf_numbered places (image p) h = h
leaf_numbered places (void p x) h = h

holder_numbered : (places : List Placed) (i : Holder) → InHolder (IsNumbered places) i → HolderIsNumbered places i
holder_numbered places (stack p) h = h
holder_numbered places (row p x is_last opened) h = h

content_numbered : (places : List Placed) (c : Content) → Everywhere (IsNumbered places) c → AreNumbered places c
content_numbered places done h = tt
content_numbered places (opens p next) h = (h.0, content_numbered places next h.1)
content_numbered places (closes p next) h = (h.0, content_numbered places next h.1)
content_numbered places (leaf l next) h = (leaf_numbered places l h.0, content_numbered places next h.1)
content_numbered places (holds i inside next) h =
    (holder_numbered places i h.0, content_numbered places inside h.1, content_numbered places next h.2)
content_numbered places (spanner inside next) h = (content_numbered places inside h.0, content_numbered places next h.1)

pub boxes_numbered : BoxesAreNumbered
boxes_numbered styles lines width boxes =
    let places = placed styles lines width boxes in
    let all = in_order places in
    let each = each_numbered all 0 places [] (numbered styles lines None 0 (outermost width) boxes) (sym (append-nil all)) in (
      parented styles lines None 0 (outermost width) boxes,
      content_numbered all (content_of places)
          (in_content (IsNumbered all) places each),
    )
