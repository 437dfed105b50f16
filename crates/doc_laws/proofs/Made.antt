-- The boxes of a document: an image has none in it, and a box spans columns only where some container's columns are around it. So
-- the
-- document's content goes from no open box to none, and starts each box once, in order.
use Rattle.std.proofs.Common.{◌≡◌, ℕ, suc, ◌+◌, List, Bool, true, false, not, refl, sym, ap, subst, arith}
use Rattle.std.specs.Prelude.{◌&&◌, ◌||◌, if◌then◌else◌, Option, Some, None, is_some, codes}
use Rattle.inline_text.specs.declared.content.Piece.{Piece}
use Rattle.html_grammar.specs.Names.{same}
use Rattle.html_grammar.specs.declared.dom.Attribute.{Attribute}
use Rattle.html_grammar.specs.Tree.{Forest, Nil, Element, Words}
use Rattle.line_breaker.specs.declared.line.Line.{Line}
use Rattle.box_data.specs.declared.style.BoxStyle.{BoxStyle}
use Rattle.box_data.specs.Styles.{style_of}
use Rattle.box_data.specs.declared.tree.BoxKind.{BoxKind as Kind}
use Rattle.box_data.specs.declared.tree.BoxKind.TheVariants.{Block as block_box, Anonymous as anonymous, Container as container}
use Rattle.box_data.specs.declared.tree.BoxKind.TheVariants.{ImageBlock as image_block}
use Rattle.box_data.specs.BoxTree.{Boxes, none, box, box_count, Node, is_image, is_block, is_shown, has_blocks, front, run_of}
use Rattle.box_data.specs.BoxTree.{makes_line, with_run, element_box, boxes_behind, boxes_of, node_count}
use Rattle.box_data.specs.declared.placed.Placed.{Placed}
use Rattle.box_data.specs.Widths.{Place, outermost, placed, placed_from, placed_one, place_in}
use Rattle.box_data.specs.Content.{content_of}
use Rattle.doc_laws.proofs.Goes.{SpansFit, inner_spans, MayFill, content_fills}
use Rattle.doc_laws.proofs.Rises.{Numbered, ImagesAreEmpty, Rises, content_rises}

-- ---- boxes of elements

-- images have no boxes in them
abbrev pub WellMade : Boxes Node → Type 0
WellMade none = Unit {0}
WellMade (box node kids next) = (node.kind ≡ image_block → kids ≡ none) × WellMade kids × WellMade next

run_made : (parent : ℕ) (run : List Piece) (boxes : Boxes Node) → WellMade boxes → WellMade (with_run parent run boxes)
run_made parent run boxes h = go (makes_line run)
  where
    go : (v : Bool) → WellMade (if v then box (record { element = parent; kind = anonymous; run = Some run }) none boxes
        else boxes)
    go true = (λ e. refl, tt, h)
    go false = h

abbrev kind_by : (image columns : Bool) → Kind
kind_by image columns = if image then image_block else if not image && columns then container else block_box

not-image : (columns : Bool) → kind_by false columns ≡ image_block → ⊥
not-image true e = let f =
    ap (λ (k : Kind). elim k as (λ k. Bool) [ block_box ↦ true | anonymous ↦ true | container ↦ true | image_block ↦ false ]) e in
    absurd cc
not-image false e = let f =
    ap (λ (k : Kind). elim k as (λ k. Bool) [ block_box ↦ true | anonymous ↦ true | container ↦ true | image_block ↦ false ]) e in
    absurd cc

-- what stands in the box of an element that is an image or not, is another empty element or not, and has block-level boxes in it
-- or not
inside_made : (image other some : Bool) (k : ℕ) (run : List Piece) (inside : Boxes Node) → WellMade inside
    → WellMade (if image || other then none else if some then with_run k run inside else none)
inside_made true other some k run inside h = tt
inside_made false true some k run inside h = tt
inside_made false false false k run inside h = tt
inside_made false false true k run inside h = run_made k run inside h

empty-image : (image columns other some : Bool) (k : ℕ) (run : List Piece) (inside : Boxes Node)
    → kind_by image columns ≡ image_block
    → (if image || other then none else if some then with_run k run inside else none) ≡ none
empty-image true columns other some k run inside e = refl
empty-image false columns other some k run inside e = absurd (not-image columns e)

element_made : (styles : List BoxStyle) (k : ℕ) (name : List ℕ) (attributes : List Attribute) (kids : Forest)
    (inside next : Boxes Node)
    → WellMade inside → WellMade next → WellMade (element_box styles k name attributes kids inside next)
element_made styles k name attributes kids inside next h g =
    let s = style_of styles k in
    let run = run_of styles (front styles k (suc k) kids) in
    let columns = is_some s.column_count || is_some s.column_width in
    let other = same name (codes "br") || same name (codes "wbr") in (
      empty-image (is_image name) columns other (has_blocks styles (suc k) kids) k run inside,
      inside_made (is_image name) other (has_blocks styles (suc k) kids) k run inside h,
      g,
    )

behind_made : (styles : List BoxStyle) (parent k : ℕ) (tree : Forest) → WellMade (boxes_behind styles parent k tree)
behind_made styles parent k Nil = tt
behind_made styles parent k (Words at text next) = behind_made styles parent (suc k) next
behind_made styles parent k (Element at name attributes kids next) =
    go (is_block (style_of styles k)) (behind_made styles k (suc k) kids)
    (behind_made styles parent (suc k + node_count kids) next)
  where
    behind : Boxes Node
    behind = boxes_behind styles parent (suc k + node_count kids) next

    inside : Boxes Node
    inside = boxes_behind styles k (suc k) kids

    run : List Piece
    run = run_of styles (front styles parent (suc k + node_count kids) next)

    go : (v : Bool) → WellMade inside → WellMade behind
        → WellMade (if v then element_box styles k name attributes kids inside (with_run parent run behind) else behind)
    go true h g = element_made styles k name attributes kids inside (with_run parent run behind) h (run_made parent run behind g)
    go false h g = g

pub boxes_made : (styles : List BoxStyle) (tree : Forest) → WellMade (boxes_of styles tree)
boxes_made styles Nil = tt
boxes_made styles (Words at text next) = tt
boxes_made styles (Element at name attributes kids next) = go (is_shown (style_of styles 0))
  where
    inside : Boxes Node
    inside = boxes_behind styles 0 1 kids

    go : (v : Bool) → WellMade (if v then element_box styles 0 name attributes kids inside none else none)
    go true = element_made styles 0 name attributes kids inside none (behind_made styles 0 1 kids) tt
    go false = tt

-- ---- the same in their places

pub box_count-placed : (styles : List BoxStyle) (lines : List (List Line)) (parent : Option ℕ) (n : ℕ) (place : Place)
    (boxes : Boxes Node)
    → box_count (placed_from styles lines parent n place boxes) ≡ box_count boxes
box_count-placed styles lines parent n place none = refl
box_count-placed styles lines parent n place (box node kids next) =
    let a = box_count-placed styles lines (Some n) (suc n) (place_in (placed_one styles lines parent n node place) place) kids in
    let b = box_count-placed styles lines parent (suc n + box_count kids) place next in
    omega arith

pub numbered : (styles : List BoxStyle) (lines : List (List Line)) (parent : Option ℕ) (n : ℕ) (place : Place)
    (boxes : Boxes Node)
    → Numbered n (placed_from styles lines parent n place boxes)
numbered styles lines parent n place none = tt
numbered styles lines parent n place (box node kids next) =
    let inner = place_in (placed_one styles lines parent n node place) place in (
      refl,
      numbered styles lines (Some n) (suc n) inner kids,
      subst (λ (m : ℕ). Numbered (suc n + m) (placed_from styles lines parent (suc n + box_count kids) place next))
          (sym (box_count-placed styles lines (Some n) (suc n) inner kids))
          (numbered styles lines parent (suc n + box_count kids) place next),
    )

-- where a box may span columns
abbrev pub may_span : Place → Bool
may_span place = place.in_container && not place.in_spanner

spans-allowed : (a b : Bool) → (a && b) ≡ true → b ≡ true
spans-allowed true b e = e
spans-allowed false b e = absurd cc

inner-block : (c p s : Bool) → (c && not (p || s)) ≡ (if s then false else (c && not p))
inner-block true true true = refl
inner-block true true false = refl
inner-block true false true = refl
inner-block true false false = refl
inner-block false true true = refl
inner-block false true false = refl
inner-block false false true = refl
inner-block false false false = refl

inner-may : (p : Placed) (place : Place) → may_span (place_in p place) ≡ inner_spans p (may_span place)
inner-may p place = go p.kind
  where
    go : (k : Kind) → may_span (place_in (record p { kind = k }) place) ≡ inner_spans (record p { kind = k }) (may_span place)
    go block_box = inner-block place.in_container place.in_spanner p.spans
    go anonymous = inner-block place.in_container place.in_spanner p.spans
    go container = refl
    go image_block = inner-block place.in_container place.in_spanner p.spans

pub fit : (styles : List BoxStyle) (lines : List (List Line)) (parent : Option ℕ) (n : ℕ) (place : Place) (boxes : Boxes Node)
    → SpansFit (may_span place) (placed_from styles lines parent n place boxes)
fit styles lines parent n place none = tt
fit styles lines parent n place (box node kids next) =
    let p = placed_one styles lines parent n node place in (
      spans-allowed _ (may_span place),
      subst (λ (v : Bool). SpansFit v (placed_from styles lines (Some n) (suc n) (place_in p place) kids)) (inner-may p place)
          (fit styles lines (Some n) (suc n) (place_in p place) kids),
      fit styles lines parent (suc n + box_count kids) place next,
    )

empty : (styles : List BoxStyle) (lines : List (List Line)) (parent : Option ℕ) (n : ℕ) (place : Place) (boxes : Boxes Node)
    → WellMade boxes
    → ImagesAreEmpty (placed_from styles lines parent n place boxes)
empty styles lines parent n place none h = tt
empty styles lines parent n place (box node kids next) h =
    let inner = place_in (placed_one styles lines parent n node place) place in (
      λ e. ap (λ (ks : Boxes Node). placed_from styles lines (Some n) (suc n) inner ks) (h.0 e),
      empty styles lines (Some n) (suc n) inner kids h.1,
      empty styles lines parent (suc n + box_count kids) place next h.2,
    )

-- Whatever the document, its styles, its lines and its width: each flow goes well, and the boxes start in order, each once.
pub document_goes : (styles : List BoxStyle) (lines : List (List Line)) (width : ℕ) (tree : Forest)
    → MayFill false (content_of (placed styles lines width (boxes_of styles tree)))
document_goes styles lines width tree = content_fills false (placed styles lines width (boxes_of styles tree))
    (fit styles lines None 0 (outermost width) (boxes_of styles tree))

pub document_rises : (styles : List BoxStyle) (lines : List (List Line)) (width : ℕ) (tree : Forest)
    → let places = placed styles lines width (boxes_of styles tree) in Rises 0 (0 + box_count places) (content_of places)
document_rises styles lines width tree =
    content_rises 0 (placed styles lines width (boxes_of styles tree))
    (numbered styles lines None 0 (outermost width) (boxes_of styles tree))
    (empty styles lines None 0 (outermost width) (boxes_of styles tree) (boxes_made styles tree))

pub document_numbered : (styles : List BoxStyle) (lines : List (List Line)) (width : ℕ) (tree : Forest)
    → Numbered 0 (placed styles lines width (boxes_of styles tree))
document_numbered styles lines width tree = numbered styles lines None 0 (outermost width) (boxes_of styles tree)
