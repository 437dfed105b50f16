-- The data of each document within the limits is sound, and its boxes are near.
use Rattle.std.proofs.Common.{◌≡◌, ℕ, suc, ◌+◌, ◌*◌, ◌^◌, ◌<◌, ◌≤◌, max, Bool, true, false, List, [], ◌∷◌, length, map}
use Rattle.std.proofs.Common.{Option, Some, None, refl, sym, ◌∙◌, subst, arith, All, append-nil, inl, inr}
use Rattle.std.specs.Prelude.{if◌then◌else◌}
use Rattle.std.specs.List.{AllByRecursion}
use Rattle.std.proofs.lemmas.List.{length-map}
use Rattle.std.proofs.lemmas.List.Elements.{All-from_recursion, recursion_from_All}
use Rattle.line_breaker.specs.declared.line.Line.{Line}
use Rattle.flow_data.specs.declared.data.BoxInfo.{BoxInfo}
use Rattle.flow_data.specs.declared.data.FlowsData.{FlowsData}
use Rattle.flow_data.specs.Soundness.{IsSound}
use Rattle.box_data.specs.declared.placed.Placed.{Placed}
use Rattle.box_data.specs.declared.style.BoxStyle.{BoxStyle}
use Rattle.box_data.specs.declared.tree.BoxKind.{BoxKind as Kind}
use Rattle.box_data.specs.declared.tree.BoxKind.TheVariants.{Block as block_box, Anonymous as anonymous, Container as container}
use Rattle.box_data.specs.declared.tree.BoxKind.TheVariants.{ImageBlock as image_block}
use Rattle.box_data.specs.BoxTree.{Boxes, none, box, box_count, Node, in_order, boxes_of, with_characters}
use Rattle.box_data.specs.Widths.{Place, outermost, placed, placed_one, placed_from, place_in, is_bounded}
use Rattle.box_data.specs.Content.{Content, content_of}
use Rattle.box_data.specs.DocumentFlows.{box_info, flows_of_content, flows_of_boxes}
use Rattle.box_data.specs.Limits.{all_used_lengths}
use Rattle.doc_laws.proofs.Lists.{join_all}
use Rattle.doc_laws.specs.Laws.{IsNear, AreNarrow, DocumentsAreSound, BoxesAreNear}
use Rattle.doc_laws.proofs.Goes.{Fills, MayFill}
use Rattle.doc_laws.proofs.Rises.{Rises}
use Rattle.doc_laws.proofs.Made.{fit, box_count-placed, document_goes, document_rises, document_numbered}
use Rattle.doc_laws.proofs.Known.{each_known, length-in_order}
use Rattle.doc_laws.proofs.Everywhere.{Each, in_content}
use Rattle.doc_laws.proofs.Cloned.{Knows}
use Rattle.doc_laws.proofs.Trees.{box_depth, document_within}
use Rattle.doc_laws.proofs.Deep.{content_deep}
use Rattle.doc_laws.proofs.Low.{IsLow, boxes_are_low}
use Rattle.doc_laws.proofs.ReachTree.{boxes_reach}
use Rattle.doc_laws.proofs.Sure.{IsSure, each_sure}
use Rattle.doc_laws.proofs.Passed.{none_long, passes_none}
use Rattle.doc_laws.proofs.Sound.{sound_empty, Facts, sound_full}

-- ---- boxes are near

inner_x : (p : Placed) (place : Place) (limit : ℕ) → p.content_x ≤ limit → (place_in p place).x ≤ limit
inner_x p place limit le = go p.kind
  where
    go : (k : Kind) → (place_in (record p { kind = k }) place).x ≤ limit
    go block_box = le
    go anonymous = le
    go container = omega arith
    go image_block = le

inner_span : (p : Placed) (place : Place) (limit : ℕ) → p.content_x ≤ limit → place.span_x ≤ limit
    → (place_in p place).span_x ≤ limit
inner_span p place limit le le' = go p.kind
  where
    bounded : (v : Bool) → (if v then 0 else p.content_x) ≤ limit
    bounded true = omega arith
    bounded false = le

    go : (k : Kind) → (place_in (record p { kind = k }) place).span_x ≤ limit
    go block_box = le'
    go anonymous = le'
    go container = bounded (is_bounded p)
    go image_block = le'

near_one : (p : Placed) → IsLow p → p.x + 2 ^ 25 < 2 ^ 60 → IsNear p
near_one p low fits = record {
  x = omega arith;
  outer_w = omega (arith, low.outer_w);
  content_x = omega (arith, low.content_x);
  w = omega (arith, low.lengths.1.1.1.1.1.1.1.1.0);
  columns_w = omega (arith, low.columns.w);
  step = omega (arith, low.columns.step);
  columns_n = low.columns.count;
}

each_near : (styles : List BoxStyle) (lines : List (List Line)) (parent : Option ℕ) (n : ℕ) (place : Place) (boxes : Boxes Node)
    → Each IsLow (placed_from styles lines parent n place boxes)
    → place.x + 2 ^ 27 * box_depth boxes < 2 ^ 60 → place.span_x + 2 ^ 27 * box_depth boxes < 2 ^ 60
    → Each IsNear (placed_from styles lines parent n place boxes)
each_near styles lines parent n place none low fits fits' = tt
each_near styles lines parent n place (box node kids next) low fits fits' =
    let p = placed_one styles lines parent n node place in
    let least = 2 ^ 27 * box_depth kids in
    let near : p.x + 2 ^ 26 + 2 ^ 26 + least < 2 ^ 60 + 2 ^ 24 = go p.spans refl in
    let at : p.content_x + 2 ^ 25 + least < 2 ^ 60 = inside p.spans refl in
    let x = inner_x p place p.content_x (omega arith) in
    let span = inner_span p place (max p.content_x place.span_x) (omega arith) (omega arith) in (
      near_one p low.0 (omega arith),
      each_near styles lines (Some n) (suc n) (place_in p place) kids low.1 (omega arith) (omega arith),
      each_near styles lines parent (suc n + box_count kids) place next low.2 (omega arith) (omega arith),
    )
  where
    q : Placed
    q = placed_one styles lines parent n node place

    go : (v : Bool) → q.x ≡ (if v then place.span_x else place.x) + q.margin.left
        → q.x + 2 ^ 26 + 2 ^ 26 + 2 ^ 27 * box_depth kids < 2 ^ 60 + 2 ^ 24
    go true e = omega (arith, low.0.lengths.1.1.1.0)
    go false e = omega (arith, low.0.lengths.1.1.1.0)

    inside : (v : Bool) → q.x ≡ (if v then place.span_x else place.x) + q.margin.left
        → q.content_x + 2 ^ 25 + 2 ^ 27 * box_depth kids < 2 ^ 60
    inside true e = omega (arith, low.0.lengths.1.1.1.0, low.0.content_x)
    inside false e = omega (arith, low.0.lengths.1.1.1.0, low.0.content_x)

each_in_order : (P : Placed → Type 0) (boxes : Boxes Placed) → Each P boxes → AllByRecursion P (in_order boxes)
each_in_order P none h = tt
each_in_order P (box p kids next) h =
    (h.0, join_all P (in_order kids) (in_order next) (each_in_order P kids h.1) (each_in_order P next h.2))

near_infos : (ps : List Placed) → AllByRecursion IsNear ps → AllByRecursion (λ (b : BoxInfo). (b.x < 2 ^ 60) × (b.w < 2 ^ 60))
    (map box_info ps)
near_infos [] h = tt
near_infos (p ∷ ps) h = ((h.0.x, h.0.outer_w), near_infos ps h.1)

-- ---- lines and depth

narrow_lists : (lines : List (List Line)) → AllByRecursion (λ (ls : List Line). All (λ (l : Line). l.w < 2 ^ 60) ls) lines
    → AllByRecursion (λ (ls : List Line). AllByRecursion (λ (l : Line). l.w < 2 ^ 60) ls) lines
narrow_lists [] h = tt
narrow_lists (ls ∷ lines) h = (recursion_from_All (λ (l : Line). l.w < 2 ^ 60) ls h.0, narrow_lists lines h.1)

narrow_lines : (lines : List (List Line)) → AreNarrow lines → AllByRecursion
    (λ (ls : List Line). AllByRecursion (λ (l : Line). l.w < 2 ^ 60) ls) lines
narrow_lines lines h = narrow_lists lines (recursion_from_All (λ (ls : List Line). All (λ (l : Line). l.w < 2 ^ 60) ls) lines h)

box_depth-placed : (styles : List BoxStyle) (lines : List (List Line)) (parent : Option ℕ) (n : ℕ) (place : Place)
    (boxes : Boxes Node)
    → box_depth (placed_from styles lines parent n place boxes) ≡ box_depth boxes
box_depth-placed styles lines parent n place none = refl
box_depth-placed styles lines parent n place (box node kids next) =
    let a = box_depth-placed styles lines (Some n) (suc n) (place_in (placed_one styles lines parent n node place) place) kids in
    let b = box_depth-placed styles lines parent (suc n + box_count kids) place next in
    omega arith

-- ---- documents

pub boxes_near : BoxesAreNear
boxes_near styles lines width tree deep many wide short low =
    let boxes = boxes_of styles (with_characters tree) in
    let within = document_within styles tree deep many in
    let depth = within.depth in
    let lows = boxes_are_low styles lines None 0 (outermost width) boxes short
    (none_long (all_used_lengths (in_order (placed styles lines width boxes))) low) in
    let near = each_near styles lines None 0 (outermost width) boxes lows (omega arith) (omega arith) in
    All-from_recursion IsNear (in_order (placed styles lines width boxes))
    (each_in_order IsNear (placed styles lines width boxes) near)

pub documents_sound : DocumentsAreSound
documents_sound styles lines width height tree deep many wide short low late narrow =
    by_content (document_goes styles lines width (with_characters tree))
  where
    boxes : Boxes Node
    boxes = boxes_of styles (with_characters tree)

    places : Boxes Placed
    places = placed styles lines width boxes

    infos : List BoxInfo
    infos = map box_info (in_order places)

    d : FlowsData
    d = flows_of_boxes styles lines width height boxes

    lows : Each IsLow places
    lows = boxes_are_low styles lines None 0 (outermost width) boxes short (none_long (all_used_lengths (in_order places)) low)

    count : length infos ≡ box_count places
    count = length-map (in_order places) box_info ∙ length-in_order places

    counted : box_count places ≡ box_count boxes
    counted = box_count-placed styles lines None 0 (outermost width) boxes

    few : length infos ≤ 3 * 2 ^ 28
    few = let within = document_within styles tree deep many in omega (arith, within.count, count, counted)

    near : All (λ (b : BoxInfo). (b.x < 2 ^ 60) × (b.w < 2 ^ 60)) infos
    near = All-from_recursion (λ (b : BoxInfo). (b.x < 2 ^ 60) × (b.w < 2 ^ 60)) infos
        (near_infos (in_order places) (recursion_from_All IsNear (in_order places)
        (boxes_near styles lines width tree deep many wide short low)))

    knows : Each (Knows d) places
    knows = each_known d 0 places [] (document_numbered styles lines width (with_characters tree)) (sym (append-nil infos))

    facts : Fills false (content_of places) → Facts width height infos (content_of places)
    facts f =
        let within = document_within styles tree deep many in
        let depth = within.depth in
        let same = box_depth-placed styles lines None 0 (outermost width) boxes in
        let passes = passes_none (in_order places) (content_of places) d late in
        record {
          width_limit = wide;
          few_boxes = few;
          near = near;
          fills = f;
          rises = subst (λ (n : ℕ). Rises 0 n (content_of places)) (omega (arith, count))
              (document_rises styles lines width (with_characters tree));
          deep = content_deep 65 0 0 false places (fit styles lines None 0 (outermost width) boxes) (omega arith) (omega arith);
          sure = in_content (IsSure d) places
              (each_sure d styles lines None 0 (outermost width) boxes (length infos) (omega arith) (narrow_lines lines narrow)
              (omega (arith, count, counted)) lows knows passes.columns);
          reaches = boxes_reach (2 ^ 60) styles lines None 0 (outermost width) 0 0 boxes lows (omega arith) (omega arith);
          item_heights = passes.heights;
          nests = passes.nests;
          items = passes.items;
          inner = passes.inner;
        }

    by_content : MayFill false (content_of places) → IsSound d
    by_content (inl same) = subst (λ (c : Content). IsSound (flows_of_content width height infos c)) (sym same)
        (sound_empty width height infos wide (omega (arith, few)) near)
    by_content (inr f) = sound_full width height infos (content_of places) (facts f)
