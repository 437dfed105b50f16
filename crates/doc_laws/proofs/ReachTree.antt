-- The places of a document are in reach: each box around moves them by little, and few boxes stand one inside another.
use Rattle.std.proofs.Common.{◌≡◌, ℕ, suc, ◌+◌, ◌*◌, ◌-◌, ◌^◌, ◌<◌, ◌≤◌, List, [], ◌∷◌, Bool, true, false, Option, Some, refl}
use Rattle.std.proofs.Common.{sym, subst, arith, inl, inr}
use Rattle.std.specs.Prelude.{if◌then◌else◌}
use Rattle.line_breaker.specs.declared.line.Line.{Line}
use Rattle.box_data.specs.declared.placed.Placed.{Placed}
use Rattle.box_data.specs.declared.style.Align.{Align}
use Rattle.box_data.specs.declared.style.Align.TheVariants.{Left as left, Right as right, Center as center}
use Rattle.box_data.specs.declared.style.BoxStyle.{BoxStyle}
use Rattle.box_data.specs.declared.tree.BoxKind.{BoxKind as Kind}
use Rattle.box_data.specs.declared.tree.BoxKind.TheVariants.{Block as block_box, Anonymous as anonymous, Container as container}
use Rattle.box_data.specs.declared.tree.BoxKind.TheVariants.{ImageBlock as image_block}
use Rattle.box_data.specs.BoxTree.{Boxes, none, box, box_count, Node}
use Rattle.box_data.specs.Widths.{Place, placed_one, placed_from, place_in, is_bounded}
use Rattle.box_data.specs.Content.{image, stack, Content, done, opens, closes, leaf, holds, spanner, or_void, rows, lines_from}
use Rattle.box_data.specs.Content.{within, framed, content_of}
use Rattle.box_data.specs.DocumentFlows.{aligned, lines_x, lines_w}
use Rattle.doc_laws.proofs.Goes.{Goes, MayFill, inner_spans, rows_fill, lines_fill, content_fills}
use Rattle.doc_laws.proofs.Reach.{Reaches, reach_before, reach_or_void, rows_reach}
use Rattle.doc_laws.proofs.Made.{may_span, fit}
use Rattle.doc_laws.proofs.Everywhere.{Each}
use Rattle.doc_laws.proofs.Trees.{box_depth}
use Rattle.doc_laws.proofs.Low.{IsLow}

-- where no spanner stands it doesn't matter where one would
reach_lift : (far at outer other : ℕ) (fresh : Bool) (from to : List Placed) (c : Content) → Goes false fresh from to c
    → Reaches far at outer c → Reaches far at other c
reach_lift far at outer other fresh from to done g h = h
reach_lift far at outer other fresh from to (opens p next) g h =
    (h.0, reach_lift far at outer other true (p ∷ from) to next g h.1)
reach_lift far at outer other fresh from to (closes p next) g h = (h.0, reach_lift far at outer other false g.1 to next g.3 h.1)
reach_lift far at outer other fresh from to (leaf l next) g h = (h.0, reach_lift far at outer other false from to next g h.1)
reach_lift far at outer other fresh from to (holds i inside next) g h =
    (h.0, h.1, h.2, reach_lift far at outer other false from to next g.1 h.3)
reach_lift far at outer other fresh from to (spanner inside next) g h = absurd (let no = g.0 in cc)

reach_anywhere : (far at outer other : ℕ) (c : Content) → MayFill false c → Reaches far at outer c → Reaches far at other c
reach_anywhere far at outer other c (inl same) h = subst (λ (x : Content). Reaches far at other x) (sym same) tt
reach_anywhere far at outer other c (inr f) h = reach_lift far at outer other true [] [] c (f []) h

aligned_low : (a : Align) (rest : ℕ) → aligned a rest ≤ rest
aligned_low left rest = omega arith
aligned_low right rest = omega arith
aligned_low center rest = omega arith

-- the lines of a box, which begin no farther than its content
reach_lines : (far at outer : ℕ) (p : Placed) (index : ℕ) (ls : List Line) (more : Content) → at + lines_x p + lines_w p < far
    → Reaches far at outer more
    → Reaches far at outer (lines_from p index ls more)
reach_lines far at outer p index [] more fits h = h
reach_lines far at outer p index (l ∷ ls) more fits h =
    let a = aligned_low p.style.align (lines_w p - l.w) in
    (omega arith, reach_lines far at outer p (suc index) ls more fits h)

-- ---- boxes

-- the place that `place_in` gives by the kind
abbrev place_by : Kind → Placed → Place → Place
place_by kind p place = place_in (record p { kind = kind }) place

-- what is known of the boxes in a box
abbrev Again : (far deep : ℕ) → (x span_x : ℕ) → Content → Type 0
Again far deep x span_x c = (at outer : ℕ) → at + x + 2 ^ 27 * deep < far → outer + span_x + 2 ^ 27 * deep < far
    → Reaches far at outer c

reach_within : (far at outer deep : ℕ) (p : Placed) (place : Place) (spans : Bool) (kids : Content) → IsLow p
    → at + p.content_x + 2 ^ 25 + 2 ^ 27 * deep < far
    → outer + place.span_x + 2 ^ 27 * deep < far → MayFill (inner_spans p spans) kids
    → Again far deep (place_in p place).x (place_in p place).span_x kids → Reaches far at outer (within p kids)
reach_within far at outer deep p place spans kids low fits fits' fills again = go p.kind fills again refl
  where
    wide : lines_w p ≤ 2 ^ 25
    wide = low.columns.w

    block : (at + lines_x p + lines_w p < far) → Again far deep p.content_x place.span_x kids
        → Reaches far at outer (or_void p p.content_x (lines_from p 0 p.lines kids))
    block near a = reach_or_void far at outer p p.content_x (lines_from p 0 p.lines kids) (omega arith)
        (reach_lines far at outer p 0 p.lines kids near (a at outer (omega arith) fits'))

    columns : (flow x o : ℕ) → lines_x p ≡ 0 → flow + x + 2 ^ 25 + 2 ^ 27 * deep < far → Reaches far (flow + x) flow kids
        → Reaches far flow 0 (rows p x (lines_from p 0 p.lines kids))
    columns flow x o zero near h = rows_reach far flow x p (lines_from p 0 p.lines kids) (omega arith)
        (reach_lines far (flow + x) flow p 0 p.lines kids (omega arith) h)

    bounded : (v : Bool) → lines_x p ≡ 0 → MayFill true kids → Again far deep 0 (if v then 0 else p.content_x) kids
        → Reaches far at outer (if v then holds (stack p) (or_void p 0 (rows p 0 (lines_from p 0 p.lines kids))) done
        else or_void p p.content_x (rows p p.content_x (lines_from p 0 p.lines kids)))
    bounded true zero f a =
        let flow = at + p.content_x in (
          omega arith,
          tt,
          reach_or_void far flow 0 p 0 (rows p 0 (lines_from p 0 p.lines kids)) (omega arith)
              (columns flow 0 0 zero (omega arith) (a (flow + 0) flow (omega arith) (omega arith))),
          tt,
        )
    bounded false zero f a =
        let content = rows p p.content_x (lines_from p 0 p.lines kids) in
        reach_or_void far at outer p p.content_x content (omega arith)
        (reach_anywhere far at 0 outer content (rows_fill p p.content_x (lines_from p 0 p.lines kids)
        (lines_fill true p 0 p.lines kids f))
        (columns at p.content_x 0 zero fits (a (at + p.content_x) at (omega arith) (omega arith))))

    go : (k : Kind) → MayFill (inner_spans (record p { kind = k }) spans) kids
        → Again far deep (place_by k p place).x (place_by k p place).span_x kids → lines_x p ≡ lines_x (record p { kind = k })
        → Reaches far at outer (elim k as (λ k. Content) [
          | block_box ↦ or_void p p.content_x (lines_from p 0 p.lines kids)
          | anonymous ↦ or_void p p.content_x (lines_from p 0 p.lines kids)
          | container ↦
              if is_bounded p then holds (stack p) (or_void p 0 (rows p 0 (lines_from p 0 p.lines kids))) done
              else or_void p p.content_x (rows p p.content_x (lines_from p 0 p.lines kids))
          | image_block ↦ leaf (image p) done
        ])
    go block_box f a e = block (omega arith) a
    go anonymous f a e = block (omega arith) a
    go container f a e = bounded (is_bounded p) e f a
    go image_block f a e = (omega arith, tt)

pub boxes_reach : (far : ℕ) (styles : List BoxStyle) (lines : List (List Line)) (parent : Option ℕ) (n : ℕ) (place : Place)
    (at outer : ℕ) (boxes : Boxes Node)
    → Each IsLow (placed_from styles lines parent n place boxes) → at + place.x + 2 ^ 27 * box_depth boxes < far
    → outer + place.span_x + 2 ^ 27 * box_depth boxes < far
    → Reaches far at outer (content_of (placed_from styles lines parent n place boxes))
boxes_reach far styles lines parent n place at outer none low fits fits' = tt
boxes_reach far styles lines parent n place at outer (box node kids next) low fits fits' =
    let p = placed_one styles lines parent n node place in
    let again : Again far (box_depth kids) (place_in p place).x (place_in p place).span_x
    (content_of (placed_from styles lines (Some n) (suc n) (place_in p place) kids)) =
    (λ l o f g. boxes_reach far styles lines (Some n) (suc n) (place_in p place) l o kids low.1 f g) in
    go (placed_one styles lines parent n node place).spans refl again
    (boxes_reach far styles lines parent (suc n + box_count kids) place at outer next low.2 (omega arith) (omega arith))
  where
    p : Placed
    p = placed_one styles lines parent n node place

    inside : Content
    inside = content_of (placed_from styles lines (Some n) (suc n)
        (place_in (placed_one styles lines parent n node place) place) kids)

    fills : MayFill (inner_spans p (may_span place)) inside
    fills = content_fills (inner_spans p (may_span place)) (placed_from styles lines (Some n) (suc n)
        (place_in (placed_one styles lines parent n node place) place) kids)
        (fit styles lines parent n place (box node kids next)).1

    behind : Content
    behind = content_of (placed_from styles lines parent (suc n + box_count kids) place next)

    go : (v : Bool) → p.x ≡ (if v then place.span_x else place.x) + p.margin.left
        → Again far (box_depth kids) (place_in p place).x (place_in p place).span_x inside → Reaches far at outer behind
        → Reaches far at outer (if v then spanner (framed p (within p inside) done) behind else framed p (within p inside) behind)
    go true e again rest =
        let m = low.0.lengths.1.1.1.0 in
        let c = low.0.content_x in (
          (
            ((omega arith), (omega arith)),
            reach_before far outer 0 (within p inside) (closes p done)
                (reach_within far outer 0 (box_depth kids) p place (may_span place) inside low.0 (omega arith)
                (omega arith) fills again) (((omega arith), (omega arith)), tt),
          ),
          rest,
        )
    go false e again rest =
        let m = low.0.lengths.1.1.1.0 in
        let c = low.0.content_x in (
          ((omega arith), (omega arith)),
          reach_before far at outer (within p inside) (closes p behind)
              (reach_within far at outer (box_depth kids) p place (may_span place) inside low.0 (omega arith)
              (omega arith) fills again) (((omega arith), (omega arith)), rest),
        )
