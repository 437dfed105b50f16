-- What the limits of lengths say of a box in its place: each amount and width of it is small.
use Rattle.std.proofs.Common.{ℕ, suc, ◌+◌, ◌*◌, ◌/◌, ◌^◌, ◌<◌, ◌≤◌, max, min, List, [], ◌∷◌, ◌++◌, Option, Some, None, arith}
use Rattle.std.proofs.Common.{mul-le-mul_left}
use Rattle.std.specs.Prelude.{All, flat_map, IfSome}
use Rattle.std.specs.List.{AllByRecursion}
use Rattle.std.proofs.lemmas.Nat.{div_below}
use Rattle.std.proofs.lemmas.List.Elements.{recursion_from_All}
use Rattle.col_geometry.specs.declared.columns.Columns.{Columns}
use Rattle.col_geometry.specs.Geometry.{used_columns, columns_by_count}
use Rattle.line_breaker.specs.declared.line.Line.{Line}
use Rattle.box_data.specs.declared.style.BoxStyle.{BoxStyle}
use Rattle.box_data.specs.declared.tree.BoxKind.{BoxKind as Kind}
use Rattle.box_data.specs.declared.tree.BoxKind.TheVariants.{Block as block_box, Anonymous as anonymous, Container as container}
use Rattle.box_data.specs.declared.tree.BoxKind.TheVariants.{ImageBlock as image_block}
use Rattle.box_data.specs.declared.placed.Placed.{Placed}
use Rattle.box_data.specs.Styles.{style_of, inherited}
use Rattle.box_data.specs.BoxTree.{Boxes, none, box, box_count, Node, in_order, box_nodes}
use Rattle.box_data.specs.Widths.{Place, style_in, placed_one, placed_from, place_in, gap_in, columns_in, one_column}
use Rattle.box_data.specs.Limits.{used_lengths, all_used_lengths, gap_lengths, size_lengths}
use Rattle.box_data.specs.Bounds.{IsShort, AreShortAmounts, IsShortNode}
use Rattle.doc_laws.proofs.Lists.{split_all}
use Rattle.doc_laws.proofs.Everywhere.{Each}

abbrev pub AreLow : List ℕ → Type 0
AreLow ns = AllByRecursion (λ n. n ≤ 2 ^ 24) ns

-- columns of a container that is no wider than 2^24
pub record AreLowColumns (c : Columns) : Type 0 where
  pub some : 0 < c.n
  pub count : c.n < 2 ^ 32
  pub w : c.w ≤ 2 ^ 25
  pub step : c.step ≤ 2 ^ 25

pub record IsLow (p : Placed) : Type 0 where
  pub lengths : AreLow (used_lengths p)
  pub border : AreShortAmounts p.style.border
  pub top : p.top ≤ 2 ^ 25
  pub bottom : p.bottom ≤ 2 ^ 25
  pub content_x : p.content_x ≤ p.x + 2 ^ 25
  pub outer_w : p.outer_w ≤ 2 ^ 27
  pub columns : AreLowColumns p.columns

-- ---- styles

short_inherited : (s : BoxStyle) → IsShort s → IsShort (inherited s)
short_inherited s h = record {
  size = h.size;
  margin = record { top = omega arith; right = omega arith; bottom = omega arith; left = omega arith };
  border = record { top = omega arith; right = omega arith; bottom = omega arith; left = omega arith };
  padding = record { top = omega arith; right = omega arith; bottom = omega arith; left = omega arith };
  width = tt;
  max_width = tt;
  height = tt;
  column_width = tt;
  column_gap = tt;
  some_column = tt;
  column_count = tt;
}

short_style : (styles : List BoxStyle) (node : Node) → IsShort (style_of styles node.element) → IsShort (style_in styles node)
short_style styles node h = go node.kind
  where
    go : (k : Kind) → IsShort
        (elim k as (λ k. BoxStyle) [
          | block_box ↦ style_of styles node.element
          | anonymous ↦ inherited
              (style_of styles node.element)
          | container ↦ style_of styles node.element
          | image_block ↦ style_of styles node.element
        ])
    go block_box = h
    go anonymous = short_inherited (style_of styles node.element) h
    go container = h
    go image_block = h

-- ---- columns

one_low : (w : ℕ) → w ≤ 2 ^ 24 → AreLowColumns (one_column w)
one_low w le = record { some = omega arith; count = omega arith; w = omega arith; step = omega arith }

quotient_low : (a b : ℕ) → 0 < b → a / b ≤ a
quotient_low a b some =
    let many : suc a * 1 ≤ suc a * b = mul-le-mul_left (suc a) (omega arith) in
    let lt = div_below a b (suc a) some (omega arith) in
    omega arith

by_count_low : (u n gap : ℕ) → 0 < n → n < 2 ^ 32 → u ≤ 2 ^ 24 → gap ≤ 2 ^ 24 → AreLowColumns (columns_by_count u n gap)
by_count_low u n gap some few wide apart =
    let q = quotient_low (u + gap) n some in
    record { some = some; count = few; w = omega arith; step = omega arith }

used_low : (u gap : ℕ) (count width : Option ℕ) → IfSome count (λ n. 0 < n) → IfSome count (λ n. n < 2 ^ 32) → u ≤ 2 ^ 24
    → gap ≤ 2 ^ 24 → AreLowColumns (used_columns u count width gap)
used_low u gap (Some n) None some few wide apart = by_count_low u n gap some (omega arith) wide apart
used_low u gap None None some few wide apart = by_count_low u 1 gap (omega arith) (omega arith) wide apart
used_low u gap None (Some w) some few wide apart =
    let q = quotient_low (u + gap) (max w 64 + gap) (omega arith) in
    by_count_low u (max ((u + gap) / (max w 64 + gap)) 1) gap (omega arith) (omega arith) wide apart
used_low u gap (Some n) (Some w) some few wide apart =
    let q = quotient_low (u + gap) (max w 64 + gap) (omega arith) in
    by_count_low u (min n (max ((u + gap) / (max w 64 + gap)) 1)) gap (omega arith) (omega arith) wide apart

columns_low : (kind : Kind) (s : BoxStyle) (w : ℕ) (images : List ℕ) → IsShort s → w ≤ 2 ^ 24
    → AreLow (gap_lengths kind (gap_in kind s w) ++ images) → AreLowColumns (columns_in kind s w)
columns_low block_box s w images h le gaps = one_low w le
columns_low anonymous s w images h le gaps = one_low w le
columns_low container s w images h le gaps =
    used_low w (gap_in container s w) s.column_count s.column_width h.some_column h.column_count le gaps.0
columns_low image_block s w images h le gaps = one_low w le

-- ---- boxes

one_is_low : (styles : List BoxStyle) (lines : List (List Line)) (parent : Option ℕ) (n : ℕ) (node : Node) (place : Place)
    → IsShort (style_of styles node.element)
    → AreLow (used_lengths (placed_one styles lines parent n node place)) → IsLow (placed_one styles lines parent n node place)
one_is_low styles lines parent n node place short low =
    let p = placed_one styles lines parent n node place in
    let s = short_style styles node short in
    let border = s.border in
    let paddings = low.1.1.1.1 in
    let b0 = border.top in let b1 = border.right in let b2 = border.bottom in let b3 = border.left in
    let p0 = paddings.0 in let p1 = paddings.1.0 in let p2 = paddings.1.1.0 in let p3 = paddings.1.1.1.0 in
    let rest = paddings.1.1.1.1 in
    let w = rest.0 in
    record {
      lengths = low;
      border = border;
      top = omega arith;
      bottom = omega arith;
      content_x = omega arith;
      outer_w = omega arith;
      columns = columns_low node.kind (style_in styles node) p.w (flat_map size_lengths p.images) s w rest.1;
    }

each_is_low : (styles : List BoxStyle) (lines : List (List Line)) (parent : Option ℕ) (n : ℕ) (place : Place) (boxes : Boxes Node)
    → AllByRecursion (IsShortNode styles) (box_nodes parent n boxes)
    → AllByRecursion (λ p. AreLow (used_lengths p)) (in_order (placed_from styles lines parent n place boxes))
    → Each IsLow (placed_from styles lines parent n place boxes)
each_is_low styles lines parent n place none short low = tt
each_is_low styles lines parent n place (box node kids next) short low =
    let p = placed_one styles lines parent n node place in
    let shorts = split_all (IsShortNode styles) (box_nodes (Some n) (suc n) kids)
    (box_nodes parent (suc n + box_count kids) next) short.1 in
    let lows = split_all (λ q. AreLow (used_lengths q)) (in_order
    (placed_from styles lines (Some n) (suc n) (place_in p place) kids))
    (in_order (placed_from styles lines parent (suc n + box_count kids) place next)) low.1 in (
      one_is_low styles lines parent n node place short.0.style low.0,
      each_is_low styles lines (Some n) (suc n) (place_in p place) kids shorts.0 lows.0,
      each_is_low styles lines parent (suc n + box_count kids) place next shorts.1 lows.1,
    )

split_lengths : (places : List Placed) → AreLow (all_used_lengths places) → AllByRecursion (λ p. AreLow (used_lengths p)) places
split_lengths [] h = tt
split_lengths (p ∷ places) h = let r = split_all (λ n. n ≤ 2 ^ 24) (used_lengths p) (all_used_lengths places) h in
    (r.0, split_lengths places r.1)

pub boxes_are_low : (styles : List BoxStyle) (lines : List (List Line)) (parent : Option ℕ) (n : ℕ) (place : Place)
    (boxes : Boxes Node) → All (IsShortNode styles) (box_nodes parent n boxes)
    → AreLow (all_used_lengths (in_order (placed_from styles lines parent n place boxes)))
    → Each IsLow (placed_from styles lines parent n place boxes)
boxes_are_low styles lines parent n place boxes short low =
    each_is_low styles lines parent n place boxes (recursion_from_All (IsShortNode styles) (box_nodes parent n boxes) short)
    (split_lengths (in_order (placed_from styles lines parent n place boxes)) low)
