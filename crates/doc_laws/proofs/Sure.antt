-- What is known of the content of each flow of a document, and of what stands in it.
use Rattle.std.proofs.Common.{ℕ, zero, suc, ◌+◌, ◌^◌, ◌<◌, ◌≤◌, List, [], ◌∷◌, ◌++◌, length, Bool, Option, Some, subst, arith}
use Rattle.std.specs.Prelude.{flat_map}
use Rattle.std.specs.List.{AllByRecursion}
use Rattle.std.proofs.lemmas.Grind.{flat_map-append}
use Rattle.flow_data.specs.declared.data.FlowsData.{FlowsData}
use Rattle.line_breaker.specs.declared.line.Line.{Line}
use Rattle.box_data.specs.declared.style.BoxStyle.{BoxStyle}
use Rattle.box_data.specs.declared.tree.BoxKind.{BoxKind as Kind}
use Rattle.box_data.specs.declared.tree.BoxKind.TheVariants.{Block as block_box, Anonymous as anonymous, Container as container}
use Rattle.box_data.specs.declared.tree.BoxKind.TheVariants.{ImageBlock as image_block}
use Rattle.box_data.specs.declared.placed.Placed.{Placed}
use Rattle.box_data.specs.BoxTree.{Boxes, none, box, box_count, Node, in_order}
use Rattle.box_data.specs.Widths.{Place, placed_from, placed_one, place_in, style_in, columns_in, lines_at}
use Rattle.box_data.specs.Content.{Leaf, line, image, void, Holder, stack, row, Content, done, opens, closes, leaf, holds}
use Rattle.box_data.specs.Content.{spanner}
use Rattle.box_data.specs.DocumentFlows.{Begun, begun_in, past, opened_in, is_stack}
use Rattle.box_data.specs.Limits.{gap_lengths, column_counts}
use Rattle.doc_laws.proofs.Lists.{all_weaker, split_all}
use Rattle.doc_laws.proofs.Everywhere.{InLeaf, InHolder, Everywhere, Each}
use Rattle.doc_laws.proofs.Reach.{Reaches, holder_x}
use Rattle.doc_laws.proofs.Places.{ArePlaced}
use Rattle.doc_laws.proofs.Counted.{past-rows, past-stacks}
use Rattle.doc_laws.proofs.Cloned.{Knows}
use Rattle.doc_laws.proofs.Totals.{all_items}
use Rattle.doc_laws.proofs.Low.{IsLow}
use Rattle.doc_laws.proofs.Heights.{Small}

-- ---- boxes

pub record IsSure (d : FlowsData) (p : Placed) : Type 0 where
  pub small : IsLow p
  pub knows : Knows d p
  pub number : p.number < length d.boxes
  pub narrow : p.columns.n ≤ 32
  pub lines : AllByRecursion (λ (l : Line). l.w < 2 ^ 60) p.lines

-- ---- what holds of some holds of others

leaf_weaker : (P Q : Placed → Type 0) → ((p : Placed) → P p → Q p) → (l : Leaf) → InLeaf P l → InLeaf Q l
leaf_weaker P Q f (line p index size) h = (f p h.0, h.1)
leaf_weaker P Q f (image p) h = f p h
leaf_weaker P Q f (void p x) h = f p h

holder_weaker : (P Q : Placed → Type 0) → ((p : Placed) → P p → Q p) → (i : Holder) → InHolder P i → InHolder Q i
holder_weaker P Q f (stack p) h = f p h
holder_weaker P Q f (row p x is_last opened) h = (f p h.0, all_weaker P Q f opened h.1)

pub everywhere_weaker : (P Q : Placed → Type 0) → ((p : Placed) → P p → Q p) → (c : Content) → Everywhere P c → Everywhere Q c
everywhere_weaker P Q f done h = tt
everywhere_weaker P Q f (opens p next) h = (f p h.0, everywhere_weaker P Q f next h.1)
everywhere_weaker P Q f (closes p next) h = (f p h.0, everywhere_weaker P Q f next h.1)
everywhere_weaker P Q f (leaf l next) h = (leaf_weaker P Q f l h.0, everywhere_weaker P Q f next h.1)
everywhere_weaker P Q f (holds i inside next) h = (
  holder_weaker P Q f i h.0,
  everywhere_weaker P Q f inside h.1,
  everywhere_weaker P Q f next h.2,
)
everywhere_weaker P Q f (spanner inside next) h = (everywhere_weaker P Q f inside h.0, everywhere_weaker P Q f next h.1)

pub opened_sure : (d : FlowsData) (i : Holder) → InHolder (IsSure d) i → AllByRecursion (IsSure d) (opened_in i)
opened_sure d (stack p) h = tt
opened_sure d (row p x is_last opened) h = h.1

pub sure_known : (d : FlowsData) (c : Content) → Everywhere (IsSure d) c → Everywhere (Knows d) c
sure_known d c h = everywhere_weaker (IsSure d) (Knows d) (λ p s. s.knows) c h

pub sure_small : (d : FlowsData) (c : Content) → Everywhere (IsSure d) c → Everywhere (Small d) c
sure_small d c h = everywhere_weaker (IsSure d) (Small d) (λ p s. (s.small, s.knows)) c h

-- ---- each box of a document

line_widths : (lines : List (List Line)) (n : ℕ) → AllByRecursion
    (λ (ls : List Line). AllByRecursion (λ (l : Line). l.w < 2 ^ 60) ls) lines
    → AllByRecursion (λ (l : Line). l.w < 2 ^ 60) (lines_at lines n)
line_widths [] n h = tt
line_widths (ls ∷ lines) zero h = h.0
line_widths (ls ∷ lines) (suc n) h = line_widths lines n h.1

narrow_columns : (kind : Kind) (s : BoxStyle) (w : ℕ) → AllByRecursion (λ n. n ≤ 32) (gap_lengths kind (columns_in kind s w).n)
    → (columns_in kind s w).n ≤ 32
narrow_columns block_box s w h = omega arith
narrow_columns anonymous s w h = omega arith
narrow_columns container s w h = h.0
narrow_columns image_block s w h = omega arith

pub each_sure : (d : FlowsData) (styles : List BoxStyle) (lines : List (List Line)) (parent : Option ℕ) (n : ℕ) (place : Place)
    (boxes : Boxes Node) (top : ℕ) → top ≤ length d.boxes
    → AllByRecursion (λ (ls : List Line). AllByRecursion (λ (l : Line). l.w < 2 ^ 60) ls) lines
    → n + box_count boxes ≤ top
    → Each IsLow (placed_from styles lines parent n place boxes) → Each (Knows d) (placed_from styles lines parent n place boxes)
    → AllByRecursion (λ n. n ≤ 32) (flat_map column_counts (in_order (placed_from styles lines parent n place boxes)))
    → Each (IsSure d) (placed_from styles lines parent n place boxes)
each_sure d styles lines parent n place none top le ls few low knows counts = tt
each_sure d styles lines parent n place (box node kids next) top le ls few low knows counts =
    let p = placed_one styles lines parent n node place in
    let inside = placed_from styles lines (Some n) (suc n) (place_in p place) kids in
    let behind = placed_from styles lines parent (suc n + box_count kids) place next in
    let all = split_all (λ k. k ≤ 32) (column_counts p) (flat_map column_counts (in_order inside ++ in_order behind)) counts in
    let rest = split_all (λ k. k ≤ 32) (flat_map column_counts (in_order inside)) (flat_map column_counts (in_order behind))
    (subst (λ (ns : List ℕ). AllByRecursion (λ k. k ≤ 32) ns) (flat_map-append column_counts (in_order inside)
    (in_order behind)) all.1) in (
      record {
        small = low.0;
        knows = knows.0;
        number = omega arith;
        narrow =
            narrow_columns node.kind (style_in styles node) p.w all.0;
        lines = line_widths lines n ls;
      },
      each_sure d styles lines (Some n) (suc n) (place_in p place) kids top le ls (omega arith) low.1 knows.1 rest.0,
      each_sure d styles lines parent (suc n + box_count kids) place next top le ls (omega arith) low.2 knows.2 rest.1,
    )

-- ---- the content of a flow

-- from the numbers n on, in a flow whose left edge is at `left`
pub record Sure (d : FlowsData) (n : Begun) (in_stack : Bool) (left : ℕ) (c : Content) : Type 0 where
  pub placed : ArePlaced d n in_stack c
  pub reaches : Reaches (2 ^ 60) left 0 c
  pub boxes : Everywhere (IsSure d) c
  pub rows : (past n c).rows ≤ length d.rows
  pub stacks : (past n c).stacks ≤ length d.stacks
  pub items : all_items c ≤ 200000

pub past_opens : (d : FlowsData) (n : Begun) (in_stack : Bool) (left : ℕ) (p : Placed) (next : Content)
    → Sure d n in_stack left (opens p next) → Sure d n in_stack left next
past_opens d n in_stack left p next h = record {
  placed = h.placed;
  reaches = h.reaches.1;
  boxes = h.boxes.1;
  rows = h.rows;
  stacks = h.stacks;
  items = h.items;
}

pub past_closes : (d : FlowsData) (n : Begun) (in_stack : Bool) (left : ℕ) (p : Placed) (next : Content)
    → Sure d n in_stack left (closes p next) → Sure d n in_stack left next
past_closes d n in_stack left p next h = record {
  placed = h.placed;
  reaches = h.reaches.1;
  boxes = h.boxes.1;
  rows = h.rows;
  stacks = h.stacks;
  items = h.items;
}

pub past_leaf : (d : FlowsData) (n : Begun) (in_stack : Bool) (left : ℕ) (l : Leaf) (next : Content)
    → Sure d n in_stack left (leaf l next) → Sure d n in_stack left next
past_leaf d n in_stack left l next h = record {
  placed = h.placed;
  reaches = h.reaches.1;
  boxes = h.boxes.1;
  rows = h.rows;
  stacks = h.stacks;
  items = omega (arith, h.items);
}

pub past_spanner : (d : FlowsData) (n : Begun) (in_stack : Bool) (left : ℕ) (inside next : Content)
    → Sure d n in_stack left (spanner inside next) → Sure d n in_stack left next
past_spanner d n in_stack left inside next h = record {
  placed = h.placed;
  reaches = h.reaches.1;
  boxes = h.boxes.1;
  rows =
      h.rows;
  stacks = h.stacks;
  items = h.items;
}

pub past_holder : (d : FlowsData) (n : Begun) (in_stack : Bool) (left : ℕ) (i : Holder) (inside next : Content)
    → Sure d n in_stack left (holds i inside next) → Sure d (past (begun_in n i) inside) in_stack left next
past_holder d n in_stack left i inside next h =
    record {
      placed = h.placed.3;
      reaches = h.reaches.3;
      boxes = h.boxes.2;
      rows = h.rows;
      stacks = h.stacks;
      items =
          omega (arith, h.items);
    }

pub within_holder : (d : FlowsData) (n : Begun) (in_stack : Bool) (left : ℕ) (i : Holder) (inside next : Content)
    → Sure d n in_stack left (holds i inside next) → Sure d (begun_in n i) (is_stack i) (left + holder_x i) inside
within_holder d n in_stack left i inside next h = record {
  placed = h.placed.2;
  reaches = h.reaches.2;
  boxes = h.boxes.1;
  rows = omega (arith, h.rows, past-rows (past (begun_in n i) inside) next);
  stacks = omega (arith, h.stacks, past-stacks (past (begun_in n i) inside) next);
  items = omega (arith, h.items);
}
