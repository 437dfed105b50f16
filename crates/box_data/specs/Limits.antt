-- The limits of flows that a document may pass (this project's own), in their order.
use Rattle.std.specs.Prelude.{ℕ, suc, ◌^◌, max, nat_lt, Bool, true, false, if◌then◌else◌, List, [], ◌∷◌, ◌++◌, map, flat_map, Option, Some, None}
use Rattle.std.specs.List.{list_any}
use Rattle.mc_base.specs.declared.refusal.Refusal.{Refusal}
use Rattle.mc_base.specs.declared.refusal.Refusal.TheVariants as refusals
use Rattle.mc_base.specs.declared.refusal.LimitName.TheVariants as limits
use Rattle.flow_data.specs.declared.data.Flow.{Flow}
use Rattle.flow_data.specs.declared.data.FlowsData.{FlowsData}
use Rattle.flow_data.specs.Flows.{atom_height}
use Rattle.flow_data.specs.Soundness.{item_total}
use Rattle.box_data.specs.BoxTree.{Kind, block_box, anonymous, container, image_block, or_else}
use Rattle.box_data.specs.Widths.{Placed, Size}
use Rattle.box_data.specs.Content.{Content, done, opens, closes, leaf, holds, spanner, stack, row}
use Rattle.box_data.specs.DocumentFlows.{is_stack}

abbrev pub greatest_length : ℕ
greatest_length = 2 ^ 24

-- the first of these that is more than a limit
abbrev pub first_above : ℕ → List ℕ → Option ℕ
first_above limit [] = None
first_above limit (n ∷ ns) = if nat_lt limit n then Some n else first_above limit ns

-- ---- lengths

abbrev pub size_lengths : Size → List ℕ
size_lengths size = size.w ∷ (size.h ∷ [])

abbrev pub gap_lengths : Kind → (gap : ℕ) → List ℕ
gap_lengths block_box gap = []
gap_lengths anonymous gap = []
gap_lengths container gap = gap ∷ []
gap_lengths image_block gap = []

-- the used lengths of a box; the height of a block-level image is met at its item
abbrev pub used_lengths : Placed → List ℕ
used_lengths p =
    p.margin.top ∷ (p.margin.right ∷ (p.margin.bottom ∷ (p.margin.left ∷
    (p.padding.top ∷ (p.padding.right ∷ (p.padding.bottom ∷ (p.padding.left ∷
    (p.w ∷ (gap_lengths p.kind p.gap ++ flat_map size_lengths p.images)))))))))

-- those of all boxes, in document order
abbrev pub all_used_lengths : List Placed → List ℕ
all_used_lengths places = flat_map used_lengths places

-- the heights of all items, flow by flow
abbrev pub item_heights : FlowsData → List ℕ
item_heights d = flat_map (λ (f : Flow). map atom_height f.items) d.flows

-- ---- columns and rows

abbrev pub column_counts : Placed → List ℕ
column_counts p = gap_lengths p.kind p.columns.n

-- how many rows stand one inside another in a stack, at most, where this many stand around
abbrev pub nesting : (around : ℕ) → Content → ℕ
nesting around done = around
nesting around (opens p next) = nesting around next
nesting around (closes p next) = nesting around next
nesting around (leaf l next) = nesting around next
nesting around (holds h inside next) = max (nesting (if is_stack h then 0 else suc around) inside) (nesting around next)
nesting around (spanner inside next) = nesting around next

abbrev pub item_count : Content → ℕ
item_count done = 0
item_count (opens p next) = item_count next
item_count (closes p next) = item_count next
item_count (leaf l next) = suc (item_count next)
item_count (holds h inside next) = suc (item_count next)
item_count (spanner inside next) = item_count next

-- the items of the rows that stand in other rows
abbrev pub inner_counts : (in_row : Bool) → Content → List ℕ
inner_counts in_row done = []
inner_counts in_row (opens p next) = inner_counts in_row next
inner_counts in_row (closes p next) = inner_counts in_row next
inner_counts in_row (leaf l next) = inner_counts in_row next
inner_counts in_row (holds (stack p) inside next) = inner_counts false inside ++ inner_counts in_row next
inner_counts in_row (holds (row p x is_last opened) inside next) = (if in_row then item_count inside ∷ [] else []) ++ inner_counts true inside ++ inner_counts in_row next
inner_counts in_row (spanner inside next) = inner_counts in_row next

-- ---- the first limit that is passed

abbrev pub passed : Option ℕ → (ℕ → Refusal) → Option Refusal
passed None refusal = None
passed (Some n) refusal = Some (refusal n)

abbrev pub long : List ℕ → Option Refusal
long lengths = passed (first_above greatest_length lengths) (λ n. refusals.Limit limits.Length n greatest_length)

abbrev pub wide : List Placed → Option Refusal
wide places = passed (first_above 32 (flat_map column_counts places)) (λ n. refusals.Limit limits.Columns n 32)

abbrev pub when : Bool → Refusal → Option Refusal
when passes refusal = if passes then Some refusal else None

-- the first height of an item, the first count of columns, then rows one inside another, items, and items of a row inside another
abbrev pub late_limit : List Placed → Content → FlowsData → Option Refusal
late_limit places content d =
    or_else (long (item_heights d))
    (or_else (wide places)
    (or_else (when (nat_lt 3 (nesting 0 content)) (refusals.Limit limits.Nest 4 3))
    (or_else (when (nat_lt 100000 (item_total d)) (refusals.Limit limits.Items 100001 100000))
    (when (list_any (λ n. nat_lt 2000 n) (inner_counts false content)) (refusals.Limit limits.InnerItems 2001 2000)))))
