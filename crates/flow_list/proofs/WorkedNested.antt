-- Worked cases of rows in rows.
use Rattle.std.proofs.Common.{◌≡◌, ℕ, true, false, List, [], ◌∷◌, refl, Option, Some, None}
use Rattle.mc_base.specs.declared.level.Level.{Level}
use Rattle.mc_base.specs.declared.level.Level.TheVariants.{Forced, L0, L1, L2}
use Rattle.flow_list.specs.Data.{Edge, FlowsData, Item, Margin, Solid, Start, End, Row}
use Rattle.flow_list.specs.Column.{ColumnLine}
use Rattle.flow_list.proofs.WorkedParts.{atom, seam, bare, flow, row, box, flows, size, ends_at, height, ends, fit, column_from}

-- heights that fit are followed by heights that don't: from 40 on the first column takes an item more of the inner row, and
-- the rest of that doesn't fit any more
abbrev nested : FlowsData
nested = flows (flow (Row 1 ∷ []) (seam [] L0 (Start 0 ∷ Solid 20 ∷ []) ∷ seam (End 0 ∷ []) L0 [] ∷ [])
    ∷ flow (atom 10 ∷ atom 10 ∷ atom 10 ∷ atom 10 ∷ atom 10 ∷ [])
    (bare L0 ∷ bare L0 ∷ seam [] L0 (Start 1 ∷ []) ∷ bare L2 ∷ bare L2 ∷ seam (End 1 ∷ []) L0 [] ∷ []) ∷ [])
    (row 1 2 ∷ row 2 2 ∷ []) (box false 0 0 ∷ box true 0 0 ∷ [])

nested-inner : size nested 1 (0 ∷ []) ≡ 30
unfolding size
nested-inner = refl

nested-rest : size nested 1 (2 ∷ []) ≡ 30
unfolding size
nested-rest = refl

nested-height : height nested None ≡ 30
unfolding height
nested-height = refl

nested-ends : ends nested None ≡ (0 ∷ 2 ∷ []) ∷ (1 ∷ []) ∷ []
unfolding ends
nested-ends = refl

nested-fit : fit nested (20 ∷ 29 ∷ 30 ∷ 31 ∷ 39 ∷ 40 ∷ 41 ∷ 49 ∷ 50 ∷ 51 ∷ []) ≡ false ∷ false ∷ true ∷ true ∷ true ∷ false
    ∷ false ∷ false ∷ true ∷ true ∷ []
unfolding fit
nested-fit = refl

-- its first column at 20: the lines and the greater heights at which it may change
abbrev line : ℕ → Option (List ℕ) → Option ℕ → ColumnLine
line depth end stop = record { depth = depth; end = end; stop = stop }

nested-lines : (column_from nested 0 (0 ∷ []) 20).lines ≡ line 0 None (Some 0) ∷ line 1 None (Some 0) ∷ []
unfolding column_from
nested-lines = refl

nested-bounds : (column_from nested 0 (0 ∷ []) 20).bounds ≡ 50 ∷ 50 ∷ 30 ∷ []
unfolding column_from
nested-bounds = refl

nested-uses : (column_from nested 0 (0 ∷ []) 20).uses ≡ (1, 0 ∷ []) ∷ []
unfolding column_from
nested-uses = refl

-- rows one under another in one column, each with a height of its own
abbrev stacked : FlowsData
stacked = flows (flow (Row 1 ∷ atom 30 ∷ Row 2 ∷ []) (bare L0 ∷ bare L0 ∷ bare L0 ∷ bare L0 ∷ [])
    ∷ flow (atom 20 ∷ atom 20 ∷ atom 20 ∷ atom 20 ∷ []) (bare L0 ∷ bare L0 ∷ bare L0 ∷ bare L0 ∷ bare L0 ∷ [])
    ∷ flow (atom 20 ∷ atom 20 ∷ []) (bare L0 ∷ bare L0 ∷ bare L0 ∷ []) ∷ [])
    (row 1 1 ∷ row 2 2 ∷ row 3 2 ∷ []) []

stacked-inner : size stacked 1 (0 ∷ []) ≡ 40
unfolding size
stacked-inner = refl

stacked-inner-2 : size stacked 2 (0 ∷ []) ≡ 20
unfolding size
stacked-inner-2 = refl

stacked-height : height stacked None ≡ 90
unfolding height
stacked-height = refl

stacked-lines : (column_from stacked 0 (0 ∷ []) 30).lines ≡ line 0 (Some (0 ∷ 2 ∷ [])) (Some 0) ∷ line 1 (Some (1 ∷ [])) (Some 1)
    ∷ line 1 (Some (2 ∷ [])) (Some 2) ∷ []
unfolding column_from
stacked-lines = refl

stacked-ends : ends_at stacked 0 40 ≡ (1 ∷ []) ∷ (2 ∷ []) ∷ (3 ∷ []) ∷ []
unfolding ends_at
stacked-ends = refl

-- a column that overflows with its first item has the level of the seam after that, and 0 at a forced one and at the end
abbrev tall : Level → FlowsData
tall level = flows (flow (atom 50 ∷ atom 50 ∷ []) (bare L0 ∷ bare level ∷ bare L2 ∷ []) ∷ []) (row 1 2 ∷ []) []

tall-level : (column_from (tall L2) 0 (0 ∷ []) 20).level ≡ 2
unfolding column_from
tall-level = refl

tall-level-1 : (column_from (tall L1) 0 (0 ∷ []) 20).level ≡ 1
unfolding column_from
tall-level-1 = refl

tall-forced : (column_from (tall Forced) 0 (0 ∷ []) 20).level ≡ 0
unfolding column_from
tall-forced = refl

tall-end : (column_from (tall L2) 0 (1 ∷ []) 20).level ≡ 0
unfolding column_from
tall-end = refl

tall-overflows : (column_from (tall L2) 0 (0 ∷ []) 20).overflow ≡ true
unfolding column_from
tall-overflows = refl

-- the same with a row that fits the column, where the padding after it doesn't
abbrev tall_row : Level → FlowsData
tall_row level =
    flows (flow (Row 1 ∷ atom 10 ∷ []) (seam [] L0 (Start 0 ∷ []) ∷ seam (Solid 30 ∷ End 0 ∷ []) level [] ∷ bare L0 ∷ []) ∷ flow
    (atom 20 ∷ []) (bare L0 ∷ bare L0 ∷ []) ∷ [])
    (row 1 2 ∷ row 2 2 ∷ []) (box false 0 0 ∷ [])

tall_row-level : (column_from (tall_row L2) 0 (0 ∷ []) 40).level ≡ 2
unfolding column_from
tall_row-level = refl

tall_row-end : (column_from (tall_row L2) 0 (0 ∷ []) 40).end ≡ 1 ∷ []
unfolding column_from
tall_row-end = refl

tall_row-overflow : (column_from (tall_row L2) 0 (0 ∷ []) 40).overflow ≡ true
unfolding column_from
tall_row-overflow = refl

-- A row of one item of 20, after padding of 30 in a column of 10: it begins too low, so it is filled at height 0. With
-- nothing in it that has room the item stands alone, and the column goes on after the row.
abbrev low : List Edge → List Item → FlowsData
low tail items = flows (flow (Row 1 ∷ []) (seam [] L0 (Start 0 ∷ Solid 30 ∷ []) ∷ seam tail L0 [] ∷ []) ∷ flow items
    (bare L0 ∷ bare L0 ∷ bare L0 ∷ []) ∷ []) (row 1 1 ∷ row 2 1 ∷ []) (box false 0 0 ∷ [])

low-end : (column_from (low (End 0 ∷ []) (atom 20 ∷ [])) 0 (0 ∷ []) 10).end ≡ 1 ∷ []
unfolding column_from
low-end = refl

low-extent : (column_from (low (End 0 ∷ []) (atom 20 ∷ [])) 0 (0 ∷ []) 10).extent ≡ 30
unfolding column_from
low-extent = refl

-- it gives no lines and no bounds of its own, but its columns' uses count
low-lines : (column_from (low (End 0 ∷ []) (atom 20 ∷ [])) 0 (0 ∷ []) 10).lines ≡ line 0 None (Some 0) ∷ []
unfolding column_from
low-lines = refl

low-bounds : (column_from (low (End 0 ∷ []) (atom 20 ∷ [])) 0 (0 ∷ []) 10).bounds ≡ 50 ∷ 30 ∷ []
unfolding column_from
low-bounds = refl

-- where more items follow in it, the column ends within it
low-within : (column_from (low (End 0 ∷ []) (atom 20 ∷ atom 20 ∷ [])) 0 (0 ∷ []) 10).end ≡ 0 ∷ 1 ∷ []
unfolding column_from
low-within = refl

-- A column that begins within a row drops margins, and the row that is filled at height 0 ends that: the margin after it
-- counts.
abbrev resumed : FlowsData
resumed = flows (flow (Row 1 ∷ []) (seam [] L0 (Start 0 ∷ []) ∷ seam (Margin 7 ∷ Solid 5 ∷ End 0 ∷ []) L0 [] ∷ []) ∷ flow
    (atom 20 ∷ atom 20 ∷ []) (bare L0 ∷ bare L0 ∷ bare L0 ∷ []) ∷ []) (row 1 1 ∷ row 2 1 ∷ []) (box false 0 0 ∷ [])

resumed-extent : (column_from resumed 0 (0 ∷ 1 ∷ []) 0).extent ≡ 12
unfolding column_from
resumed-extent = refl

resumed-end : (column_from resumed 0 (0 ∷ 1 ∷ []) 0).end ≡ 1 ∷ []
unfolding column_from
resumed-end = refl

-- Inside keeps its own level where the row's end is reached: a box around avoids a break.
abbrev kept : FlowsData
kept = flows (flow (Row 1 ∷ []) (seam [] L0 (Start 0 ∷ []) ∷ seam (End 0 ∷ []) L0 [] ∷ []) ∷ flow (atom 20 ∷ [])
    (bare L0 ∷ bare L0 ∷ []) ∷ []) (row 1 1 ∷ row 2 1 ∷ []) (box true 0 0 ∷ [])

kept-level : (column_from kept 0 (0 ∷ []) 10).level ≡ 2
unfolding column_from
kept-level = refl

-- Two columns of a box around a row of four items of 20, with the box's 5 above and 10 below again at the break: the first
-- takes two items at 20 and has its bottom below them, the second begins with the box's top.
abbrev around : FlowsData
around = flows (flow (Row 1 ∷ []) (seam [] L0 (Start 0 ∷ Solid 5 ∷ []) ∷ seam (Solid 10 ∷ End 0 ∷ []) L0 [] ∷ [])
    ∷ flow (atom 20 ∷ atom 20 ∷ atom 20 ∷ atom 20 ∷ []) (bare L0 ∷ bare L0 ∷ bare L0 ∷ bare L0 ∷ bare L0 ∷ []) ∷ [])
    (row 1 2 ∷ row 2 2 ∷ []) (box false 5 10 ∷ [])

around-height : height around None ≡ 35
unfolding height
around-height = refl

around-ends : ends around None ≡ (0 ∷ 2 ∷ []) ∷ (1 ∷ []) ∷ []
unfolding ends
around-ends = refl

around-extent : (column_from around 0 (0 ∷ []) 35).extent ≡ 35
unfolding column_from
around-extent = refl

around-fit : fit around (34 ∷ 35 ∷ []) ≡ false ∷ true ∷ []
unfolding fit
around-fit = refl

-- A row of one row of one item, that begins too low in a column of 10: nothing of it is judged there, but the sizes of both
-- rows are used.
abbrev low_twice : FlowsData
low_twice = flows (flow (Row 1 ∷ []) (seam [] L0 (Start 0 ∷ Solid 30 ∷ []) ∷ seam (End 0 ∷ []) L0 [] ∷ []) ∷ flow (Row 2 ∷ [])
    (bare L0 ∷ bare L0 ∷ [])
    ∷ flow (atom 20 ∷ []) (bare L0 ∷ bare L0 ∷ []) ∷ []) (row 1 1 ∷ row 2 1 ∷ row 3 1 ∷ []) (box false 0 0 ∷ [])

low_twice-uses : (column_from low_twice 0 (0 ∷ []) 10).uses ≡ (1, 0 ∷ []) ∷ (2, 0 ∷ []) ∷ []
unfolding column_from
low_twice-uses = refl

low_twice-bounds : (column_from low_twice 0 (0 ∷ []) 10).bounds ≡ 50 ∷ 30 ∷ []
unfolding column_from
low_twice-bounds = refl

low_twice-lines : (column_from low_twice 0 (0 ∷ []) 10).lines ≡ line 0 None (Some 0) ∷ []
unfolding column_from
low_twice-lines = refl

low_twice-end : (column_from low_twice 0 (0 ∷ []) 10).end ≡ 1 ∷ []
unfolding column_from
low_twice-end = refl

-- A row of two columns whose first one overflows: its lines and bounds go up to that column, the uses are those of both.
abbrev spilled : FlowsData
spilled = flows (flow (Row 1 ∷ []) (bare L0 ∷ bare L0 ∷ []) ∷ flow (atom 50 ∷ Row 2 ∷ []) (bare L0 ∷ bare L0 ∷ bare L0 ∷ [])
    ∷ flow (atom 10 ∷ []) (bare L0 ∷ bare L0 ∷ []) ∷ [])
    (row 1 1 ∷ row 2 2 ∷ row 3 1 ∷ []) []

spilled-uses : (column_from spilled 0 (0 ∷ []) 20).uses ≡ (1, 0 ∷ []) ∷ (2, 0 ∷ []) ∷ []
unfolding column_from
spilled-uses = refl

spilled-lines : (column_from spilled 0 (0 ∷ []) 20).lines ≡ line 0 None (Some 0) ∷ line 1 None (Some 0) ∷ []
unfolding column_from
spilled-lines = refl

spilled-bounds : (column_from spilled 0 (0 ∷ []) 20).bounds ≡ 50 ∷ 50 ∷ 50 ∷ []
unfolding column_from
spilled-bounds = refl
