-- Worked cases of the ranges of heights that don't fit, with their reasons and columns.
use Rattle.std.proofs.Common.{◌≡◌, ℕ, true, false, List, [], ◌∷◌, refl, Option, Some, None}
use Rattle.mc_base.specs.declared.level.Level.TheVariants.{Forced, L0, L1, L2}
use Rattle.flow_list.specs.Data.{FlowsData, Margin, Solid, Start, End, Row}
use Rattle.flow_list.specs.Tokens.{Token}
use Rattle.flow_list.specs.Column.{ColumnLine, column, steps, endless_column}
use Rattle.flow_list.specs.Ranges.{Range, Reason, tall, area, left, bad, over, judged, searched, ranges}
use Rattle.flow_list.specs.Rows.{columns_by, fits, least, size_in, fill_in, rows_to, all_rows}
use Rattle.flow_list.proofs.WorkedParts.{atom, seam, bare, flow, row, box, flows, one_row, fit}

unfoldable found : FlowsData → ℕ → Token → Option ℕ → List Range
unfolding column steps endless_column columns_by fits least size_in fill_in rows_to all_rows judged searched ranges
found d r q available = ranges (all_rows d) d r q available

abbrev range : ℕ → ℕ → Reason → List ColumnLine → Range
range low high reason lines = record { low = low; high = high; reason = reason; lines = lines }

abbrev line : ℕ → Option Token → Option ℕ → ColumnLine
line depth end stop = record { depth = depth; end = end; stop = stop }

-- a column of the row itself that ends before an item, with its stop
abbrev ends : ℕ → ℕ → ColumnLine
ends item stop = line 0 (Some (item ∷ [])) (Some stop)

abbrev start : Token
start = 0 ∷ []

-- six items of 20 in three columns: below 20 no item fits, and below 40 they need more room
six-ranges : found (one_row 3 (atom 20 ∷ atom 20 ∷ atom 20 ∷ atom 20 ∷ atom 20 ∷ atom 20 ∷ [])
    (bare L0 ∷ bare L0 ∷ bare L0 ∷ bare L0 ∷ bare L0 ∷ bare L0 ∷ bare L0 ∷ [])) 0 start None
    ≡ range 0 20 (tall 0) [] ∷ range 20 40 area [] ∷ []
unfolding found
six-ranges = refl

-- no items: no ranges
nothing-ranges : found (one_row 2 [] (bare L0 ∷ [])) 0 start None ≡ []
unfolding found
nothing-ranges = refl

-- the padding at the bottom goes with the last line
padded-ranges :
    found (one_row 2 (atom 20 ∷ atom 20 ∷ []) (seam [] L0 (Start 0 ∷ []) ∷ bare L0 ∷ seam (Solid 10 ∷ End 0 ∷ []) L0 [] ∷ [])) 0
    start None ≡ range 0 30 (tall 1) [] ∷ []
unfolding found
padded-ranges = refl

-- five lines with orphans and widows of 2
five-ranges : found (one_row 2 (atom 10 ∷ atom 10 ∷ atom 10 ∷ atom 10 ∷ atom 10 ∷ [])
    (bare L0 ∷ bare L1 ∷ bare L0 ∷ bare L0 ∷ bare L1 ∷ bare L0 ∷ [])) 0 start None
    ≡ range 0 10 (tall 0) [] ∷ range 10 25 area [] ∷ range 25 30 (left (3 ∷ [])) (ends 2 2 ∷ ends 3 4 ∷ []) ∷ []
unfolding found
five-ranges = refl

-- forced breaks between three items
forced-ranges : found (one_row 2 (atom 10 ∷ atom 10 ∷ atom 10 ∷ []) (bare L0 ∷ bare Forced ∷ bare Forced ∷ bare L0 ∷ [])) 0 start
    None ≡ range 0 10 (tall 0) [] ∷ []
unfolding found
forced-ranges = refl

-- two items with margins: the first column overflows until the margin above its item has room
margins-ranges :
    found (one_row 2 (atom 20 ∷ atom 20 ∷ [])
    (seam [] L0 (Margin 16 ∷ []) ∷ seam (Margin 16 ∷ []) L0 (Margin 16 ∷ []) ∷ seam (Margin 16 ∷ []) L0 [] ∷ [])) 0 start None
    ≡ range 0 20 (tall 0) [] ∷ range 20 36 (over 1) (line 0 None (Some 0) ∷ []) ∷ []
unfolding found
margins-ranges = refl

-- three lines that stay together
abbrev three : FlowsData
three = one_row 2 (atom 40 ∷ atom 40 ∷ atom 40 ∷ []) (bare L0 ∷ bare L1 ∷ bare L1 ∷ bare L0 ∷ [])

three-ranges : found three 0 start None ≡ range 0 40 (tall 0) [] ∷ range 40 60 area [] ∷ range 60 80 (bad 1) (ends 1 1 ∷ [])
    ∷ range 80 120 (bad 1) (ends 2 2 ∷ []) ∷ []
unfolding found
three-ranges = refl

-- and where 80 is available, no height fits up to that
three-within : found three 0 start (Some 80) ≡ range 0 40 (tall 0) [] ∷ range 40 60 area [] ∷ range 60 80 (bad 1) (ends 1 1 ∷ [])
    ∷ range 80 81 (bad 1) (ends 2 2 ∷ []) ∷ []
unfolding found
three-within = refl

-- seven items over what is available
seven-ranges : found (one_row 2 (atom 40 ∷ atom 40 ∷ atom 40 ∷ atom 40 ∷ atom 40 ∷ atom 40 ∷ atom 40 ∷ [])
    (bare L0 ∷ bare L0 ∷ bare L0 ∷ bare L0 ∷ bare L0 ∷ bare L0 ∷ bare L0 ∷ bare L0 ∷ [])) 0 start (Some 100)
    ≡ range 0 40 (tall 0) [] ∷ range 40 101 area [] ∷ []
unfolding found
seven-ranges = refl

-- line counts are relaxed before the avoidance of breaks
relaxed-ranges : found (one_row 2 (atom 20 ∷ atom 20 ∷ atom 20 ∷ atom 40 ∷ [])
    (bare L0 ∷ bare L1 ∷ bare L1 ∷ bare L2 ∷ bare L0 ∷ [])) 0 start (Some 80)
    ≡ range 0 40 (tall 3) [] ∷ range 40 50 area [] ∷ range 50 60 (bad 1) (ends 2 2 ∷ []) ∷ range 60 81 (bad 1)
    (ends 2 3 ∷ []) ∷ []
unfolding found
relaxed-ranges = refl

-- a row in a row, where heights that fit are followed by heights that don't
abbrev nested : FlowsData
nested = flows (flow (Row 1 ∷ []) (seam [] L0 (Start 0 ∷ Solid 20 ∷ []) ∷ seam (End 0 ∷ []) L0 [] ∷ [])
    ∷ flow (atom 10 ∷ atom 10 ∷ atom 10 ∷ atom 10 ∷ atom 10 ∷ [])
    (bare L0 ∷ bare L0 ∷ seam [] L0 (Start 1 ∷ []) ∷ bare L2 ∷ bare L2 ∷ seam (End 1 ∷ []) L0 [] ∷ []) ∷ [])
    (row 1 2 ∷ row 2 2 ∷ []) (box false 0 0 ∷ box true 0 0 ∷ [])

nested-ranges : found nested 0 start None ≡ range 0 20 (over 1) (line 0 None (Some 0) ∷ []) ∷ range 20 30 (over 1)
    (line 0 None (Some 0) ∷ line 1 None (Some 0) ∷ []) ∷ []
unfolding found
nested-ranges = refl

nested-inner-ranges : found nested 1 start None ≡ range 0 10 (tall 0) [] ∷ range 10 25 area [] ∷ range 25 30 (bad 2)
    (ends 2 2 ∷ ends 4 4 ∷ []) ∷ []
unfolding found
nested-inner-ranges = refl

nested-rest-ranges : found nested 1 (2 ∷ []) None
    ≡ range 0 10 (tall 2) [] ∷ range 10 15 area [] ∷ range 15 20 (bad 1) (ends 3 3 ∷ []) ∷ range 20 30 (bad 1)
    (ends 4 4 ∷ []) ∷ []
unfolding found
nested-rest-ranges = refl

-- rows one under another in one column
stacked-ranges : found (flows (flow (Row 1 ∷ atom 30 ∷ Row 2 ∷ []) (bare L0 ∷ bare L0 ∷ bare L0 ∷ bare L0 ∷ [])
    ∷ flow (atom 20 ∷ atom 20 ∷ atom 20 ∷ atom 20 ∷ []) (bare L0 ∷ bare L0 ∷ bare L0 ∷ bare L0 ∷ bare L0 ∷ [])
    ∷ flow (atom 20 ∷ atom 20 ∷ []) (bare L0 ∷ bare L0 ∷ bare L0 ∷ []) ∷ []) (row 1 1 ∷ row 2 2 ∷ row 3 2 ∷ []) []) 0 start None
    ≡ range 0 30 (tall 1) [] ∷ range 30 40 (left (0 ∷ 2 ∷ []))
    (line 0 (Some (0 ∷ 2 ∷ [])) (Some 0) ∷ line 1 (Some (1 ∷ [])) (Some 1) ∷ line 1 (Some (2 ∷ [])) (Some 2) ∷ [])
    ∷ range 40 70 (left (1 ∷ [])) (ends 1 1 ∷ []) ∷ range 70 90 (left (2 ∷ [])) (ends 2 2 ∷ line 1 None (Some 0) ∷ []) ∷ []
unfolding found
stacked-ranges = refl

-- two lines in a box whose edges are cloned
cloned-ranges :
    found (flows (flow (atom 20 ∷ atom 20 ∷ [])
    (seam [] L0 (Start 0 ∷ Solid 5 ∷ []) ∷ bare L0 ∷ seam (Solid 10 ∷ End 0 ∷ []) L0 [] ∷ []) ∷ []) (row 1 2 ∷ [])
    (box false 5 10 ∷ [])) 0 start None
    ≡ range 0 35 (tall 0) [] ∷ []
unfolding found
cloned-ranges = refl

-- four lines with orphans and widows of 2, an empty block, and an item after a forced break
abbrev paragraph : FlowsData
paragraph = one_row 2 (atom 1280 ∷ atom 1280 ∷ atom 1280 ∷ atom 1280 ∷ atom 0 ∷ atom 2253 ∷ [])
    (bare L0 ∷ bare L1 ∷ bare L1 ∷ bare L0 ∷ bare L0 ∷ bare Forced ∷ bare L0 ∷ [])

paragraph-ranges : found paragraph 0 start None
    ≡ range 0 2253 (tall 5) [] ∷ range 2253 3687 area [] ∷ range 3687 3840 (bad 1) (ends 2 2 ∷ [])
    ∷ range 3840 5120 (left (5 ∷ [])) (ends 3 3 ∷ line 0 (Some (5 ∷ [])) None ∷ []) ∷ []
unfolding found
paragraph-ranges = refl

paragraph-fit : fit paragraph (5119 ∷ 5120 ∷ []) ≡ false ∷ true ∷ []
unfolding fit
paragraph-fit = refl

-- four lines that part in the middle
pairs-ranges : found (one_row 2 (atom 1280 ∷ atom 1280 ∷ atom 1280 ∷ atom 1280 ∷ [])
    (bare L0 ∷ bare L1 ∷ bare L0 ∷ bare L1 ∷ bare L0 ∷ [])) 0 start None
    ≡ range 0 1280 (tall 0) [] ∷ range 1280 2560 area [] ∷ []
unfolding found
pairs-ranges = refl

-- one item is as high as it needs, however many columns there are
one-ranges : found (one_row 3 (atom 50 ∷ []) (bare L0 ∷ bare L0 ∷ [])) 0 start None ≡ range 0 50 (tall 0) [] ∷ []
unfolding found
one-ranges = refl

-- two items with margins and a forced break between them, whose margins stay
kept-ranges :
    found (one_row 2 (atom 20 ∷ atom 20 ∷ [])
    (seam [] L0 (Margin 16 ∷ []) ∷ seam (Margin 16 ∷ []) Forced (Margin 16 ∷ []) ∷ seam (Margin 16 ∷ []) L0 [] ∷ [])) 0
    start None
    ≡ range 0 20 (tall 0) [] ∷ range 20 36 (over 1) (line 0 None (Some 0) ∷ []) ∷ []
unfolding found
kept-ranges = refl

-- an item below a margin at the row's start
below-ranges : found (one_row 2 (atom 10 ∷ []) (seam [] L0 (Margin 5 ∷ []) ∷ bare L0 ∷ [])) 0 start None
    ≡ range 0 10 (tall 0) [] ∷ range 10 15 (over 1) (line 0 None (Some 0) ∷ []) ∷ []
unfolding found
below-ranges = refl

below-fit : fit (one_row 2 (atom 10 ∷ []) (seam [] L0 (Margin 5 ∷ []) ∷ bare L0 ∷ [])) (14 ∷ 15 ∷ []) ≡ false ∷ true ∷ []
unfolding fit
below-fit = refl
