-- Worked cases of certificates, with the sizes of inner rows and the numbers that column lines cite.
use Rattle.std.proofs.Common.{◌≡◌, ℕ, true, false, List, [], ◌∷◌, refl}
use Rattle.std.specs.Prelude.{codes}
use Rattle.std.specs.Fmt.{digits}
use Rattle.mc_base.specs.declared.level.Level.TheVariants.{L0, L1, L2}
use Rattle.flow_list.specs.Data.{FlowsData, Solid, Start, End, Row}
use Rattle.flow_list.specs.Column.{column, steps, endless_column}
use Rattle.flow_list.specs.Rows.{columns_by, fits, least, size_in, fill_in, rows_to, all_rows}
use Rattle.flow_list.specs.RowHeights.{size_of, height_fits, row_columns, row_height, columns_of_row}
use Rattle.flow_list.specs.Ranges.{judged, searched, ranges}
use Rattle.flow_list.specs.Stacks.{stack_strip, stack_height}
use Rattle.flow_list.specs.Certificate.{owned_to, range_owned, size_uses, row_uses, entered, rows_in_stacks, certificate, book_of}
use Rattle.flow_list.specs.ResultText.{certificate_lines}
use Rattle.flow_list.proofs.WorkedParts.{atom, seam, bare, flow, row, box, flows, one_row, within}

unfoldable pub certified : FlowsData → List (List ℕ)
unfolding column steps endless_column columns_by fits least size_in fill_in rows_to all_rows size_of height_fits row_columns
    row_height columns_of_row judged searched ranges stack_strip stack_height owned_to range_owned size_uses row_uses entered
    rows_in_stacks certificate book_of certificate_lines digits
certified d = certificate_lines d

-- an empty row has an entry without ranges
nothing-lines : certified (one_row 2 [] (bare L0 ∷ [])) ≡ codes "cert" ∷ codes "row 0 - 0 yes" ∷ codes "end" ∷ []
unfolding certified
nothing-lines = refl

-- six items of 20 in three columns
six-lines : certified (one_row 3 (atom 20 ∷ atom 20 ∷ atom 20 ∷ atom 20 ∷ atom 20 ∷ atom 20 ∷ [])
    (bare L0 ∷ bare L0 ∷ bare L0 ∷ bare L0 ∷ bare L0 ∷ bare L0 ∷ bare L0 ∷ []))
    ≡ codes "cert" ∷ codes "row 0 - 40 yes" ∷ codes "range 0 20 tall 0" ∷ codes "range 20 40 area" ∷ codes "end" ∷ []
unfolding certified
six-lines = refl

-- a row in a row: its sizes from two places stand first, and the column lines cite them
nested-lines : certified (flows (flow (Row 1 ∷ []) (seam [] L0 (Start 0 ∷ Solid 20 ∷ []) ∷ seam (End 0 ∷ []) L0 [] ∷ [])
    ∷ flow (atom 10 ∷ atom 10 ∷ atom 10 ∷ atom 10 ∷ atom 10 ∷ [])
    (bare L0 ∷ bare L0 ∷ seam [] L0 (Start 1 ∷ []) ∷ bare L2 ∷ bare L2 ∷ seam (End 1 ∷ []) L0 [] ∷ []) ∷ [])
    (row 1 2 ∷ row 2 2 ∷ []) (box false 0 0 ∷ box true 0 0 ∷ []))
    ≡ codes "cert" ∷ codes "size 1 0 30" ∷ codes "range 0 10 tall 0" ∷ codes "range 10 25 area" ∷ codes "range 25 30 bad 2"
    ∷ codes "col 0 2 2" ∷ codes "col 0 4 4"
    ∷ codes "size 1 2 30" ∷ codes "range 0 10 tall 2" ∷ codes "range 10 15 area" ∷ codes "range 15 20 bad 1" ∷ codes "col 0 3 3"
    ∷ codes "range 20 30 bad 1" ∷ codes "col 0 4 4"
    ∷ codes "row 0 - 30 yes" ∷ codes "range 0 20 over 1" ∷ codes "col 0 ! 0 0" ∷ codes "range 20 30 over 1" ∷ codes "col 0 ! 0 0"
    ∷ codes "col 1 ! 0" ∷ codes "end" ∷ []
unfolding certified
nested-lines = refl

-- rows one under another in one column
stacked-lines : certified (flows (flow (Row 1 ∷ atom 30 ∷ Row 2 ∷ []) (bare L0 ∷ bare L0 ∷ bare L0 ∷ bare L0 ∷ [])
    ∷ flow (atom 20 ∷ atom 20 ∷ atom 20 ∷ atom 20 ∷ []) (bare L0 ∷ bare L0 ∷ bare L0 ∷ bare L0 ∷ bare L0 ∷ [])
    ∷ flow (atom 20 ∷ atom 20 ∷ []) (bare L0 ∷ bare L0 ∷ bare L0 ∷ []) ∷ []) (row 1 1 ∷ row 2 2 ∷ row 3 2 ∷ []) [])
    ≡ codes "cert" ∷ codes "size 1 0 40" ∷ codes "range 0 20 tall 0" ∷ codes "range 20 40 area" ∷ codes "size 2 0 20" ∷ codes
    "range 0 20 tall 0"
    ∷ codes "row 0 - 90 yes" ∷ codes "range 0 30 tall 1" ∷ codes "range 30 40 left 0.2" ∷ codes "col 0 0.2 0 0" ∷ codes
    "col 1 1 1" ∷ codes "col 1 2 2"
    ∷ codes "range 40 70 left 1" ∷ codes "col 0 1 1 0" ∷ codes "range 70 90 left 2" ∷ codes "col 0 2 2 0 1" ∷ codes "col 1 ! 0"
    ∷ codes "end" ∷ []
unfolding certified
stacked-lines = refl

-- three lines that stay together, where 80 is available: no height up to that fits
joined-lines : certified (within 80 (one_row 2 (atom 40 ∷ atom 40 ∷ atom 40 ∷ []) (bare L0 ∷ bare L1 ∷ bare L1 ∷ bare L0 ∷ [])))
    ≡ codes "cert" ∷ codes "row 0 80 80 no" ∷ codes "range 0 40 tall 0" ∷ codes "range 40 60 area" ∷ codes "range 60 80 bad 1"
    ∷ codes "col 0 1 1"
    ∷ codes "range 80 81 bad 1" ∷ codes "col 0 2 2" ∷ codes "end" ∷ []
unfolding certified
joined-lines = refl

-- seven items of 40, where 100 is available
seven-lines :
    certified
    (within 100 (one_row 2 (atom 40 ∷ atom 40 ∷ atom 40 ∷ atom 40 ∷ atom 40 ∷ atom 40 ∷ atom 40 ∷ [])
    (bare L0 ∷ bare L0 ∷ bare L0 ∷ bare L0 ∷ bare L0 ∷ bare L0 ∷ bare L0 ∷ bare L0 ∷ [])))
    ≡ codes "cert" ∷ codes "row 0 100 100 no" ∷ codes "range 0 40 tall 0" ∷ codes "range 40 101 area" ∷ codes "end" ∷ []
unfolding certified
seven-lines = refl

-- line counts are relaxed before the avoidance of breaks
relaxed-lines :
    certified
    (within 80 (one_row 2 (atom 20 ∷ atom 20 ∷ atom 20 ∷ atom 40 ∷ []) (bare L0 ∷ bare L1 ∷ bare L1 ∷ bare L2 ∷ bare L0 ∷ [])))
    ≡ codes "cert" ∷ codes "row 0 80 80 no" ∷ codes "range 0 40 tall 3" ∷ codes "range 40 50 area" ∷ codes "range 50 60 bad 1"
    ∷ codes "col 0 2 2"
    ∷ codes "range 60 81 bad 1" ∷ codes "col 0 2 3" ∷ codes "end" ∷ []
unfolding certified
relaxed-lines = refl

-- a row with `column-fill: auto` has no ranges: as high as what is available where a column is broken, else as its tallest column
abbrev filled : FlowsData
filled = flows (flow (atom 40 ∷ atom 40 ∷ atom 40 ∷ []) (bare L0 ∷ bare L0 ∷ bare L0 ∷ bare L0 ∷ []) ∷ [])
    (record { flow = 1; n = 2; w = 100; step = 110; x = 0; auto = true } ∷ []) []

filled-lines : certified (within 100 filled) ≡ codes "cert" ∷ codes "auto 0 100 100" ∷ codes "end" ∷ []
unfolding certified
filled-lines = refl

filled_lower-lines : certified (within 200 filled) ≡ codes "cert" ∷ codes "auto 0 200 120" ∷ codes "end" ∷ []
unfolding certified
filled_lower-lines = refl

-- Rows three deep, the innermost of one item of 20, below padding of 30: a size stands after the sizes that it uses, though
-- it is used first.
deep-lines :
    certified
    (flows (flow (Row 1 ∷ []) (seam [] L0 (Start 0 ∷ Solid 30 ∷ []) ∷ seam (End 0 ∷ []) L0 [] ∷ []) ∷ flow (Row 2 ∷ [])
    (bare L0 ∷ bare L0 ∷ [])
    ∷ flow (atom 20 ∷ []) (bare L0 ∷ bare L0 ∷ []) ∷ []) (row 1 1 ∷ row 2 1 ∷ row 3 1 ∷ []) (box false 0 0 ∷ []))
    ≡ codes "cert" ∷ codes "size 2 0 20" ∷ codes "range 0 20 tall 0" ∷ codes "size 1 0 20" ∷ codes "range 0 20 over 1" ∷ codes
    "col 0 ! 0 0" ∷ codes "col 1 ! 0"
    ∷ codes "row 0 - 50 yes" ∷ codes "range 0 30 over 1" ∷ codes "col 0 ! 0 1" ∷ codes "range 30 50 over 1" ∷ codes "col 0 ! 0 1"
    ∷ codes "col 1 ! 0 0" ∷ codes "col 2 ! 0"
    ∷ codes "end" ∷ []
unfolding certified
deep-lines = refl

-- a row of an item of 50 and a row: the columns of a fill are told up to the first that overflows
spilled-lines :
    certified (flows (flow (Row 1 ∷ []) (bare L0 ∷ bare L0 ∷ []) ∷ flow (atom 50 ∷ Row 2 ∷ []) (bare L0 ∷ bare L0 ∷ bare L0 ∷ [])
    ∷ flow (atom 10 ∷ []) (bare L0 ∷ bare L0 ∷ []) ∷ []) (row 1 1 ∷ row 2 2 ∷ row 3 1 ∷ []) [])
    ≡ codes "cert" ∷ codes "size 2 0 10" ∷ codes "range 0 10 tall 0" ∷ codes "size 1 0 50" ∷ codes "range 0 50 tall 0"
    ∷ codes "row 0 - 50 yes" ∷ codes "range 0 50 over 1" ∷ codes "col 0 ! 0 1" ∷ codes "col 1 ! 0" ∷ codes "end" ∷ []
unfolding certified
spilled-lines = refl
