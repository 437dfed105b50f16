-- Worked pieces of a row in a row.
use Rattle.std.proofs.Common.{◌≡◌, ℕ, true, false, List, [], ◌∷◌, refl}
use Rattle.mc_base.specs.declared.level.Level.{Level}
use Rattle.mc_base.specs.declared.level.Level.TheVariants.{L0, L2}
use Rattle.flow_list.specs.Column.{column, steps, endless_column}
use Rattle.flow_list.specs.Data.{Edge, FlowsData, Free, Plain, Seam, Atom, Row, Solid, Start, End}
use Rattle.flow_list.specs.Rows.{columns_by, fits, least, size_in, fill_in, rows_to, all_rows}
use Rattle.flow_list.specs.Tokens.{Token}
use Rattle.piece_data.specs.LeastPiece.{UnfitRange, least_height, other, over, ranges_below, unfit_ranges}

abbrev seam : List Edge → Level → List Edge → Seam
seam tail level head = record { tail = tail; head = head; level = level }

-- two items of 10, and a box of three more of them that avoids breaks, in a row in the first column of a row
abbrev nested : FlowsData
nested = record {
  flows = record { opened = []; items = Row 0 ∷ []; seams = seam [] L0 [] ∷ seam [] L0 [] ∷ [] }
      ∷ record {
        opened = [];
        items = Row 1 ∷ [];
        seams = seam [] L0 (Start 0 ∷ Solid 20 ∷ []) ∷ seam (End 0 ∷ []) L0 [] ∷ [];
      }
      ∷ record {
        opened = [];
        items = Atom 10 Plain ∷ Atom 10 Plain ∷ Atom 10 Plain ∷ Atom 10 Plain ∷ Atom 10 Plain ∷ [];
        seams = seam [] L0 [] ∷ seam [] L0 [] ∷ seam [] L0 (Start 1 ∷ []) ∷ seam [] L2 [] ∷ seam [] L2 []
            ∷ seam (End 1 ∷ []) L0 [] ∷ [];
      }
      ∷ [];
  rows = record { flow = 1; n = 2; w = 100; step = 110; x = 0; auto = false }
      ∷ record { flow = 2; n = 2; w = 45; step = 55; x = 0; auto = false } ∷ [];
  boxes = record { x = 0; w = 100; avoid = false; top = 0; bottom = 0 }
      ∷ record { x = 0; w = 45; avoid = true; top = 0; bottom = 0 } ∷ [];
  stacks = record { flow = 0; w = 210; bound = Free } ∷ [];
}

unfoldable low : FlowsData → ℕ → Token → ℕ → ℕ
unfolding column steps endless_column columns_by fits least size_in fill_in rows_to all_rows least_height
low d r q a = least_height d r q a

unfoldable why : FlowsData → ℕ → Token → ℕ → List UnfitRange
unfolding column steps endless_column columns_by fits least size_in fill_in rows_to all_rows least_height unfit_ranges
    ranges_below
why d r q a = unfit_ranges d r q a

-- at 15 each column holds one item, and 10 is enough for that
low-at-fifteen : low nested 1 (0 ∷ []) 15 ≡ 10
unfolding low
low-at-fifteen = refl

why-at-fifteen : why nested 1 (0 ∷ []) 15 ≡ record { low = 0; high = 10; reason = over } ∷ []
unfolding why
why-at-fifteen = refl

-- at 25 the first column holds both items, and the second takes two of the box
low-at-twenty-five : low nested 1 (0 ∷ []) 25 ≡ 20
unfolding low
low-at-twenty-five = refl

why-at-twenty-five : why nested 1 (0 ∷ []) 25
    ≡ record { low = 0; high = 10; reason = over } ∷ record { low = 10; high = 20; reason = other (2 ∷ []) } ∷ []
unfolding why
why-at-twenty-five = refl
