-- Worked cases of whole results, from their first line to `end`.
use Rattle.std.proofs.Common.{◌≡◌, ℕ, true, false, List, [], ◌∷◌, refl, Some}
use Rattle.std.specs.Prelude.{codes}
use Rattle.mc_base.specs.declared.level.Level.TheVariants.{L0, L1}
use Rattle.flow_list.specs.Data.{BoxInfo, FlowsData, Line, Bounded, Free, Left, Wall, Start, End, Atom, Row}
use Rattle.flow_list.specs.ResultText.{result_lines}
use Rattle.flow_list.specs.Stacks.{available_at}
use Rattle.flow_list.proofs.WorkedCertificates.{certified}
use Rattle.flow_list.proofs.WorkedParts.{atom, seam, bare, flow, one_row}
use Rattle.flow_list.proofs.WorkedTrees.{drawn}

unfoldable printed : FlowsData → List (List ℕ)
unfolding drawn certified result_lines
printed d = result_lines d

-- six items of 20 in three columns
six-result : printed (one_row 3 (atom 20 ∷ atom 20 ∷ atom 20 ∷ atom 20 ∷ atom 20 ∷ atom 20 ∷ [])
    (bare L0 ∷ bare L0 ∷ bare L0 ∷ bare L0 ∷ bare L0 ∷ bare L0 ∷ bare L0 ∷ []))
    ≡ codes "mcol 2" ∷ codes "0 stack 0 0 0 320 40" ∷ codes "1 row 0 0 0 0 320 40"
    ∷ codes "2 col 0 0 0 100 40" ∷ codes "3 atom 0 0 0 100 20" ∷ codes "3 atom 1 0 20 100 20"
    ∷ codes "2 col 1 110 0 100 40" ∷ codes "3 atom 2 110 0 100 20" ∷ codes "3 atom 3 110 20 100 20"
    ∷ codes "2 col 2 220 0 100 40" ∷ codes "3 atom 4 220 0 100 20" ∷ codes "3 atom 5 220 20 100 20"
    ∷ codes "cert" ∷ codes "row 0 - 40 yes" ∷ codes "range 0 20 tall 0" ∷ codes "range 20 40 area" ∷ codes "end" ∷ []
unfolding printed
six-result = refl

-- A container with a height of 1920, whose row fills its columns one after another: it is an atom of the document's stack,
-- and a stack of its own stands inside.
abbrev wide : BoxInfo
wide = record { x = 0; w = 10240; avoid = false; top = 0; bottom = 0 }

abbrev container : FlowsData
container = record {
  flows = flow (Atom 1920 (Bounded 2 1 0) ∷ [])
      (seam [] L0 (Start 0 ∷ Wall ∷ Start 1 ∷ Start 2 ∷ Wall ∷ []) ∷ seam (Wall ∷ End 2 ∷ End 1 ∷ Wall ∷ End 0 ∷ []) L0 [] ∷ [])
      ∷ flow (Row 0 ∷ []) (bare L0 ∷ bare L0 ∷ [])
      ∷ flow (Atom 1280 (Line 2 0 0 5120) ∷ Atom 1280 (Line 2 1 0 5120) ∷ Atom 1280 (Line 2 2 0 5120) ∷ [])
      (bare L0 ∷ bare L1 ∷ bare L1 ∷ bare L0 ∷ [])
      ∷ [];
  rows = record { flow = 2; n = 2; w = 5120; step = 5120; x = 0; auto = true } ∷ [];
  boxes = wide ∷ wide ∷ wide ∷ [];
  stacks = record { flow = 0; w = 10240; bound = Free } ∷ record { flow = 1; w = 10240; bound = Left 1920 } ∷ [];
}

container-result : printed container
    ≡ codes "mcol 2" ∷ codes "0 stack 0 0 0 10240 1920" ∷ codes "1 box 0 se 0 0 10240 1920" ∷ codes "2 box 1 se 0 0 10240 1920"
    ∷ codes "3 box 2 se 0 0 10240 1920"
    ∷ codes "4 stack 1 0 0 10240 1920" ∷ codes "5 row 0 0 0 0 10240 1920" ∷ codes "6 col 0 0 0 5120 1920" ∷ codes
    "7 line 2 0 0 0 5120 1280"
    ∷ codes "6 col 1 5120 0 5120 1920" ∷ codes "7 line 2 1 5120 0 5120 1280" ∷ codes "6 col 2 10240 0 5120 1920" ∷ codes
    "7 line 2 2 10240 0 5120 1280"
    ∷ codes "cert" ∷ codes "auto 0 1920 1920" ∷ codes "end" ∷ []
unfolding printed
container-result = refl

-- what a container of 100 leaves to a row that begins at 60 or at 20: at least 1px
left-available : available_at (Left 100) 60 ≡ Some 64
left-available = refl

left-available-2 : available_at (Left 100) 20 ≡ Some 80
left-available-2 = refl
