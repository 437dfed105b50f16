-- Worked cases of boxes that have their border and padding again at each break.
use Rattle.std.proofs.Common.{◌≡◌, true, false, [], ◌∷◌, refl, None}
use Rattle.mc_base.specs.declared.level.Level.TheVariants.{L0}
use Rattle.flow_list.specs.Data.{BoxInfo, FlowsData, Solid, Start, End}
use Rattle.flow_list.proofs.WorkedParts.{atom, seam, bare, flow, row, flows, box, height, ends, fit, column_from}

-- two items of 20 in a box with 5 above and 10 below
abbrev boxed : BoxInfo → FlowsData
boxed b =
    flows (flow (atom 20 ∷ atom 20 ∷ []) (seam [] L0 (Start 0 ∷ Solid 5 ∷ []) ∷ bare L0 ∷ seam (Solid 10 ∷ End 0 ∷ []) L0 [] ∷ [])
    ∷ []) (row 1 2 ∷ []) (b ∷ [])

boxed-height : height (boxed (box false 5 10)) None ≡ 35
unfolding height
boxed-height = refl

boxed-ends : ends (boxed (box false 5 10)) None ≡ (1 ∷ []) ∷ (2 ∷ []) ∷ []
unfolding ends
boxed-ends = refl

boxed-fit : fit (boxed (box false 5 10)) (34 ∷ 35 ∷ []) ≡ false ∷ true ∷ []
unfolding fit
boxed-fit = refl

-- how far each of its columns reaches
boxed-extent : (column_from (boxed (box false 5 10)) 0 (0 ∷ []) 35).extent ≡ 35
unfolding column_from
boxed-extent = refl

boxed-extent-2 : (column_from (boxed (box false 5 10)) 0 (1 ∷ []) 35).extent ≡ 35
unfolding column_from
boxed-extent-2 = refl

-- without the amounts at the break
sliced-height : height (boxed (box false 0 0)) None ≡ 30
unfolding height
sliced-height = refl

-- the same with a second box within
abbrev twice : FlowsData
twice = flows (flow (atom 20 ∷ atom 20 ∷ [])
    (seam [] L0 (Start 0 ∷ Solid 5 ∷ Start 1 ∷ Solid 2 ∷ []) ∷ bare L0 ∷ seam (Solid 3 ∷ End 1 ∷ Solid 10 ∷ End 0 ∷ []) L0 []
    ∷ []) ∷ [])
    (row 1 2 ∷ []) (box false 5 10 ∷ box false 2 3 ∷ [])

twice-height : height twice None ≡ 40
unfolding height
twice-height = refl

twice-ends : ends twice None ≡ (1 ∷ []) ∷ (2 ∷ []) ∷ []
unfolding ends
twice-ends = refl
