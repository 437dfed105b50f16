-- Worked cases of one row of atoms.
use Rattle.std.proofs.Common.{◌≡◌, true, false, [], ◌∷◌, refl, Some, None}
use Rattle.mc_base.specs.declared.level.Level.{Level}
use Rattle.mc_base.specs.declared.level.Level.TheVariants.{Forced, L0, L1, L2}
use Rattle.flow_list.specs.Data.{FlowsData, Margin, Solid, Start, End}
use Rattle.flow_list.proofs.WorkedParts.{atom, seam, bare, flow, flows, one_row, ends_at, fit, height, ends}

-- six items of 20 in three columns
abbrev six : FlowsData
six = one_row 3 (atom 20 ∷ atom 20 ∷ atom 20 ∷ atom 20 ∷ atom 20 ∷ atom 20 ∷ [])
    (bare L0 ∷ bare L0 ∷ bare L0 ∷ bare L0 ∷ bare L0 ∷ bare L0 ∷ bare L0 ∷ [])

six-height : height six None ≡ 40
unfolding height
six-height = refl

six-ends : ends six None ≡ (2 ∷ []) ∷ (4 ∷ []) ∷ (6 ∷ []) ∷ []
unfolding ends
six-ends = refl

six-fit : fit six (39 ∷ 40 ∷ 41 ∷ []) ≡ false ∷ true ∷ true ∷ []
unfolding fit
six-fit = refl

-- no items at all: no columns, and height 0 fits
abbrev nothing : FlowsData
nothing = one_row 2 [] (bare L0 ∷ [])

nothing-height : height nothing None ≡ 0
unfolding height
nothing-height = refl

nothing-ends : ends nothing None ≡ []
unfolding ends
nothing-ends = refl

-- one item of 50 in three columns
abbrev one : FlowsData
one = one_row 3 (atom 50 ∷ []) (bare L0 ∷ bare L0 ∷ [])

one-height : height one None ≡ 50
unfolding height
one-height = refl

one-ends : ends one None ≡ (1 ∷ []) ∷ []
unfolding ends
one-ends = refl

-- two lines of 20 in a box with bottom padding 10, which goes with the last line
abbrev padded : FlowsData
padded = one_row 2 (atom 20 ∷ atom 20 ∷ []) (seam [] L0 (Start 0 ∷ []) ∷ bare L0 ∷ seam (Solid 10 ∷ End 0 ∷ []) L0 [] ∷ [])

padded-height : height padded None ≡ 30
unfolding height
padded-height = refl

padded-ends : ends padded None ≡ (1 ∷ []) ∷ (2 ∷ []) ∷ []
unfolding ends
padded-ends = refl

padded-fit : fit padded (29 ∷ 30 ∷ []) ≡ false ∷ true ∷ []
unfolding fit
padded-fit = refl

-- five lines of 10 with orphans and widows of 2: three lines and two
abbrev five : FlowsData
five = one_row 2 (atom 10 ∷ atom 10 ∷ atom 10 ∷ atom 10 ∷ atom 10 ∷ [])
    (bare L0 ∷ bare L1 ∷ bare L0 ∷ bare L0 ∷ bare L1 ∷ bare L0 ∷ [])

five-height : height five None ≡ 30
unfolding height
five-height = refl

five-ends : ends five None ≡ (3 ∷ []) ∷ (5 ∷ []) ∷ []
unfolding ends
five-ends = refl

five-lower : ends_at five 0 25 ≡ (2 ∷ []) ∷ (3 ∷ []) ∷ (5 ∷ []) ∷ []
unfolding ends_at
five-lower = refl

-- three items of 10 with forced breaks between them: two columns are wanted, three are needed
abbrev parted : FlowsData
parted = one_row 2 (atom 10 ∷ atom 10 ∷ atom 10 ∷ []) (bare L0 ∷ bare Forced ∷ bare Forced ∷ bare L0 ∷ [])

parted-height : height parted None ≡ 10
unfolding height
parted-height = refl

parted-ends : ends parted None ≡ (1 ∷ []) ∷ (2 ∷ []) ∷ (3 ∷ []) ∷ []
unfolding ends
parted-ends = refl

-- two items of 20, each with margin 16 above and below: at an unforced break the margins next to it are dropped, after a
-- forced one they stay
abbrev margins : Level → FlowsData
margins level = one_row 2 (atom 20 ∷ atom 20 ∷ [])
    (seam [] L0 (Margin 16 ∷ []) ∷ seam (Margin 16 ∷ []) level (Margin 16 ∷ []) ∷ seam (Margin 16 ∷ []) L0 [] ∷ [])

margins-height : height (margins L0) None ≡ 36
unfolding height
margins-height = refl

margins-fit : fit (margins L0) (35 ∷ 36 ∷ []) ≡ false ∷ true ∷ []
unfolding fit
margins-fit = refl

kept-height : height (margins Forced) None ≡ 36
unfolding height
kept-height = refl

-- three lines of 40 with orphans and widows of 2: no good break between them
abbrev joined : FlowsData
joined = one_row 2 (atom 40 ∷ atom 40 ∷ atom 40 ∷ []) (bare L0 ∷ bare L1 ∷ bare L1 ∷ bare L0 ∷ [])

joined-height : height joined None ≡ 120
unfolding height
joined-height = refl

joined-ends : ends joined None ≡ (3 ∷ []) ∷ []
unfolding ends
joined-ends = refl

-- where 80 are available, none fits
joined-within : height joined (Some 80) ≡ 80
unfolding height
joined-within = refl

joined-ends-within : ends joined (Some 80) ≡ (2 ∷ []) ∷ (3 ∷ []) ∷ []
unfolding ends
joined-ends-within = refl

-- seven items of 40 where 100 are available: four columns
abbrev seven : FlowsData
seven = one_row 2 (atom 40 ∷ atom 40 ∷ atom 40 ∷ atom 40 ∷ atom 40 ∷ atom 40 ∷ atom 40 ∷ [])
    (bare L0 ∷ bare L0 ∷ bare L0 ∷ bare L0 ∷ bare L0 ∷ bare L0 ∷ bare L0 ∷ bare L0 ∷ [])

seven-height : height seven (Some 100) ≡ 100
unfolding height
seven-height = refl

seven-ends : ends seven (Some 100) ≡ (2 ∷ []) ∷ (4 ∷ []) ∷ (6 ∷ []) ∷ (7 ∷ []) ∷ []
unfolding ends
seven-ends = refl

-- three lines of 20 with orphans and widows of 2, then an item of 40 where a break is avoided: the lines' rule goes first
abbrev relaxed : FlowsData
relaxed = one_row 2 (atom 20 ∷ atom 20 ∷ atom 20 ∷ atom 40 ∷ []) (bare L0 ∷ bare L1 ∷ bare L1 ∷ bare L2 ∷ bare L0 ∷ [])

relaxed-height : height relaxed (Some 80) ≡ 80
unfolding height
relaxed-height = refl

relaxed-ends : ends relaxed (Some 80) ≡ (2 ∷ []) ∷ (4 ∷ []) ∷ []
unfolding ends
relaxed-ends = refl

-- three items of 40 in a row with `column-fill: auto`, where 100 are available, or 200, or any height
abbrev filled : FlowsData
filled = flows (flow (atom 40 ∷ atom 40 ∷ atom 40 ∷ []) (bare L0 ∷ bare L0 ∷ bare L0 ∷ bare L0 ∷ []) ∷ [])
    (record { flow = 1; n = 2; w = 100; step = 110; x = 0; auto = true } ∷ []) []

filled-height : height filled (Some 100) ≡ 100
unfolding height
filled-height = refl

filled-ends : ends filled (Some 100) ≡ (2 ∷ []) ∷ (3 ∷ []) ∷ []
unfolding ends
filled-ends = refl

filled-lower : height filled (Some 200) ≡ 120
unfolding height
filled-lower = refl

filled-whole : ends filled (Some 200) ≡ (3 ∷ []) ∷ []
unfolding ends
filled-whole = refl

filled-free : height filled None ≡ 120
unfolding height
filled-free = refl

filled-endless : ends filled None ≡ (3 ∷ []) ∷ []
unfolding ends
filled-endless = refl

-- an item of 40 in a column of 30, last in its row: it goes beyond what is available
filled-beyond : height (record filled { flows = flow [] [] ∷ flow (atom 40 ∷ []) (bare L0 ∷ bare L0 ∷ []) ∷ [] }) (Some 30) ≡ 30
unfolding height
filled-beyond = refl
