-- Worked cases of ranges of heights that don't fit: one for each reason, with what shows it.
use Rattle.std.proofs.Common.{ℕ, ◌≤◌, ◌≡◌, false, [], ◌∷◌, refl, arith}
use Rattle.std.proofs.lemmas.List.Elements.{All-from_recursion}
use Rattle.mc_base.specs.declared.level.Level.TheVariants.{L0, L1, L2}
use Rattle.flow_list.specs.Data.{FlowsData, Margin, Solid, Start, End}
use Rattle.flow_data.specs.Flows.{flow_in}
use Rattle.flow_list.specs.Tokens.{Token}
use Rattle.flow_list.specs.Column.{Column, column, steps}
use Rattle.flow_list.specs.Ranges.{Reason, RangeRejects, tall, area, left, bad, over, judged}
use Rattle.flow_list.specs.Rows.{columns_by, fits, least, size_in, fill_in, rows_to, all_rows, fails}
use Rattle.flow_list.proofs.WorkedParts.{atom, seam, bare, one_row}

abbrev start : Token
start = 0 ∷ []

-- no height from low up to high fits row 0, for this reason
abbrev Rejects : FlowsData → (low high : ℕ) → Reason → Type 0
Rejects d low high reason = RangeRejects (all_rows d) d 0 start low high reason

-- its column from a place on
abbrev column_at : FlowsData → Token → ℕ → Column
column_at d t h = column (all_rows d) d (flow_in d 0) t h

-- two lines of 20 in a box with bottom padding 10: the second needs 30
abbrev padded : FlowsData
padded = one_row 2 (atom 20 ∷ atom 20 ∷ []) (seam [] L0 (Start 0 ∷ []) ∷ bare L0 ∷ seam (Solid 10 ∷ End 0 ∷ []) L0 [] ∷ [])

tall-rejects : Rejects padded 0 30 (tall 1)
tall-rejects = (omega arith, omega arith, tt, omega arith)

-- six items of 20 are more than three columns of 39 hold
abbrev six : FlowsData
six = one_row 3 (atom 20 ∷ atom 20 ∷ atom 20 ∷ atom 20 ∷ atom 20 ∷ atom 20 ∷ [])
    (bare L0 ∷ bare L0 ∷ bare L0 ∷ bare L0 ∷ bare L0 ∷ bare L0 ∷ bare L0 ∷ [])

area-rejects : Rejects six 20 40 area
area-rejects = omega arith

-- five lines of 10 with orphans and widows of 2: two columns of 25 leave the last two lines
abbrev five : FlowsData
five = one_row 2 (atom 10 ∷ atom 10 ∷ atom 10 ∷ atom 10 ∷ atom 10 ∷ [])
    (bare L0 ∷ bare L1 ∷ bare L0 ∷ bare L0 ∷ bare L1 ∷ bare L0 ∷ [])

left-rejects : Rejects five 25 30 (left (3 ∷ []))
unfolding column steps columns_by fits least size_in fill_in rows_to all_rows judged
left-rejects = (
  record {
    none_fails = All-from_recursion (λ c. fails c ≡ false) (column_at five start 25 ∷ column_at five (2 ∷ []) 25 ∷ [])
        (refl, (refl, tt));
    place = refl;
    rest = refl;
  },
  All-from_recursion (λ b. 30 ≤ b) (30 ∷ 30 ∷ []) (omega arith, (omega arith, tt)),
)

-- five items of 10, of which the last three stay together: the second column of 25 ends between them
abbrev kept : FlowsData
kept = one_row 2 (atom 10 ∷ atom 10 ∷ atom 10 ∷ atom 10 ∷ atom 10 ∷ [])
    (bare L0 ∷ bare L0 ∷ bare L0 ∷ bare L2 ∷ bare L2 ∷ bare L0 ∷ [])

bad-rejects : Rejects kept 25 30 (bad 2)
unfolding column steps columns_by fits least size_in fill_in rows_to all_rows judged
bad-rejects = (
  record {
    before = column_at kept start 25 ∷ [];
    column = column_at kept (2 ∷ []) 25;
    judged_are = refl;
    number = refl;
    fail = refl;
    overflow = refl;
  },
  All-from_recursion (λ b. 30 ≤ b) (30 ∷ 30 ∷ []) (omega arith, (omega arith, tt)),
)

-- two items of 20 with margins of 16: the first column overflows below 36
abbrev margins : FlowsData
margins = one_row 2 (atom 20 ∷ atom 20 ∷ [])
    (seam [] L0 (Margin 16 ∷ []) ∷ seam (Margin 16 ∷ []) L0 (Margin 16 ∷ []) ∷ seam (Margin 16 ∷ []) L0 [] ∷ [])

over-rejects : Rejects margins 20 36 (over 1)
unfolding column steps columns_by fits least size_in fill_in rows_to all_rows judged
over-rejects = (
  record { before = []; column = column_at margins start 20; judged_are = refl; number = refl; fail = refl; overflow = refl },
  All-from_recursion (λ b. 36 ≤ b) (36 ∷ []) (omega arith, tt),
)
