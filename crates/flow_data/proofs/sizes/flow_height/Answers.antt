use Rattle.std.proofs.Common.{◌+◌, ◌-◌, ◌^◌, ◌∙◌, ℕ, List, min, sum_by, ap, arith}
use Rattle.std.proofs.lemmas.List.Sums.{sum_by-append}
use Rattle.flow_data.specs.Data.{Item, Seam}
use Rattle.flow_data.specs.Sizes.{cloned_height}
use Rattle.flow_data.specs.Flows.{atom_height, amount, starts_in}
use Rattle.flow_data.proofs.sizes.flow_height.Goals as goal

pub returns : goal.returns
returns c =
    let d = c.args.parts.now in
    let f = c.args.flow.now in
    let most : ℕ = 2 ^ 64 - 1 in
    let cloned = cloned_height d in
    let atoms = c.atoms_height.ensures ∙ ap (λ (items : List Item). min (sum_by atom_height items) most) c.as_slice.ensures in
    let edges = c.seams_height.ensures
    ∙ ap (λ (seams : List Seam). min
    (sum_by (λ (s : Seam). sum_by amount s.tail + sum_by amount s.head) seams + sum_by cloned (starts_in seams)) most)
    c.as_slice-2.ensures in
    let opened = c.boxes_height.ensures ∙ ap (λ (boxes : List ℕ). min (sum_by cloned boxes) most) c.as_slice-3.ensures in
    let boxes = sum_by-append cloned f.opened (starts_in f.seams) in
    omega arith
