-- The heights of a row's atoms together stay small.
use Rattle.std.proofs.Common.{◌≡◌, ℕ, ◌^◌, ◌<◌, ◌≤◌, List, [], ◌∷◌, length, drop, sum_by}
use Rattle.std.proofs.Common.{refl, sym, subst, arith}
use Rattle.std.proofs.lemmas.List.Sums.{sum_by-cons}
use Rattle.flow_data.specs.declared.data.FlowsData.{FlowsData}
use Rattle.flow_data.specs.declared.data.RowInfo.{RowInfo}
use Rattle.flow_data.specs.Flows.{atom_height, flow_in, flow_of, no_row, row_of}
use Rattle.flow_data.specs.Soundness.{IsSound}
use Rattle.flow_list.specs.Column.{Inner, height_of}
use Rattle.flow_list.specs.Data.{Item, Atom, Row}
use Rattle.flow_list.specs.Rows.{all_rows, heights_from, reach}
use Rattle.flow_list.specs.Tokens.{Token, item_number, row_start, within}
use Rattle.column_laws.specs.AnyFlow.{FlowIsSound}

atoms-within : (inner : Inner) (q : Token) (items : List Item) → sum_by atom_height items ≤ heights_from inner q items
atoms-within inner q [] = omega arith
atoms-within inner q (Atom height kind ∷ items) =
    let sum = sum_by-cons atom_height (Atom height kind) items in
    let own : height_of inner (Atom height kind) q ≡ height = refl in
    let rest = atoms-within inner row_start items in
    omega arith
atoms-within inner q (Row r ∷ items) =
    let sum = sum_by-cons atom_height (Row r) items in
    let rest = atoms-within inner row_start items in
    omega arith

pub atoms-small : (d : FlowsData) → IsSound d → ((f : ℕ) → f < length d.flows → FlowIsSound d f) → (r : ℕ) → r < length d.rows →
    (info : RowInfo) → info ≡ row_of d r → (q : Token) →
    sum_by atom_height (drop (item_number q) (flow_of d info.flow).items) < 2 ^ 60
atoms-small d sound law r lt info is q =
    let flow : (row_of d r).flow < length d.flows = (sound.rows r no_row lt).flow in
    let small : reach (all_rows d) d (flow_in d r) q < 2 ^ 60 = (law (row_of d r).flow flow).small.reach_is_small q in
    let part = atoms-within (all_rows d) (within q) (drop (item_number q) (flow_in d r).items) in
    let P : RowInfo → Type 0 = λ i. sum_by atom_height (drop (item_number q) (flow_of d i.flow).items) < 2 ^ 60 in
    subst P (sym is) (omega arith)
