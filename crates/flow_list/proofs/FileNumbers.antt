-- Each number of a row of a flow file stands once: in an item, and in the list of rows.
use Rattle.std.proofs.Common.{◌≡◌, ℕ, suc, ◌+◌, List, ◌++◌, map, ap, ◌∙◌, subst, arith}
use Rattle.std.specs.Prelude.{flat_map}
use Rattle.std.proofs.lemmas.List.{map-append}
use Rattle.std.proofs.lemmas.List.Concat.{flat_map-append}
use Rattle.flow_text.specs.Grammar.{Rest, no_more, edge, place, atom, row}
use Rattle.flow_list.specs.Data.{RowInfo}
use Rattle.flow_data.specs.Flows.{row_in, rows_in}
use Rattle.flow_list.specs.FileFlows.{row_count, items_from, rows_from, flows_from}
use Rattle.flow_data.specs.Soundness.{count_of}
use Rattle.flow_data.proofs.Counts.{count-append, times_in, times-cons, in_parts, adding}

-- the rows that stand directly in a row whose items are these
abbrev pub own_rows : ℕ → Rest → List ℕ
own_rows k rest = flat_map row_in (items_from k rest)

pub count-rows_in : (j : ℕ) (rest : Rest) (k : ℕ)
    → count_of j (own_rows k rest) + count_of j (flat_map rows_in (flows_from k rest)) ≡ times_in j k (row_count rest)
count-rows_in j no_more k = omega arith
count-rows_in j (edge l rest) k = count-rows_in j rest k
count-rows_in j (place at level rest) k = count-rows_in j rest k
count-rows_in j (atom at height rest) k = count-rows_in j rest k
count-rows_in j (row at n w step x content ended rest) k =
    let next = suc k + row_count content in
    let inside = count-rows_in j content (suc k) in
    let behind = count-rows_in j rest next in
    let first = times-cons j k (own_rows next rest) in
    let f1 = flat_map rows_in (flows_from (suc k) content) in
    let f2 = flat_map rows_in (flows_from next rest) in
    let split : count_of j (flat_map rows_in (flows_from (suc k) content ++ flows_from next rest))
    ≡ count_of j f1 + count_of j f2 =
    ap (count_of j) (flat_map-append rows_in (flows_from (suc k) content) (flows_from next rest)) ∙ count-append j f1 f2 in
    let all = count-append j (own_rows (suc k) content) (flat_map rows_in (flows_from (suc k) content ++ flows_from next rest)) in
    let parts = in_parts j k (row_count content) (row_count rest) in
    omega arith

abbrev pub flow_numbers : List RowInfo → List ℕ
flow_numbers rows = map (λ (r : RowInfo). r.flow) rows

pub count-flow_numbers : (j : ℕ) (rest : Rest) (k : ℕ)
    → count_of j (flow_numbers (rows_from k rest)) ≡ times_in j (suc k) (row_count rest)
count-flow_numbers j no_more k = omega arith
count-flow_numbers j (edge l rest) k = count-flow_numbers j rest k
count-flow_numbers j (place at level rest) k = count-flow_numbers j rest k
count-flow_numbers j (atom at height rest) k = count-flow_numbers j rest k
count-flow_numbers j (row at n w step x content ended rest) k =
    let next = suc k + row_count content in
    let inside = count-flow_numbers j content (suc k) in
    let place : suc next ≡ suc (suc k) + row_count content = omega arith in
    let behind = subst (λ (m : ℕ). count_of j (flow_numbers (rows_from next rest)) ≡ times_in j m (row_count rest)) place
    (count-flow_numbers j rest next) in
    let r1 = rows_from (suc k) content in
    let r2 = rows_from next rest in
    let first = times-cons j (suc k) (flow_numbers (r1 ++ r2)) in
    let split : count_of j (flow_numbers (r1 ++ r2)) ≡ count_of j (flow_numbers r1) + count_of j (flow_numbers r2) =
    ap (count_of j) (map-append (λ (r : RowInfo). r.flow) r1 r2) ∙ count-append j (flow_numbers r1) (flow_numbers r2) in
    adding _ _ _ _ _ _ _ _ first split inside behind (in_parts j (suc k) (row_count content) (row_count rest))
