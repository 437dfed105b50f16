-- How the rows of a flow file stand one inside another.
use Rattle.std.proofs.Common.{◌≡◌, ℕ, zero, suc, ◌+◌, ◌<◌, ◌≤◌, Bool, true, false, List, [], length, refl, sym, ap, ◌∙◌, subst}
use Rattle.std.proofs.Common.{arith, All}
use Rattle.std.specs.Prelude.{⊤}
use Rattle.std.proofs.lemmas.List.Elements.{All-nil, All-cons}
use Rattle.flow_text.specs.Grammar.{Rest, no_more, edge, place, atom, row, IsRest}
use Rattle.flow_text.specs.TreeLimits.{depth, own_items, most_inner}
use Rattle.flow_list.specs.Data.{Flow, FlowsData, RowInfo}
use Rattle.flow_data.specs.Flows.{flow_of, row_of, flow_in, rows_in}
use Rattle.flow_list.specs.FileFlows.{row_count, items_from, row_flow}
use Rattle.flow_data.specs.Soundness.{IsInnerRow, NestsAtMost}
use Rattle.flow_list.proofs.FilePlaces.{ArePlaced, ForRows}
use Rattle.flow_list.proofs.FileNumbers.{own_rows}

pub length-items : (rest : Rest) (k : ℕ) → length (items_from k rest) ≡ own_items rest
length-items no_more k = refl
length-items (edge l rest) k = length-items rest k
length-items (place at level rest) k = length-items rest k
length-items (atom at height rest) k = ap suc (length-items rest k)
length-items (row at n w step x content ended rest) k = ap suc (length-items rest (suc k + row_count content))

-- the flow of the next row
pub flow-in : (d : FlowsData) (k : ℕ) (info : RowInfo) (content : Rest) → row_of d k ≡ info → info.flow ≡ suc k
    → flow_of d (suc k) ≡ row_flow (suc k) content → flow_in d k ≡ row_flow (suc k) content
flow-in d k info content at number flow = ap (λ (r : RowInfo). flow_of d r.flow) at ∙ ap (flow_of d) number ∙ flow

-- ---- depth

pub nests : (d : FlowsData) (n : ℕ) (rest : Rest) (k : ℕ) → ArePlaced d k rest → depth rest ≤ n
    → All (NestsAtMost d n) (own_rows k rest)
nests d n no_more k h le = All-nil _
nests d n (edge l rest) k h le = nests d n rest k h le
nests d n (place at level rest) k h le = nests d n rest k h le
nests d n (atom at height rest) k h le = nests d n rest k h le
nests d zero (row at c w step x content ended rest) k h le = absurd (omega arith)
nests d (suc n) (row at c w step x content ended rest) k h le =
    let flow = flow-in d k (record { flow = suc k; n = c; w = w; step = step; x = x; auto = false }) content h.0 refl h.1 in
    let inside = nests d n content (suc k) h.2 (omega arith) in
    let here : NestsAtMost d (suc n) k = subst (λ (f : Flow). All (NestsAtMost d n) (rows_in f)) (sym flow) inside in
    All-cons (NestsAtMost d (suc n)) k (own_rows (suc k + row_count content) rest) here
    (nests d (suc n) rest (suc k + row_count content) h.3 (omega arith))

pub all_nest : (d : FlowsData) (n : ℕ) (rest : Rest) (k : ℕ) → ArePlaced d k rest → depth rest ≤ suc n
    → ForRows (NestsAtMost d (suc n)) k rest
all_nest d n no_more k h le = tt
all_nest d n (edge l rest) k h le = all_nest d n rest k h le
all_nest d n (place at level rest) k h le = all_nest d n rest k h le
all_nest d n (atom at height rest) k h le = all_nest d n rest k h le
all_nest d n (row at c w step x content ended rest) k h le =
    let flow = flow-in d k (record { flow = suc k; n = c; w = w; step = step; x = x; auto = false }) content h.0 refl h.1 in
    let inside = nests d n content (suc k) h.2 (omega arith) in (
      subst (λ (f : Flow). All (NestsAtMost d n) (rows_in f)) (sym flow) inside,
      all_nest d n content (suc k) h.2 (omega arith),
      all_nest d n rest (suc k + row_count content) h.3 (omega arith),
    )

-- ---- inner rows

-- each row within another one has an item
abbrev pub HaveItems : Rest → Type 0
HaveItems no_more = ⊤
HaveItems (edge l rest) = HaveItems rest
HaveItems (place at level rest) = HaveItems rest
HaveItems (atom at height rest) = HaveItems rest
HaveItems (row at n w step x content ended rest) = (0 < own_items content) × HaveItems content × HaveItems rest

some_item : (rest : Rest) (boxes : List ℕ) → IsRest false boxes rest → 0 < own_items rest
some_item no_more boxes h = absurd cc
some_item (edge l rest) boxes h = some_item rest h.0 h.2
some_item (place at level rest) boxes h = absurd cc
some_item (atom at height rest) boxes h = omega arith
some_item (row at n w step x content ended rest) boxes h = omega arith

pub have_items : (rest : Rest) (in_tail : Bool) (boxes : List ℕ) → IsRest in_tail boxes rest → HaveItems rest
have_items no_more t boxes h = tt
have_items (edge l rest) t boxes h = have_items rest t h.0 h.2
have_items (place at level rest) t boxes h = have_items rest false boxes h.1
have_items (atom at height rest) t boxes h = have_items rest true boxes h.1
have_items (row at n w step x content ended rest) t boxes h =
    (some_item content [] h.1, have_items content false [] h.1, have_items rest true boxes h.2)

pub inner : (d : FlowsData) (outer : ℕ) (rest : Rest) (k : ℕ) → outer < k → ArePlaced d k rest → HaveItems rest
    → most_inner rest ≤ 2000 → All (IsInnerRow d outer) (own_rows k rest)
inner d outer no_more k later h items le = All-nil _
inner d outer (edge l rest) k later h items le = inner d outer rest k later h items le
inner d outer (place at level rest) k later h items le = inner d outer rest k later h items le
inner d outer (atom at height rest) k later h items le = inner d outer rest k later h items le
inner d outer (row at c w step x content ended rest) k later h items le =
    let next = suc k + row_count content in
    let flow = flow-in d k (record { flow = suc k; n = c; w = w; step = step; x = x; auto = false }) content h.0 refl h.1 in
    let len : length (flow_in d k).items ≡ own_items content = ap (λ (f : Flow). length f.items) flow
    ∙ length-items content (suc k) in
    let some = items.0 in
    let few : own_items content ≤ 2000 = omega arith in
    let here : IsInnerRow d outer k = record {
      later = later;
      some_item = subst (λ (n : ℕ). 0 < n) (sym len) some;
      item_limit = subst (λ (n : ℕ). n ≤ 2000) (sym len) few;
      balanced = ap (λ (r : RowInfo). r.auto) h.0;
    } in
    All-cons (IsInnerRow d outer) k (own_rows next rest) here (inner d outer rest next (omega arith) h.3 items.2 (omega arith))

pub all_inner : (d : FlowsData) (rest : Rest) (k : ℕ) → ArePlaced d k rest → HaveItems rest → most_inner rest ≤ 2000
    → ForRows (λ outer. All (IsInnerRow d outer) (rows_in (flow_in d outer))) k rest
all_inner d no_more k h items le = tt
all_inner d (edge l rest) k h items le = all_inner d rest k h items le
all_inner d (place at level rest) k h items le = all_inner d rest k h items le
all_inner d (atom at height rest) k h items le = all_inner d rest k h items le
all_inner d (row at c w step x content ended rest) k h items le =
    let flow = flow-in d k (record { flow = suc k; n = c; w = w; step = step; x = x; auto = false }) content h.0 refl h.1 in
    let inside = inner d k content (suc k) (omega arith) h.2 items.1 (omega arith) in (
      subst (λ (f : Flow). All (IsInnerRow d k) (rows_in f)) (sym flow) inside,
      all_inner d content (suc k) h.2 items.1 (omega arith),
      all_inner d rest (suc k + row_count content) h.3 items.2 (omega arith),
    )
