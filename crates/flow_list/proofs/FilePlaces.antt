-- Where the rows and flows of a flow file stand in its data: row k has flow k + 1, and each row stands before those within it.
use Rattle.std.proofs.Common.{◌≡◌, ℕ, suc, ◌+◌, ◌<◌, ◌≤◌, false, List, ◌∷◌, ◌++◌, length, drop, refl, sym, ◌∙◌, subst, arith, inl}
use Rattle.std.proofs.Common.{inr, ◌⊎◌}
use Rattle.std.specs.Prelude.{⊤}
use Rattle.std.proofs.lemmas.Bool.{cases_lt, cases_eq}
use Rattle.std.proofs.lemmas.List.{length-append, append_assoc}
use Rattle.flow_text.specs.declared.line.Line.{Line}
use Rattle.flow_text.specs.declared.line.Form.{Form}
use Rattle.flow_text.specs.declared.line.Form.TheVariants as forms
use Rattle.flow_text.specs.Grammar.{Rest, no_more, edge, place, atom, row, line, lines_of}
use Rattle.flow_list.specs.Data.{Flow, FlowsData, RowInfo}
use Rattle.flow_data.specs.Flows.{no_flow, no_row, flow_of, row_of}
use Rattle.flow_data.proofs.Dropped.{first_at, behind_first, behind_front}
use Rattle.flow_list.specs.FileFlows.{row_count, row_flow, rows_from, flows_from, line_boxes, boxes_from}

-- ---- how many there are

pub length-flows : (rest : Rest) (k : ℕ) → length (flows_from k rest) ≡ row_count rest
length-flows no_more k = refl
length-flows (edge l rest) k = length-flows rest k
length-flows (place at level rest) k = length-flows rest k
length-flows (atom at height rest) k = length-flows rest k
length-flows (row at n w step x content ended rest) k =
    let inside = length-flows content (suc k) in
    let behind = length-flows rest (suc k + row_count content) in
    let both = length-append (flows_from (suc k) content) (flows_from (suc k + row_count content) rest) in
    omega arith

pub length-rows : (rest : Rest) (k : ℕ) → length (rows_from k rest) ≡ row_count rest
length-rows no_more k = refl
length-rows (edge l rest) k = length-rows rest k
length-rows (place at level rest) k = length-rows rest k
length-rows (atom at height rest) k = length-rows rest k
length-rows (row at n w step x content ended rest) k =
    let inside = length-rows content (suc k) in
    let behind = length-rows rest (suc k + row_count content) in
    let both = length-append (rows_from (suc k) content) (rows_from (suc k + row_count content) rest) in
    omega arith

-- how many lines are left
abbrev pub line_total : Rest → ℕ
line_total no_more = 0
line_total (edge l rest) = suc (line_total rest)
line_total (place at level rest) = suc (line_total rest)
line_total (atom at height rest) = suc (line_total rest)
line_total (row at n w step x content ended rest) = suc (suc (line_total content + line_total rest))

pub length-lines : (rest : Rest) (after : List Line) → length (lines_of rest after) ≡ line_total rest + length after
length-lines no_more after = omega arith
length-lines (edge l rest) after = omega (arith, length-lines rest after)
length-lines (place at level rest) after = omega (arith, length-lines rest after)
length-lines (atom at height rest) after = omega (arith, length-lines rest after)
length-lines (row at n w step x content ended rest) after =
    let inside = length-lines content (line ended forms.Close ∷ lines_of rest after) in
    let behind = length-lines rest after in
    omega arith

pub row-lines : (rest : Rest) → row_count rest ≤ line_total rest
row-lines no_more = omega arith
row-lines (edge l rest) = omega (arith, row-lines rest)
row-lines (place at level rest) = omega (arith, row-lines rest)
row-lines (atom at height rest) = omega (arith, row-lines rest)
row-lines (row at n w step x content ended rest) = omega (arith, row-lines content, row-lines rest)

one_box : (form : Form) → length (line_boxes form) ≤ 1
one_box forms.Flow = omega arith
one_box (forms.First n w step available auto) = omega arith
one_box (forms.Margin u) = omega arith
one_box (forms.Solid u) = omega arith
one_box forms.Wall = omega arith
one_box (forms.Start number x w avoid top bottom) = omega arith
one_box (forms.End number) = omega arith
one_box (forms.Atom u) = omega arith
one_box (forms.Row n w step x) = omega arith
one_box (forms.Break level) = omega arith
one_box forms.Close = omega arith

pub box-lines : (rest : Rest) → length (boxes_from rest) ≤ line_total rest
box-lines no_more = omega arith
box-lines (edge l rest) = omega (arith, box-lines rest, one_box l.form, length-append (line_boxes l.form) (boxes_from rest))
box-lines (place at level rest) = omega (arith, box-lines rest)
box-lines (atom at height rest) = omega (arith, box-lines rest)
box-lines (row at n w step x content ended rest) =
    omega (arith, box-lines content, box-lines rest, length-append (boxes_from content) (boxes_from rest))

-- ---- where they stand

-- the rows that are left, of which the next has number k, and their flows stand in the data under their numbers
abbrev pub ArePlaced : FlowsData → ℕ → Rest → Type 0
ArePlaced d k no_more = ⊤
ArePlaced d k (edge l rest) = ArePlaced d k rest
ArePlaced d k (place at level rest) = ArePlaced d k rest
ArePlaced d k (atom at height rest) = ArePlaced d k rest
ArePlaced d k (row at n w step x content ended rest) =
    (row_of d k ≡ record { flow = suc k; n = n; w = w; step = step; x = x; auto = false })
    × (flow_of d (suc k) ≡ row_flow (suc k) content)
    × ArePlaced d (suc k) content
    × ArePlaced d (suc k + row_count content) rest

pub are_placed : (d : FlowsData) (rest : Rest) (k : ℕ) (fs : List Flow) (rs : List RowInfo)
    → drop (suc k) d.flows ≡ flows_from k rest ++ fs → drop k d.rows ≡ rows_from k rest ++ rs → ArePlaced d k rest
are_placed d no_more k fs rs flows rows = tt
are_placed d (edge l rest) k fs rs flows rows = are_placed d rest k fs rs flows rows
are_placed d (place at level rest) k fs rs flows rows = are_placed d rest k fs rs flows rows
are_placed d (atom at height rest) k fs rs flows rows = are_placed d rest k fs rs flows rows
are_placed d (row at n w step x content ended rest) k fs rs flows rows =
    let next = suc k + row_count content in
    let here : RowInfo = record { flow = suc k; n = n; w = w; step = step; x = x; auto = false } in
    let f1 = flows_from (suc k) content in
    let f2 = flows_from next rest in
    let r1 = rows_from (suc k) content in
    let r2 = rows_from next rest in
    let inner_flows : drop (suc (suc k)) d.flows ≡ f1 ++ (f2 ++ fs) =
    behind_first d.flows ((f1 ++ f2) ++ fs) (suc k) (row_flow (suc k) content) flows ∙ append_assoc f1 f2 fs in
    let inner_rows : drop (suc k) d.rows ≡ r1 ++ (r2 ++ rs) = behind_first d.rows ((r1 ++ r2) ++ rs) k here rows
    ∙ append_assoc r1 r2 rs in
    let flow_at : suc (suc k) + row_count content ≡ suc next = omega arith in
    let next_flows = subst (λ (i : ℕ). drop i d.flows ≡ f2 ++ fs) flow_at
    (behind_front d.flows f1 (f2 ++ fs) (suc (suc k)) (row_count content) (length-flows content (suc k)) inner_flows) in
    let next_rows = behind_front d.rows r1 (r2 ++ rs) (suc k) (row_count content) (length-rows content (suc k)) inner_rows in (
      first_at d.rows ((r1 ++ r2) ++ rs) k here no_row rows,
      first_at d.flows ((f1 ++ f2) ++ fs) (suc k) (row_flow (suc k) content) no_flow flows,
      are_placed d content (suc k) (f2 ++ fs) (r2 ++ rs) inner_flows inner_rows,
      are_placed d rest next fs rs next_flows next_rows,
    )

-- ---- what holds of each row

abbrev pub ForRows : (ℕ → Type 0) → ℕ → Rest → Type 0
ForRows P k no_more = ⊤
ForRows P k (edge l rest) = ForRows P k rest
ForRows P k (place at level rest) = ForRows P k rest
ForRows P k (atom at height rest) = ForRows P k rest
ForRows P k (row at n w step x content ended rest) = P k × ForRows P (suc k) content × ForRows P (suc k + row_count content) rest

pub for_each : (P : ℕ → Type 0) (rest : Rest) (k j : ℕ) → ForRows P k rest → k ≤ j → j < k + row_count rest → P j
for_each P no_more k j h low high = absurd (omega arith)
for_each P (edge l rest) k j h low high = for_each P rest k j h low high
for_each P (place at level rest) k j h low high = for_each P rest k j h low high
for_each P (atom at height rest) k j h low high = for_each P rest k j h low high
for_each P (row at n w step x content ended rest) k j h low high =
    by_place (cases_eq j k) (cases_lt j (suc k + row_count content)) (λ lo hi. for_each P content (suc k) j h.1 lo hi)
    (λ lo hi. for_each P rest (suc k + row_count content) j h.2 lo hi)
  where
    by_place : ((j ≡ k) ⊎ (j ≡ k → ⊥)) → ((j < suc k + row_count content) ⊎ (suc k + row_count content ≤ j))
        → (suc k ≤ j → j < suc k + row_count content → P j)
        → (suc k + row_count content ≤ j → j < suc k + row_count content + row_count rest → P j) → P j
    by_place (inl e) c inside behind = subst P (sym e) h.0
    by_place (inr ne) (inl lt) inside behind = inside (omega arith) lt
    by_place (inr ne) (inr le) inside behind = behind le (omega arith)
