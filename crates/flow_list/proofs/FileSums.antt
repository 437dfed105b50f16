-- How many items a flow file has, and how high its flows may be together.
use Rattle.std.proofs.Common.{◌≡◌, ℕ, suc, ◌+◌, ◌*◌, ◌^◌, ◌<◌, ◌≤◌, false, List, [], ◌∷◌, ◌++◌, length, refl, sym, ap, ◌∙◌, subst}
use Rattle.std.proofs.Common.{arith, inl, inr, ◌⊎◌, sum_by, All}
use Rattle.std.specs.Prelude.{flat_map}
use Rattle.std.proofs.lemmas.Bool.{cases_lt}
use Rattle.std.proofs.lemmas.List.{get_or_past}
use Rattle.std.proofs.lemmas.List.Elements.{All-nil, All-cons, All-append, All-get_or}
use Rattle.std.proofs.lemmas.List.Sums.{sum_by-cons, sum_by-append}
use Rattle.flow_text.specs.declared.line.Form.{Form}
use Rattle.flow_text.specs.declared.line.Form.TheVariants as forms
use Rattle.flow_text.specs.Grammar.{Rest, no_more, edge, place, atom, row}
use Rattle.flow_text.specs.Limits.{numbers}
use Rattle.flow_text.specs.TreeLimits.{own_items, all_items}
use Rattle.flow_list.specs.Data.{BoxInfo, Edge, Flow, FlowsData, RowInfo, Seam, Plain, Atom, Row}
use Rattle.flow_data.specs.Flows.{no_box, flow_of, box_of, atom_height, amount, started, starts_in}
use Rattle.flow_list.specs.FileFlows.{line_edges, edges_before, edges_behind, seam_behind, seams_behind, first_seam, row_count}
use Rattle.flow_list.specs.FileFlows.{items_from, row_flow, rows_from, flows_from, line_boxes, boxes_from}
use Rattle.flow_data.specs.Soundness.{flow_height}
use Rattle.flow_list.proofs.FileLimits.{AreLow, IsLow}
use Rattle.flow_list.proofs.FilePlaces.{ArePlaced, line_total}
use Rattle.flow_list.proofs.FileNests.{length-items}

-- ---- items

abbrev pub items_of : FlowsData → RowInfo → ℕ
items_of d r = length (flow_of d r.flow).items

pub sum-items : (d : FlowsData) (rest : Rest) (k : ℕ) → ArePlaced d k rest
    → sum_by (items_of d) (rows_from k rest) + own_items rest ≡ all_items rest
sum-items d no_more k h = refl
sum-items d (edge l rest) k h = sum-items d rest k h
sum-items d (place at level rest) k h = sum-items d rest k h
sum-items d (atom at height rest) k h = omega (arith, sum-items d rest k h)
sum-items d (row at n w step x content ended rest) k h =
    let next = suc k + row_count content in
    let r1 = rows_from (suc k) content in
    let r2 = rows_from next rest in
    let here : RowInfo = record { flow = suc k; n = n; w = w; step = step; x = x; auto = false } in
    let len : items_of d here ≡ own_items content = ap (λ (f : Flow). length f.items) h.1 ∙ length-items content (suc k) in
    let inside = sum-items d content (suc k) h.2 in
    let behind = sum-items d rest next h.3 in
    let first = sum_by-cons (items_of d) here (r1 ++ r2) in
    let split = sum_by-append (items_of d) r1 r2 in
    omega arith

-- ---- boxes

abbrev pub IsLowBox : BoxInfo → Type 0
IsLowBox b = (b.x ≤ 2 ^ 24) × (b.w ≤ 2 ^ 24) × (b.top ≤ 2 ^ 24) × (b.bottom ≤ 2 ^ 24)

low_box : (form : Form) → AreLow (numbers form) → All IsLowBox (line_boxes form)
low_box (forms.Start number x w avoid top bottom) h =
    All-cons IsLowBox (record { x = x; w = w; avoid = avoid; top = top; bottom = bottom }) []
    (h.1.0, h.1.1.0, h.1.1.1.0, h.1.1.1.1.0) (All-nil _)
low_box _ h = All-nil _

pub low_boxes : (rest : Rest) → IsLow rest → All IsLowBox (boxes_from rest)
low_boxes no_more h = All-nil _
low_boxes (edge l rest) h = All-append IsLowBox (line_boxes l.form) (boxes_from rest) (low_box l.form h.0) (low_boxes rest h.1)
low_boxes (place at level rest) h = low_boxes rest h
low_boxes (atom at height rest) h = low_boxes rest h.1
low_boxes (row at n w step x content ended rest) h =
    All-append IsLowBox (boxes_from content) (boxes_from rest) (low_boxes content h.5) (low_boxes rest h.6)

-- a box out of range is empty
pub box_is_low : (d : FlowsData) → All IsLowBox d.boxes → (b : ℕ) → IsLowBox (box_of d b)
box_is_low d h b = go (cases_lt b (length d.boxes))
  where
    go : ((b < length d.boxes) ⊎ (length d.boxes ≤ b)) → IsLowBox (box_of d b)
    go (inl lt) = All-get_or IsLowBox d.boxes b no_box lt h
    go (inr le) = subst IsLowBox (sym (get_or_past d.boxes b no_box le)) (omega arith, omega arith, omega arith, omega arith)

-- ---- heights

-- the cloned edges of a box
abbrev cloned : FlowsData → ℕ → ℕ
cloned d b = (box_of d b).top + (box_of d b).bottom

-- those of the box that an edge starts
abbrev cloned_at : FlowsData → Edge → ℕ
cloned_at d e = sum_by (cloned d) (started e)

abbrev seam_sum : (Edge → ℕ) → Seam → ℕ
seam_sum g s = sum_by g s.tail + sum_by g s.head

-- over the edges of the items that are left
abbrev edge_sum : (Edge → ℕ) → Rest → ℕ
edge_sum g rest = sum_by g (edges_before rest) + sum_by g (edges_behind rest) + sum_by (seam_sum g) (seams_behind rest)

abbrev own_height : FlowsData → ℕ → Rest → ℕ
own_height d k rest = sum_by atom_height (items_from k rest) + edge_sum amount rest + edge_sum (cloned_at d) rest

cloned-started : (d : FlowsData) (edges : List Edge) → sum_by (cloned d) (flat_map started edges) ≡ sum_by (cloned_at d) edges
cloned-started d [] = refl
cloned-started d (e ∷ edges) =
    omega (
      arith,
      cloned-started d edges,
      sum_by-append (cloned d) (started e) (flat_map started edges),
      sum_by-cons (cloned_at d) e edges,
    )

cloned-starts : (d : FlowsData) (seams : List Seam) → sum_by (cloned d) (starts_in seams) ≤ sum_by (seam_sum (cloned_at d)) seams
cloned-starts d [] = omega arith
cloned-starts d (s ∷ seams) =
    let here = cloned-started d s.head in
    let rest = cloned-starts d seams in
    let split = sum_by-append (cloned d) (flat_map started s.head) (starts_in seams) in
    let first = sum_by-cons (seam_sum (cloned_at d)) s seams in
    omega arith

flow-height : (d : FlowsData) (k : ℕ) (content : Rest) → flow_height d (row_flow k content) ≤ own_height d k content
flow-height d k content =
    let seams = first_seam content ∷ seams_behind content in
    let edges = sum_by-cons (seam_sum amount) (first_seam content) (seams_behind content) in
    let boxes = cloned-starts d seams in
    let starts = sum_by-cons (seam_sum (cloned_at d)) (first_seam content) (seams_behind content) in
    omega arith

-- the line of an edge
edge_amount : (form : Form) → AreLow (numbers form) → sum_by amount (line_edges form) ≤ 2 ^ 24
edge_amount (forms.Margin u) h = omega (arith, h.0)
edge_amount (forms.Solid u) h = omega (arith, h.0)
edge_amount _ h = omega arith

edge_cloned : (d : FlowsData) (form : Form) → All IsLowBox d.boxes → sum_by (cloned_at d) (line_edges form) ≤ 2 ^ 25
edge_cloned d (forms.Start number x w avoid top bottom) low = let b = box_is_low d low number in omega (arith, b.2, b.3)
edge_cloned d _ low = omega arith

edge_sum-edge : (g : Edge → ℕ) (edges : List Edge) (rest : Rest)
    → sum_by g (edges ++ edges_before rest) + sum_by g (edges_behind rest) + sum_by (seam_sum g) (seams_behind rest)
    ≡ sum_by g edges + edge_sum g rest
edge_sum-edge g edges rest = omega (arith, sum_by-append g edges (edges_before rest))

edge_sum-item : (g : Edge → ℕ) (rest : Rest) → sum_by (seam_sum g) (seam_behind rest ∷ seams_behind rest) ≡ edge_sum g rest
edge_sum-item g rest = sum_by-cons (seam_sum g) (seam_behind rest) (seams_behind rest)

heights : (d : FlowsData) (rest : Rest) (k : ℕ) → IsLow rest → All IsLowBox d.boxes
    → own_height d k rest + sum_by (flow_height d) (flows_from k rest) ≤ 2 ^ 26 * line_total rest
heights d no_more k low boxes = omega arith
heights d (edge l rest) k low boxes =
    let behind = heights d rest k low.1 boxes in
    let a = edge_sum-edge amount (line_edges l.form) rest in
    let b = edge_sum-edge (cloned_at d) (line_edges l.form) rest in
    let height = edge_amount l.form low.0 in
    let clones = edge_cloned d l.form boxes in
    omega arith
heights d (place at level rest) k low boxes = let behind = heights d rest k low boxes in omega arith
heights d (atom at height rest) k low boxes =
    let behind = heights d rest k low.1 boxes in
    let first = sum_by-cons atom_height (Atom height Plain) (items_from k rest) in
    let a = edge_sum-item amount rest in
    let b = edge_sum-item (cloned_at d) rest in
    let here = low.0 in
    omega arith
heights d (row at n w step x content ended rest) k low boxes =
    let next = suc k + row_count content in
    let inside = heights d content (suc k) low.5 boxes in
    let behind = heights d rest next low.6 boxes in
    let item = sum_by-cons atom_height (Row k) (items_from next rest) in
    let a = edge_sum-item amount rest in
    let b = edge_sum-item (cloned_at d) rest in
    let here = flow-height d (suc k) content in
    let first = sum_by-cons (flow_height d) (row_flow (suc k) content) (flows_from (suc k) content ++ flows_from next rest) in
    let split = sum_by-append (flow_height d) (flows_from (suc k) content) (flows_from next rest) in
    omega arith

pub flow-heights : (d : FlowsData) (content : Rest) (k : ℕ) → IsLow content → All IsLowBox d.boxes
    → sum_by (flow_height d) (row_flow k content ∷ flows_from k content) ≤ 2 ^ 26 * line_total content
flow-heights d content k low boxes =
    let first = sum_by-cons (flow_height d) (row_flow k content) (flows_from k content) in
    let here = flow-height d k content in
    let all = heights d content k low boxes in
    omega arith
