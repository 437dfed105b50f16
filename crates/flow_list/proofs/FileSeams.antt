-- The seams of a flow file's rows are sound: starts stand in heads and ends in tails, with their cloned edges.
use Rattle.std.proofs.Common.{◌≡◌, ℕ, ◌<◌, List, [], ◌∷◌, ◌++◌, length, eqb, cond, Bool, true, false, Option, Some, None}
use Rattle.std.proofs.Common.{refl, sym, ap, subst, arith}
use Rattle.std.specs.Prelude.{slice_get}
use Rattle.std.specs.List.{AllByRecursion}
use Rattle.std.proofs.lemmas.Bool.{eqb-true}
use Rattle.std.proofs.lemmas.List.{length_push}
use Rattle.flow_text.specs.declared.line.Line.{Line}
use Rattle.flow_text.specs.declared.line.Form.{Form}
use Rattle.flow_text.specs.declared.line.Form.TheVariants as forms
use Rattle.flow_text.specs.Grammar.{Rest, no_more, edge, place, atom, row, line, lines_of, boxes_behind, IsRest, BeginsSolid}
use Rattle.flow_text.specs.Grammar.{solid_of}
use Rattle.flow_list.specs.Data.{BoxInfo, FlowsData}
use Rattle.flow_data.specs.Flows.{box_of, ended}
use Rattle.flow_list.specs.FileFlows.{line_edges, edges_before, edges_behind, seam_behind, seams_behind, first_seam}
use Rattle.flow_data.specs.Soundness.{IsSoundSeam}
use Rattle.flow_data.proofs.SeamEdges.{IsHead, IsTail, empty_head, empty_tail, seam_from, some_amount, some_solid}
use Rattle.flow_data.proofs.FlowBoxes.{Below, below_more}
use Rattle.flow_list.proofs.FileKnown.{boxes_after, Known, past_line, past_row, box_of_start, bottom_so_far}

-- ---- the seams from a place in a tail or in a head on

abbrev Sides : FlowsData → Bool → Option ℕ → Rest → Type 0
Sides d true before rest = IsTail d before (edges_before rest) × IsHead d (edges_behind rest)
    × AllByRecursion (IsSoundSeam d) (seams_behind rest)
Sides d false before rest = IsHead d (edges_before rest) × AllByRecursion (IsSoundSeam d) (seams_behind rest)

pub same_boxes : (a b : List ℕ) → Some a ≡ Some b → a ≡ b
same_boxes a b e = cc

pub ended_open : (number : ℕ) (opened next : List ℕ) (k : ℕ) → boxes_behind (forms.End number) true opened ≡ Some next
    → Below k opened → (number < k) × Below k next
ended_open number [] next k e h = absurd cc
ended_open number (b ∷ opened) next k e h = go (eqb b number) refl e
  where
    go : (v : Bool) → eqb b number ≡ v → cond v (Some opened) None ≡ Some next → (number < k) × Below k next
    go true is same = (
      subst (λ (n : ℕ). n < k) (eqb-true b number is) h.0,
      subst (λ (boxes : List ℕ). Below k boxes) (same_boxes opened next same) h.1,
    )
    go false is same = absurd cc

-- the boxes that are open after an edge have started before
pub open_behind : (d : FlowsData) (boxes : List BoxInfo) (before : Option ℕ) (a : ℕ) (f : Form) (lines : List Line)
    (in_tail : Bool) (opened next : List ℕ) → Known d boxes before (line a f ∷ lines)
    → boxes_behind f in_tail opened ≡ Some next →
    Below (length boxes) opened → Below (length (boxes_after boxes f)) next
open_behind d boxes before a (forms.Margin u) lines in_tail opened next known e h =
    subst (λ (numbers : List ℕ). Below (length boxes) numbers) (same_boxes opened next e) h
open_behind d boxes before a (forms.Solid u) lines in_tail opened next known e h =
    subst (λ (numbers : List ℕ). Below (length boxes) numbers) (same_boxes opened next e) h
open_behind d boxes before a forms.Wall lines in_tail opened next known e h =
    subst (λ (numbers : List ℕ). Below (length boxes) numbers) (same_boxes opened next e) h
open_behind d boxes before a (forms.Start number x w avoid top bottom) lines true opened next known e h = absurd cc
open_behind d boxes before a (forms.Start number x w avoid top bottom) lines false opened next known e h =
    let box : BoxInfo = record { x = x; w = w; avoid = avoid; top = top; bottom = bottom } in
    let more = length_push boxes box in
    let n = known.numbered.0 in
    subst (λ (numbers : List ℕ). Below (length (boxes ++ box ∷ [])) numbers) (same_boxes (number ∷ opened) next e)
    (omega arith, below_more (length boxes) (length (boxes ++ box ∷ [])) opened (omega arith) h)
open_behind d boxes before a (forms.End number) lines true opened next known e h =
    (ended_open number opened next (length boxes) e h).1
open_behind d boxes before a (forms.End number) lines false opened next known e h = absurd cc
open_behind d boxes before a _ lines in_tail opened next known e h = absurd cc

-- what begins the lines of a head begins its edges
begins_solid : (rest : Rest) (boxes : List ℕ) (after : List Line) (u : ℕ) → IsRest false boxes rest
    → BeginsSolid u (lines_of rest after) → slice_get (edges_before rest) 0 ≡ some_solid u
begins_solid no_more boxes after u h b = absurd (let e = h.0 in cc)
begins_solid (edge l rest) boxes after u h b = ap (λ (f : Form). slice_get (line_edges f ++ edges_before rest) 0) b
begins_solid (place at level rest) boxes after u h b = absurd cc
begins_solid (atom at height rest) boxes after u h b = absurd cc
begins_solid (row at n w step x content ended rest) boxes after u h b = absurd cc

edge_sides : (d : FlowsData) (boxes : List BoxInfo) (before : Option ℕ) (a : ℕ) (f : Form) (rest : Rest) (after : List Line)
    (in_tail : Bool) (opened next : List ℕ) → Known d boxes before (line a f ∷ lines_of rest after)
    → boxes_behind f in_tail opened ≡ Some next →
    Below (length boxes) opened → IsRest in_tail next rest → Sides d in_tail (solid_of f) rest
    → Sides d in_tail before (edge (line a f) rest)
edge_sides d boxes before a (forms.Margin u) rest after true opened next known e h is s =
    (record { no_start = s.0.no_start; cloned = (tt, s.0.cloned) }, s.1, s.2)
edge_sides d boxes before a (forms.Margin u) rest after false opened next known e h is s =
    (record { no_end = s.0.no_end; cloned = (tt, s.0.cloned) }, s.1)
edge_sides d boxes before a (forms.Solid u) rest after true opened next known e h is s =
    (record { no_start = s.0.no_start; cloned = (tt, s.0.cloned) }, s.1, s.2)
edge_sides d boxes before a (forms.Solid u) rest after false opened next known e h is s =
    (record { no_end = s.0.no_end; cloned = (tt, s.0.cloned) }, s.1)
edge_sides d boxes before a forms.Wall rest after true opened next known e h is s =
    (record { no_start = s.0.no_start; cloned = (tt, s.0.cloned) }, s.1, s.2)
edge_sides d boxes before a forms.Wall rest after false opened next known e h is s =
    (record { no_end = s.0.no_end; cloned = (tt, s.0.cloned) }, s.1)
edge_sides d boxes before a (forms.Start number x w avoid top bottom) rest after true opened next known e h is s = absurd cc
edge_sides d boxes before a (forms.Start number x w avoid top bottom) rest after false opened next known e h is s =
    let same : top ≡ (box_of d number).top =
    sym (ap (λ (b : BoxInfo). b.top) (box_of_start d boxes before a number x w avoid top bottom (lines_of rest after) known))
    in
    let follows : (0 < top → slice_get (edges_before rest) 0 ≡ some_solid top) =
    λ some. begins_solid rest next after top is (known.starts.0 some) in (
      record {
        no_end = s.0.no_end;
        cloned = (subst (λ (u : ℕ). 0 < u → slice_get (edges_before rest) 0 ≡ some_solid u) same follows, s.0.cloned);
      },
      s.1,
    )
edge_sides d boxes before a (forms.End number) rest after true opened next known e h is s =
    let lt = (ended_open number opened next (length boxes) e h).0 in
    let precedes = subst (λ (u : ℕ). 0 < u → before ≡ some_amount u)
    (bottom_so_far d boxes before (line a (forms.End number) ∷ lines_of rest after) known number lt) known.ends.0 in
    (record { no_start = s.0.no_start; cloned = (precedes, s.0.cloned) }, s.1, s.2)
edge_sides d boxes before a (forms.End number) rest after false opened next known e h is s = absurd cc
edge_sides d boxes before a _ rest after in_tail opened next known e h is s = absurd cc

sides : (d : FlowsData) (boxes : List BoxInfo) (before : Option ℕ) (rest : Rest) (after : List Line) (in_tail : Bool)
    (opened : List ℕ) → Known d boxes before (lines_of rest after) → Below (length boxes) opened → IsRest in_tail opened rest
    → Sides d in_tail before rest
sides d boxes before no_more after true opened known h is = (empty_tail d before, empty_head d, tt)
sides d boxes before no_more after false opened known h is = absurd (let e = is.0 in cc)
sides d boxes before (edge l rest) after in_tail opened known h is =
    edge_sides d boxes before l.at l.form rest after in_tail opened is.0 known is.1 h is.2
    (sides d (boxes_after boxes l.form) (solid_of l.form) rest after in_tail is.0
    (past_line d boxes before l.at l.form (lines_of rest after) known)
    (open_behind d boxes before l.at l.form (lines_of rest after) in_tail opened is.0 known is.1 h) is.2)
sides d boxes before (place at level rest) after true opened known h is =
    let s = sides d boxes None rest after false opened
    (past_line d boxes before at (forms.Break level) (lines_of rest after) known) h is.1 in
    (empty_tail d before, s.0, s.1)
sides d boxes before (place at level rest) after false opened known h is = absurd (let e = is.0 in cc)
sides d boxes before (atom at height rest) after true opened known h is = absurd (let e = is.0 in cc)
sides d boxes before (atom at height rest) after false opened known h is =
    let s = sides d boxes None rest after true opened
    (past_line d boxes before at (forms.Atom height) (lines_of rest after) known) h is.1 in
    (empty_head d, (seam_from d (seam_behind rest) s.0 s.1, s.2))
sides d boxes before (row at n w step x content ended rest) after true opened known h is = absurd (let e = is.0 in cc)
sides d boxes before (row at n w step x content ended rest) after false opened known h is =
    let p = past_row d boxes before at n w step x content ended (lines_of rest after) known in
    let s = sides d p.0 None rest after true opened p.2 (below_more (length boxes) (length p.0) opened p.1 h) is.2 in
    (empty_head d, (seam_from d (seam_behind rest) s.0 s.1, s.2))

-- the seams of a row
pub row_seams : (d : FlowsData) (boxes : List BoxInfo) (before : Option ℕ) (content : Rest) (after : List Line)
    → Known d boxes before (lines_of content after) → IsRest false [] content →
    AllByRecursion (IsSoundSeam d) (first_seam content ∷ seams_behind content)
row_seams d boxes before content after known is =
    let s = sides d boxes before content after false [] known tt is in
    (seam_from d (first_seam content) (empty_tail d None) s.0, s.1)
