-- The boxes of a flow file's rows are nested, in order and not empty.
use Rattle.std.proofs.Common.{◌≡◌, ℕ, suc, ◌+◌, ◌<◌, ◌≤◌, List, [], ◌∷◌, ◌++◌, length, eqb, cond, Bool, true, false, Option}
use Rattle.std.proofs.Common.{Some, None, refl, sym, ap, ◌∙◌, subst, arith, add-one, append_assoc, inl, inr}
use Rattle.std.specs.Prelude.{◌⊎◌}
use Rattle.std.specs.List.{flat_map}
use Rattle.std.proofs.lemmas.Bool.{eqb-true}
use Rattle.std.proofs.lemmas.List.{length_push}
use Rattle.flow_text.specs.declared.line.Line.{Line}
use Rattle.flow_text.specs.declared.line.Form.{Form}
use Rattle.flow_text.specs.declared.line.Form.TheVariants as forms
use Rattle.flow_text.specs.Grammar.{Rest, no_more, edge, place, atom, row, line, lines_of, boxes_behind, IsRest, solid_of}
use Rattle.flow_list.specs.Data.{BoxInfo, Edge, FlowsData, Seam}
use Rattle.flow_data.specs.Flows.{started, ended}
use Rattle.flow_list.specs.FileFlows.{line_edges, edges_before, edges_behind, seam_behind, seams_behind, first_seam, items_from}
use Rattle.flow_list.specs.FileFlows.{row_flow}
use Rattle.flow_data.specs.Soundness.{AreNested, edges_of}
use Rattle.flow_data.proofs.FlowBoxes.{AreOrdered, Ascends, Below, FlowBoxes, below_more, flow_boxes}
use Rattle.flow_list.proofs.FileKnown.{boxes_after, Known, past_line, past_row, started_so_far}
use Rattle.flow_list.proofs.FileSeams.{ended_open, open_behind, same_boxes}

-- ---- nesting

abbrev both : Seam → List Edge
both s = s.tail ++ s.head

-- the edges from a place in a tail or in a head on
abbrev edges_left : Bool → Rest → List Edge
edges_left true rest = edges_before rest ++ (edges_behind rest ++ flat_map both (seams_behind rest))
edges_left false rest = edges_before rest ++ flat_map both (seams_behind rest)

edge_nested : (f : Form) (in_tail : Bool) (opened next : List ℕ) (edges : List Edge) → boxes_behind f in_tail opened ≡ Some next
    → AreNested next edges → AreNested opened (line_edges f ++ edges)
edge_nested (forms.Margin u) in_tail opened next edges e h =
    subst (λ (numbers : List ℕ). AreNested numbers edges) (sym (same_boxes opened next e)) h
edge_nested (forms.Solid u) in_tail opened next edges e h =
    subst (λ (numbers : List ℕ). AreNested numbers edges) (sym (same_boxes opened next e)) h
edge_nested forms.Wall in_tail opened next edges e h =
    subst (λ (numbers : List ℕ). AreNested numbers edges) (sym (same_boxes opened next e)) h
edge_nested (forms.Start number x w avoid top bottom) true opened next edges e h = absurd cc
edge_nested (forms.Start number x w avoid top bottom) false opened next edges e h =
    subst (λ (numbers : List ℕ). AreNested numbers edges) (sym (same_boxes (number ∷ opened) next e)) h
edge_nested (forms.End number) true [] next edges e h = absurd cc
edge_nested (forms.End number) true (b ∷ opened) next edges e h = go (eqb b number) refl e
  where
    go : (v : Bool) → eqb b number ≡ v → cond v (Some opened) None ≡ Some next → (b ≡ number) × AreNested opened edges
    go true is same = (
      eqb-true b number is,
      subst (λ (numbers : List ℕ). AreNested numbers edges) (sym (same_boxes opened next same)) h,
    )
    go false is same = absurd cc
edge_nested (forms.End number) false opened next edges e h = absurd cc
edge_nested _ in_tail opened next edges e h = absurd cc

behind_edge : (f : Form) (l : ℕ) (rest : Rest) (in_tail : Bool)
    → line_edges f ++ edges_left in_tail rest ≡ edges_left in_tail (edge (line l f) rest)
behind_edge f l rest true = sym
    (append_assoc (line_edges f) (edges_before rest) (edges_behind rest ++ flat_map both (seams_behind rest)))
behind_edge f l rest false = sym (append_assoc (line_edges f) (edges_before rest) (flat_map both (seams_behind rest)))

nested_left : (rest : Rest) (in_tail : Bool) (opened : List ℕ) → IsRest in_tail opened rest
    → AreNested opened (edges_left in_tail rest)
nested_left no_more true opened is = tt
nested_left no_more false opened is = absurd (let e = is.0 in cc)
nested_left (edge l rest) in_tail opened is =
    subst (λ (edges : List Edge). AreNested opened edges) (behind_edge l.form l.at rest in_tail)
    (edge_nested l.form in_tail opened is.0 (edges_left in_tail rest) is.1 (nested_left rest in_tail is.0 is.2))
nested_left (place at level rest) true opened is = nested_left rest false opened is.1
nested_left (place at level rest) false opened is = absurd (let e = is.0 in cc)
nested_left (atom at height rest) true opened is = absurd (let e = is.0 in cc)
nested_left (atom at height rest) false opened is = rw append_assoc (nested_left rest true opened is.1)
nested_left (row at n w step x content ended rest) true opened is = absurd (let e = is.0 in cc)
nested_left (row at n w step x content ended rest) false opened is = rw append_assoc (nested_left rest true opened is.2)

pub row_nested : (k : ℕ) (content : Rest) → IsRest false [] content → AreNested [] (edges_of (row_flow k content))
row_nested k content is = nested_left content false [] is

-- ---- the order of the boxes

-- from a place in a tail or in a head on
record TailOrdered (low high : ℕ) (rest : Rest) : Type 0 where
  next : ℕ
  ends : Below low (flat_map ended (edges_before rest))
  starts : Ascends low next (flat_map started (edges_behind rest))
  item : (flat_map started (edges_behind rest) ≡ []) ⊎ (0 < length (seams_behind rest))
  later : AreOrdered next high (seams_behind rest)

record HeadOrdered (low high : ℕ) (rest : Rest) : Type 0 where
  next : ℕ
  starts : Ascends low next (flat_map started (edges_before rest))
  item : 0 < length (seams_behind rest)
  later : AreOrdered next high (seams_behind rest)

abbrev Ordered : Bool → ℕ → ℕ → Rest → Type 0
Ordered true low high rest = TailOrdered low high rest
Ordered false low high rest = HeadOrdered low high rest

edge_ordered : (d : FlowsData) (boxes : List BoxInfo) (before : Option ℕ) (a : ℕ) (f : Form) (rest : Rest) (after : List Line)
    (in_tail : Bool) (opened next : List ℕ) → Known d boxes before (line a f ∷ lines_of rest after)
    → boxes_behind f in_tail opened ≡ Some next →
    Below (length boxes) opened → (high : ℕ) → Ordered in_tail (length (boxes_after boxes f)) high rest
    → Ordered in_tail (length boxes) high (edge (line a f) rest)
edge_ordered d boxes before a (forms.Margin u) rest after true opened next known e h high o =
    record { next = o.next; ends = o.ends; starts = o.starts; item = o.item; later = o.later }
edge_ordered d boxes before a (forms.Margin u) rest after false opened next known e h high o =
    record { next = o.next; starts = o.starts; item = o.item; later = o.later }
edge_ordered d boxes before a (forms.Solid u) rest after true opened next known e h high o =
    record { next = o.next; ends = o.ends; starts = o.starts; item = o.item; later = o.later }
edge_ordered d boxes before a (forms.Solid u) rest after false opened next known e h high o =
    record { next = o.next; starts = o.starts; item = o.item; later = o.later }
edge_ordered d boxes before a forms.Wall rest after true opened next known e h high o =
    record { next = o.next; ends = o.ends; starts = o.starts; item = o.item; later = o.later }
edge_ordered d boxes before a forms.Wall rest after false opened next known e h high o =
    record { next = o.next; starts = o.starts; item = o.item; later = o.later }
edge_ordered d boxes before a (forms.Start number x w avoid top bottom) rest after true opened next known e h high o = absurd cc
edge_ordered d boxes before a (forms.Start number x w avoid top bottom) rest after false opened next known e h high o =
    let box : BoxInfo = record { x = x; w = w; avoid = avoid; top = top; bottom = bottom } in
    let n = known.numbered.0 in
    let more : length (boxes ++ box ∷ []) ≡ suc number = length_push boxes box ∙ add-one (length boxes)
    ∙ ap (λ (k : ℕ). suc k) (sym n) in
    record {
      next = o.next;
      starts = (omega arith, subst (λ (k : ℕ). Ascends k o.next (flat_map started (edges_before rest))) more o.starts);
      item = o.item;
      later = o.later;
    }
edge_ordered d boxes before a (forms.End number) rest after true opened next known e h high o =
    record {
      next = o.next;
      ends = ((ended_open number opened next (length boxes) e h).0, o.ends);
      starts = o.starts;
      item = o.item;
      later = o.later;
    }
edge_ordered d boxes before a (forms.End number) rest after false opened next known e h high o = absurd cc
edge_ordered d boxes before a _ rest after in_tail opened next known e h high o = absurd cc

-- the head before an item, where so many boxes have started, and then the item's seam
item_ordered : (low mid high : ℕ) (rest : Rest) → low ≤ mid → TailOrdered mid high rest
    → (next : ℕ) × Ascends low next [] × AreOrdered next high (seam_behind rest ∷ seams_behind rest)
item_ordered low mid high rest le o =
    (low, omega arith, (mid, o.next, record { from = le; ends = o.ends; starts = o.starts; item = o.item }, o.later))

ordered : (d : FlowsData) (boxes : List BoxInfo) (before : Option ℕ) (rest : Rest) (after : List Line) (in_tail : Bool)
    (opened : List ℕ) → Known d boxes before (lines_of rest after) → Below (length boxes) opened → IsRest in_tail opened rest →
    Ordered in_tail (length boxes) (length d.boxes) rest
ordered d boxes before no_more after true opened known h is =
    let few = started_so_far d boxes before after known in
    record { next = length boxes; ends = tt; starts = omega arith; item = inl refl; later = few }
ordered d boxes before no_more after false opened known h is = absurd (let e = is.0 in cc)
ordered d boxes before (edge l rest) after in_tail opened known h is =
    edge_ordered d boxes before l.at l.form rest after in_tail opened is.0 known is.1 h (length d.boxes)
    (ordered d (boxes_after boxes l.form) (solid_of l.form) rest after in_tail is.0
    (past_line d boxes before l.at l.form (lines_of rest after) known)
    (open_behind d boxes before l.at l.form (lines_of rest after) in_tail opened is.0 known is.1 h) is.2)
ordered d boxes before (place at level rest) after true opened known h is =
    let o = ordered d boxes None rest after false opened
    (past_line d boxes before at (forms.Break level) (lines_of rest after) known) h is.1 in
    record { next = o.next; ends = tt; starts = o.starts; item = inr o.item; later = o.later }
ordered d boxes before (place at level rest) after false opened known h is = absurd (let e = is.0 in cc)
ordered d boxes before (atom at height rest) after true opened known h is = absurd (let e = is.0 in cc)
ordered d boxes before (atom at height rest) after false opened known h is =
    let o = ordered d boxes None rest after true opened
    (past_line d boxes before at (forms.Atom height) (lines_of rest after) known) h is.1 in
    let i = item_ordered (length boxes) (length boxes) (length d.boxes) rest (omega arith) o in
    record { next = i.0; starts = i.1; item = omega arith; later = i.2 }
ordered d boxes before (row at n w step x content ended rest) after true opened known h is = absurd (let e = is.0 in cc)
ordered d boxes before (row at n w step x content ended rest) after false opened known h is =
    let p = past_row d boxes before at n w step x content ended (lines_of rest after) known in
    let o = ordered d p.0 None rest after true opened p.2 (below_more (length boxes) (length p.0) opened p.1 h) is.2 in
    let i = item_ordered (length boxes) (length p.0) (length d.boxes) rest p.1 o in
    record { next = i.0; starts = i.1; item = omega arith; later = i.2 }

row_ordered : (d : FlowsData) (boxes : List BoxInfo) (before : Option ℕ) (content : Rest) (after : List Line)
    → Known d boxes before (lines_of content after) → IsRest false [] content →
    AreOrdered (length boxes) (length d.boxes) (first_seam content ∷ seams_behind content)
row_ordered d boxes before content after known is =
    let o = ordered d boxes before content after false [] known tt is in
    (length boxes, o.next, record { from = omega arith; ends = tt; starts = o.starts; item = inr o.item }, o.later)

pub row_boxes : (d : FlowsData) (boxes : List BoxInfo) (before : Option ℕ) (content : Rest) (after : List Line) (k : ℕ)
    → Known d boxes before (lines_of content after) → IsRest false [] content →
    length (row_flow k content).seams ≡ length (row_flow k content).items + 1 → FlowBoxes (length d.boxes) (row_flow k content)
row_boxes d boxes before content after k known is count =
    let o = ordered d boxes before content after false [] known tt is in
    let some = o.item in
    flow_boxes [] (items_from k content) (first_seam content) (seams_behind content) (length boxes) (length d.boxes) count
    (omega arith) refl (omega arith) (row_ordered d boxes before content after known is)
