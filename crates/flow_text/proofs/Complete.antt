-- What is a flow file is read to its end.
use Rattle.std.proofs.Common.{◌≡◌, ℕ, zero, suc, ◌<◌, List, [], ◌∷◌, ◌++◌, length, eqb, cond, Bool, true, false, Option, Some}
use Rattle.std.proofs.Common.{None, Result, Ok, refl, sym, ap, subst, ◌∙◌, arith, length-append}
use Rattle.std.specs.Prelude.{slice_index}
use Rattle.std.proofs.Math.Dec.{eqb-suc-zero}
use Rattle.std.proofs.lemmas.Bool.{eq-eqb, lt-ltb}
use Rattle.flow_text.specs.declared.line.Line.{Line}
use Rattle.flow_text.specs.declared.line.Form.{Form}
use Rattle.flow_text.specs.declared.line.Form.TheVariants as forms
use Rattle.mc_base.specs.declared.read_error.Fault.{Fault}
use Rattle.flow_text.specs.declared.structure.Phase.{Phase}
use Rattle.flow_text.specs.declared.structure.Phase.TheVariants as phases
use Rattle.flow_text.specs.declared.structure.OpenRow.{OpenRow}
use Rattle.flow_text.specs.declared.structure.Due.{Due}
use Rattle.flow_text.specs.declared.structure.Reading.{Reading}
use Rattle.flow_text.specs.declared.structure.Reading.TheVariants as readings
use Rattle.flow_text.specs.Structure.{is_filled, touched, is_cloned, due_of, fault_of_due, take}
use Rattle.flow_text.specs.Grammar.{Rest, no_more, edge, place, atom, row, line, lines_of, boxes_behind, IsRest, Numbered}
use Rattle.flow_text.specs.Grammar.{BeginsSolid, StartsCloned, bottoms_behind, solid_of, EndsCloned, FlowFile, content_lines}
use Rattle.flow_text.specs.Grammar.{IsContent, IsFlowFile}
use Rattle.flow_text.specs.Run.{run}

abbrev pub open_at : ℕ → Phase → List ℕ → OpenRow
open_at at phase boxes = record { at = at; phase = phase; boxes = boxes }

abbrev pub within : OpenRow → List OpenRow → List ℕ → Option Due → Option ℕ → Reading
within r outer bottoms due solid =
    readings.Within (record { row = r; outer = outer; bottoms = bottoms; due = due; solid = solid })

-- what is due follows
abbrev pub DueMet : Option Due → List Line → Type 0
DueMet None lines = Unit {0}
DueMet (Some d) lines = BeginsSolid d.top lines

-- what the lines to come must meet, besides where they stand
pub record Flat (bottoms : List ℕ) (due : Option Due) (solid : Option ℕ) (lines : List Line) : Type 0 where
  pub numbered : Numbered (length bottoms) lines
  pub met : DueMet due lines
  pub starts : StartsCloned lines
  pub ends : EndsCloned bottoms solid lines

abbrev some_solid : ℕ → Option Form
some_solid u = Some (forms.Solid u)

pub not_due : (due : Option Due) (a : ℕ) (f : Form) (lines : List Line) → DueMet due (line a f ∷ lines)
    → fault_of_due due (Some f) ≡ None
not_due None a f lines h = refl
not_due (Some d) a f lines h = rw h (rw (eq-eqb d.top d.top refl) refl)

filled_is : (phase : Phase) → is_filled phase ≡ true → phase ≡ phases.Filled
filled_is phases.Empty h = absurd cc
filled_is (phases.Leading a) h = absurd cc
filled_is phases.Filled h = refl
filled_is (phases.Behind a) h = absurd cc

pub filled_touched : (phase : Phase) (a : ℕ) → is_filled (touched phase a) ≡ is_filled phase
filled_touched phases.Empty a = refl
filled_touched (phases.Leading b) a = refl
filled_touched phases.Filled a = refl
filled_touched (phases.Behind b) a = refl

pub touched_filled : (phase : Phase) (a : ℕ) → is_filled phase ≡ true → touched phase a ≡ phase
touched_filled phases.Empty a h = absurd cc
touched_filled (phases.Leading b) a h = absurd cc
touched_filled phases.Filled a h = refl
touched_filled (phases.Behind b) a h = absurd cc

abbrev pub passed : Reading → Result Reading Fault
passed r = Ok r

some_boxes : (a b : List ℕ) → Some a ≡ Some b → a ≡ b
some_boxes a b e = cc

-- a start's upper amount is due
met_behind : (a top : ℕ) (lines : List Line) → (0 < top → BeginsSolid top lines) → DueMet (due_of a top) lines
met_behind a zero lines h = tt
met_behind a (suc top) lines h = let some : 0 < suc top = omega arith in rw (lt-ltb 0 (suc top) some) (h some)

cloned_ok : (bottom : ℕ) (solid : Option ℕ) → (0 < bottom → solid ≡ Some bottom) → is_cloned bottom solid ≡ true
cloned_ok zero None h = refl
cloned_ok zero (Some u) h = refl
cloned_ok (suc b) None h = let e = h (omega arith) in absurd cc
cloned_ok (suc b) (Some u) h =
    let some : 0 < suc b = omega arith in
    let e : Some u ≡ Some (suc b) = h some in
    let same : u ≡ suc b = cc in
    rw (eqb-suc-zero b, eq-eqb u (suc b) same) refl

-- an edge is read
abbrev Onward : ℕ → Phase → List ℕ → List OpenRow → List ℕ → Option Due → Option ℕ → ℕ → Form → List Line → List ℕ → Type 0
Onward at phase boxes outer bottoms due solid a f ts next =
    (after : Option Due)
    × (take (within (open_at at phase boxes) outer bottoms due solid) (line a f)
    ≡ passed (within (open_at at (touched phase a) next) outer (bottoms_behind bottoms f) after (solid_of f)))
    × Flat (bottoms_behind bottoms f) after (solid_of f) ts

over_edge : (a : ℕ) (f : Form) (at : ℕ) (phase : Phase) (boxes : List ℕ) (outer : List OpenRow) (bottoms : List ℕ)
    (due : Option Due) (solid : Option ℕ) (ts : List Line) (next : List ℕ)
    (t : Bool) → is_filled phase ≡ t → boxes_behind f t boxes ≡ Some next → Flat bottoms due solid (line a f ∷ ts)
    → Onward at phase boxes outer bottoms due solid a f ts next
over_edge a (forms.Margin u) at phase boxes outer bottoms due solid ts next t is e h = (
  None,
  rw (not_due due a (forms.Margin u) ts h.met)
      (ap (λ (b : List ℕ). passed (within (open_at at (touched phase a) b) outer bottoms None None)) (some_boxes boxes next e)),
  record { numbered = h.numbered.1; met = tt; starts = h.starts.1; ends = h.ends.1 },
)
over_edge a (forms.Solid u) at phase boxes outer bottoms due solid ts next t is e h = (
  None,
  rw (not_due due a (forms.Solid u) ts h.met)
      (ap (λ (b : List ℕ). passed (within (open_at at (touched phase a) b) outer bottoms None (Some u)))
      (some_boxes boxes next e)),
  record { numbered = h.numbered.1; met = tt; starts = h.starts.1; ends = h.ends.1 },
)
over_edge a forms.Wall at phase boxes outer bottoms due solid ts next t is e h = (
  None,
  rw (not_due due a forms.Wall ts h.met)
      (ap (λ (b : List ℕ). passed (within (open_at at (touched phase a) b) outer bottoms None None)) (some_boxes boxes next e)),
  record { numbered = h.numbered.1; met = tt; starts = h.starts.1; ends = h.ends.1 },
)
over_edge a (forms.Start number x w avoid top bottom) at phase boxes outer bottoms due solid ts next true is e h = absurd cc
over_edge a (forms.Start number x w avoid top bottom) at phase boxes outer bottoms due solid ts next false is e h =
    let counted = eq-eqb number (length bottoms) h.numbered.0 in
    let more : length (bottoms ++ bottom ∷ []) ≡ suc (length bottoms) = simp length-append (omega arith) in (
      due_of a top,
      rw (not_due due a (forms.Start number x w avoid top bottom) ts h.met, is, counted)
          (ap (λ (b : List ℕ). passed (within (open_at at (touched phase a) b) outer (bottoms ++ bottom ∷ []) (due_of a top)
          None)) (some_boxes (number ∷ boxes) next e)),
      record {
        numbered = subst (λ (k : ℕ). Numbered k ts) (sym more) h.numbered.1;
        met = met_behind a top ts h.starts.0;
        starts = h.starts.1;
        ends = h.ends.1;
      },
    )
over_edge a (forms.End number) at phase [] outer bottoms due solid ts next true is e h = absurd cc
over_edge a (forms.End number) at phase (b ∷ boxes) outer bottoms due solid ts next true is e h = by_name (eqb b number) refl e
  where
    by_name : (v : Bool) → eqb b number ≡ v → cond v (Some boxes) None ≡ Some next
        → Onward at phase (b ∷ boxes) outer bottoms due solid a (forms.End number) ts next
    by_name true same e = (
      None,
      rw (
        not_due due a (forms.End number) ts h.met,
        is,
        same,
        cloned_ok (slice_index bottoms number) solid h.ends.0,
        touched_filled phase a is,
      ) (ap (λ (b : List ℕ). passed (within (open_at at phase b) outer bottoms None None))
          (some_boxes boxes next e)),
      record { numbered = h.numbered.1; met = tt; starts = h.starts.1; ends = h.ends.1 },
    )
    by_name false same e = absurd cc
over_edge a (forms.End number) at phase boxes outer bottoms due solid ts next false is e h = absurd cc
over_edge a _ at phase boxes outer bottoms due solid ts next t is e h = absurd cc

-- reading comes to after the lines of a rest, with nothing left of it
abbrev pub Reaches : Reading → List Line → ℕ → List OpenRow → List Line → Type 0
Reaches r toks at outer after =
    (bottoms : List ℕ) × (due : Option Due) × (solid : Option ℕ)
    × (run r toks ≡ run (within (open_at at phases.Filled []) outer bottoms due solid) after) × Flat bottoms due solid after

over : (r : Rest) (at : ℕ) (phase : Phase) (boxes : List ℕ) (outer : List OpenRow) (bottoms : List ℕ) (due : Option Due)
    (solid : Option ℕ) (after : List Line)
    → IsRest (is_filled phase) boxes r → Flat bottoms due solid (lines_of r after)
    → Reaches (within (open_at at phase boxes) outer bottoms due solid) (lines_of r after) at outer after
over no_more at phase boxes outer bottoms due solid after h flat = (
  bottoms,
  due,
  solid,
  ap (λ (p : Phase). run (within (open_at at p boxes) outer bottoms due solid) after)
      (filled_is phase h.0) ∙ ap (λ (b : List ℕ). run (within (open_at at phases.Filled b) outer bottoms due solid) after)
      h.1,
  flat,
)
over (edge l r) at phase boxes outer bottoms due solid after h flat =
    let o = over_edge l.at l.form at phase boxes outer bottoms due solid (lines_of r after) h.0 (is_filled phase) refl h.1 flat in
    let m = over r at (touched phase l.at) h.0 outer (bottoms_behind bottoms l.form) o.0 (solid_of l.form) after
    (subst (λ (t : Bool). IsRest t h.0 r) (sym (filled_touched phase l.at)) h.2) o.2 in
    (m.0, m.1, m.2, rw o.1 m.3, m.4)
over (place a level r) at phase boxes outer bottoms due solid after h flat =
    let m = over r at (phases.Behind a) boxes outer bottoms None None after h.1
    (record { numbered = flat.numbered.1; met = tt; starts = flat.starts.1; ends = flat.ends.1 }) in
    (m.0, m.1, m.2, rw (not_due due a (forms.Break level) (lines_of r after) flat.met, h.0) m.3, m.4)
over (atom a u r) at phase boxes outer bottoms due solid after h flat =
    let m = over r at phases.Filled boxes outer bottoms None None after h.1
    (record { numbered = flat.numbered.1; met = tt; starts = flat.starts.1; ends = flat.ends.1 }) in
    (m.0, m.1, m.2, rw (not_due due a (forms.Atom u) (lines_of r after) flat.met, h.0) m.3, m.4)
over (row a n w st x content ended r) at phase boxes outer bottoms due solid after h flat =
    let m = over content a phases.Empty [] (open_at at phases.Filled boxes ∷ outer) bottoms None None
    (line ended forms.Close ∷ lines_of r after) h.1
    (record { numbered = flat.numbered.1; met = tt; starts = flat.starts.1; ends = flat.ends.1 }) in
    let k = over r at phases.Filled boxes outer m.0 None None after h.2
    (record { numbered = m.4.numbered.1; met = tt; starts = m.4.starts.1; ends = m.4.ends.1 }) in (
      k.0,
      k.1,
      k.2,
      rw (
        not_due due a (forms.Row n w st x) (lines_of content (line ended forms.Close ∷ lines_of r after))
            flat.met,
        h.0,
      ) (m.3 ∙ rw (not_due m.1 ended forms.Close (lines_of r after) m.4.met) k.3),
      k.4,
    )

begun_flat : (lines : List Line) → Numbered 0 lines → StartsCloned lines → EndsCloned [] None lines → Flat [] None None lines
begun_flat lines n s e = record { numbered = n; met = tt; starts = s; ends = e }

ended_first : (content : Option Rest) (at ended : ℕ) → IsContent content
    → Flat [] None None (content_lines content (line ended forms.Close ∷ []))
    → run (within (open_at at phases.Empty []) [] [] None None) (content_lines content (line ended forms.Close ∷ []))
    ≡ passed readings.Ended
ended_first None at ended h flat = refl
ended_first (Some r) at ended h flat =
    let m = over r at phases.Empty [] [] [] None None (line ended forms.Close ∷ []) h flat in
    m.3 ∙ rw (not_due m.1 ended forms.Close [] m.4.met) refl

pub file_is_read : (lines : List Line) (f : FlowFile) → IsFlowFile lines f → run readings.Opening lines ≡ passed readings.Ended
file_is_read lines f h =
    let numbered = rw h.whole at h.numbered in
    let starts = rw h.whole at h.starts in
    let ends = rw h.whole at h.ends in
    rw h.whole (ended_first f.content f.first_at f.ended h.content
    (begun_flat (content_lines f.content (line f.ended forms.Close ∷ [])) numbered.1.1 starts.1.1 ends.1.1))
