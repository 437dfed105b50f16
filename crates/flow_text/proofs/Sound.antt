-- What is read to its end is a flow file.
use Rattle.std.proofs.Common.{◌≡◌, ℕ, zero, suc, ◌<◌, List, [], ◌∷◌, ◌++◌, length, eqb, cond, Bool, true, false, Option, Some}
use Rattle.std.proofs.Common.{None, Result, Ok, Err, refl, sym, ap, subst, ◌∙◌, arith, length-append, inl, inr}
use Rattle.std.specs.Prelude.{◌⊎◌, slice_index}
use Rattle.std.proofs.Math.Dec.{eqb-suc-zero}
use Rattle.std.proofs.lemmas.Bool.{eqb-true, lt-ltb}
use Rattle.mc_base.specs.declared.level.Level.{Level}
use Rattle.mc_base.specs.Reading.{◌>>=◌, fault}
use Rattle.flow_text.specs.declared.line.Line.{Line}
use Rattle.flow_text.specs.declared.line.Form.{Form}
use Rattle.flow_text.specs.declared.line.Form.TheVariants as forms
use Rattle.mc_base.specs.declared.read_error.Fault.{Fault}
use Rattle.mc_base.proofs.ReadSteps.{seen}
use Rattle.flow_text.specs.declared.structure.Phase.{Phase}
use Rattle.flow_text.specs.declared.structure.Phase.TheVariants as phases
use Rattle.flow_text.specs.declared.structure.OpenRow.{OpenRow}
use Rattle.flow_text.specs.declared.structure.Due.{Due}
use Rattle.flow_text.specs.declared.structure.Rows.{Rows}
use Rattle.flow_text.specs.declared.structure.Reading.{Reading}
use Rattle.flow_text.specs.declared.structure.Reading.TheVariants as readings
use Rattle.flow_text.specs.Structure as structure
use Rattle.flow_text.specs.Structure.{unless, is_filled, touched, bottom_of, is_cloned, due_of, in_phase, fault_of_due}
use Rattle.flow_text.specs.Structure.{fault_at_end, is_solid, step, take, take_first, take_second, begun}
use Rattle.flow_text.specs.Grammar.{Rest, no_more, edge, place, atom, row, line, lines_of, boxes_behind, IsRest, Numbered}
use Rattle.flow_text.specs.Grammar.{BeginsSolid, StartsCloned, EndsCloned, FlowFile, content_lines, IsContent, IsFlowFile}
use Rattle.flow_text.specs.Run.{run}
use Rattle.flow_text.proofs.Complete.{open_at, DueMet, Flat, filled_touched, touched_filled, passed}

abbrev some_rest : Rest → Option Rest
some_rest r = Some r

-- what is left of a row up to after its end
abbrev AsRest : Bool → List ℕ → List Line → List Line → Type 0
AsRest in_tail boxes toks after = (r : Rest) × (ended : ℕ) × IsRest in_tail boxes r
    × (toks ≡ lines_of r (line ended forms.Close ∷ after))

-- the first row ends without a line in it
abbrev Alone : Phase → Bool → List Line → List Line → Type 0
Alone phases.Empty true toks after = ⊥
Alone phases.Empty false toks after = (ended : ℕ) × (toks ≡ line ended forms.Close ∷ after)
Alone (phases.Leading a) nested toks after = ⊥
Alone phases.Filled nested toks after = ⊥
Alone (phases.Behind a) nested toks after = ⊥

abbrev Part : Bool → OpenRow → List Line → List Line → Type 0
Part nested r toks after = AsRest (is_filled r.phase) r.boxes toks after ⊎ Alone r.phase nested toks after

-- what is left of the open rows
abbrev Finishes : OpenRow → List OpenRow → List Line → Type 0
Finishes r [] toks = Part false r toks []
Finishes r (o ∷ os) toks = (after : List Line) × Part true r toks after × Finishes o os after

abbrev Remains : Reading → List Line → Type 0
Remains readings.Opening toks = Unit {0}
Remains readings.Heading toks = Unit {0}
Remains (readings.Within s) toks = Finishes s.row s.outer toks
Remains readings.Ended toks = toks ≡ []

abbrev FlatOf : Reading → List Line → Type 0
FlatOf readings.Opening toks = Unit {0}
FlatOf readings.Heading toks = Unit {0}
FlatOf (readings.Within s) toks = Flat s.bottoms s.due s.solid toks
FlatOf readings.Ended toks = Unit {0}

record Found (r : Reading) (toks : List Line) : Type 0 where
  remains : Remains r toks
  flat : FlatOf r toks

over_part : (r r' : OpenRow) (outer : List OpenRow) (toks ts : List Line)
    → ((nested : Bool) (after : List Line) → Part nested r' ts after → Part nested r toks after) → Finishes r' outer ts
    → Finishes r outer toks
over_part r r' [] toks ts f h = f false [] h
over_part r r' (o ∷ os) toks ts f h = (h.0, f true h.0 h.1, h.2)

not_alone : (phase : Phase) (a : ℕ) (nested : Bool) (ts after : List Line) → Alone (touched phase a) nested ts after → ⊥
not_alone phases.Empty a nested ts after h = h
not_alone (phases.Leading b) a nested ts after h = h
not_alone phases.Filled a nested ts after h = h
not_alone (phases.Behind b) a nested ts after h = h

-- an edge before what is left
edge_part : (at : ℕ) (phase : Phase) (boxes next : List ℕ) (l : Line) (ts : List Line)
    → boxes_behind l.form (is_filled phase) boxes ≡ Some next
    → (nested : Bool) (after : List Line) → Part nested (open_at at (touched phase l.at) next) ts after
    → Part nested (open_at at phase boxes) (l ∷ ts) after
edge_part at phase boxes next l ts h nested after (inl p) =
    inl (
      edge l p.0,
      p.1,
      (next, h, subst (λ (t : Bool). IsRest t next p.0) (filled_touched phase l.at) p.2),
      ap (λ (x : List Line). l ∷ x) p.3,
    )
edge_part at phase boxes next l ts h nested after (inr p) = absurd (not_alone phase l.at nested ts after p)

pub reading_is : (x y : Reading) → passed x ≡ passed y → y ≡ x
reading_is x y e = cc

pub is_some_solid : (top : ℕ) (f : Form) → is_solid top (Some f) ≡ true → f ≡ forms.Solid top
is_some_solid top (forms.Solid u) h = ap (λ (n : ℕ). forms.Solid n) (eqb-true u top h)
is_some_solid top _ h = absurd cc

guard_none : (b : Bool) (f : Fault) → cond b None (Some f) ≡ None → b ≡ true
guard_none true f h = refl
guard_none false f h = absurd cc

due_met : (due : Option Due) (l : Line) (ts : List Line) → fault_of_due due (Some l.form) ≡ None → DueMet due (l ∷ ts)
due_met None l ts h = tt
due_met (Some d) l ts h = is_some_solid d.top l.form (guard_none (is_solid d.top (Some l.form)) _ h)

pub unless_ok : (f : Option Fault) (r : Result Reading Fault) (x : Reading) → unless f r ≡ passed x → (f ≡ None) × (r ≡ passed x)
unless_ok None r x h = (refl, h)
unless_ok (Some f) r x h = absurd cc

-- the tests of a start
pub two_tests : (b c : Bool) (x : Rows) (f g : Fault) (next : Reading)
    → structure.within (cond b (Err f) (cond c (Ok x) (Err g))) ≡ passed next
    → (b ≡ false) × (c ≡ true) × (next ≡ readings.Within x)
two_tests true c x f g next h = absurd cc
two_tests false true x f g next h = (refl, refl, cc)
two_tests false false x f g next h = absurd cc

pub one_test : (b : Bool) (x : Rows) (f : Fault) (next : Reading) → structure.within (cond b (Err f) (Ok x)) ≡ passed next
    → (b ≡ false) × (next ≡ readings.Within x)
one_test true x f next h = absurd cc
one_test false x f next h = (refl, cc)

pub other_test : (b : Bool) (x : Rows) (f : Fault) (next : Reading) → structure.within (cond b (Ok x) (Err f)) ≡ passed next
    → (b ≡ true) × (next ≡ readings.Within x)
other_test true x f next h = (refl, cc)
other_test false x f next h = absurd cc

pub three_tests : (b c d : Bool) (x : Rows) (f g k : Fault) (next : Reading)
    → structure.within (cond b (cond c (cond d (Ok x) (Err f)) (Err g)) (Err k)) ≡ passed next
    → (b ≡ true) × (c ≡ true) × (d ≡ true) × (next ≡ readings.Within x)
three_tests true true true x f g k next h = (refl, refl, refl, cc)
three_tests true true false x f g k next h = absurd cc
three_tests true false d x f g k next h = absurd cc
three_tests false c d x f g k next h = absurd cc

abbrev some_amount : ℕ → Option ℕ
some_amount u = Some u

followed : (a top : ℕ) (ts : List Line) → DueMet (due_of a top) ts → 0 < top → BeginsSolid top ts
followed a top ts h some = rw (lt-ltb 0 top some) at h

preceded : (bottom : ℕ) (solid : Option ℕ) → is_cloned bottom solid ≡ true → 0 < bottom → solid ≡ Some bottom
preceded zero solid h some = absurd (omega arith)
preceded (suc b) None h some = let e = eqb-suc-zero b in absurd cc
preceded (suc b) (Some u) h some = let k = rw (eqb-suc-zero b) at h in ap (λ (n : ℕ). some_amount n) (eqb-true u (suc b) k)

pub no_box : (b : Bool) (a : ℕ) (next : Reading) → structure.within (cond b (fault a 6) (fault a 5)) ≡ passed next → ⊥
no_box true a next h = cc
no_box false a next h = cc

atom_part : (r : OpenRow) (a u : ℕ) (ts : List Line) → is_filled r.phase ≡ false → (nested : Bool) (after : List Line)
    → Part nested (in_phase r phases.Filled) ts after → Part nested r (line a (forms.Atom u) ∷ ts) after
atom_part r a u ts h nested after (inl p) =
    inl (atom a u p.0, p.1, (h, p.2), ap (λ (x : List Line). line a (forms.Atom u) ∷ x) p.3)
atom_part r a u ts h nested after (inr p) = absurd p

place_part : (r : OpenRow) (a : ℕ) (level : Level) (ts : List Line) → is_filled r.phase ≡ true
    → (nested : Bool) (after : List Line)
    → Part nested (in_phase r (phases.Behind a)) ts after → Part nested r (line a (forms.Break level) ∷ ts) after
place_part r a level ts h nested after (inl p) =
    inl (place a level p.0, p.1, (h, p.2), ap (λ (x : List Line). line a (forms.Break level) ∷ x) p.3)
place_part r a level ts h nested after (inr p) = absurd p

row_part : (r : OpenRow) (a n w st x : ℕ) (ts middle : List Line) (content : Rest) (ended : ℕ) → is_filled r.phase ≡ false
    → IsRest false [] content → ts ≡ lines_of content (line ended forms.Close ∷ middle)
    → (nested : Bool) (after : List Line) → Part nested (in_phase r phases.Filled) middle after
    → Part nested r (line a (forms.Row n w st x) ∷ ts) after
row_part r a n w st x ts middle content ended h k e nested after (inl p) =
    inl (
      row a n w st x content ended p.0,
      p.1,
      (h, k, p.2),
      ap (λ (y : List Line). line a (forms.Row n w st x) ∷ y)
          (e ∙ ap (λ (y : List Line). lines_of content (line ended forms.Close ∷ y)) p.3),
    )
row_part r a n w st x ts middle content ended h k e nested after (inr p) = absurd p

row_remains : (r : OpenRow) (outer : List OpenRow) (a n w st x : ℕ) (ts : List Line) → is_filled r.phase ≡ false
    → (middle : List Line) → Part true (structure.open_row a) ts middle → Finishes (in_phase r phases.Filled) outer middle
    → Finishes r outer (line a (forms.Row n w st x) ∷ ts)
row_remains r outer a n w st x ts h middle (inl p) f =
    over_part r (in_phase r phases.Filled) outer (line a (forms.Row n w st x) ∷ ts) middle
    (row_part r a n w st x ts middle p.0 p.1 h p.2 p.3) f
row_remains r outer a n w st x ts h middle (inr p) f = absurd p

no_boxes : (boxes : List ℕ) (a : ℕ) → structure.boxes_fault boxes a ≡ None → boxes ≡ []
no_boxes [] a h = refl
no_boxes (b ∷ boxes) a h = absurd cc

close_phase : (phase : Phase) (at : ℕ) (boxes : List ℕ) (nested : Bool) (a : ℕ) (ts : List Line)
    → structure.fault_in_phase phase (open_at at phase boxes) nested a ≡ None
    → Part nested (open_at at phase boxes) (line a forms.Close ∷ ts) ts
close_phase phases.Empty at boxes true a ts h = absurd cc
close_phase phases.Empty at boxes false a ts h = inr (a, refl)
close_phase (phases.Leading b) at boxes true a ts h = absurd cc
close_phase (phases.Leading b) at boxes false a ts h = absurd cc
close_phase phases.Filled at boxes nested a ts h = inl (no_more, a, (refl, no_boxes boxes a h), refl)
close_phase (phases.Behind b) at boxes nested a ts h = absurd cc

close_part : (r : OpenRow) (nested : Bool) (a : ℕ) (ts : List Line) → fault_at_end r nested a ≡ None
    → Part nested r (line a forms.Close ∷ ts) ts
close_part r nested a ts h = close_phase r.phase r.at r.boxes nested a ts h

-- nothing follows the first row
flat_end : (k : ℕ) (ts : List Line) → ts ≡ [] → Numbered k ts
flat_end k [] e = tt
flat_end k (t ∷ ts) e = absurd cc

starts_end : (ts : List Line) → ts ≡ [] → StartsCloned ts
starts_end [] e = tt
starts_end (t ∷ ts) e = absurd cc

ends_end : (bottoms : List ℕ) (ts : List Line) → ts ≡ [] → EndsCloned bottoms None ts
ends_end bottoms [] e = tt
ends_end bottoms (t ∷ ts) e = absurd cc

abbrev Goal : Rows → ℕ → Form → List Line → Type 0
Goal s a f ts = Found (readings.Within s) (line a f ∷ ts)

-- one line back
back : (s : Rows) (a : ℕ) (f : Form) (next : Reading) (ts : List Line) → DueMet s.due (line a f ∷ ts) → step s a f ≡ passed next
    → Found next ts → Goal s a f ts
back s a forms.Flow next ts met e found = absurd cc
back s a (forms.First n w st available auto) next ts met e found = absurd cc
back s a (forms.Margin u) next ts met e found =
    let g = subst (λ (x : Reading). Found x ts) (reading_is _ next e) found in
    record {
      remains = over_part s.row _ s.outer (line a (forms.Margin u) ∷ ts) ts
          (edge_part s.row.at s.row.phase s.row.boxes s.row.boxes (line a (forms.Margin u)) ts refl) g.remains;
      flat = record { numbered = (tt, g.flat.numbered); met = met; starts = (tt, g.flat.starts); ends = (tt, g.flat.ends) };
    }
back s a (forms.Solid u) next ts met e found =
    let g = subst (λ (x : Reading). Found x ts) (reading_is _ next e) found in
    record {
      remains = over_part s.row _ s.outer (line a (forms.Solid u) ∷ ts) ts
          (edge_part s.row.at s.row.phase s.row.boxes s.row.boxes (line a (forms.Solid u)) ts refl) g.remains;
      flat = record { numbered = (tt, g.flat.numbered); met = met; starts = (tt, g.flat.starts); ends = (tt, g.flat.ends) };
    }
back s a forms.Wall next ts met e found =
    let g = subst (λ (x : Reading). Found x ts) (reading_is _ next e) found in
    record {
      remains = over_part s.row _ s.outer (line a forms.Wall ∷ ts) ts
          (edge_part s.row.at s.row.phase s.row.boxes s.row.boxes (line a forms.Wall) ts refl) g.remains;
      flat = record { numbered = (tt, g.flat.numbered); met = met; starts = (tt, g.flat.starts); ends = (tt, g.flat.ends) };
    }
back s a (forms.Start number x w avoid top bottom) next ts met e found =
    let t = two_tests (is_filled s.row.phase) (eqb number (length s.bottoms)) _ _ _ next e in
    let g = subst (λ (r : Reading). Found r ts) t.2 found in
    let more : length (s.bottoms ++ bottom ∷ []) ≡ suc (length s.bottoms) = simp length-append (omega arith) in
    let stands : boxes_behind (forms.Start number x w avoid top bottom) (is_filled s.row.phase) s.row.boxes
    ≡ Some (number ∷ s.row.boxes) = rw t.0 refl in
    record {
      remains = over_part s.row _ s.outer (line a (forms.Start number x w avoid top bottom) ∷ ts) ts
          (edge_part s.row.at s.row.phase s.row.boxes (number ∷ s.row.boxes) (line a (forms.Start number x w avoid top bottom)) ts
          stands) g.remains;
      flat = record {
        numbered = (eqb-true number (length s.bottoms) t.1, subst (λ (k : ℕ). Numbered k ts) more g.flat.numbered);
        met = met;
        starts = (followed a top ts g.flat.met, g.flat.starts);
        ends = (tt, g.flat.ends);
      };
    }
back s a (forms.End number) next ts met e found = by_boxes s.row.boxes refl e
  where
    by_boxes : (boxes : List ℕ) → s.row.boxes ≡ boxes
        → structure.within (cond (is_filled s.row.phase) (structure.end_innermost s a number boxes) (fault a 5)) ≡ passed next
        → Goal s a (forms.End number) ts
    by_boxes [] same e = absurd (no_box (is_filled s.row.phase) a next e)
    by_boxes (b ∷ boxes) same e =
        let t = three_tests (is_filled s.row.phase) (eqb b number) (is_cloned (bottom_of s.bottoms number) s.solid) _ _ _ _
        next e in
        let g = subst (λ (r : Reading). Found r ts) t.3 found in
        let stays : touched s.row.phase a ≡ s.row.phase = touched_filled s.row.phase a t.0 in
        let stands : boxes_behind (forms.End number) (is_filled s.row.phase) s.row.boxes ≡ Some boxes =
        rw (t.0, same, t.1) refl in
        record {
          remains = over_part s.row (open_at s.row.at (touched s.row.phase a) boxes) s.outer (line a (forms.End number) ∷ ts) ts
              (edge_part s.row.at s.row.phase s.row.boxes boxes (line a (forms.End number)) ts stands)
              (subst (λ (p : Phase). Finishes (open_at s.row.at p boxes) s.outer ts) (sym stays) g.remains);
          flat = record {
            numbered = (tt, g.flat.numbered);
            met = met;
            starts = (tt, g.flat.starts);
            ends = (preceded (slice_index s.bottoms number) s.solid t.2, g.flat.ends);
          };
        }
back s a (forms.Atom u) next ts met e found =
    let t = one_test (is_filled s.row.phase) _ _ next e in
    let g = subst (λ (r : Reading). Found r ts) t.1 found in
    record {
      remains = over_part s.row _ s.outer (line a (forms.Atom u) ∷ ts) ts (atom_part s.row a u ts t.0) g.remains;
      flat = record { numbered = (tt, g.flat.numbered); met = met; starts = (tt, g.flat.starts); ends = (tt, g.flat.ends) };
    }
back s a (forms.Row n w st x) next ts met e found =
    let t = one_test (is_filled s.row.phase) _ _ next e in
    let g = subst (λ (r : Reading). Found r ts) t.1 found in
    record {
      remains = row_remains s.row s.outer a n w st x ts t.0 g.remains.0 g.remains.1 g.remains.2;
      flat = record { numbered = (tt, g.flat.numbered); met = met; starts = (tt, g.flat.starts); ends = (tt, g.flat.ends) };
    }
back s a (forms.Break level) next ts met e found =
    let t = other_test (is_filled s.row.phase) _ _ next e in
    let g = subst (λ (r : Reading). Found r ts) t.1 found in
    record {
      remains = over_part s.row _ s.outer (line a (forms.Break level) ∷ ts) ts (place_part s.row a level ts t.0) g.remains;
      flat = record { numbered = (tt, g.flat.numbered); met = met; starts = (tt, g.flat.starts); ends = (tt, g.flat.ends) };
    }
back s a forms.Close next ts met e found = by_outer s.outer refl e
  where
    by_outer : (outer : List OpenRow) → s.outer ≡ outer → structure.close_in outer s a ≡ passed next → Goal s a forms.Close ts
    by_outer [] same e =
        let t = unless_ok (fault_at_end s.row false a) _ next e in
        let g = subst (λ (r : Reading). Found r ts) (reading_is _ next t.1) found in
        record {
          remains = subst (λ (os : List OpenRow). Finishes s.row os (line a forms.Close ∷ ts)) (sym same)
              (subst (λ (after : List Line). Part false s.row (line a forms.Close ∷ ts) after) g.remains
              (close_part s.row false a ts t.0));
          flat = record {
            numbered = (tt, flat_end (length s.bottoms) ts g.remains);
            met = met;
            starts = (tt, starts_end ts g.remains);
            ends = (tt, ends_end s.bottoms ts g.remains);
          };
        }
    by_outer (o ∷ os) same e =
        let t = unless_ok (fault_at_end s.row true a) _ next e in
        let g = subst (λ (r : Reading). Found r ts) (reading_is _ next t.1) found in
        record {
          remains = subst (λ (os : List OpenRow). Finishes s.row os (line a forms.Close ∷ ts)) (sym same)
              (ts, close_part s.row true a ts t.0, g.remains);
          flat = record { numbered = (tt, g.flat.numbered); met = met; starts = (tt, g.flat.starts); ends = (tt, g.flat.ends) };
        }

one_back : (r : Reading) (l : Line) (ts : List Line) (next : Reading) → take r l ≡ passed next → Found next ts → Found r (l ∷ ts)
one_back readings.Opening l ts next e found = record { remains = tt; flat = tt }
one_back readings.Heading l ts next e found = record { remains = tt; flat = tt }
one_back (readings.Within s) l ts next e found =
    let t = unless_ok (fault_of_due s.due (Some l.form)) _ next e in
    back s l.at l.form next ts (due_met s.due l ts t.0) t.1 found
one_back readings.Ended l ts next e found = absurd cc

sound : (toks : List Line) (r : Reading) → run r toks ≡ passed readings.Ended → Found r toks
sound [] readings.Opening e = absurd cc
sound [] readings.Heading e = absurd cc
sound [] (readings.Within s) e = absurd cc
sound [] readings.Ended e = record { remains = refl; flat = tt }
sound (l ∷ ts) r e = by_step (λ next. sound ts next) (seen (take r l))
  where
    by_step : ((next : Reading) → run next ts ≡ passed readings.Ended → Found next ts)
        → ((x : Reading) × (take r l ≡ Ok x)) ⊎ ((f : Fault) × (take r l ≡ Err f)) → Found r (l ∷ ts)
    by_step below (inl s) = one_back r l ts s.0 s.1 (below s.0 (rw s.1 at e))
    by_step below (inr s) = let no = rw s.1 at e in absurd cc

content_of : (at : ℕ) (toks : List Line) → Part false (open_at at phases.Empty []) toks []
    → (content : Option Rest) × (ended : ℕ) × IsContent content × (toks ≡ content_lines content (line ended forms.Close ∷ []))
content_of at toks (inl p) = (some_rest p.0, p.1, p.2, p.3)
content_of at toks (inr p) = (None, p.0, tt, p.1)

-- after the first two lines
rows_are_file : (a : ℕ) (b n w st : ℕ) (available : Option ℕ) (auto : Bool) (toks : List Line)
    → run (readings.Within (begun b)) toks ≡ passed readings.Ended
    → (file : FlowFile) × IsFlowFile (line a forms.Flow ∷ line b (forms.First n w st available auto) ∷ toks) file
rows_are_file a b n w st available auto toks e =
    let f = sound toks (readings.Within (begun b)) e in
    let c = content_of b toks f.remains in (
      record { at = a; first_at = b; n = n; w = w; step = st; available = available; auto = auto; content = c.0; ended = c.1 },
      record {
        whole = ap (λ (x : List Line). line a forms.Flow ∷ line b (forms.First n w st available auto) ∷ x) c.3;
        content = c.2;
        numbered = (tt, (tt, f.flat.numbered));
        starts = (tt, (tt, f.flat.starts));
        ends = (tt, (tt, f.flat.ends));
      },
    )

second : (a b : ℕ) (f : Form) (toks : List Line) → (take_second b f >>= λ next. run next toks) ≡ passed readings.Ended
    → (file : FlowFile) × IsFlowFile (line a forms.Flow ∷ line b f ∷ toks) file
second a b (forms.First n w st available auto) toks e = rows_are_file a b n w st available auto toks e
second a b _ toks e = absurd cc

first : (a : ℕ) (f : Form) (toks : List Line) → (take_first a f >>= λ next. run next toks) ≡ passed readings.Ended
    → (file : FlowFile) × IsFlowFile (line a f ∷ toks) file
first a forms.Flow [] e = absurd cc
first a forms.Flow (l ∷ toks) e = second a l.at l.form toks e
first a _ toks e = absurd cc

pub read_is_file : (lines : List Line) → run readings.Opening lines ≡ passed readings.Ended
    → (file : FlowFile) × IsFlowFile lines file
read_is_file [] e = absurd cc
read_is_file (l ∷ lines) e = first l.at l.form lines e
