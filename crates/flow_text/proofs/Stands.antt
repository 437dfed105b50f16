-- What reading knows of where the next line stands.
use Rattle.std.proofs.Common.{◌≡◌, ℕ, List, [], ◌∷◌, ◌++◌, length, eqb, cond, Bool, true, false, ◌||◌, Option, Some, None, Result}
use Rattle.std.proofs.Common.{Ok, Err, refl, sym, ap, subst, ◌∙◌, inl, inr}
use Rattle.std.specs.Prelude.{◌⊎◌, slice_index, MatchBool}
use Rattle.std.proofs.lemmas.Bool.{eq-eqb}
use Rattle.mc_base.specs.Reading.{◌>>=◌, fault}
use Rattle.flow_text.specs.declared.line.Line.{Line}
use Rattle.flow_text.specs.declared.line.Form.{Form}
use Rattle.flow_text.specs.declared.line.Form.TheVariants as forms
use Rattle.mc_base.specs.declared.read_error.Fault.{Fault}
use Rattle.mc_base.proofs.ReadSteps.{seen as seen_result, failed, fault_is}
use Rattle.flow_text.specs.declared.structure.Phase.{Phase}
use Rattle.flow_text.specs.declared.structure.Phase.TheVariants as phases
use Rattle.flow_text.specs.declared.structure.OpenRow.{OpenRow}
use Rattle.flow_text.specs.declared.structure.Due.{Due}
use Rattle.flow_text.specs.declared.structure.Rows.{Rows}
use Rattle.flow_text.specs.declared.structure.Reading.{Reading}
use Rattle.flow_text.specs.declared.structure.Reading.TheVariants as readings
use Rattle.flow_text.specs.Structure as structure
use Rattle.flow_text.specs.Structure.{unless, is_filled, touched, bottom_of, is_cloned, fault_of_due, fault_at_end, is_solid}
use Rattle.flow_text.specs.Structure.{step, take, take_first, take_second}
use Rattle.flow_text.specs.Grammar.{line}
use Rattle.flow_text.specs.Run.{run}
use Rattle.flow_text.specs.Faults.{fault_at, IsFront, IsOver, is_edge, Seen, nothing_seen, seen_behind, seen_from, seen}
use Rattle.flow_text.specs.Faults.{is_item_end, end_behind, end_fault, EndFault, RowsFault, is_flow, DueFault, LineFault}
use Rattle.flow_text.proofs.Complete.{open_at, within, passed, filled_touched, touched_filled, file_is_read}
use Rattle.flow_text.proofs.Sound.{reading_is, unless_ok, one_test, two_tests, three_tests, other_test, no_box, is_some_solid}
use Rattle.flow_text.proofs.Sound.{read_is_file}

-- a line that begins a row, the first one or one inside another
abbrev Opens : Bool → Form → Type 0
Opens true (forms.Row n w st x) = Unit {0}
Opens false (forms.First n w st available auto) = Unit {0}
Opens _ _ = ⊥

abbrev IsBreak : Form → Type 0
IsBreak (forms.Break level) = Unit {0}
IsBreak _ = ⊥

abbrev Placed : Phase → Bool → ℕ → Seen → Type 0
Placed phases.Empty nested at s = (b : Line) × (s.base ≡ Some b) × (s.first ≡ None) × (b.at ≡ at) × Opens nested b.form
Placed (phases.Leading a) nested at s = (b : Line) × (e : Line) × (s.base ≡ Some b) × (s.first ≡ Some e) × (e.at ≡ a)
    × (b.at ≡ at) × Opens nested b.form
Placed phases.Filled nested at s = (b : Line) × (s.base ≡ Some b) × (is_item_end b.form ≡ true)
Placed (phases.Behind a) nested at s = (b : Line) × (s.base ≡ Some b) × (b.at ≡ a) × IsBreak b.form

abbrev is_nested : List OpenRow → Bool
is_nested [] = false
is_nested (o ∷ os) = true

abbrev AllFilled : List OpenRow → Type 0
AllFilled [] = Unit {0}
AllFilled (o ∷ os) = (o.phase ≡ phases.Filled) × AllFilled os

record Known (s : Rows) (n : Seen) : Type 0 where
  placed : Placed s.row.phase (is_nested s.outer) s.row.at n
  due : n.due ≡ s.due
  bottoms : n.bottoms ≡ s.bottoms
  filled : AllFilled s.outer

abbrev Knows : Reading → Seen → Type 0
Knows readings.Opening n = n ≡ nothing_seen
Knows readings.Heading n = (b : Line) × (n.base ≡ Some b) × (is_flow b.form ≡ true) × (n.due ≡ None) × (n.bottoms ≡ [])
Knows (readings.Within s) n = Known s n
Knows readings.Ended n = (b : Line) × (n.base ≡ Some b) × (is_flow b.form ≡ false) × (n.due ≡ None)

placed_edge : (phase : Phase) (nested : Bool) (at : ℕ) (n : Seen) (l : Line) → is_edge l.form ≡ true → Placed phase nested at n
    → Placed (touched phase l.at) nested at (seen_behind n l)
placed_edge phases.Empty nested at n l is h = (h.0, l, rw is h.1, rw (is, h.2) refl, refl, h.3, h.4)
placed_edge (phases.Leading a) nested at n l is h = (h.0, h.1, rw is h.2, rw (is, h.3) refl, h.4, h.5, h.6)
placed_edge phases.Filled nested at n l is h = (h.0, rw is h.1, h.2)
placed_edge (phases.Behind a) nested at n l is h = (h.0, rw is h.1, h.2, h.3)

known_step : (s : Rows) (a : ℕ) (f : Form) (n : Seen) (next : Reading) → Known s n → step s a f ≡ passed next
    → Knows next (seen_behind n (line a f))
known_step s a forms.Flow n next h e = absurd cc
known_step s a (forms.First c w st available auto) n next h e = absurd cc
known_step s a (forms.Margin u) n next h e =
    subst (λ (r : Reading). Knows r (seen_behind n (line a (forms.Margin u)))) (sym (reading_is _ next e))
    (record {
      placed = placed_edge s.row.phase (is_nested s.outer) s.row.at n (line a (forms.Margin u)) refl h.placed;
      due = refl;
      bottoms = h.bottoms;
      filled = h.filled;
    })
known_step s a (forms.Solid u) n next h e =
    subst (λ (r : Reading). Knows r (seen_behind n (line a (forms.Solid u)))) (sym (reading_is _ next e))
    (record {
      placed = placed_edge s.row.phase (is_nested s.outer) s.row.at n (line a (forms.Solid u)) refl h.placed;
      due = refl;
      bottoms = h.bottoms;
      filled = h.filled;
    })
known_step s a forms.Wall n next h e =
    subst (λ (r : Reading). Knows r (seen_behind n (line a forms.Wall))) (sym (reading_is _ next e))
    (record {
      placed = placed_edge s.row.phase (is_nested s.outer) s.row.at n (line a forms.Wall) refl h.placed;
      due = refl;
      bottoms = h.bottoms;
      filled = h.filled;
    })
known_step s a (forms.Start number x w avoid top bottom) n next h e =
    let t = two_tests (is_filled s.row.phase) (eqb number (length s.bottoms)) _ _ _ next e in
    subst (λ (r : Reading). Knows r (seen_behind n (line a (forms.Start number x w avoid top bottom)))) (sym t.2)
    (record {
      placed = placed_edge s.row.phase (is_nested s.outer) s.row.at n
          (line a (forms.Start number x w avoid top bottom)) refl h.placed;
      due = refl;
      bottoms = ap (λ (b : List ℕ). b ++ bottom ∷ []) h.bottoms;
      filled = h.filled;
    })
known_step s a (forms.End number) n next h e = by_boxes s.row.boxes e
  where
    by_boxes : (boxes : List ℕ) → structure.within
        (cond (is_filled s.row.phase) (structure.end_innermost s a number boxes) (fault a 5)) ≡ passed next
        → Knows next (seen_behind n (line a (forms.End number)))
    by_boxes [] e = absurd (no_box (is_filled s.row.phase) a next e)
    by_boxes (b ∷ boxes) e =
        let t = three_tests (is_filled s.row.phase) (eqb b number) (is_cloned (bottom_of s.bottoms number) s.solid) _ _ _ _
        next e in
        let p = placed_edge s.row.phase (is_nested s.outer) s.row.at n (line a (forms.End number)) refl h.placed in
        subst (λ (r : Reading). Knows r (seen_behind n (line a (forms.End number)))) (sym t.3)
        (record {
          placed = subst (λ (q : Phase).
              Placed q (is_nested s.outer) s.row.at (seen_behind n (line a (forms.End number))))
              (touched_filled s.row.phase a t.0) p;
          due = refl;
          bottoms = h.bottoms;
          filled = h.filled;
        })
known_step s a (forms.Atom u) n next h e =
    let t = one_test (is_filled s.row.phase) _ _ next e in
    subst (λ (r : Reading). Knows r (seen_behind n (line a (forms.Atom u)))) (sym t.1)
    (record { placed = (line a (forms.Atom u), refl, refl); due = refl; bottoms = h.bottoms; filled = h.filled })
known_step s a (forms.Row c w st x) n next h e =
    let t = one_test (is_filled s.row.phase) _ _ next e in
    subst (λ (r : Reading). Knows r (seen_behind n (line a (forms.Row c w st x)))) (sym t.1)
    (record {
      placed = (line a (forms.Row c w st x), refl, refl, refl, tt);
      due = refl;
      bottoms = h.bottoms;
      filled = (refl, h.filled);
    })
known_step s a (forms.Break level) n next h e =
    let t = other_test (is_filled s.row.phase) _ _ next e in
    subst (λ (r : Reading). Knows r (seen_behind n (line a (forms.Break level)))) (sym t.1)
    (record { placed = (line a (forms.Break level), refl, refl, tt); due = refl; bottoms = h.bottoms; filled = h.filled })
known_step s a forms.Close n next h e = by_outer s.outer h.filled e
  where
    by_outer : (outer : List OpenRow) → AllFilled outer → structure.close_in outer s a ≡ passed next
        → Knows next (seen_behind n (line a forms.Close))
    by_outer [] filled e =
        let t = unless_ok (fault_at_end s.row false a) _ next e in
        subst (λ (r : Reading). Knows r (seen_behind n (line a forms.Close))) (sym (reading_is _ next t.1))
        (line a forms.Close, refl, refl, refl)
    by_outer (o ∷ os) filled e =
        let t = unless_ok (fault_at_end s.row true a) _ next e in
        let p : Placed phases.Filled (is_nested os) o.at (seen_behind n (line a forms.Close)) =
        (line a forms.Close, refl, refl) in
        subst (λ (r : Reading). Knows r (seen_behind n (line a forms.Close))) (sym (reading_is _ next t.1))
        (record {
          placed = subst (λ (q : Phase). Placed q (is_nested os) o.at (seen_behind n (line a forms.Close)))
              (sym filled.0) p;
          due = refl;
          bottoms = h.bottoms;
          filled = filled.1;
        })

first_step : (a : ℕ) (f : Form) (n : Seen) (next : Reading) → n.bottoms ≡ [] → take_first a f ≡ passed next
    → Knows next (seen_behind n (line a f))
first_step a forms.Flow n next none e = subst (λ (r : Reading). Knows r (seen_behind n (line a forms.Flow)))
    (sym (reading_is _ next e)) (line a forms.Flow, refl, refl, refl, none)
first_step a _ n next none e = absurd cc

second_step : (a : ℕ) (f : Form) (n : Seen) (next : Reading) → n.bottoms ≡ [] → take_second a f ≡ passed next
    → Knows next (seen_behind n (line a f))
second_step a (forms.First c w st available auto) n next none e =
    subst (λ (r : Reading). Knows r (seen_behind n (line a (forms.First c w st available auto)))) (sym (reading_is _ next e))
    (record {
      placed = (line a (forms.First c w st available auto), refl, refl, refl, tt);
      due = refl;
      bottoms = none;
      filled = tt;
    })
second_step a _ n next none e = absurd cc

knows_step : (r : Reading) (l : Line) (n : Seen) (next : Reading) → Knows r n → take r l ≡ passed next
    → Knows next (seen_behind n l)
knows_step readings.Opening l n next h e = first_step l.at l.form n next (ap (λ (m : Seen). m.bottoms) h) e
knows_step readings.Heading l n next h e = second_step l.at l.form n next h.4 e
knows_step (readings.Within s) l n next h e =
    let t = unless_ok (fault_of_due s.due (Some l.form)) _ next e in
    known_step s l.at l.form n next h t.1
knows_step readings.Ended l n next h e = absurd cc

knows_run : (lines : List Line) (r next : Reading) (n : Seen) → Knows r n → run r lines ≡ passed next
    → Knows next (seen_from n lines)
knows_run [] r next n h e = let same : next ≡ r = reading_is r next e in subst (λ (x : Reading). Knows x n) (sym same) h
knows_run (l ∷ lines) r next n h e = by_step (λ middle known more. knows_run lines middle next (seen_behind n l) known more)
    (seen_result (take r l))
  where
    by_step : ((middle : Reading) → Knows middle (seen_behind n l) → run middle lines ≡ passed next
        → Knows next (seen_from (seen_behind n l) lines)) → ((x : Reading) × (take r l ≡ Ok x))
        ⊎ ((f : Fault) × (take r l ≡ Err f)) → Knows next (seen_from (seen_behind n l) lines)
    by_step below (inl t) = below t.0 (knows_step r l n t.0 h t.1) (rw t.1 at e)
    by_step below (inr t) = let no = rw t.1 at e in absurd cc

pub in_turn : (r : Reading) (a b : List Line) → run r (a ++ b) ≡ (run r a >>= λ next. run next b)
in_turn r [] b = refl
in_turn r (l ∷ a) b = by_step (take r l) (λ next. in_turn next a b)
  where
    by_step : (t : Result Reading Fault) → ((next : Reading) → run next (a ++ b) ≡ (run next a >>= λ after. run after b))
        → (t >>= λ next. run next (a ++ b)) ≡ ((t >>= λ next. run next a) >>= λ after. run after b)
    by_step (Ok next) h = h next
    by_step (Err f) h = refl

-- whatever is read so far, a flow file begins so

abbrev Ends : Reading → Type 0
Ends r = (more : List Line) × (run r more ≡ passed readings.Ended)

before : (r next : Reading) (l : Line) → take r l ≡ passed next → Ends next → Ends r
before r next l e h = (l ∷ h.0, rw e h.1)

or_true : (b : Bool) → (b || true) ≡ true
or_true true = refl
or_true false = refl

cloned_zero : (u : ℕ) → is_cloned u (Some u) ≡ true
cloned_zero u = rw (eq-eqb u u refl) (or_true (eqb u 0))

boxes_end : (boxes : List ℕ) (at : ℕ) (outer : List OpenRow) (bottoms : List ℕ) (solid : Option ℕ)
    → ((s : Option ℕ) → Ends (within (open_at at phases.Filled []) outer bottoms None s))
    → Ends (within (open_at at phases.Filled boxes) outer bottoms None solid)
boxes_end [] at outer bottoms solid h = h solid
boxes_end (b ∷ boxes) at outer bottoms solid h =
    let deeper = boxes_end boxes at outer bottoms None h in
    before _ (within (open_at at phases.Filled (b ∷ boxes)) outer bottoms None (Some (slice_index bottoms b)))
    (line 0 (forms.Solid (slice_index bottoms b))) refl
    (before _ (within (open_at at phases.Filled boxes) outer bottoms None None) (line 0 (forms.End b))
    (rw (eq-eqb b b refl, cloned_zero (slice_index bottoms b)) refl) deeper)

row_ends : (phase : Phase) (boxes : List ℕ) (at : ℕ) (outer : List OpenRow) (bottoms : List ℕ) (solid : Option ℕ)
    → ((s : Option ℕ) → Ends (within (open_at at phases.Filled []) outer bottoms None s))
    → Ends (within (open_at at phase boxes) outer bottoms None solid)
row_ends phases.Filled boxes at outer bottoms solid h = boxes_end boxes at outer bottoms solid h
row_ends phases.Empty boxes at outer bottoms solid h = before _ (within (open_at at phases.Filled boxes) outer bottoms None None)
    (line 0 (forms.Atom 0)) refl (boxes_end boxes at outer bottoms None h)
row_ends (phases.Leading a) boxes at outer bottoms solid h =
    before _ (within (open_at at phases.Filled boxes) outer bottoms None None) (line 0 (forms.Atom 0)) refl
    (boxes_end boxes at outer bottoms None h)
row_ends (phases.Behind a) boxes at outer bottoms solid h =
    before _ (within (open_at at phases.Filled boxes) outer bottoms None None) (line 0 (forms.Atom 0)) refl
    (boxes_end boxes at outer bottoms None h)

rows_end : (outer : List OpenRow) (r : OpenRow) (bottoms : List ℕ) (solid : Option ℕ) → Ends (within r outer bottoms None solid)
rows_end [] r bottoms solid =
    row_ends r.phase r.boxes r.at [] bottoms solid (λ s. before _ readings.Ended (line 0 forms.Close) refl ([], refl))
rows_end (o ∷ os) r bottoms solid =
    row_ends r.phase r.boxes r.at (o ∷ os) bottoms solid
    (λ s. before _ (within o os bottoms None None) (line 0 forms.Close) refl (rows_end os o bottoms None))

due_ends : (due : Option Due) (s : Rows) → s.due ≡ due → Ends (readings.Within s)
due_ends None s e = subst (λ (d : Option Due). Ends (within s.row s.outer s.bottoms d s.solid)) (sym e)
    (rows_end s.outer s.row s.bottoms s.solid)
due_ends (Some d) s e =
    before (readings.Within s) (within (open_at s.row.at (touched s.row.phase 0) s.row.boxes) s.outer s.bottoms None (Some d.top))
    (line 0 (forms.Solid d.top)) (rw (e, eq-eqb d.top d.top refl) refl)
    (rows_end s.outer (open_at s.row.at (touched s.row.phase 0) s.row.boxes) s.bottoms (Some d.top))

can_end : (r : Reading) → Ends r
can_end readings.Opening = (line 0 forms.Flow ∷ line 0 (forms.First 1 0 0 None false) ∷ line 0 forms.Close ∷ [], refl)
can_end readings.Heading = (line 0 (forms.First 1 0 0 None false) ∷ line 0 forms.Close ∷ [], refl)
can_end (readings.Within s) = due_ends s.due s refl
can_end readings.Ended = ([], refl)

pub is_front : (front : List Line) (r : Reading) → run readings.Opening front ≡ passed r → IsFront front
is_front front r h =
    let e = can_end r in
    let f = read_is_file (front ++ e.0) (in_turn readings.Opening front e.0 ∙ rw h e.1) in
    (e.0, f.0, f.1)

pub no_front : (front : List Line) (f : Fault) → run readings.Opening front ≡ failed f → IsFront front → ⊥
no_front front f h is =
    let e = file_is_read (front ++ is.0) is.1 is.2 in
    let no : run readings.Opening (front ++ is.0) ≡ failed f = in_turn readings.Opening front is.0 ∙ rw h refl in
    absurd (let two : passed readings.Ended ≡ failed f = sym e ∙ no in cc)

-- which fault a line is that may not follow

opens_no_item : (nested : Bool) (f : Form) → Opens nested f → is_item_end f ≡ false
opens_no_item nested (forms.First n w st available auto) h = refl
opens_no_item nested (forms.Row n w st x) h = refl
opens_no_item false forms.Flow h = absurd h
opens_no_item false (forms.Margin u) h = absurd h
opens_no_item false (forms.Solid u) h = absurd h
opens_no_item false forms.Wall h = absurd h
opens_no_item nested (forms.Start number x w avoid top bottom) h = refl
opens_no_item nested (forms.End number) h = refl
opens_no_item false (forms.Atom u) h = absurd h
opens_no_item nested (forms.Break level) h = refl
opens_no_item false forms.Close h = absurd h
opens_no_item true _ h = absurd h

opens_no_flow : (nested : Bool) (f : Form) → Opens nested f → is_flow f ≡ false
opens_no_flow true forms.Flow h = absurd h
opens_no_flow false forms.Flow h = absurd h
opens_no_flow nested _ h = refl

item_no_flow : (f : Form) → is_item_end f ≡ true → is_flow f ≡ false
item_no_flow forms.Flow h = absurd cc
item_no_flow _ h = refl

break_no_item : (f : Form) → IsBreak f → (is_item_end f ≡ false) × (is_flow f ≡ false)
break_no_item (forms.Break level) h = (refl, refl)
break_no_item _ h = absurd h

-- the line that a row's next line stands after
record Base (phase : Phase) (n : Seen) : Type 0 where
  base : Line
  is : n.base ≡ Some base
  no_flow : is_flow base.form ≡ false
  items : is_item_end base.form ≡ is_filled phase

base_of : (phase : Phase) (nested : Bool) (at : ℕ) (n : Seen) → Placed phase nested at n → Base phase n
base_of phases.Empty nested at n h =
    record { base = h.0; is = h.1; no_flow = opens_no_flow nested h.0.form h.4; items = opens_no_item nested h.0.form h.4 }
base_of (phases.Leading a) nested at n h =
    record { base = h.0; is = h.2; no_flow = opens_no_flow nested h.0.form h.6; items = opens_no_item nested h.0.form h.6 }
base_of phases.Filled nested at n h = record { base = h.0; is = h.1; no_flow = item_no_flow h.0.form h.2; items = h.2 }
base_of (phases.Behind a) nested at n h = let b = break_no_item h.0.form h.3
    in record { base = h.0; is = h.1; no_flow = b.1; items = b.0 }

-- the tests of each line, where one fails
one_failed : (b : Bool) (x : Rows) (f g : Fault) → structure.within (cond b (Err f) (Ok x)) ≡ failed g → g ≡ f
one_failed true x f g h = cc
one_failed false x f g h = absurd cc

other_failed : (b : Bool) (x : Rows) (f g : Fault) → structure.within (cond b (Ok x) (Err f)) ≡ failed g → g ≡ f
other_failed true x f g h = absurd cc
other_failed false x f g h = cc

two_failed : (b c : Bool) (x : Rows) (a : ℕ) (g : Fault)
    → structure.within (cond b (fault a 5) (cond c (Ok x) (fault a 6))) ≡ failed g → g ≡ fault_at a (cond b 5 6)
two_failed true c x a g h = cc
two_failed false true x a g h = absurd cc
two_failed false false x a g h = cc

-- a solid amount and an end, where nothing is due
solid_end : (s : Rows) (a u number : ℕ) → s.due ≡ None → is_filled s.row.phase ≡ true
    → run (readings.Within s) (line a (forms.Solid u) ∷ line a (forms.End number) ∷ [])
    ≡ (structure.within (structure.end_innermost
    (record {
      row = open_at s.row.at (touched s.row.phase a) s.row.boxes;
      outer = s.outer;
      bottoms = s.bottoms;
      due = None;
      solid = Some u;
    }) a number s.row.boxes) >>= λ r. Ok r)
solid_end s a u number none filled =
    rw (none, filled_touched s.row.phase a, filled)
    (by_result
    (structure.within (structure.end_innermost
    (record {
      row = open_at s.row.at (touched s.row.phase a) s.row.boxes;
      outer = s.outer;
      bottoms = s.bottoms;
      due = None;
      solid = Some u;
    }) a number s.row.boxes)))
  where
    by_result : (r : Result Reading Fault) → (r >>= λ next. run next []) ≡ (r >>= λ r. Ok r)
    by_result (Ok r) = refl
    by_result (Err f) = refl

abbrev Tried : List Line → ℕ → ℕ → ℕ → List Line
Tried front a u number = front ++ (line a (forms.Solid u) ∷ line a (forms.End number) ∷ [])

tried_run : (front : List Line) (s : Rows) (a u number : ℕ) → run readings.Opening front ≡ passed (readings.Within s)
    → run readings.Opening (Tried front a u number)
    ≡ run (readings.Within s) (line a (forms.Solid u) ∷ line a (forms.End number) ∷ [])
tried_run front s a u number h = in_turn readings.Opening front (line a (forms.Solid u) ∷ line a (forms.End number) ∷ [])
    ∙ rw h refl

end_in_tail : (front : List Line) (s : Rows) (a number : ℕ) (g : Fault) (bottoms : List ℕ)
    → run readings.Opening front ≡ passed (readings.Within s) → bottoms ≡ s.bottoms → s.due ≡ None → is_filled s.row.phase ≡ true
    → (boxes : List ℕ) → s.row.boxes ≡ boxes → structure.within (structure.end_innermost s a number boxes) ≡ failed g
    → EndFault front bottoms a number g
end_in_tail front s a number g bottoms h same none filled [] is e =
    let u = slice_index bottoms number in
    let e' : fault {A = Reading} a 6 ≡ Err g = e in
    let stuck : run readings.Opening (Tried front a u number) ≡ failed (fault_at a 6) = tried_run front s a u number h
    ∙ solid_end s a u number none filled ∙ rw is refl in
    inr (fault_is a 6 g e', no_front (Tried front a u number) (fault_at a 6) stuck)
end_in_tail front s a number g bottoms h same none filled (b ∷ boxes) is e = by_name (eqb b number) refl e
  where
    u : ℕ
    u = slice_index bottoms number

    by_clone : (v : Bool) → eqb b number ≡ true
        → structure.within
        (cond v (Ok (record {
          row = open_at s.row.at s.row.phase boxes;
          outer = s.outer;
          bottoms = s.bottoms;
          due = None;
          solid = None;
        })) (fault a 8)) ≡ failed g → EndFault front bottoms a number g
    by_clone true named e = absurd cc
    by_clone false named e =
        let e' : fault {A = Reading} a 8 ≡ Err g = e in
        let next = within (open_at s.row.at (touched s.row.phase a) boxes) s.outer s.bottoms None None in
        let goes : run readings.Opening (Tried front a (slice_index bottoms number) number) ≡ passed next =
        tried_run front s a (slice_index bottoms number) number h
        ∙ solid_end s a (slice_index bottoms number) number none filled
        ∙ rw (is, named, same, cloned_zero (slice_index s.bottoms number)) refl in
        inl (fault_is a 8 g e', is_front (Tried front a (slice_index bottoms number) number) next goes)

    by_name : (v : Bool) → eqb b number ≡ v
        → structure.within
        (cond v (cond (is_cloned (bottom_of s.bottoms number) s.solid)
        (Ok (record {
          row = open_at s.row.at s.row.phase boxes;
          outer = s.outer;
          bottoms = s.bottoms;
          due = None;
          solid = None;
        })) (fault a 8)) (fault a 6)) ≡ failed g → EndFault front bottoms a number g
    by_name true named e = by_clone (is_cloned (bottom_of s.bottoms number) s.solid) named e
    by_name false named e =
        let e' : fault {A = Reading} a 6 ≡ Err g = e in
        let stuck : run readings.Opening (Tried front a (slice_index bottoms number) number) ≡ failed (fault_at a 6) =
        tried_run front s a (slice_index bottoms number) number h
        ∙ solid_end s a (slice_index bottoms number) number none filled ∙ rw (is, named) refl in
        inr (fault_is a 6 g e', no_front (Tried front a (slice_index bottoms number) number) (fault_at a 6) stuck)

end_fails : (front : List Line) (s : Rows) (a number : ℕ) (g : Fault) (bottoms : List ℕ)
    → run readings.Opening front ≡ passed (readings.Within s) → bottoms ≡ s.bottoms → s.due ≡ None
    → (t : Bool) → is_filled s.row.phase ≡ t
    → structure.within (cond t (structure.end_innermost s a number s.row.boxes) (fault a 5)) ≡ failed g
    → MatchBool t (EndFault front bottoms a number g) (g ≡ fault_at a 5)
end_fails front s a number g bottoms h same none true is e =
    end_in_tail front s a number g bottoms h same none is s.row.boxes refl e
end_fails front s a number g bottoms h same none false is e = let e' : fault {A = Reading} a 5 ≡ Err g = e in fault_is a 5 g e'

-- why a row may not end
opens_end : (nested : Bool) (b : Line) (f : Form) (first : Option Line) (a : ℕ) → Opens nested f
    → end_fault b f first a ≡ cond nested (fault_at b.at 6) (end_behind a first)
opens_end false b (forms.First n w st available auto) first a h = refl
opens_end true b (forms.Row n w st x) first a h = refl
opens_end false b (forms.Row n w st x) first a h = absurd h
opens_end false b forms.Flow first a h = absurd h
opens_end false b (forms.Margin u) first a h = absurd h
opens_end false b (forms.Solid u) first a h = absurd h
opens_end false b forms.Wall first a h = absurd h
opens_end false b (forms.Start number x w avoid top bottom) first a h = absurd h
opens_end false b (forms.End number) first a h = absurd h
opens_end false b (forms.Atom u) first a h = absurd h
opens_end false b (forms.Break level) first a h = absurd h
opens_end false b forms.Close first a h = absurd h
opens_end true b _ first a h = absurd h

break_end : (b : Line) (f : Form) (first : Option Line) (a : ℕ) → IsBreak f → end_fault b f first a ≡ fault_at b.at 5
break_end b (forms.Break level) first a h = refl
break_end b _ first a h = absurd h

item_end : (b : Line) (f : Form) (first : Option Line) (a : ℕ) → is_item_end f ≡ true → end_fault b f first a ≡ fault_at a 6
item_end b (forms.Atom u) first a h = refl
item_end b forms.Close first a h = refl
item_end b _ first a h = absurd cc

abbrev some_fault : Fault → Option Fault
some_fault f = Some f

same_fault : (f g : Fault) → some_fault f ≡ Some g → g ≡ f
same_fault f g h = cc

same_line : (a b : Line) → Some a ≡ Some b → a ≡ b
same_line a b h = cc

same_base : (n : Seen) (a b : Line) → n.base ≡ Some a → n.base ≡ Some b → a ≡ b
same_base n a b h k = same_line a b (sym h ∙ k)

boxes_fail : (boxes : List ℕ) (a : ℕ) (g : Fault) → structure.boxes_fault boxes a ≡ Some g → g ≡ fault_at a 6
boxes_fail [] a g h = absurd cc
boxes_fail (b ∷ boxes) a g h = same_fault (fault_at a 6) g h

end_phase : (phase : Phase) (at : ℕ) (boxes : List ℕ) (nested : Bool) (a : ℕ) (n : Seen) (b : Line) (g : Fault)
    → Placed phase nested at n → n.base ≡ Some b
    → structure.fault_in_phase phase (open_at at phase boxes) nested a ≡ Some g → g ≡ end_fault b b.form n.first a
end_phase phases.Empty at boxes true a n b g h is e =
    let k = same_base n h.0 b h.1 is in
    let P : Line → Type 0 = λ l. g ≡ end_fault l l.form n.first a in
    subst P k (same_fault (fault_at at 6) g e ∙ ap (λ (m : ℕ). fault_at m 6) (sym h.3)
    ∙ sym (opens_end true h.0 h.0.form n.first a h.4))
end_phase phases.Empty at boxes false a n b g h is e = absurd cc
end_phase (phases.Leading c) at boxes true a n b g h is e =
    let k = same_base n h.0 b h.2 is in
    let P : Line → Type 0 = λ l. g ≡ end_fault l l.form n.first a in
    subst P k (same_fault (fault_at at 6) g e ∙ ap (λ (m : ℕ). fault_at m 6) (sym h.5)
    ∙ sym (opens_end true h.0 h.0.form n.first a h.6))
end_phase (phases.Leading c) at boxes false a n b g h is e =
    let k = same_base n h.0 b h.2 is in
    let P : Line → Type 0 = λ l. g ≡ end_fault l l.form n.first a in
    subst P k (same_fault (fault_at c 5) g e ∙ ap (λ (m : ℕ). fault_at m 5) (sym h.4) ∙ ap (end_behind a) (sym h.3)
    ∙ sym (opens_end false h.0 h.0.form n.first a h.6))
end_phase phases.Filled at boxes nested a n b g h is e =
    let k = same_base n h.0 b h.1 is in
    let P : Line → Type 0 = λ l. g ≡ end_fault l l.form n.first a in
    subst P k (boxes_fail boxes a g e ∙ sym (item_end h.0 h.0.form n.first a h.2))
end_phase (phases.Behind c) at boxes nested a n b g h is e =
    let k = same_base n h.0 b h.1 is in
    let P : Line → Type 0 = λ l. g ≡ end_fault l l.form n.first a in
    subst P k (same_fault (fault_at c 5) g e ∙ ap (λ (m : ℕ). fault_at m 5) (sym h.2)
    ∙ sym (break_end h.0 h.0.form n.first a h.3))

unless_failed : (o : Option Fault) (x : Reading) (g : Fault) → unless o (Ok x) ≡ failed g → o ≡ Some g
unless_failed None x g h = absurd cc
unless_failed (Some f) x g h = let same : f ≡ g = cc in ap some_fault same

close_fails : (s : Rows) (n : Seen) (b : Line) (a : ℕ) (g : Fault) → (outer : List OpenRow)
    → Placed s.row.phase (is_nested outer) s.row.at n → n.base ≡ Some b → structure.close_in outer s a ≡ failed g
    → g ≡ end_fault b b.form n.first a
close_fails s n b a g [] h is e = end_phase s.row.phase s.row.at s.row.boxes false a n b g h is (unless_failed _ _ g e)
close_fails s n b a g (o ∷ os) h is e = end_phase s.row.phase s.row.at s.row.boxes true a n b g h is (unless_failed _ _ g e)

rows_fault : (front : List Line) (s : Rows) (n : Seen) (b : Line) (a : ℕ) (f : Form) (g : Fault)
    → run readings.Opening front ≡ passed (readings.Within s) → Known s n → n.base ≡ Some b
    → is_item_end b.form ≡ is_filled s.row.phase → s.due ≡ None
    → step s a f ≡ failed g → RowsFault front n b a f g
rows_fault front s n b a forms.Flow g h k is items none e = let e' : fault {A = Reading} a 5 ≡ Err g = e in fault_is a 5 g e'
rows_fault front s n b a (forms.First c w st available auto) g h k is items none e = let e' : fault {A = Reading} a 5 ≡ Err g = e
    in fault_is a 5 g e'
rows_fault front s n b a (forms.Margin u) g h k is items none e = absurd cc
rows_fault front s n b a (forms.Solid u) g h k is items none e = absurd cc
rows_fault front s n b a forms.Wall g h k is items none e = absurd cc
rows_fault front s n b a (forms.Start number x w avoid top bottom) g h k is items none e =
    rw items (two_failed (is_filled s.row.phase) (eqb number (length s.bottoms)) _ a g e)
rows_fault front s n b a (forms.End number) g h k is items none e =
    rw items (end_fails front s a number g n.bottoms h k.bottoms none (is_filled s.row.phase) refl e)
rows_fault front s n b a (forms.Atom u) g h k is items none e = one_failed (is_filled s.row.phase) _ (fault_at a 5) g e
rows_fault front s n b a (forms.Row c w st x) g h k is items none e = one_failed (is_filled s.row.phase) _ (fault_at a 5) g e
rows_fault front s n b a (forms.Break level) g h k is items none e = other_failed (is_filled s.row.phase) _ (fault_at a 5) g e
rows_fault front s n b a forms.Close g h k is items none e = close_fails s n b a g s.outer k.placed is e

first_fails : (a : ℕ) (f : Form) (g : Fault) → take_first a f ≡ failed g → g ≡ fault_at a 3
first_fails a forms.Flow g e = absurd cc
first_fails a _ g e = fault_is {A = Reading} a 3 g e

second_fails : (a : ℕ) (f : Form) (g : Fault) → take_second a f ≡ failed g → g ≡ fault_at a 5
second_fails a (forms.First c w st available auto) g e = absurd cc
second_fails a _ g e = fault_is {A = Reading} a 5 g e

-- a start whose amount is due
due_fails : (d : Due) (s : Rows) (a : ℕ) (f : Form) (g : Fault) → (b : Bool) → is_solid d.top (Some f) ≡ b
    → unless (cond b None (Some (fault_at d.at 8))) (step s a f) ≡ failed g → g ≡ fault_at d.at 8
due_fails d s a f g false is e = let e' : fault {A = Reading} d.at 8 ≡ Err g = e in fault_is d.at 8 g e'
due_fails d s a f g true is e =
    let same = is_some_solid d.top f is in
    let no : step s a (forms.Solid d.top) ≡ failed g = subst (λ (x : Form). step s a x ≡ failed g) same e in
    absurd cc

not_over : (front : List Line) (s : Rows) → run readings.Opening front ≡ passed (readings.Within s) → IsOver front → ⊥
not_over front s h over = let e = file_is_read front over.0 over.1
    in let two : passed readings.Ended ≡ passed (readings.Within s) = sym e ∙ h in cc

within_fault : (front : List Line) (s : Rows) (n : Seen) (l : Line) (g : Fault)
    → run readings.Opening front ≡ passed (readings.Within s) → Known s n → (d : Option Due) → s.due ≡ d
    → unless (fault_of_due d (Some l.form)) (step s l.at l.form) ≡ failed g → DueFault d front n l g
within_fault front s n l g h k (Some d) is e = due_fails d s l.at l.form g (is_solid d.top (Some l.form)) refl e
within_fault front s n l g h k None is e =
    let b = base_of s.row.phase (is_nested s.outer) s.row.at n k.placed in
    rw (b.is, b.no_flow) (inr (not_over front s h, rows_fault front s n b.base l.at l.form g h k b.is b.items is e))

line_fault : (front : List Line) (r : Reading) (n : Seen) (l : Line) (g : Fault) → run readings.Opening front ≡ passed r
    → Knows r n → take r l ≡ failed g → DueFault n.due front n l g
line_fault front readings.Opening n l g h k e = rw k (first_fails l.at l.form g e)
line_fault front readings.Heading n l g h k e = rw (k.3, k.1, k.2) (second_fails l.at l.form g e)
line_fault front (readings.Within s) n l g h k e =
    subst (λ (d : Option Due). DueFault d front n l g) (sym k.due) (within_fault front s n l g h k s.due refl e)
line_fault front readings.Ended n l g h k e =
    let e' : fault {A = Reading} l.at 7 ≡ Err g = e in
    rw (k.3, k.1, k.2) (inl (read_is_file front h, fault_is l.at 7 g e'))

-- the fault of a line that may not follow, by the grammar
pub why : (front : List Line) (r : Reading) (l : Line) (g : Fault) → run readings.Opening front ≡ passed r → take r l ≡ failed g
    → LineFault front l g
why front r l g h e = line_fault front r (seen front) l g h (knows_run front readings.Opening r nothing_seen refl h) e

pub one_more : (front : List Line) (r : Reading) (l : Line) → run readings.Opening front ≡ passed r
    → run readings.Opening (front ++ l ∷ []) ≡ take r l
one_more front r l h = in_turn readings.Opening front (l ∷ []) ∙ rw h (by_result (take r l))
  where
    by_result : (t : Result Reading Fault) → (t >>= λ next. run next []) ≡ t
    by_result (Ok x) = refl
    by_result (Err f) = refl

-- what is known after these lines
abbrev pub BaseIs : Reading → Option Line → Type 0
BaseIs readings.Opening base = base ≡ None
BaseIs readings.Heading base = (b : Line) × (base ≡ Some b)
BaseIs (readings.Within s) base = (b : Line) × (base ≡ Some b)
BaseIs readings.Ended base = (b : Line) × (base ≡ Some b)

due_known : (r : Reading) (n : Seen) → Knows r n → n.due ≡ structure.what_is_due r
due_known readings.Opening n h = ap (λ (m : Seen). m.due) h
due_known readings.Heading n h = h.3
due_known (readings.Within s) n h = h.due
due_known readings.Ended n h = h.3

base_known : (r : Reading) (n : Seen) → Knows r n → BaseIs r n.base
base_known readings.Opening n h = ap (λ (m : Seen). m.base) h
base_known readings.Heading n h = (h.0, h.1)
base_known (readings.Within s) n h = let b = base_of s.row.phase (is_nested s.outer) s.row.at n h.placed in (b.base, b.is)
base_known readings.Ended n h = (h.0, h.1)

pub due_behind_lines : (front : List Line) (r : Reading) → run readings.Opening front ≡ passed r
    → (seen front).due ≡ structure.what_is_due r
due_behind_lines front r h = due_known r (seen front) (knows_run front readings.Opening r nothing_seen refl h)

pub base_behind_lines : (front : List Line) (r : Reading) → run readings.Opening front ≡ passed r → BaseIs r (seen front).base
base_behind_lines front r h = base_known r (seen front) (knows_run front readings.Opening r nothing_seen refl h)
