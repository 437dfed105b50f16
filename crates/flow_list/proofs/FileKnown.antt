-- What is known of the lines of a flow file from one of them on, with the boxes that start before it.
use Rattle.std.proofs.Common.{◌≡◌, ℕ, suc, ◌<◌, ◌≤◌, List, [], ◌∷◌, ◌++◌, length, get_or, map, Bool, Option, None, refl, sym, ap}
use Rattle.std.proofs.Common.{◌∙◌, subst, arith, add-one, append_assoc}
use Rattle.std.specs.Prelude.{slice_index}
use Rattle.std.specs.List.{flat_map}
use Rattle.std.proofs.lemmas.List.{length_push, map_push, length-append, get_or_at, get_or_append_left, get_or-map}
use Rattle.flow_text.specs.declared.line.Line.{Line}
use Rattle.flow_text.specs.declared.line.Form.{Form}
use Rattle.flow_text.specs.declared.line.Form.TheVariants as forms
use Rattle.flow_text.specs.Grammar.{Rest, no_more, edge, place, atom, row, line, lines_of, Numbered, StartsCloned, solid_of}
use Rattle.flow_text.specs.Grammar.{EndsCloned}
use Rattle.flow_list.specs.Data.{BoxInfo, FlowsData}
use Rattle.flow_data.specs.Flows.{box_of, no_box}
use Rattle.flow_list.specs.FileFlows.{line_boxes, boxes_from}

-- the boxes that start in these lines
abbrev pub boxes_of_lines : List Line → List BoxInfo
boxes_of_lines lines = flat_map (λ (l : Line). line_boxes l.form) lines

abbrev pub boxes_after : List BoxInfo → Form → List BoxInfo
boxes_after boxes (forms.Start number x w avoid top bottom) =
    boxes ++ (record { x = x; w = w; avoid = avoid; top = top; bottom = bottom }) ∷ []
boxes_after boxes _ = boxes

abbrev pub box_bottom : BoxInfo → ℕ
box_bottom b = b.bottom

-- These boxes start before the lines, and `before` is the amount of the line before, where that is a solid amount.
pub record Known (d : FlowsData) (boxes : List BoxInfo) (before : Option ℕ) (lines : List Line) : Type 0 where
  pub whole : d.boxes ≡ boxes ++ boxes_of_lines lines
  pub numbered : Numbered (length boxes) lines
  pub starts : StartsCloned lines
  pub ends : EndsCloned (map box_bottom boxes) before lines

-- the same from after a line on
pub past_line : (d : FlowsData) (boxes : List BoxInfo) (before : Option ℕ) (a : ℕ) (f : Form) (lines : List Line)
    → Known d boxes before (line a f ∷ lines) → Known d (boxes_after boxes f) (solid_of f) lines
past_line d boxes before a (forms.Start number x w avoid top bottom) lines h =
    let box : BoxInfo = record { x = x; w = w; avoid = avoid; top = top; bottom = bottom } in
    let more : suc (length boxes) ≡ length (boxes ++ box ∷ []) = sym (length_push boxes box ∙ add-one (length boxes)) in
    record {
      whole = h.whole ∙ sym (append_assoc boxes (box ∷ []) (boxes_of_lines lines));
      numbered = subst (λ (k : ℕ). Numbered k lines) more h.numbered.1;
      starts = h.starts.1;
      ends = subst (λ (bottoms : List ℕ). EndsCloned bottoms None lines) (sym (map_push box_bottom boxes box)) h.ends.1;
    }
past_line d boxes before a _ lines h = record { whole = h.whole; numbered = h.numbered.1; starts = h.starts.1; ends = h.ends.1 }

more_boxes : (boxes : List BoxInfo) (f : Form) → length boxes ≤ length (boxes_after boxes f)
more_boxes boxes (forms.Start number x w avoid top bottom) =
    omega (arith, length_push boxes (record { x = x; w = w; avoid = avoid; top = top; bottom = bottom }))
more_boxes boxes _ = omega arith

-- the same from after what is left of a row on
pub record Behind (d : FlowsData) (boxes : List BoxInfo) (lines : List Line) : Type 0 where
  pub started : List BoxInfo
  pub before : Option ℕ
  pub more : length boxes ≤ length started
  pub known : Known d started before lines

pub past_rest : (d : FlowsData) (boxes : List BoxInfo) (before : Option ℕ) (rest : Rest) (after : List Line)
    → Known d boxes before (lines_of rest after) → Behind d boxes after
past_rest d boxes before no_more after h = record { started = boxes; before = before; more = omega arith; known = h }
past_rest d boxes before (edge l rest) after h =
    let r = past_rest d (boxes_after boxes l.form) (solid_of l.form) rest after
    (past_line d boxes before l.at l.form (lines_of rest after) h) in
    let m = more_boxes boxes l.form in
    record { started = r.started; before = r.before; more = omega arith; known = r.known }
past_rest d boxes before (place at level rest) after h =
    past_rest d boxes None rest after (past_line d boxes before at (forms.Break level) (lines_of rest after) h)
past_rest d boxes before (atom at height rest) after h =
    past_rest d boxes None rest after (past_line d boxes before at (forms.Atom height) (lines_of rest after) h)
past_rest d boxes before (row at n w step x content ended rest) after h =
    let behind : List Line = line ended forms.Close ∷ lines_of rest after in
    let c = past_rest d boxes None content behind
    (past_line d boxes before at (forms.Row n w step x) (lines_of content behind) h) in
    let r = past_rest d c.started None rest after
    (past_line d c.started c.before ended forms.Close (lines_of rest after) c.known) in
    record { started = r.started; before = r.before; more = omega arith; known = r.known }

-- what is known after a row within a row
pub past_row : (d : FlowsData) (boxes : List BoxInfo) (before : Option ℕ) (at n w step x : ℕ) (content : Rest) (ended : ℕ)
    (lines : List Line) → Known d boxes before
    (line at (forms.Row n w step x) ∷ lines_of content (line ended forms.Close ∷ lines)) →
    (started : List BoxInfo) × (length boxes ≤ length started) × Known d started None lines
past_row d boxes before at n w step x content ended lines h =
    let c = past_rest d boxes None content (line ended forms.Close ∷ lines)
    (past_line d boxes before at (forms.Row n w step x) (lines_of content (line ended forms.Close ∷ lines)) h) in
    (c.started, c.more, past_line d c.started c.before ended forms.Close lines c.known)

-- ---- what it says of boxes

pub started_so_far : (d : FlowsData) (boxes : List BoxInfo) (before : Option ℕ) (lines : List Line) → Known d boxes before lines
    → length boxes ≤ length d.boxes
started_so_far d boxes before lines h = rw h.whole (omega (arith, length-append boxes (boxes_of_lines lines)))

-- a start's box is the box of its number
pub box_of_start : (d : FlowsData) (boxes : List BoxInfo) (before : Option ℕ) (a number x w : ℕ) (avoid : Bool) (top bottom : ℕ)
    (lines : List Line) → Known d boxes before (line a (forms.Start number x w avoid top bottom) ∷ lines) →
    box_of d number ≡ record { x = x; w = w; avoid = avoid; top = top; bottom = bottom }
box_of_start d boxes before a number x w avoid top bottom lines h =
    ap (λ (bs : List BoxInfo). get_or bs number no_box) h.whole
    ∙ get_or_at boxes (record { x = x; w = w; avoid = avoid; top = top; bottom = bottom }) (boxes_of_lines lines) no_box
    number (sym h.numbered.0)

-- the lower amount of a box that starts before
pub bottom_so_far : (d : FlowsData) (boxes : List BoxInfo) (before : Option ℕ) (lines : List Line) → Known d boxes before lines
    → (b : ℕ) → b < length boxes → slice_index (map box_bottom boxes) b ≡ (box_of d b).bottom
bottom_so_far d boxes before lines h b lt =
    get_or-map box_bottom boxes b no_box 0 lt
    ∙ ap box_bottom (sym (ap (λ (bs : List BoxInfo). get_or bs b no_box) h.whole
    ∙ get_or_append_left boxes (boxes_of_lines lines) no_box b lt))

-- ---- at the beginning

pub boxes_of_rest : (rest : Rest) (after : List Line)
    → boxes_of_lines (lines_of rest after) ≡ boxes_from rest ++ boxes_of_lines after
boxes_of_rest no_more after = refl
boxes_of_rest (edge l rest) after = ap (λ (bs : List BoxInfo). line_boxes l.form ++ bs) (boxes_of_rest rest after)
    ∙ sym (append_assoc (line_boxes l.form) (boxes_from rest) (boxes_of_lines after))
boxes_of_rest (place at level rest) after = boxes_of_rest rest after
boxes_of_rest (atom at height rest) after = boxes_of_rest rest after
boxes_of_rest (row at n w step x content ended rest) after =
    boxes_of_rest content (line ended forms.Close ∷ lines_of rest after)
    ∙ ap (λ (bs : List BoxInfo). boxes_from content ++ bs) (boxes_of_rest rest after)
    ∙ sym (append_assoc (boxes_from content) (boxes_from rest) (boxes_of_lines after))
