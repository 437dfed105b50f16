-- Where a column ends that has no room for an item.
use Rattle.std.proofs.Common.{◌≡◌, ℕ, ◌+◌, ◌-◌, ◌<◌, ◌≤◌, Bool, true, false, cond, List, [], ◌∷◌, map, length, Option, Some}
use Rattle.std.proofs.Common.{None, refl, sym, subst, ◌∙◌, ap, arith}
use Rattle.std.specs.Prelude.{IfSome, nat_lt, nat_le, not, ◌&&◌, ◌||◌, ◌==◌, unwrap_or, is_none, is_some}
use Rattle.std.proofs.lemmas.Bool.Decides.{nat_tests}
use Rattle.mc_base.specs.declared.level.Level.{Level}
use Rattle.flow_data.specs.declared.data.Edge.{Edge}
use Rattle.flow_list.specs.Column.{ColumnLine, Filled, Place, Step, best, bounds_at, deeper, inner_lines}
use Rattle.flow_list.specs.Column.{inside, inside_place, is_cut, is_forced, rank, room, whole_place}
use Rattle.flow_list.specs.Folds.{shortage}
use Rattle.flow_list.specs.Tokens.{Token}
use Rattle.inner_rows.specs.declared.inner.Filled.{Filled as Made}
use Rattle.column_walk.specs.declared.deciding.Decision.{Decision}
use Rattle.column_walk.specs.declared.deciding.FilledRow.{FilledRow}
use Rattle.column_walk.specs.declared.endings.Ending.{Ending}
use Rattle.column_walk.specs.declared.endings.Here.{Here}
use Rattle.column_walk.specs.declared.endings.Spot.{Spot}
use Rattle.column_walk.specs.Deciding.{IsStopped, IsTold, fills_to, filled_at, filled_row, first_line}
use Rattle.column_walk.specs.Endings.{considered, place_opt, spot_place, step_of, whole_of}
use Rattle.column_walk.specs.Stopping.{chosen, chosen_of, takes_inside}

-- ---- which place is taken

-- an item that is no row
chosen-none : (b : Option Place) (avoids : Bool) (s : Step) (h : ℕ) → chosen b avoids s h None ≡ unwrap_or b (whole_place s)
chosen-none None avoids s h = refl
chosen-none (Some p) avoids s h = refl

-- whether a row is filled
abbrev pub fills_row : Option Place → Step → ℕ → Bool
fills_row b s h = nat_lt (room s h) s.height && (nat_le (s.y + s.bottoms) h || is_none b)

-- a row that isn't filled
not-filled : (b : Option Place) (avoids : Bool) (s : Step) (h : ℕ) (made : Filled) → fills_row b s h ≡ false
    → chosen b avoids s h (Some made) ≡ unwrap_or b (whole_place s)
not-filled b avoids s h made e = go b (nat_lt (room s h) s.height) (nat_le (s.y + s.bottoms) h) refl refl e
  where
    go : (b : Option Place) (lt begins : Bool) → nat_lt (room s h) s.height ≡ lt → nat_le (s.y + s.bottoms) h ≡ begins
        → (lt && (begins || is_none b)) ≡ false → chosen b avoids s h (Some made) ≡ unwrap_or b (whole_place s)
    go None true true l y e = absurd (cc)
    go None true false l y e = absurd (cc)
    go None false true l y e = rw (l, y) refl
    go None false false l y e = rw (l, y) refl
    go (Some p) true true l y e = absurd (cc)
    go (Some p) true false l y e = rw (l, y) refl
    go (Some p) false true l y e = rw (l, y) refl
    go (Some p) false false l y e = rw (l, y) refl

pub not-cut : (b : Option Place) (s : Step) (h : ℕ) → fills_row b s h ≡ false → is_cut s h ≡ false
not-cut b s h e = go b (nat_lt (room s h) s.height) (nat_le (s.y + s.bottoms) h) e
  where
    go : (b : Option Place) (lt begins : Bool) → (lt && (begins || is_none b)) ≡ false → (begins && lt) ≡ false
    go b true true e = absurd (cc)
    go b true false e = refl
    go b false true e = refl
    go b false false e = refl

-- a row that is filled
is-filled : (b : Option Place) (avoids : Bool) (s : Step) (h : ℕ) (made : Filled) → fills_row b s h ≡ true →
    chosen b avoids s h (Some made) ≡ chosen_of b (nat_le (s.y + s.bottoms) h && not made.overflow)
    (inside_place avoids s (room s h) made)
is-filled b avoids s h made e = go b (nat_lt (room s h) s.height) (nat_le (s.y + s.bottoms) h) made.overflow refl refl refl e
  where
    go : (b : Option Place) (lt begins over : Bool) → nat_lt (room s h) s.height ≡ lt → nat_le (s.y + s.bottoms) h ≡ begins
        → made.overflow ≡ over → (lt && (begins || is_none b)) ≡ true →
        chosen b avoids s h (Some made) ≡ chosen_of b (nat_le (s.y + s.bottoms) h && not made.overflow)
        (inside_place avoids s (room s h) made)
    go b false begins over l y o e = absurd (cc)
    go None true true true l y o e = rw (l, y, o) refl
    go None true true false l y o e = rw (l, y, o) refl
    go None true false over l y o e = rw (l, y) refl
    go (Some p) true true true l y o e = rw (l, y, o) refl
    go (Some p) true true false l y o e = rw (l, y, o) refl
    go (Some p) true false over l y o e = absurd (cc)

-- it begins within the height just where it is cut
pub cut-begins : (b : Option Place) (s : Step) (h : ℕ) → fills_row b s h ≡ true → is_cut s h ≡ nat_le (s.y + s.bottoms) h
cut-begins b s h e = go (nat_lt (room s h) s.height) (nat_le (s.y + s.bottoms) h) e
  where
    go : (lt begins : Bool) → (lt && (begins || is_none b)) ≡ true → (begins && lt) ≡ begins
    go true true e = refl
    go true false e = refl
    go false begins e = absurd (cc)

pub too-little : (b : Option Place) (s : Step) (h : ℕ) → fills_row b s h ≡ true → nat_lt (room s h) s.height ≡ true
too-little b s h e = go (nat_lt (room s h) s.height) (nat_le (s.y + s.bottoms) h || is_none b) e
  where
    go : (lt x : Bool) → (lt && x) ≡ true → lt ≡ true
    go true x e = refl
    go false x e = absurd (cc)

-- ---- which row is filled

-- an end before the stop, or before it and the items before it, fills no row
abbrev pub IsSeamTo : ℕ → Option Place → Type 0
IsSeamTo k None = Unit {0}
IsSeamTo k (Some p) = (e : ℕ) × (e ≤ k) × (p.end ≡ e ∷ [])

pub seam-to : (k : ℕ) (best : Option Ending) → IfSome best (λ e. e.item ≤ k) → IsSeamTo k (place_opt best)
seam-to k None le = tt
seam-to k (Some e) le = (e.item, le, refl)

and-false : (x : Bool) → (x && false) ≡ false
and-false true = refl
and-false false = refl

pub at-seam : (h : ℕ) (s : Step) (e : ℕ) → e ≤ s.item → fills_to h (Some s) (e ∷ []) ≡ false
at-seam h s e le = go (s.item == (e - 1)) (is_some s.row) (nat_lt (room s h) s.height) (e == 0) refl refl
  where
    go : (same row low first : Bool) → (s.item == (e - 1)) ≡ same → (e == 0) ≡ first
        → (((same && row) && low) && not first) ≡ false
    go same row low true i z = and-false ((same && row) && low)
    go true row low false i z = absurd (grind (arith, nat_tests))
    go false row low false i z = refl

behind : (h : ℕ) (s : Step) → fills_to h (Some s) ((s.item + 1) ∷ []) ≡ (is_some s.row && nat_lt (room s h) s.height)
behind h s =
    let same : (s.item == (s.item + 1 - 1)) ≡ true = grind (arith, nat_tests) in
    let last : (s.item + 1 == 0) ≡ false = grind (arith, nat_tests) in
    rw (same, last) (and-true (is_some s.row && nat_lt (room s h) s.height))
  where
    and-true : (x : Bool) → (x && true) ≡ x
    and-true true = refl
    and-true false = refl

abbrev pub row_at : Bool → Option (ℕ × Token) → ℕ → ℕ → Option FilledRow
row_at taken row item height = cond taken (filled_row row item height) None

-- the best seam, or the item as a whole
none-filled : (h : ℕ) (s : Step) (b : Option Place) → IsSeamTo s.item b
    → (b ≡ None → (is_some s.row && nat_lt (room s h) s.height) ≡ false) → (end : Token) →
    end ≡ (unwrap_or b (whole_place s)).end → fills_to h (Some s) end ≡ false
none-filled h s None seam alone end is = rw is (behind h s ∙ alone refl)
none-filled h s (Some p) (e, le, at) alone end is = rw (is, at) (at-seam h s e le)

no-row : (h : ℕ) (s : Step) (end : Token) → fills_to h (Some s) end ≡ false → None ≡ filled_at h (Some s) end
no-row h s end f = rw f refl

row-some : (taken : Bool) (row : Option (ℕ × Token)) (item height : ℕ) → is_some row ≡ true
    → is_some (row_at taken row item height) ≡ taken
row-some true (Some r) item height some = refl
row-some true None item height some = absurd (cc)
row-some false row item height some = refl

-- a place within the row
in-row : (h : ℕ) (s : Step) (avoids : Bool) (made : Filled) → is_some s.row ≡ true → nat_lt (room s h) s.height ≡ true
    → 0 < length made.end →
    fills_to h (Some s) (inside_place avoids s (room s h) made).end ≡ true
in-row h s avoids made row low some = go made.at_end made.end some
  where
    go : (at_end : Bool) (end : Token) → 0 < length end
        → fills_to h (Some s) (cond at_end ((s.item + 1) ∷ []) (s.item ∷ end)) ≡ true
    go true end some = behind h s ∙ rw (row, low) refl
    go false [] some = absurd (omega arith)
    go false (j ∷ rest) some = refl

taken-fills : (h : ℕ) (s : Step) (b : Option Place) (good : Bool) (p : Place) → IsSeamTo s.item b
    → fills_to h (Some s) p.end ≡ true →
    fills_to h (Some s) (chosen_of b good p).end ≡ takes_inside b good p
taken-fills h s None true p seam inside = inside
taken-fills h s None false p seam inside = inside
taken-fills h s (Some b) true p (e, le, at) inside = go (nat_le p.level b.level)
  where
    go : (t : Bool) → fills_to h (Some s) (cond t p b).end ≡ t
    go true = inside
    go false = rw at (at-seam h s e le)
taken-fills h s (Some b) false p (e, le, at) inside = rw at (at-seam h s e le)

-- ---- the best place so far is a seam before the item

seam-considered : (k : ℕ) (b l : Option Place) (level : Level) → IsSeamTo k b → IsSeamTo k l → IsSeamTo k (considered b l level)
seam-considered k b None level sb sl = sb
seam-considered k None (Some p) level sb sl = sl
seam-considered k (Some b) (Some p) level sb sl = go (nat_le (rank level) b.level)
  where
    go : (t : Bool)
        → IsSeamTo k (Some (cond t (record { level = rank level; end = p.end; extent = p.extent; overflow = p.overflow }) b))
    go true = sl
    go false = sb

seam-back : (k : ℕ) (new : Option Ending) → IsSeamTo k (place_opt new) → IfSome new (λ e. e.item ≤ k)
seam-back k None seam = tt
seam-back k (Some e) (x, le, is) = let same : e.item ≡ x = cc in omega arith

pub best-before : (k : ℕ) (best last new : Option Ending) (level : Level)
    → place_opt new ≡ considered (place_opt best) (place_opt last) level → IfSome best (λ e. e.item ≤ k) →
    IfSome last (λ e. (e.item ≡ k) × (e.overflow ≡ false)) → IfSome new (λ e. e.item ≤ k)
best-before k best last new level is b l =
    let P : Option Place → Type 0 = λ p. IsSeamTo k p in
    seam-back k new (subst P (sym is)
    (seam-considered k (place_opt best) (place_opt last) level (seam-to k best b) (seam-to k last (at-last last l))))
  where
    at-last : (last : Option Ending) → IfSome last (λ e. (e.item ≡ k) × (e.overflow ≡ false)) → IfSome last (λ e. e.item ≤ k)
    at-last None l = tt
    at-last (Some e) l = let i = l.0 in omega arith

pub best-later : (k : ℕ) (best : Option Ending) → IfSome best (λ e. e.item ≤ k) → IfSome best (λ e. e.item ≤ k + 1)
best-later k None le = tt
best-later k (Some e) le = omega arith

-- ---- decisions

stopped-of : (b : Option Place) (avoids : Bool) (s : Step) (h : ℕ) (filled : Option Filled) (spot : Spot) (short : ℕ)
    (lines : List ColumnLine) (row : Option FilledRow) (out : Decision) →
    spot_place spot ≡ chosen b avoids s h filled → is_forced spot.level ≡ false → Some short ≡ shortage h (bounds_at s h filled) →
    map deeper lines ≡ inner_lines (is_cut s h) filled → row ≡ filled_at h (Some s) spot.end
    → is_some row ≡ fills_to h (Some s) spot.end → IsTold spot (Some s.item) (Some short) lines row out →
    IsStopped b avoids s h filled out
stopped-of b avoids s h filled spot short lines row out place unforced shorts inner rows wholes told = record {
  end = told.end ∙ ap (λ (p : Place). p.end) place;
  level = record {
    ranked = ap rank told.level ∙ ap (λ (p : Place). p.level) place;
    unforced = ap is_forced told.level
        ∙ unforced;
  };
  overflow = told.overflow ∙ ap (λ (p : Place). p.overflow) place;
  extent = told.extent ∙ ap (λ (p : Place). p.extent) place;
  short = told.short_is ∙ shorts;
  lines = told.lines ∙ ap (λ o. first_line o spot.end (Some s.item) ∷ map deeper lines) (sym told.overflow)
      ∙ ap (λ e. first_line out.overflow e (Some s.item) ∷ map deeper lines) (sym told.end)
      ∙ ap (λ ls. first_line out.overflow out.end (Some s.item) ∷ ls) inner;
  fills = told.filled_is ∙ rows ∙ ap (λ e. filled_at h (Some s) e) (sym told.end);
  whole = ap is_some told.filled_is ∙ wholes ∙ ap (λ e. fills_to h (Some s) e) (sym told.end);
}

-- at an atom
pub atom-stopped : (here : Here) (h : ℕ) (best : Option Ending) → IfSome best (λ e. e.item ≤ here.item) → (spot : Spot) →
    spot_place spot ≡ unwrap_or (place_opt best) (whole_of here) → is_forced spot.level ≡ false → (out : Decision) →
    IsTold spot (Some here.item) (Some (here.need - h)) [] None out → (tail : List Edge)
    → IsStopped (place_opt best) here.avoids (step_of here None tail) h None out
atom-stopped here h best before spot place unforced out told tail =
    let s = step_of here None tail in
    let f = none-filled h s (place_opt best) (seam-to here.item best before) (λ n. refl) spot.end (ap (λ (p : Place). p.end) place) in
    stopped-of (place_opt best) here.avoids s h None spot (here.need - h) [] None out
    (place ∙ sym (chosen-none (place_opt best) here.avoids s h)) unforced refl refl (no-row h s spot.end f) (sym f) told

-- at a row that isn't filled
pub row-stopped : (here : Here) (h : ℕ) (best : Option Ending) → IfSome best (λ e. e.item ≤ here.item) → (spot : Spot) →
    spot_place spot ≡ unwrap_or (place_opt best) (whole_of here) → is_forced spot.level ≡ false
    → (out : Decision) (short : ℕ) (made : Filled) (r : ℕ × Token) (tail : List Edge) →
    fills_row (place_opt best) (step_of here (Some r) tail) h ≡ false
    → Some short ≡ shortage h (bounds_at (step_of here (Some r) tail) h (Some made)) →
    IsTold spot (Some here.item) (Some short) [] None out
    → IsStopped (place_opt best) here.avoids (step_of here (Some r) tail) h (Some made) out
row-stopped here h best before spot place unforced out short made r tail unfilled shorts told =
    let s = step_of here (Some r) tail in
    let f = none-filled h s (place_opt best) (seam-to here.item best before) (λ n. alone (place_opt best) n unfilled) spot.end
    (ap (λ (p : Place). p.end) place) in
    stopped-of (place_opt best) here.avoids s h (Some made) spot short [] None out
    (place ∙ sym (not-filled (place_opt best) here.avoids s h made unfilled)) unforced shorts
    (let c = not-cut (place_opt best) s h unfilled in rw c refl) (no-row h s spot.end f) (sym f) told
  where
    alone : (b : Option Place) → b ≡ None → fills_row b (step_of here (Some r) tail) h ≡ false
        → nat_lt (room (step_of here (Some r) tail) h) here.height ≡ false
    alone None n e = go (nat_lt (room (step_of here (Some r) tail) h) here.height) (nat_le (here.y + here.bottoms) h) e
      where
        go : (lt begins : Bool) → (lt && (begins || true)) ≡ false → lt ≡ false
        go true true e = absurd (cc)
        go true false e = absurd (cc)
        go false begins e = refl
    alone (Some p) n e = absurd (cc)

-- in a row that was filled
pub inner-stopped : (b : Option Place) (avoids : Bool) (s : Step) (h : ℕ) (made : Filled) (filled : Made) → IsSeamTo s.item b
    → is_some s.row ≡ true → fills_row b s h ≡ true →
    filled.overflow ≡ made.overflow → filled.end ≡ made.end → filled.lines ≡ made.lines → 0 < length filled.end
    → (begins good taken : Bool) (inside spot : Spot) (short : ℕ) (lines : List ColumnLine) (row : Option FilledRow)
    (out : Decision) →
    begins ≡ nat_le (s.y + s.bottoms) h → good ≡ (begins && not filled.overflow)
    → spot_place inside ≡ inside_place avoids s (room s h) made → taken ≡ takes_inside b good (spot_place inside) →
    row ≡ row_at taken s.row s.item (room s h) → spot_place spot ≡ chosen_of b good (spot_place inside)
    → is_forced spot.level ≡ false →
    Some short ≡ shortage h (bounds_at s h (Some made)) → lines ≡ cond begins filled.lines []
    → IsTold spot (Some s.item) (Some short) lines row out → IsStopped b avoids s h (Some made) out
inner-stopped b avoids s h made filled seam some_row fills over end same_lines any begins good taken inside spot short lines row out
    begins_is good_is inside_is taken_is row_is spot_is unforced shorts lines_are told =
    let good_of : good ≡ (nat_le (s.y + s.bottoms) h && not made.overflow) = good_is
    ∙ ap (λ t. t && not filled.overflow) begins_is ∙ ap (λ o. nat_le (s.y + s.bottoms) h && not o) over in
    let place : spot_place spot ≡ chosen b avoids s h (Some made) =
    spot_is ∙ ap (λ g. chosen_of b g (spot_place inside)) good_of
    ∙ ap (λ p. chosen_of b (nat_le (s.y + s.bottoms) h && not made.overflow) p) inside_is
    ∙ sym (is-filled b avoids s h made fills) in
    let within : fills_to h (Some s) inside.end ≡ true =
    ap (λ (p : Place). fills_to h (Some s) p.end) inside_is
    ∙ in-row h s avoids made some_row (too-little b s h fills) (rw end at any) in
    let f : fills_to h (Some s) spot.end ≡ taken =
    ap (λ (p : Place). fills_to h (Some s) p.end) spot_is ∙ taken-fills h s b good (spot_place inside) seam within
    ∙ sym taken_is in
    stopped-of b avoids s h (Some made) spot short lines row out place unforced shorts
    (ap (map deeper) (lines_are ∙ ap (λ t. cond t filled.lines []) (begins_is ∙ sym (cut-begins b s h fills))
    ∙ ap (λ ls. cond (is_cut s h) ls []) same_lines) ∙ deeper-cut (is_cut s h))
    (row_is ∙ ap (λ t. row_at t s.row s.item (room s h)) (sym f))
    (ap is_some row_is ∙ row-some taken s.row s.item (room s h) some_row ∙ sym f) told
  where
    deeper-cut : (c : Bool) → map deeper (cond c made.lines []) ≡ cond c (map deeper made.lines) []
    deeper-cut true = refl
    deeper-cut false = refl

-- a row's uses count where it is filled
pub uses-unfilled : (b : Option Place) (s : Step) (h : ℕ) → fills_row b s h ≡ false
    → cond (is_none b) (nat_lt (room s h) s.height) (is_cut s h) ≡ false
uses-unfilled b s h e = go b (nat_lt (room s h) s.height) (nat_le (s.y + s.bottoms) h) e
  where
    go : (b : Option Place) (lt begins : Bool) → (lt && (begins || is_none b)) ≡ false
        → cond (is_none b) lt (begins && lt) ≡ false
    go None true true e = absurd (cc)
    go None true false e = absurd (cc)
    go None false begins e = refl
    go (Some p) true true e = absurd (cc)
    go (Some p) true false e = refl
    go (Some p) false true e = refl
    go (Some p) false false e = refl

pub uses-filled : (b : Option Place) (s : Step) (h : ℕ) → fills_row b s h ≡ true
    → cond (is_none b) (nat_lt (room s h) s.height) (is_cut s h) ≡ true
uses-filled b s h e = go b (nat_lt (room s h) s.height) (nat_le (s.y + s.bottoms) h) e
  where
    go : (b : Option Place) (lt begins : Bool) → (lt && (begins || is_none b)) ≡ true → cond (is_none b) lt (begins && lt) ≡ true
    go b false begins e = absurd (cc)
    go None true begins e = refl
    go (Some p) true true e = refl
    go (Some p) true false e = absurd (cc)
