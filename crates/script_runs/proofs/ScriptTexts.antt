-- The lines of a script are no longer than it, and what they put in is UTF-8.
use Rattle.std.proofs.Common.{◌≡◌, ℕ, zero, suc, ◌+◌, ◌<◌, ◌≤◌, ◌&&◌, ◌||◌, List, [], ◌∷◌, ◌++◌, length, take, drop, Bool, true, false}
use Rattle.std.proofs.Common.{Option, Some, None, Result, Ok, Err, eqb, nat_lt, cond, codes, refl, sym, ap, ◌∙◌, subst, arith}
use Rattle.std.proofs.Common.{length-append, length-drop, get_or, lit<, not, append_assoc, append-nil}
use Rattle.std.proofs.lemmas.List.{take_all}
use Rattle.std.proofs.Math.Utf8.{encode}
use Rattle.std.specs.Prelude.{IsUtf8, sum_by}
use Rattle.std.specs.List.{AllByRecursion}
use Rattle.std.specs.Str.{is_utf8}
use Rattle.std.specs.Str.Lossy.{utf8_valid_len, valid_len_up_to}
use Rattle.std.proofs.lemmas.List.Sums.{sum_by-cons}
use Rattle.std.proofs.lemmas.Str.{IsUtf8-from_is_utf8, IsUtf8-nil, IsUtf8-take, IsUtf8-drop, IsUtf8-append}
use Rattle.std.proofs.lemmas.Str.{IsCharBoundary-before_ascii, IsCharBoundary-after_ascii, IsCharBoundary-past_char}
use Rattle.mc_base.specs.declared.read_error.Fault.{Fault}
use Rattle.mc_base.specs.Reading.{◌>>=◌, fault}
use Rattle.mc_base.specs.SoundText.{sound_len}
use Rattle.edit_script.specs.declared.script.Edit.TheVariants as edits
use Rattle.edit_script.specs.declared.script.ScriptLine.{ScriptLine}
use Rattle.edit_script.specs.declared.script.Step.{Step}
use Rattle.edit_script.specs.declared.script.Step.TheVariants as steps
use Rattle.edit_script.specs.Lines.{Cut, cuts, begun, grown, ends_line, begins_feed, lines_of, mark_len}
use Rattle.edit_script.specs.Spelling.{spelled}
use Rattle.edit_script.specs.Steps.{step_of}
use Rattle.edit_script.specs.Script.{line_at, line_or_fault, steps_in, steps_of, as_refused}
use Rattle.edit_script.specs.Laws.{AStepIsWrittenSo}
use Rattle.script_runs.specs.Room.{step_bytes, line_bytes, StepIsUtf8, LineIsUtf8, ScriptsAreBounded}

-- ---- parts of a text in UTF-8

get_past : (front : List ℕ) (c : ℕ) (back : List ℕ) → get_or (front ++ c ∷ back) (length front) 0 ≡ c
get_past [] c back = refl
get_past (b ∷ front) c back = get_past front c back

drop_past : (front : List ℕ) (c : ℕ) (back : List ℕ) → drop (suc (length front)) (front ++ c ∷ back) ≡ back
drop_past [] c back = refl
drop_past (b ∷ front) c back = drop_past front c back

take_past : (front : List ℕ) (c : ℕ) (back : List ℕ) → take (length front) (front ++ c ∷ back) ≡ front
take_past [] c back = refl
take_past (b ∷ front) c back = ap (λ t. b ∷ t) (take_past front c back)

-- what stands before a byte of ASCII, and what follows it
at_ascii : (front : List ℕ) (c : ℕ) (back : List ℕ) → c < 128 → IsUtf8 (front ++ c ∷ back) → IsUtf8 front × IsUtf8 back
at_ascii front c back low all =
    let text = front ++ c ∷ back in
    let within : length front < length text = omega (arith, length-append front (c ∷ back)) in
    let here : get_or text (length front) 0 < 128 = rw (get_past front c back) low in
    let past : length front + 1 ≡ suc (length front) = omega arith in (
      subst IsUtf8 (take_past front c back)
          (IsUtf8-take text (length front) all (IsCharBoundary-before_ascii text (length front) within here)),
      subst IsUtf8 (ap (λ n. drop n text) past ∙ drop_past front c back)
          (IsUtf8-drop text (length front + 1) all (IsCharBoundary-after_ascii text (length front) all within here)),
    )

-- ---- the bytes of lines

abbrev line_sum : List Cut → ℕ
line_sum cs = sum_by (λ c. length c.text) cs

begun_sum : (at : ℕ) (cs : List Cut) → line_sum (begun at cs) ≡ line_sum cs
begun_sum at [] = refl
begun_sum at (c ∷ cs) =
    let one = sum_by-cons (λ (c : Cut). length c.text) (record { at = at; text = c.text; ended = c.ended }) cs in
    let two = sum_by-cons (λ (c : Cut). length c.text) c cs in
    omega (arith, one, two)

grown_sum : (at b : ℕ) (cs : List Cut) → line_sum (grown at b cs) ≡ suc (line_sum cs)
grown_sum at b [] = sum_by-cons (λ (c : Cut). length c.text) (record { at = at; text = b ∷ []; ended = false }) []
grown_sum at b (c ∷ cs) =
    let one = sum_by-cons (λ (c : Cut). length c.text) (record { at = at; text = b ∷ c.text; ended = c.ended }) cs in
    let two = sum_by-cons (λ (c : Cut). length c.text) c cs in
    omega (arith, one, two)

cut_sum : (at : ℕ) (bytes : List ℕ) → line_sum (cuts at bytes) ≤ length bytes
unfolding cuts
cut_sum at [] = omega arith
cut_sum at (b ∷ bytes) = by_end (ends_line b bytes) (eqb b 13) (cut_sum (at + 1) bytes)
  where
    by_end : (e r : Bool) → line_sum (cuts (at + 1) bytes) ≤ length bytes
        → line_sum (cond e (record { at = at; text = []; ended = true } ∷ cuts (at + 1) bytes)
        (cond r (begun at (cuts (at + 1) bytes)) (grown at b (cuts (at + 1) bytes)))) ≤ suc (length bytes)
    by_end true r below =
        let one = sum_by-cons (λ (c : Cut). length c.text) (record { at = at; text = []; ended = true }) (cuts (at + 1) bytes) in
        omega (arith, one, below)
    by_end false true below = omega (arith, below, begun_sum at (cuts (at + 1) bytes))
    by_end false false below = omega (arith, below, grown_sum at b (cuts (at + 1) bytes))

-- ---- each line is UTF-8

is_number : (a b : ℕ) → eqb a b ≡ true → a ≡ b
is_number a b is = grind (arith, is)

-- a byte that ends a line is one of ASCII
low_end : (b : ℕ) (bytes : List ℕ) → ends_line b bytes ≡ true → b < 128
low_end b bytes is = by (eqb b 10) (eqb b 13) refl refl is
  where
    by : (f r : Bool) → eqb b 10 ≡ f → eqb b 13 ≡ r → (f || (r && not (begins_feed bytes))) ≡ true → b < 128
    by true r feed ret is = let n = is_number b 10 feed in omega (arith, n)
    by false true feed ret is = let n = is_number b 13 ret in omega (arith, n)
    by false false feed ret is = absurd cc

abbrev AreUtf8 : List Cut → Type 0
AreUtf8 cs = AllByRecursion (λ c. IsUtf8 c.text) cs

-- lines of which the first has this in front
abbrev AreUtf8After : List ℕ → List Cut → Type 0
AreUtf8After front [] = IsUtf8 front
AreUtf8After front (c ∷ cs) = IsUtf8 (front ++ c.text) × AreUtf8 cs

none_before : (cs : List Cut) → AreUtf8After [] cs → AreUtf8 cs
none_before [] all = tt
none_before (c ∷ cs) all = all

begun_after : (front : List ℕ) (at : ℕ) (cs : List Cut) → AreUtf8After front cs → AreUtf8After front (begun at cs)
begun_after front at [] all = all
begun_after front at (c ∷ cs) all = all

grown_after : (front : List ℕ) (at b : ℕ) (cs : List Cut) → AreUtf8After (front ++ b ∷ []) cs → AreUtf8After front (grown at b cs)
grown_after front at b [] all = (all, tt)
grown_after front at b (c ∷ cs) all = (subst IsUtf8 (append_assoc front (b ∷ []) c.text) all.0, all.1)

cuts_utf8 : (front : List ℕ) (at : ℕ) (bytes : List ℕ) → IsUtf8 (front ++ bytes) → AreUtf8After front (cuts at bytes)
unfolding cuts
cuts_utf8 front at [] all = subst IsUtf8 (append-nil front) all
cuts_utf8 front at (b ∷ bytes) all =
    by (ends_line b bytes) (eqb b 13) refl refl (λ f. cuts_utf8 f (at + 1) bytes)
  where
    by : (e r : Bool) → ends_line b bytes ≡ e → eqb b 13 ≡ r
        → ((f : List ℕ) → IsUtf8 (f ++ bytes) → AreUtf8After f (cuts (at + 1) bytes))
        → AreUtf8After front (cond e (record { at = at; text = []; ended = true } ∷ cuts (at + 1) bytes)
        (cond r (begun at (cuts (at + 1) bytes)) (grown at b (cuts (at + 1) bytes))))
    by true r is ret below =
        let parts = at_ascii front b bytes (low_end b bytes is) all in
        (rw (append-nil front) parts.0, none_before (cuts (at + 1) bytes) (below [] parts.1))
    by false true is ret below =
        let n = is_number b 13 ret in
        let parts = at_ascii front b bytes (omega (arith, n)) all in
        begun_after front at (cuts (at + 1) bytes) (below front (IsUtf8-append front bytes parts.0 parts.1))
    by false false is ret below =
        grown_after front at b (cuts (at + 1) bytes)
        (below (front ++ b ∷ []) (subst IsUtf8 (sym (append_assoc front (b ∷ []) bytes)) all))

-- ---- what a step puts in

step_sum : (step : Step) → step_bytes step ≤ length (spelled step)
step_sum (steps.Change (edits.Words id rest)) = let size = length-append id (32 ∷ rest) in omega (arith, size)
step_sum (steps.Change (edits.Class id rest)) = let size = length-append id (32 ∷ rest) in omega (arith, size)
step_sum (steps.Change (edits.Remove id)) = omega arith
step_sum steps.Print = omega arith

step_utf8 : (step : Step) → IsUtf8 (spelled step) → StepIsUtf8 step
step_utf8 (steps.Change (edits.Words id rest)) all =
    (at_ascii id 32 rest (lit< tt) (at_ascii (codes "text") 32 (id ++ 32 ∷ rest) (lit< tt) all).1).1
step_utf8 (steps.Change (edits.Class id rest)) all =
    (at_ascii id 32 rest (lit< tt) (at_ascii (codes "class") 32 (id ++ 32 ∷ rest) (lit< tt) all).1).1
step_utf8 (steps.Change (edits.Remove id)) all = IsUtf8-nil
step_utf8 steps.Print all = tt

-- the step of a line that is read
line_step : (c : Cut) (line : ScriptLine) → line_at c ≡ Ok line → step_of c.text ≡ Some line.step
unfolding line_at
line_step c line h = by_end c.ended (step_of c.text) h
  where
    by_step : (s : Option Step) → line_or_fault c.at s ≡ Ok line → s ≡ Some line.step
    by_step None h = absurd cc
    by_step (Some step) h = ap (λ (l : Result ScriptLine Fault). step_in l) h
      where
        step_in : Result ScriptLine Fault → Option Step
        step_in (Ok l) = Some l.step
        step_in (Err f) = None

    by_end : (t : Bool) (s : Option Step) → cond t (line_or_fault c.at s) (fault c.at 2) ≡ Ok line → s ≡ Some line.step
    by_end true s h = by_step s h
    by_end false s h = absurd cc

abbrev AreWithin : List Cut → List ScriptLine → Type 0
AreWithin cs lines = (sum_by line_bytes lines ≤ line_sum cs) × (AreUtf8 cs → AllByRecursion LineIsUtf8 lines)

line_fits : AStepIsWrittenSo → (c : Cut) (line : ScriptLine) → line_at c ≡ Ok line
    → (line_bytes line ≤ length c.text) × (IsUtf8 c.text → LineIsUtf8 line)
line_fits law c line h =
    let written = (law line.step c.text (line_step c line h)).written in (
      subst (λ t. step_bytes line.step ≤ length t) (sym written) (step_sum line.step),
      λ all. step_utf8 line.step (subst IsUtf8 written all),
    )

lines_fit : AStepIsWrittenSo → (cs : List Cut) (lines : List ScriptLine) → steps_in cs ≡ Ok lines → AreWithin cs lines
lines_fit law [] lines h = let none : [] ≡ lines = cc in subst (AreWithin []) none (omega arith, λ all. tt)
lines_fit law (c ∷ cs) lines h = by (line_at c) (steps_in cs) refl refl h (lines_fit law cs)
  where
    by : (l : Result ScriptLine Fault) (r : Result (List ScriptLine) Fault) → line_at c ≡ l → steps_in cs ≡ r
        → (l >>= λ line. r >>= λ others. Ok (line ∷ others)) ≡ Ok lines
        → ((others : List ScriptLine) → steps_in cs ≡ Ok others → AreWithin cs others) → AreWithin (c ∷ cs) lines
    by (Err f) r is more h below = absurd cc
    by (Ok line) (Err f) is more h below = absurd cc
    by (Ok line) (Ok others) is more h below =
        let whole : line ∷ others ≡ lines = cc in
        let one = line_fits law c line is in
        let rest = below others more in
        let sum = sum_by-cons line_bytes line others in
        let size = sum_by-cons (λ (c : Cut). length c.text) c cs in
        subst (AreWithin (c ∷ cs)) whole
        (omega (arith, one.0, rest.0, sum, size), λ all. (one.1 all.0, rest.1 all.1))

-- ---- the whole script

valid_le : (bytes : List ℕ) (n : ℕ) → valid_len_up_to bytes n ≤ n
valid_le bytes zero = omega arith
valid_le bytes (suc n) = by (is_utf8 (take (suc n) bytes)) (valid_le bytes n)
  where
    by : (b : Bool) → valid_len_up_to bytes n ≤ n → cond b (suc n) (valid_len_up_to bytes n) ≤ suc n
    by true h = omega arith
    by false h = omega (arith, h)

from_valid : (bytes : List ℕ) → length bytes ≤ utf8_valid_len bytes → IsUtf8 bytes
unfolding utf8_valid_len
from_valid [] h = IsUtf8-nil
from_valid (b ∷ bs) h = by (is_utf8 (take (suc (length bs)) (b ∷ bs))) refl h
  where
    by : (x : Bool) → is_utf8 (take (suc (length bs)) (b ∷ bs)) ≡ x
        → suc (length bs) ≤ cond x (suc (length bs)) (valid_len_up_to (b ∷ bs) (length bs)) → IsUtf8 (b ∷ bs)
    by true e h =
        IsUtf8-from_is_utf8 (b ∷ bs) (sym (ap is_utf8 (take_all (suc (length bs)) (b ∷ bs) (omega arith))) ∙ e)
    by false e h = let l = valid_le (b ∷ bs) (length bs) in absurd (omega (arith, l, h))

three : (a b c : Bool) → (a && (b && c)) ≡ true → (a ≡ true) × (b ≡ true) × (c ≡ true)
three true true c is = (refl, refl, is)
three true false c is = absurd cc
three false b c is = absurd cc

-- a byte order mark is one character
marked : (bytes : List ℕ) → IsUtf8 (0xEF ∷ 0xBB ∷ 0xBF ∷ bytes) → IsUtf8 bytes
unfolding encode
marked bytes all =
    IsUtf8-drop (0xEF ∷ 0xBB ∷ 0xBF ∷ bytes) 3 all
    (IsCharBoundary-past_char (0xEF ∷ 0xBB ∷ 0xBF ∷ bytes) bytes 0 0xFEFF (omega arith) all refl)

past_mark : (text : List ℕ) → IsUtf8 text → IsUtf8 (drop (mark_len text) text)
unfolding mark_len
past_mark [] all = all
past_mark (a ∷ []) all = all
past_mark (a ∷ b ∷ []) all = all
past_mark (a ∷ b ∷ c ∷ bytes) all = by (eqb a 0xEF && (eqb b 0xBB && eqb c 0xBF)) refl
  where
    by : (t : Bool) → (eqb a 0xEF && (eqb b 0xBB && eqb c 0xBF)) ≡ t → IsUtf8 (drop (cond t 3 0) (a ∷ b ∷ c ∷ bytes))
    by true is =
        let each = three (eqb a 0xEF) (eqb b 0xBB) (eqb c 0xBF) is in
        let one = is_number a 0xEF each.0 in
        let two = is_number b 0xBB each.1 in
        let last = is_number c 0xBF each.2 in
        marked bytes (rw (one, two, last) at all)
    by false is = all

bounded : AStepIsWrittenSo → (text : List ℕ) (lines : List ScriptLine) → length text ≤ sound_len text → steps_in (lines_of text) ≡ Ok lines
    → (sum_by line_bytes lines ≤ length text) × AllByRecursion LineIsUtf8 lines
unfolding lines_of
bounded law text lines sound h =
    let all = from_valid text (omega (arith, sound)) in
    let fits = lines_fit law (lines_of text) lines h in
    let sum = cut_sum (mark_len text) (drop (mark_len text) text) in
    let size = length-drop (mark_len text) text in (
      omega (arith, fits.0, sum, size),
      fits.1 (none_before (lines_of text) (cuts_utf8 [] (mark_len text) (drop (mark_len text) text) (past_mark text all))),
    )

pub scripts_are_bounded : AStepIsWrittenSo → ScriptsAreBounded
unfolding steps_of
scripts_are_bounded law text lines h = by_sound (nat_lt (sound_len text) (length text)) refl (by_answer (steps_of text) h)
  where
    by_answer : (r : Result (List ScriptLine) Fault) → as_refused r ≡ Ok lines → r ≡ Ok lines
    by_answer (Ok found) h = let same : found ≡ lines = cc in ap Ok same
    by_answer (Err f) h = absurd cc

    by_sound : (t : Bool) → nat_lt (sound_len text) (length text) ≡ t
        → cond t (fault (sound_len text) 1) (steps_in (lines_of text)) ≡ Ok lines
        → (sum_by line_bytes lines ≤ length text) × AllByRecursion LineIsUtf8 lines
    by_sound true is h = absurd cc
    by_sound false is h = bounded law text lines (grind (arith, is)) h
