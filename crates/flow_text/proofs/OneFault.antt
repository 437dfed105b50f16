-- A text has at most one first fault: the one that is read.
use Rattle.std.proofs.Common.{◌≡◌, ℕ, suc, ◌+◌, ◌<◌, List, [], ◌∷◌, ◌++◌, length, take, drop, Bool, true, false, eqb, ltb, cond}
use Rattle.std.proofs.Common.{not, Option, Some, None, Result, Ok, Err, refl, sym, ap, ◌∙◌, inl, inr, arith, length-append}
use Rattle.std.specs.Prelude.{◌⊎◌, MatchBool}
use Rattle.flow_text.specs.declared.line.Line.{Line}
use Rattle.flow_text.specs.declared.line.Form.{Form}
use Rattle.flow_text.specs.declared.line.Form.TheVariants as forms
use Rattle.mc_base.specs.declared.read_error.Fault.{Fault}
use Rattle.flow_text.specs.declared.structure.Due.{Due}
use Rattle.flow_text.specs.declared.structure.Reading.{Reading}
use Rattle.flow_text.specs.declared.structure.Reading.TheVariants as readings
use Rattle.flow_text.specs.Structure as structure
use Rattle.flow_text.specs.Structure.{unless, fault_of_ending}
use Rattle.mc_base.specs.Reading.{◌>>=◌, fault}
use Rattle.mc_base.proofs.ReadSteps.{seen as seen_result}
use Rattle.mc_base.specs.SoundText.{sound_len}
use Rattle.flow_text.specs.Grammar.{FlowFile, IsFlowFile}
use Rattle.flow_text.specs.Text.{IsText, line_len, cuts, line_at, read_on, ended_at, lines_in, lines_of}
use Rattle.flow_text.specs.Run.{run}
use Rattle.flow_text.specs.Faults.{Seen, fault_at, is_flow, is_item_end, IsOver, seen, EndFault, RowsFault, BaseFault, DueFault}
use Rattle.flow_text.specs.Faults.{ShapeFault, IsCutShort, IsMisshapen, IsMisplaced, IsFaultOfLines, IsFirstFault}
use Rattle.flow_text.proofs.Complete.{passed, file_is_read}
use Rattle.flow_text.proofs.Sound.{read_is_file}
use Rattle.flow_text.proofs.TextLemmas.{first_line}
use Rattle.flow_text.proofs.TextLaws.{lines_are, text_again, front_again, line_takes, feed_at, may_end}
use Rattle.flow_text.proofs.FaultLaws.{failed_lines, cut_short, misshapen, line_reads}
use Rattle.flow_text.proofs.Stands.{is_front, no_front, why, one_more}

-- ---- what a line breaks is one fault

one_of_two : {A : Type 0} (f g x y : Fault) → (A × (f ≡ x)) ⊎ ((A → ⊥) × (f ≡ y)) → (A × (g ≡ x)) ⊎ ((A → ⊥) × (g ≡ y)) → f ≡ g
one_of_two f g x y (inl a) (inl b) = a.1 ∙ sym b.1
one_of_two f g x y (inl a) (inr b) = absurd (b.0 a.0)
one_of_two f g x y (inr a) (inl b) = absurd (a.0 b.0)
one_of_two f g x y (inr a) (inr b) = a.1 ∙ sym b.1

one_end : (front : List Line) (bottoms : List ℕ) (at number : ℕ) (f g : Fault) → EndFault front bottoms at number f
    → EndFault front bottoms at number g → f ≡ g
one_end front bottoms at number f g (inl a) (inl b) = a.0 ∙ sym b.0
one_end front bottoms at number f g (inl a) (inr b) = absurd (b.1 a.1)
one_end front bottoms at number f g (inr a) (inl b) = absurd (a.1 b.1)
one_end front bottoms at number f g (inr a) (inr b) = a.0 ∙ sym b.0

one_in_tail : (b : Bool) (front : List Line) (bottoms : List ℕ) (at number : ℕ) (f g : Fault)
    → MatchBool b (EndFault front bottoms at number f) (f ≡ fault_at at 5)
    → MatchBool b (EndFault front bottoms at number g) (g ≡ fault_at at 5) → f ≡ g
one_in_tail true front bottoms at number f g h k = one_end front bottoms at number f g h k
one_in_tail false front bottoms at number f g h k = h ∙ sym k

one_in_rows : (front : List Line) (s : Seen) (base : Line) (at : ℕ) (form : Form) (f g : Fault)
    → RowsFault front s base at form f → RowsFault front s base at form g → f ≡ g
one_in_rows front s base at forms.Flow f g h k = h ∙ sym k
one_in_rows front s base at (forms.First n w step available auto) f g h k = h ∙ sym k
one_in_rows front s base at (forms.Margin u) f g h k = h ∙ sym k
one_in_rows front s base at (forms.Solid u) f g h k = h ∙ sym k
one_in_rows front s base at forms.Wall f g h k = h ∙ sym k
one_in_rows front s base at (forms.Start number x w avoid top bottom) f g h k = h ∙ sym k
one_in_rows front s base at (forms.End number) f g h k = one_in_tail (is_item_end base.form) front s.bottoms at number f g h k
one_in_rows front s base at (forms.Atom u) f g h k = h ∙ sym k
one_in_rows front s base at (forms.Row n w step x) f g h k = h ∙ sym k
one_in_rows front s base at (forms.Break level) f g h k = h ∙ sym k
one_in_rows front s base at forms.Close f g h k = h ∙ sym k

one_behind : (b : Bool) (front : List Line) (s : Seen) (base l : Line) (f g : Fault)
    → MatchBool b (f ≡ fault_at l.at 5)
    ((IsOver front × (f ≡ fault_at l.at 7)) ⊎ ((IsOver front → ⊥) × RowsFault front s base l.at l.form f))
    → MatchBool b (g ≡ fault_at l.at 5)
    ((IsOver front × (g ≡ fault_at l.at 7)) ⊎ ((IsOver front → ⊥) × RowsFault front s base l.at l.form g))
    → f ≡ g
one_behind true front s base l f g h k = h ∙ sym k
one_behind false front s base l f g (inl a) (inl b) = a.1 ∙ sym b.1
one_behind false front s base l f g (inl a) (inr b) = absurd (b.0 a.0)
one_behind false front s base l f g (inr a) (inl b) = absurd (a.0 b.0)
one_behind false front s base l f g (inr a) (inr b) = one_in_rows front s base l.at l.form f g a.1 b.1

one_at_base : (base : Option Line) (front : List Line) (s : Seen) (l : Line) (f g : Fault) → BaseFault base front s l f
    → BaseFault base front s l g → f ≡ g
one_at_base None front s l f g h k = h ∙ sym k
one_at_base (Some base) front s l f g h k = one_behind (is_flow base.form) front s base l f g h k

one_of_line : (due : Option Due) (front : List Line) (s : Seen) (l : Line) (f g : Fault) → DueFault due front s l f
    → DueFault due front s l g → f ≡ g
one_of_line (Some d) front s l f g h k = h ∙ sym k
one_of_line None front s l f g h k = one_at_base s.base front s l f g h k

one_of_shape : (due : Option Due) (base : Option Line) (at : ℕ) (text : List ℕ) (ended : Bool) (f g : Fault)
    → ShapeFault due base at text ended f → ShapeFault due base at text ended g → f ≡ g
one_of_shape (Some d) base at text ended f g h k = one_of_two f g (fault_at at 2) (fault_at d.at 8) h k
one_of_shape None base at text ended f g h k = h ∙ sym k

-- ---- it is the one that is read

abbrev Told : Reading → List Line → ℕ → List ℕ → ℕ → Fault → Type 0
Told r front at rest size f = (read_on r front (cuts at rest) >>= ended_at size) ≡ failed_lines f

fails_as : (front : List Line) (f g : Fault) (r : Result (List Line) Fault) → r ≡ failed_lines f → f ≡ g → r ≡ failed_lines g
fails_as front f g r h e = h ∙ ap (λ (x : Fault). failed_lines x) e

ends_so : (front : List Line) (r : Reading) (size : ℕ) (g : Fault) → run readings.Opening front ≡ passed r
    → IsCutShort front [] size g → unless (fault_of_ending r size) (Ok front) ≡ failed_lines g
ends_so front r size g h cut = by_ending (fault_of_ending r size) refl
  where
    by_ending : (o : Option Fault) → fault_of_ending r size ≡ o → unless (fault_of_ending r size) (Ok front) ≡ failed_lines g
    by_ending None is =
        let over : run readings.Opening front ≡ passed readings.Ended = h ∙ ap passed (may_end r size is) in
        absurd (cut.1 (read_is_file front over))
    by_ending (Some f) is =
        let told : unless (fault_of_ending r size) (Ok front) ≡ failed_lines f = rw is refl in
        let same : f ≡ g = (cut_short front r front size f h told).2 ∙ sym cut.2 in
        fails_as front f g _ told same

told_cut : (front : List Line) (r : Reading) (at : ℕ) (rest : List ℕ) (size : ℕ) (g : Fault)
    → run readings.Opening front ≡ passed r → IsCutShort front rest size g → Told r front at rest size g
unfolding read_on cuts
told_cut front r at rest size g h cut = rw cut.0 (ends_so front r size g h (refl, cut.1, cut.2))

-- one line on
first_read : (r : Reading) (front : List Line) (at : ℕ) (rest : List ℕ) → 0 < length rest
    → read_on r front (cuts at rest)
    ≡ (line_at r at (take (line_len rest) rest) (not (eqb (length (drop (line_len rest) rest)) 0)) >>= λ line.
    structure.take r line >>= λ next.
    read_on next (front ++ line ∷ []) (cuts (at + line_len rest + 1) (drop (suc (line_len rest)) rest)))
unfolding read_on
first_read r front at rest some = rw (first_line at rest some) refl

told_misshapen : (front : List Line) (r : Reading) (at : ℕ) (rest : List ℕ) (size : ℕ) (g : Fault)
    → run readings.Opening front ≡ passed r → IsMisshapen front at rest g → Told r front at rest size g
told_misshapen front r at rest size g h bad =
    by_line (seen_result (line_at r at (take (line_len rest) rest) (not (eqb (length (drop (line_len rest) rest)) 0))))
  where
    by_line : ((x : Line) × (line_at r at (take (line_len rest) rest) (not (eqb (length (drop (line_len rest) rest)) 0)) ≡ Ok x))
        ⊎ ((f : Fault) × (line_at r at (take (line_len rest) rest) (not (eqb (length (drop (line_len rest) rest)) 0)) ≡ Err f))
        → Told r front at rest size g
    by_line (inl s) =
        let t = line_takes r at (take (line_len rest) rest) _ s.0 s.1 in
        absurd (bad.1 s.0.form (take (line_len rest) rest) (drop (suc (line_len rest)) rest) t.1 (feed_at rest t.0))
    by_line (inr s) =
        let also = misshapen front r at rest s.0 bad.0 h s.1 in
        let same = one_of_shape (seen front).due (seen front).base at (take (line_len rest) rest)
        (ltb (line_len rest) (length rest)) s.0 g also.2 bad.2 in
        fails_as front s.0 g _ (rw (first_read r front at rest bad.0, s.1) refl) same

some_bytes : (text more rest : List ℕ) → rest ≡ text ++ 10 ∷ more → 0 < length rest
some_bytes text more rest e = let n = length-append text (10 ∷ more) in rw e (omega (arith, n))

told_misplaced : (front : List Line) (r : Reading) (at : ℕ) (rest : List ℕ) (size : ℕ) (g : Fault)
    → run readings.Opening front ≡ passed r → IsMisplaced front at rest g → Told r front at rest size g
told_misplaced front r at rest size g h (l, text, more, at_is, form, rest_is, no_more, fault_is) =
    by_place (seen_result (structure.take r l))
  where
    some : 0 < length rest
    some = some_bytes text more rest rest_is

    line_is : l ≡ record { at = at; form = l.form }
    line_is = ap (λ (n : ℕ). record { at = n; form = l.form }) at_is

    read : line_at r at (take (line_len rest) rest) (not (eqb (length (drop (line_len rest) rest)) 0)) ≡ Ok l
    read = line_reads r at rest l.form text more form rest_is ∙ ap (λ (x : Line). Ok x) (sym line_is)

    by_place : ((x : Reading) × (structure.take r l ≡ Ok x)) ⊎ ((f : Fault) × (structure.take r l ≡ Err f))
        → Told r front at rest size g
    by_place (inl t) = absurd (no_more (is_front (front ++ l ∷ []) t.0 (one_more front r l h ∙ t.1)))
    by_place (inr t) =
        let same = one_of_line (seen front).due front (seen front) l t.0 g (why front r l t.0 h t.1) fault_is in
        fails_as front t.0 g _ (rw (first_read r front at rest some, read, t.1) refl) same

told : (front : List Line) (r : Reading) (at : ℕ) (rest : List ℕ) (size : ℕ) (g : Fault) → run readings.Opening front ≡ passed r
    → IsCutShort front rest size g ⊎ (IsMisshapen front at rest g ⊎ IsMisplaced front at rest g) → Told r front at rest size g
told front r at rest size g h (inl cut) = told_cut front r at rest size g h cut
told front r at rest size g h (inr (inl bad)) = told_misshapen front r at rest size g h bad
told front r at rest size g h (inr (inr out)) = told_misplaced front r at rest size g h out

told_in_lines : (text : List ℕ) (g : Fault) → IsFaultOfLines text g → lines_in text ≡ failed_lines g
told_in_lines text g h = by_front (seen_result (run readings.Opening h.front))
  where
    by_front : ((x : Reading) × (run readings.Opening h.front ≡ Ok x)) ⊎ ((f : Fault) × (run readings.Opening h.front ≡ Err f))
        → lines_in text ≡ failed_lines g
    by_front (inl s) =
        let on = front_again h.front 0 text h.at h.rest readings.Opening s.0 [] h.begins s.1 in
        rw on (told h.front s.0 h.at h.rest (length text) g s.1 h.which)
    by_front (inr s) = absurd (no_front h.front s.0 s.1 h.goes_on)

-- the first fault of a text is read
pub fault_is_told : (text : List ℕ) (g : Fault) → IsFirstFault text g → lines_of text ≡ failed_lines g
unfolding lines_of
fault_is_told text g h = by_sound (ltb (sound_len text) (length text)) h
  where
    by_sound : (b : Bool) → MatchBool b (g ≡ fault_at (sound_len text) 1) (IsFaultOfLines text g)
        → cond b (fault (sound_len text) 1) (lines_in text) ≡ failed_lines g
    by_sound true is = ap (λ (x : Fault). failed_lines x) (sym is)
    by_sound false is = told_in_lines text g is

-- a text has at most one first fault
pub one_fault : (text : List ℕ) (f g : Fault) → IsFirstFault text f → IsFirstFault text g → f ≡ g
one_fault text f g h k = let same : failed_lines f ≡ failed_lines g = sym (fault_is_told text f h) ∙ fault_is_told text g k in cc

-- and a flow file has none
pub no_fault_of_file : (text : List ℕ) (lines : List Line) (file : FlowFile) (g : Fault) → IsText 0 lines text
    → IsFlowFile lines file → IsFirstFault text g → ⊥
no_fault_of_file text lines file g spelled is h =
    let two : lines_are lines ≡ failed_lines g = sym (text_again text lines spelled (file_is_read lines file is))
    ∙ fault_is_told text g h in
    cc
