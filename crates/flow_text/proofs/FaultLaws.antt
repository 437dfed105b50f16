-- The fault that is answered is the first.
use Rattle.std.proofs.Common.{◌≡◌, ℕ, zero, suc, ◌+◌, ◌-◌, ◌<◌, ◌≤◌, List, [], ◌∷◌, ◌++◌, length, take, drop, Bool, true, false}
use Rattle.std.proofs.Common.{eqb, ltb, leb, cond, not, ◌&&◌, Option, Some, None, Result, Ok, Err, refl, sym, ap, ◌∙◌, subst}
use Rattle.std.proofs.Common.{arith, length-drop, append_assoc, inl, inr}
use Rattle.std.specs.Prelude.{◌⊎◌, MatchBool}
use Rattle.std.proofs.Math.Dec.{eqb-suc-zero}
use Rattle.std.proofs.lemmas.Bool.{eq-eqb, and_parts, leb-true, le-ltb, lt-ltb, cases_lt}
use Rattle.std.proofs.lemmas.List.{append-nil, take_at, drop_at, length-take-le}
use Rattle.flow_text.specs.declared.line.Line.{Line}
use Rattle.flow_text.specs.declared.line.Form.{Form}
use Rattle.flow_text.specs.declared.line.Form.TheVariants as forms
use Rattle.mc_base.specs.declared.read_error.Fault.{Fault}
use Rattle.flow_text.specs.declared.structure.Due.{Due}
use Rattle.flow_text.specs.declared.structure.Reading.{Reading}
use Rattle.flow_text.specs.declared.structure.Reading.TheVariants as readings
use Rattle.flow_text.specs.Forms.{IsForm, form_of}
use Rattle.flow_text.specs.Structure as structure
use Rattle.flow_text.specs.Structure.{unless, fault_of_due, fault_of_rows, what_is_due, fault_of_ending, is_solid}
use Rattle.mc_base.specs.SoundText.{sound_len}
use Rattle.mc_base.specs.Reading.{◌>>=◌, fault}
use Rattle.mc_base.proofs.ReadSteps.{seen as seen_result, failed}
use Rattle.flow_text.specs.Text.{line_len, first_bad, bad_byte, cuts, or_fault, no_byte_bad, line_of, line_at, read_on, ended_at}
use Rattle.flow_text.specs.Text.{lines_in, lines_of}
use Rattle.flow_text.specs.Run.{run}
use Rattle.flow_text.specs.Faults.{fault_at, IsFront, seen, Begins, ending_fault, byte_fault, ShapeFault, NoLine, IsCutShort}
use Rattle.flow_text.specs.Faults.{IsMisshapen, IsMisplaced, IsFaultOfLines, IsFirstFault}
use Rattle.flow_text.proofs.Complete.{passed, file_is_read}
use Rattle.flow_text.proofs.Sound.{is_some_solid}
use Rattle.flow_text.proofs.FormLemmas.{form_takes, form_again}
use Rattle.flow_text.proofs.TextLemmas.{first_line}
use Rattle.flow_text.proofs.TextLaws.{printable, printable_form, no_feed, line_takes, feed_at, line_len_le}
use Rattle.flow_text.proofs.Stands.{is_front, no_front, why, one_more, BaseIs, due_behind_lines, base_behind_lines}

-- a line of a form ends at its line feed
line_len_at : (text rest : List ℕ) → printable text ≡ true → line_len (text ++ 10 ∷ rest) ≡ length text
line_len_at [] rest h = refl
line_len_at (b ∷ text) rest h =
    let p = and_parts (leb 32 b && leb b 126) (printable text) h in
    rw (no_feed b p.0, line_len_at text rest p.1) refl

no_bad : (i : ℕ) (text : List ℕ) → printable text ≡ true → first_bad i text ≡ None
no_bad i [] h = refl
no_bad i (b ∷ text) h =
    let p = and_parts (leb 32 b && leb b 126) (printable text) h in
    let q = and_parts (leb 32 b) (leb b 126) p.0 in
    let low = le-ltb b 32 (leb-true 32 b q.0) in
    let high = le-ltb 126 b (leb-true b 126 q.1) in
    rw (low, high) (no_bad (suc i) text p.1)

abbrev a_fault : Fault → Option Fault
a_fault f = Some f

abbrev bad_line : Fault → Result Line Fault
bad_line f = Err f

abbrev some_form : Form → Option Form
some_form f = Some f

abbrev pub failed_lines : Fault → Result (List Line) Fault
failed_lines f = Err f

is_the_fault : (f g : Fault) → failed_lines f ≡ failed_lines g → g ≡ f
is_the_fault f g h = cc

line_fault_is : (f g : Fault) → bad_line f ≡ bad_line g → g ≡ f
line_fault_is f g h = cc

-- whether a line feed ends the first line
ended_is : (bytes : List ℕ) → not (eqb (length (drop (line_len bytes) bytes)) 0) ≡ ltb (line_len bytes) (length bytes)
ended_is bytes = by_length (cases_lt (line_len bytes) (length bytes))
  where
    zero_left : (n : ℕ) → n ≡ 0 → not (eqb n 0) ≡ false
    zero_left n e = rw e refl

    some_left : (n m : ℕ) → n ≡ suc m → not (eqb n 0) ≡ true
    some_left n m e = rw (e, eqb-suc-zero m) refl

    by_length : ((line_len bytes < length bytes) ⊎ (length bytes ≤ line_len bytes))
        → not (eqb (length (drop (line_len bytes) bytes)) 0) ≡ ltb (line_len bytes) (length bytes)
    by_length (inl lt) = some_left (length (drop (line_len bytes) bytes)) (length bytes - line_len bytes - 1)
        (simp length-drop (omega arith)) ∙ sym (lt-ltb (line_len bytes) (length bytes) lt)
    by_length (inr le) = zero_left (length (drop (line_len bytes) bytes)) (simp length-drop (omega arith))
        ∙ sym (le-ltb (line_len bytes) (length bytes) le)

-- a line with its line feed would have been read
pub line_reads : (r : Reading) (at : ℕ) (bytes : List ℕ) (form : Form) (text more : List ℕ) → IsForm form text
    → bytes ≡ text ++ 10 ∷ more
    → line_at r at (take (line_len bytes) bytes) (not (eqb (length (drop (line_len bytes) bytes)) 0))
    ≡ Ok (record { at = at; form = form })
line_reads r at bytes form text more is e =
    let len = line_len_at text more (printable_form form text is) in
    let front : take (length text) (text ++ 10 ∷ more) ≡ text = take_at text (10 ∷ more) (length text) refl in
    let back : drop (length text) (text ++ 10 ∷ more) ≡ 10 ∷ more = drop_at text (10 ∷ more) (length text) refl in
    rw (e, len, front, back, form_again form text is, eqb-suc-zero (length more)) refl

no_line : (r : Reading) (at : ℕ) (bytes : List ℕ) (g : Fault)
    → line_at r at (take (line_len bytes) bytes) (not (eqb (length (drop (line_len bytes) bytes)) 0)) ≡ Err g → NoLine bytes
no_line r at bytes g h form text more is e = let ok = line_reads r at bytes form text more is e
    in let two : bad_line g ≡ Ok (record { at = at; form = form }) = sym h ∙ ok in cc

byte_is : (o : Option ℕ) (r : Reading) (base : Option Line) (at : ℕ) (ended : Bool) → BaseIs r base
    → no_byte_bad o r at ended ≡ byte_fault o base at ended
byte_is (Some i) r base at ended h = refl
byte_is None r base at false h = refl
byte_is None readings.Opening base at true h = rw h refl
byte_is None readings.Heading base at true h = rw h.1 refl
byte_is None (readings.Within s) base at true h = rw h.1 refl
byte_is None readings.Ended base at true h = rw h.1 refl

form_is : (f g : Form) → some_form f ≡ Some g → f ≡ g
form_is f g h = cc

-- the fault of a line that is of no form or lacks its line feed
no_form : (r : Reading) (base : Option Line) (at : ℕ) (text : List ℕ) (ended : Bool) (g : Fault) → BaseIs r base
    → form_of text ≡ None → (d : Option Due) → what_is_due r ≡ d
    → bad_line (or_fault (fault_of_due d None) (no_byte_bad (bad_byte text) r at ended)) ≡ bad_line g
    → ShapeFault d base at text ended g
no_form r base at text ended g b is None due h = line_fault_is _ g h ∙ byte_is (bad_byte text) r base at ended b
no_form r base at text ended g b is (Some d) due h =
    inr (
      λ f. let ok = form_again (forms.Solid d.top) text f in let two : some_form (forms.Solid d.top) ≡ None = sym ok ∙ is
          in cc,
      line_fault_is (fault_at d.at 8) g h,
    )

no_feed_behind : (base : Option Line) (at : ℕ) (text : List ℕ) (form : Form) (g : Fault) → IsForm form text → (d : Option Due)
    → unless (fault_of_due d (Some form)) (bad_line (fault_at at 2)) ≡ bad_line g → ShapeFault d base at text false g
no_feed_behind base at text form g is None h = line_fault_is (fault_at at 2) g h
    ∙ ap (λ (o : Option ℕ). byte_fault o base at false) (sym (no_bad 0 text (printable_form form text is)))
no_feed_behind base at text form g is (Some d) h = by_solid (is_solid d.top (Some form)) refl h
  where
    by_solid : (b : Bool) → is_solid d.top (Some form) ≡ b
        → unless (cond b None (Some (fault_at d.at 8))) (bad_line (fault_at at 2)) ≡ bad_line g
        → ShapeFault (Some d) base at text false g
    by_solid true same h = inl (
      subst (λ (f : Form). IsForm f text) (is_some_solid d.top form same) is,
      line_fault_is (fault_at at 2) g h,
    )
    by_solid false same h =
        inr (
          λ f.
              let one = form_again (forms.Solid d.top) text f in
              let other = form_again form text is in
              let e : form ≡ forms.Solid d.top = form_is form (forms.Solid d.top) (sym other ∙ one) in
              let yes : is_solid d.top (Some form) ≡ true = rw e (eq-eqb d.top d.top refl) in
              let two : true ≡ false = sym yes ∙ same in
              cc,
          line_fault_is (fault_at d.at 8) g h,
        )

shape_fault : (r : Reading) (base : Option Line) (at : ℕ) (text : List ℕ) (ended : Bool) (g : Fault) → BaseIs r base
    → (o : Option Form) → form_of text ≡ o → line_of o r at text ended ≡ bad_line g
    → ShapeFault (what_is_due r) base at text ended g
shape_fault r base at text ended g b None is h = no_form r base at text ended g b is (what_is_due r) refl h
shape_fault r base at text true g b (Some form) is h = absurd cc
shape_fault r base at text false g b (Some form) is h =
    no_feed_behind base at text form g (form_takes text form is) (what_is_due r) h

-- the text ends too early
unless_bad : (o : Option Fault) (lines : List Line) (g : Fault) → unless o (Ok lines) ≡ failed_lines g → o ≡ Some g
unless_bad None lines g h = absurd cc
unless_bad (Some f) lines g h = let same : f ≡ g = cc in ap (λ (x : Fault). a_fault x) same

a_fault_is : (f g : Fault) → a_fault f ≡ Some g → g ≡ f
a_fault_is f g h = cc

ending_is : (r : Reading) (base : Option Line) (size : ℕ) (g : Fault) → BaseIs r base → fault_of_ending r size ≡ Some g
    → g ≡ ending_fault (what_is_due r) base size
ending_is readings.Opening base size g b h = rw b (a_fault_is (fault_at 0 3) g h)
ending_is readings.Heading base size g b h = rw b.1 (a_fault_is (fault_at size 7) g h)
ending_is (readings.Within s) base size g b h = by_due s.due h
  where
    by_due : (d : Option Due) → fault_of_rows d size ≡ Some g → g ≡ ending_fault d base size
    by_due None h = rw b.1 (a_fault_is (fault_at size 7) g h)
    by_due (Some d) h = a_fault_is (fault_at d.at 8) g h
ending_is readings.Ended base size g b h = absurd cc

not_ended : (r : Reading) (size : ℕ) (g : Fault) → fault_of_ending r size ≡ Some g → r ≡ readings.Ended → ⊥
not_ended r size g h e = let no : fault_of_ending readings.Ended size ≡ Some g = rw e at h in cc

pub cut_short : (front : List Line) (r : Reading) (so_far : List Line) (size : ℕ) (g : Fault)
    → run readings.Opening front ≡ passed r → unless (fault_of_ending r size) (Ok so_far) ≡ failed_lines g
    → IsCutShort front [] size g
cut_short front r so_far size g h e =
    let some = unless_bad (fault_of_ending r size) so_far g e in
    let due = due_behind_lines front r h in (
      refl,
      λ over. let ok = file_is_read front over.0 over.1 in let same : passed r ≡ passed readings.Ended = sym h ∙ ok
          in let is : r ≡ readings.Ended = cc in not_ended r size g some is,
      rw due (ending_is r (seen front).base size g (base_behind_lines front r h) some),
    )

-- line after line
abbrev Reached : ℕ → List ℕ → List Line → ℕ → Fault → Type 0
Reached at bytes front size g =
    (more : List Line) × (end : ℕ) × (rest : List ℕ) × Begins at more bytes end rest × IsFront (front ++ more)
    × (IsCutShort (front ++ more) rest size g ⊎ (IsMisshapen (front ++ more) end rest g ⊎ IsMisplaced (front ++ more) end rest g))

one_line_on : (at : ℕ) (bytes : List ℕ) (front : List Line) (l : Line) (size : ℕ) (g : Fault)
    → not (eqb (length (drop (line_len bytes) bytes)) 0) ≡ true → IsForm l.form (take (line_len bytes) bytes) → l.at ≡ at
    → Reached (at + line_len bytes + 1) (drop (suc (line_len bytes)) bytes) (front ++ l ∷ []) size g
    → Reached at bytes front size g
one_line_on at bytes front l size g ended form placed h =
    let len : length (take (line_len bytes) bytes) ≡ line_len bytes = length-take-le (line_len bytes) bytes (line_len_le bytes) in
    let same : (front ++ l ∷ []) ++ h.0 ≡ front ++ l ∷ h.0 = append_assoc front (l ∷ []) h.0 in
    let begins : Begins (at + length (take (line_len bytes) bytes) + 1) h.0 (drop (suc (line_len bytes)) bytes) h.1 h.2 =
    rw len h.3 in
    let P : List Line → Type 0 = λ ls. IsCutShort ls h.2 size g ⊎ (IsMisshapen ls h.1 h.2 g ⊎ IsMisplaced ls h.1 h.2 g) in (
      l ∷ h.0,
      h.1,
      h.2,
      (
        placed,
        take (line_len bytes) bytes,
        drop (suc (line_len bytes)) bytes,
        form,
        feed_at bytes ended,
        begins,
      ),
      subst IsFront same h.4,
      subst P same h.5,
    )

-- here and now
here : (at : ℕ) (bytes : List ℕ) (front : List Line) (size : ℕ) (g : Fault) → IsFront front → IsCutShort front bytes size g
    ⊎ (IsMisshapen front at bytes g ⊎ IsMisplaced front at bytes g) → Reached at bytes front size g
here at bytes front size g is which =
    let P : List Line → Type 0 = λ ls. IsCutShort ls bytes size g ⊎ (IsMisshapen ls at bytes g ⊎ IsMisplaced ls at bytes g) in
    ([], at, bytes, (refl, refl), subst IsFront (sym (append-nil front)) is, subst P (sym (append-nil front)) which)

pub misshapen : (front : List Line) (r : Reading) (at : ℕ) (bytes : List ℕ) (g : Fault) → 0 < length bytes
    → run readings.Opening front ≡ passed r
    → line_at r at (take (line_len bytes) bytes) (not (eqb (length (drop (line_len bytes) bytes)) 0)) ≡ bad_line g
    → IsMisshapen front at bytes g
misshapen front r at bytes g some h e =
    let due = due_behind_lines front r h in
    let s = shape_fault r (seen front).base at (take (line_len bytes) bytes) (not (eqb (length (drop (line_len bytes) bytes)) 0))
    g (base_behind_lines front r h) (form_of (take (line_len bytes) bytes)) refl e in (
      some,
      no_line r at bytes g e,
      subst (λ (d : Option Due). ShapeFault d (seen front).base at (take (line_len bytes) bytes)
          (ltb (line_len bytes) (length bytes)) g) (sym due)
          (subst (λ (b : Bool). ShapeFault (what_is_due r) (seen front).base at (take (line_len bytes) bytes) b g)
          (ended_is bytes) s),
    )

misplaced : (front : List Line) (r : Reading) (at : ℕ) (bytes : List ℕ) (l : Line) (g : Fault)
    → run readings.Opening front ≡ passed r → not (eqb (length (drop (line_len bytes) bytes)) 0) ≡ true
    → IsForm l.form (take (line_len bytes) bytes) → l.at ≡ at
    → structure.take r l ≡ failed g → IsMisplaced front at bytes g
misplaced front r at bytes l g h ended form placed e = (
  l,
  take (line_len bytes) bytes,
  drop (suc (line_len bytes)) bytes,
  placed,
  form,
  feed_at bytes ended,
  no_front (front ++ l ∷ []) g (one_more front r l h ∙ e),
  why front r l g h e,
)

fault_takes : (n at : ℕ) (bytes : List ℕ) (r : Reading) (front so_far : List Line) (size : ℕ) (g : Fault) → length bytes ≤ n
    → run readings.Opening front ≡ passed r
    → (read_on r so_far (cuts at bytes) >>= ended_at size) ≡ failed_lines g → Reached at bytes front size g
unfolding read_on cuts
fault_takes n at [] r front so_far size g le h e =
    here at [] front size g (is_front front r h) (inl (cut_short front r so_far size g h e))
fault_takes zero at (b ∷ bytes) r front so_far size g le h e = absurd (omega arith)
fault_takes (suc n) at (b ∷ bytes) r front so_far size g le h e =
    let some : 0 < length (b ∷ bytes) = omega arith in
    let one = rw (first_line at (b ∷ bytes) some) at e in
    let shorter : length (drop (suc (line_len (b ∷ bytes))) (b ∷ bytes)) ≤ n = simp length-drop (omega arith) in
    by_line one
    (seen_result (line_at r at (take (line_len (b ∷ bytes)) (b ∷ bytes))
    (not (eqb (length (drop (line_len (b ∷ bytes)) (b ∷ bytes))) 0))))
    (λ next l more. fault_takes n (at + line_len (b ∷ bytes) + 1) (drop (suc (line_len (b ∷ bytes))) (b ∷ bytes)) next
    (front ++ l ∷ []) (so_far ++ l ∷ []) size g shorter (one_more front r l h ∙ more))
  where
    all : List ℕ
    all = b ∷ bytes

    Deeper : Type 0
    Deeper = (next : Reading) (l : Line) → structure.take r l ≡ passed next
        → (read_on next (so_far ++ l ∷ []) (cuts (at + line_len (b ∷ bytes) + 1) (drop (suc (line_len (b ∷ bytes))) (b ∷ bytes)))
        >>= ended_at size) ≡ failed_lines g
        → Reached (at + line_len (b ∷ bytes) + 1) (drop (suc (line_len (b ∷ bytes))) (b ∷ bytes)) (front ++ l ∷ []) size g

    by_place : (l : Line) → line_at r at (take (line_len (b ∷ bytes)) (b ∷ bytes))
        (not (eqb (length (drop (line_len (b ∷ bytes)) (b ∷ bytes))) 0)) ≡ Ok l
        → ((structure.take r l >>= λ next.
        read_on next (so_far ++ l ∷ [])
        (cuts (at + line_len (b ∷ bytes) + 1) (drop (suc (line_len (b ∷ bytes))) (b ∷ bytes)))) >>= ended_at size)
        ≡ failed_lines g
        → ((x : Reading) × (structure.take r l ≡ Ok x)) ⊎ ((f : Fault) × (structure.take r l ≡ Err f)) → Deeper
        → Reached at (b ∷ bytes) front size g
    by_place l is e (inl t) deeper =
        let k = line_takes r at (take (line_len (b ∷ bytes)) (b ∷ bytes)) _ l is in
        one_line_on at (b ∷ bytes) front l size g k.0 k.1 k.2 (deeper t.0 l t.1 (rw t.1 at e))
    by_place l is e (inr t) deeper =
        let k = line_takes r at (take (line_len (b ∷ bytes)) (b ∷ bytes)) _ l is in
        let e' : failed_lines t.0 ≡ failed_lines g = rw t.1 at e in
        let same : g ≡ t.0 = is_the_fault t.0 g e' in
        here at (b ∷ bytes) front size g (is_front front r h)
        (inr (inr (misplaced front r at (b ∷ bytes) l g h k.0 k.1 k.2 (t.1 ∙ ap (λ (x : Fault). failed x) (sym same)))))

    by_line :
        ((line_at r at (take (line_len (b ∷ bytes)) (b ∷ bytes)) (not (eqb (length (drop (line_len (b ∷ bytes)) (b ∷ bytes))) 0))
        >>= λ l. structure.take r l >>= λ next.
        read_on next (so_far ++ l ∷ [])
        (cuts (at + line_len (b ∷ bytes) + 1) (drop (suc (line_len (b ∷ bytes))) (b ∷ bytes)))) >>= ended_at size)
        ≡ failed_lines g
        → ((x : Line)
        × (line_at r at (take (line_len (b ∷ bytes)) (b ∷ bytes))
        (not (eqb (length (drop (line_len (b ∷ bytes)) (b ∷ bytes))) 0)) ≡ Ok x))
        ⊎ ((f : Fault)
        × (line_at r at (take (line_len (b ∷ bytes)) (b ∷ bytes))
        (not (eqb (length (drop (line_len (b ∷ bytes)) (b ∷ bytes))) 0)) ≡ Err f)) → Deeper
        → Reached at (b ∷ bytes) front size g
    by_line e (inl s) deeper = by_place s.0 s.1 (rw s.1 at e) (seen_result (structure.take r s.0)) deeper
    by_line e (inr s) deeper =
        let e' : failed_lines s.0 ≡ failed_lines g = rw s.1 at e in
        let same : g ≡ s.0 = is_the_fault s.0 g e' in
        here at (b ∷ bytes) front size g (is_front front r h)
        (inr (inl (misshapen front r at (b ∷ bytes) g (omega arith) h (s.1 ∙ ap (λ (x : Fault). bad_line x) (sym same)))))

sound_text : (text : List ℕ) (g : Fault) (b : Bool) → cond b (fault (sound_len text) 1) (lines_in text) ≡ failed_lines g
    → MatchBool b (g ≡ fault_at (sound_len text) 1) (IsFaultOfLines text g)
sound_text text g true e = is_the_fault (fault_at (sound_len text) 1) g e
sound_text text g false e =
    let t = fault_takes (length text) 0 text readings.Opening [] [] (length text) g (omega arith) refl e in
    record { front = t.0; at = t.1; rest = t.2; begins = t.3; goes_on = t.4; which = t.5 }

pub first_fault : (text : List ℕ) (g : Fault) → lines_of text ≡ failed_lines g → IsFirstFault text g
unfolding lines_of
first_fault text g e = sound_text text g (ltb (sound_len text) (length text)) e
