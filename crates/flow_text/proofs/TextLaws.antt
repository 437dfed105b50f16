-- What is read in a text is its lines, and its lines are read.
use Rattle.std.proofs.Common.{◌≡◌, ℕ, zero, suc, ◌+◌, ◌^◌, ◌<◌, ◌≤◌, List, [], ◌∷◌, ◌++◌, length, take, drop, Bool, true, false}
use Rattle.std.proofs.Common.{eqb, ltb, leb, cond, not, ◌&&◌, ◌||◌, Option, Some, None, Result, Ok, refl, sym, ap, ◌∙◌, subst}
use Rattle.std.proofs.Common.{arith, length-drop, append_assoc, inl, inr}
use Rattle.std.specs.Prelude.{codes, IfSome}
use Rattle.std.specs.Fmt.{decimal}
use Rattle.std.specs.Int.{IsInRange}
use Rattle.std.specs.Str.Parse.{AllDigits}
use Rattle.std.specs.List.{AllByRecursion}
use Rattle.std.proofs.lemmas.Bool.{eqb-true, and_parts, leb-true, le-ltb}
use Rattle.std.proofs.lemmas.Bool.Decides.{nat_tests}
use Rattle.std.proofs.lemmas.List.{append-nil, length-take-le}
use Rattle.std.proofs.lemmas.Fmt.{digits_decimal}
use Rattle.std.proofs.lemmas.Str.Parse.{digit_from_value}
use Rattle.mc_base.specs.declared.level.Level.{Level}
use Rattle.mc_base.specs.declared.level.Level.TheVariants.{Forced, L0, L1, L2}
use Rattle.flow_text.specs.declared.line.Line.{Line}
use Rattle.flow_text.specs.declared.line.Form.{Form}
use Rattle.flow_text.specs.declared.line.Form.TheVariants.{Flow, First, Margin, Solid, Wall, Start, End, Atom, Row, Break, Close}
use Rattle.mc_base.specs.declared.read_error.Fault.{Fault}
use Rattle.flow_text.specs.declared.structure.Due.{Due}
use Rattle.flow_text.specs.declared.structure.Reading.{Reading}
use Rattle.flow_text.specs.declared.structure.Reading.TheVariants as readings
use Rattle.flow_text.specs.Numbers.{IsNumber, field}
use Rattle.flow_text.specs.Forms.{level_text, available_text, fill_text, inside_text, IsAmounts, IsForm, form_of}
use Rattle.flow_text.specs.Structure as structure
use Rattle.flow_text.specs.Structure.{unless, fault_of_due, fault_of_rows, what_is_due, fault_of_ending}
use Rattle.mc_base.specs.SoundText.{sound_len}
use Rattle.mc_base.proofs.SoundBytes.{IsSafe, sound_text}
use Rattle.mc_base.specs.Reading.{fault}
use Rattle.mc_base.proofs.ReadSteps.{step, no_fault}
use Rattle.flow_text.specs.Text.{IsText, line_len, cuts, line_of, line_at, Read, read_on, ended_at, lines_of}
use Rattle.flow_text.specs.Run.{run}
use Rattle.flow_text.specs.Faults.{Begins}
use Rattle.flow_text.proofs.FormLemmas.{own, form_takes, form_again}
use Rattle.flow_text.proofs.TextLemmas.{first_line}

-- bytes from space to `~`
abbrev pub printable : List ℕ → Bool
printable [] = true
printable (b ∷ bytes) = (leb 32 b && leb b 126) && printable bytes

printable-append : (a b : List ℕ) → printable a ≡ true → printable b ≡ true → printable (a ++ b) ≡ true
printable-append [] b h k = k
printable-append (x ∷ a) b h k = let p = and_parts (leb 32 x && leb x 126) (printable a) h
    in rw (p.0, printable-append a b p.1 k) refl

printable_digit : (d : ℕ) → IsInRange 48 57 d → (leb 32 d && leb d 126) ≡ true
printable_digit d h = grind (arith, nat_tests)

printable_digits : (ds : List ℕ) → AllDigits 10 ds → printable ds ≡ true
printable_digits [] h = refl
printable_digits (d ∷ ds) h = rw (printable_digit d (digit_from_value d h.0), printable_digits ds h.1) refl

printable_field : (n : ℕ) → IsNumber n → printable (field n) ≡ true
printable_field n fits = let f : n < 2 ^ 64 = omega arith in printable_digits (decimal n) (digits_decimal own n f)

both : (a b : List ℕ) → printable a ≡ true → printable b ≡ true → printable (a ++ b) ≡ true
both a b h k = printable-append a b h k

printable_level : (level : Level) → printable (level_text level) ≡ true
printable_level Forced = refl
printable_level L0 = refl
printable_level L1 = refl
printable_level L2 = refl

printable_inside : (avoid : Bool) → printable (inside_text avoid) ≡ true
printable_inside false = refl
printable_inside true = refl

printable_fill : (auto : Bool) → printable (fill_text auto) ≡ true
printable_fill false = refl
printable_fill true = refl

printable_available : (available : Option ℕ) → IfSome available (λ a. (64 ≤ a) × IsNumber a)
    → printable (available_text available) ≡ true
printable_available None h = refl
printable_available (Some a) h = printable_field a h.1

printable_amounts : (top bottom : ℕ) (text : List ℕ) → IsNumber top → IsNumber bottom → IsAmounts top bottom text
    → printable text ≡ true
printable_amounts top bottom text t b (inl e) =
    rw e (both (field top) (field bottom) (printable_field top t) (printable_field bottom b))
printable_amounts top bottom text t b (inr e) = rw e.2 refl

-- each form has such bytes alone
pub printable_form : (form : Form) (text : List ℕ) → IsForm form text → printable text ≡ true
printable_form Flow text h = rw h refl
printable_form (First n w st available auto) text h =
    rw h.5 (both (codes "row") (field n ++ (field w ++ (field st ++ (available_text available ++ fill_text auto)))) refl
    (both (field n) (field w ++ (field st ++ (available_text available ++ fill_text auto))) (printable_field n h.1)
    (both (field w) (field st ++ (available_text available ++ fill_text auto)) (printable_field w h.2)
    (both (field st) (available_text available ++ fill_text auto) (printable_field st h.3)
    (both (available_text available) (fill_text auto) (printable_available available h.4) (printable_fill auto))))))
printable_form (Margin u) text h = rw h.1 (printable_field u h.0)
printable_form (Solid u) text h = rw h.1 (printable_field u h.0)
printable_form Wall text h = rw h refl
printable_form (Start number x w avoid top bottom) text h =
    rw h.7 (both (codes "(") (field number ++ (field x ++ (field w ++ (inside_text avoid ++ h.5)))) refl
    (both (field number) (field x ++ (field w ++ (inside_text avoid ++ h.5))) (printable_field number h.0)
    (both (field x) (field w ++ (inside_text avoid ++ h.5)) (printable_field x h.1)
    (both (field w) (inside_text avoid ++ h.5) (printable_field w h.2)
    (both (inside_text avoid) h.5 (printable_inside avoid) (printable_amounts top bottom h.5 h.3 h.4 h.6))))))
printable_form (End number) text h = rw h.1 (printable_field number h.0)
printable_form (Atom u) text h = rw h.1 (printable_field u h.0)
printable_form (Row n w st x) text h =
    rw h.5 (both (codes "row") (field n ++ (field w ++ (field st ++ field x))) refl
    (both (field n) (field w ++ (field st ++ field x)) (printable_field n h.1)
    (both (field w) (field st ++ field x) (printable_field w h.2)
    (both (field st) (field x) (printable_field st h.3) (printable_field x h.4)))))
printable_form (Break level) text h = rw h (printable_level level)
printable_form Close text h = rw h refl

abbrev placed : ℕ → Form → Line
placed n f = record { at = n; form = f }

-- a line and its line feed are cut off
pub no_feed : (b : ℕ) → (leb 32 b && leb b 126) ≡ true → eqb b 10 ≡ false
no_feed b h = grind (arith, nat_tests)

cut_again : (at : ℕ) (text rest : List ℕ) → printable text ≡ true
    → cuts at (text ++ 10 ∷ rest) ≡ record { at = at; text = text; ended = true } ∷ cuts (at + length text + 1) rest
unfolding cuts
cut_again at [] rest h = let e : at + 0 + 1 ≡ at + 1 = omega arith in rw e refl
cut_again at (b ∷ text) rest h =
    let p = and_parts (leb 32 b && leb b 126) (printable text) h in
    let e : at + 1 + length text + 1 ≡ at + suc (length text) + 1 = omega arith in
    rw (no_feed b p.0, cut_again (at + 1) text rest p.1, e) refl

abbrev pub answer : Reading → Result Reading Fault
answer r = Ok r

abbrev pub lines_are : List Line → Result (List Line) Fault
lines_are lines = Ok lines

abbrev read_is : Reading → List Line → Result Read Fault
read_is r lines = Ok (record { reading = r; lines = lines })

-- lines that stand at the front are read so, and reading goes on after them
pub front_again : (lines : List Line) (at : ℕ) (bytes : List ℕ) (end : ℕ) (rest : List ℕ) (r next : Reading) (so_far : List Line)
    → Begins at lines bytes end rest → run r lines ≡ answer next
    → read_on r so_far (cuts at bytes) ≡ read_on next (so_far ++ lines) (cuts end rest)
unfolding read_on cuts
front_again [] at bytes end rest r next so_far h e =
    let same : r ≡ next = cc in
    rw (h.0, h.1, append-nil) (ap (λ (x : Reading). read_on x so_far (cuts at bytes)) same)
front_again (line ∷ lines) at bytes end rest r next so_far h e = step (structure.take r line) _ next e (λ middle taken more.
    let cut = cut_again at h.1 h.2 (printable_form line.form h.1 h.3) in
    let form = form_again line.form h.1 h.3 in
    let deeper = front_again lines (at + length h.1 + 1) h.2 end rest middle next (so_far ++ line ∷ []) h.5 more in
    let line_is : line ≡ record { at = at; form = line.form } = ap (λ (n : ℕ). placed n line.form) h.0 in
    let taken' : structure.take r (record { at = at; form = line.form }) ≡ Ok middle =
    subst (λ (l : Line). structure.take r l ≡ Ok middle) line_is taken in
    rw (h.4, cut, form, taken') (ap (λ (l : Line). read_on middle (so_far ++ l ∷ []) (cuts (at + length h.1 + 1) h.2))
    (sym line_is) ∙ deeper ∙ ap (λ (x : List Line). read_on next x (cuts end rest))
    (append_assoc so_far (line ∷ []) lines)))

-- the lines of a text stand at its front, with nothing after them
begins : (lines : List Line) (at : ℕ) (bytes : List ℕ) → IsText at lines bytes → (end : ℕ) × Begins at lines bytes end []
begins [] at bytes h = (at, (refl, sym h))
begins (line ∷ lines) at bytes h = let b = begins lines (at + length h.1 + 1) h.2 h.5 in (b.0, (h.0, h.1, h.2, h.3, h.4, b.1))

-- lines that are spelled so are read so
read_again : (lines : List Line) (at : ℕ) (bytes : List ℕ) (r next : Reading) (so_far : List Line) → IsText at lines bytes
    → run r lines ≡ answer next → read_on r so_far (cuts at bytes) ≡ read_is next (so_far ++ lines)
unfolding read_on cuts
read_again lines at bytes r next so_far h e = let b = begins lines at bytes h
    in front_again lines at bytes b.0 [] r next so_far b.1 e

-- what a text of lines is made of
plain : ℕ → Bool
plain b = eqb b 10 || (leb 32 b && leb b 126)

abbrev AllPlain : List ℕ → Type 0
AllPlain [] = Unit {0}
AllPlain (b ∷ bytes) = (1 ≤ b) × (b < 128) × AllPlain bytes

plain_byte : (b : ℕ) → (leb 32 b && leb b 126) ≡ true → (1 ≤ b) × (b < 128)
plain_byte b h = let p = and_parts (leb 32 b) (leb b 126) h in let low = leb-true 32 b p.0 in let high = leb-true b 126 p.1
    in (omega arith, omega arith)

plain_line : (text rest : List ℕ) → printable text ≡ true → AllPlain rest → AllPlain (text ++ 10 ∷ rest)
plain_line [] rest h k = (omega arith, omega arith, k)
plain_line (b ∷ text) rest h k =
    let p = and_parts (leb 32 b && leb b 126) (printable text) h in
    let q = plain_byte b p.0 in
    (q.0, q.1, plain_line text rest p.1 k)

plain_text : (lines : List Line) (at : ℕ) (bytes : List ℕ) → IsText at lines bytes → AllPlain bytes
plain_text [] at bytes h = rw h tt
plain_text (line ∷ lines) at bytes h =
    rw h.4 (plain_line h.1 h.2 (printable_form line.form h.1 h.3) (plain_text lines (at + length h.1 + 1) h.2 h.5))

safe_bytes : (bytes : List ℕ) → AllPlain bytes → AllByRecursion IsSafe bytes
safe_bytes [] h = tt
safe_bytes (b ∷ bytes) h = ((omega (arith, h.0), h.1), safe_bytes bytes h.2)

sound : (bytes : List ℕ) → AllPlain bytes → ltb (sound_len bytes) (length bytes) ≡ false
sound bytes h = le-ltb (sound_len bytes) (length bytes) (omega (arith, sound_text bytes (safe_bytes bytes h)))

pub text_again : (text : List ℕ) (lines : List Line) → IsText 0 lines text → run readings.Opening lines ≡ answer readings.Ended
    → lines_of text ≡ lines_are lines
unfolding lines_of
text_again text lines h e = rw (
  sound text (plain_text lines 0 text h),
  read_again lines 0 text readings.Opening readings.Ended [] h e,
) refl

-- and the other way

-- where a line feed ends the first line
pub feed_at : (bytes : List ℕ) → not (eqb (length (drop (line_len bytes) bytes)) 0) ≡ true
    → bytes ≡ take (line_len bytes) bytes ++ 10 ∷ drop (suc (line_len bytes)) bytes
feed_at [] h = absurd cc
feed_at (b ∷ bytes) h = by_feed (eqb b 10) refl (feed_at bytes) h
  where
    by_feed : (t : Bool) → eqb b 10 ≡ t
        → (not (eqb (length (drop (line_len bytes) bytes)) 0) ≡ true
        → bytes ≡ take (line_len bytes) bytes ++ 10 ∷ drop (suc (line_len bytes)) bytes)
        → not (eqb (length (drop (cond t 0 (suc (line_len bytes))) (b ∷ bytes))) 0) ≡ true
        → (b ∷ bytes) ≡ take (cond (eqb b 10) 0 (suc (line_len bytes))) (b ∷ bytes) ++ 10 ∷ drop
        (suc (cond (eqb b 10) 0 (suc (line_len bytes)))) (b ∷ bytes)
    by_feed true is below h = rw is (ap (λ (c : ℕ). c ∷ bytes) (eqb-true b 10 is))
    by_feed false is below h = rw is (ap (λ (t : List ℕ). b ∷ t) (below h))

pub line_len_le : (bytes : List ℕ) → line_len bytes ≤ length bytes
line_len_le [] = omega arith
line_len_le (b ∷ bytes) = by_feed (eqb b 10) (line_len_le bytes)
  where
    by_feed : (t : Bool) → line_len bytes ≤ length bytes → cond t 0 (suc (line_len bytes)) ≤ suc (length bytes)
    by_feed true h = omega arith
    by_feed false h = omega arith

ended_line : (b : Bool) (x y : Line) (f : Option Fault) (at : ℕ) → cond b (Ok x) (unless f (fault at 2)) ≡ Ok y
    → (b ≡ true) × (x ≡ y)
ended_line true x y f at h = (refl, cc)
ended_line false x y None at h = absurd cc
ended_line false x y (Some f) at h = absurd cc

pub line_takes : (r : Reading) (at : ℕ) (text : List ℕ) (ended : Bool) (l : Line) → line_at r at text ended ≡ Ok l
    → (ended ≡ true) × IsForm l.form text × (l.at ≡ at)
line_takes r at text ended l h = by_form (form_of text) refl h
  where
    by_form : (o : Option Form) → form_of text ≡ o → line_of o r at text ended ≡ Ok l
        → (ended ≡ true) × IsForm l.form text × (l.at ≡ at)
    by_form None is h = absurd cc
    by_form (Some f) is h =
        let e = ended_line ended (placed at f) l (fault_of_due (what_is_due r) (Some f)) at h in
        let P : Line → Type 0 = λ m. IsForm m.form text in
        (e.0, subst P e.1 (form_takes text f is), ap (λ (m : Line). m.at) (sym e.1))

abbrev ReadLines : ℕ → List ℕ → Reading → List Line → Read → Type 0
ReadLines at bytes r so_far out = (more : List Line) × (out.lines ≡ so_far ++ more) × IsText at more bytes
    × (run r more ≡ answer out.reading)

no_lines : (at : ℕ) (r : Reading) (so_far : List Line) (out : Read) → read_is r so_far ≡ Ok out → ReadLines at [] r so_far out
no_lines at r so_far out h =
    let P : Read → Type 0 = λ o. ReadLines at [] r so_far o in
    let same : record { reading = r; lines = so_far } ≡ out = cc in
    subst P same ([], sym (append-nil so_far), refl, refl)

one_line : (at : ℕ) (bytes : List ℕ) (r next : Reading) (so_far : List Line) (out : Read) (l : Line)
    → not (eqb (length (drop (line_len bytes) bytes)) 0) ≡ true → IsForm l.form (take (line_len bytes) bytes) → l.at ≡ at
    → structure.take r l ≡ Ok next
    → ReadLines (at + line_len bytes + 1) (drop (suc (line_len bytes)) bytes) next (so_far ++ l ∷ []) out
    → ReadLines at bytes r so_far out
one_line at bytes r next so_far out l ended form placed_at taken rest =
    let le = line_len_le bytes in
    let len : length (take (line_len bytes) bytes) ≡ line_len bytes = length-take-le (line_len bytes) bytes le in
    let at_rest : IsText (at + length (take (line_len bytes) bytes) + 1) rest.0 (drop (suc (line_len bytes)) bytes) =
    rw len rest.2 in (
      l ∷ rest.0,
      rest.1 ∙ append_assoc so_far (l ∷ []) rest.0,
      (placed_at, take (line_len bytes) bytes, drop (suc (line_len bytes)) bytes, form, feed_at bytes ended, at_rest),
      rw taken rest.3,
    )

read_takes : (n at : ℕ) (bytes : List ℕ) (r : Reading) (so_far : List Line) (out : Read) → length bytes ≤ n
    → read_on r so_far (cuts at bytes) ≡ Ok out → ReadLines at bytes r so_far out
unfolding read_on cuts
read_takes n at [] r so_far out le h = no_lines at r so_far out h
read_takes zero at (b ∷ bytes) r so_far out le h = absurd (omega arith)
read_takes (suc n) at (b ∷ bytes) r so_far out le h =
    let shorter : length (drop (suc (line_len (b ∷ bytes))) (b ∷ bytes)) ≤ n = simp length-drop (omega arith) in
    let one = rw (first_line at (b ∷ bytes) (omega arith)) at h in
    step (line_at r at (take (line_len (b ∷ bytes)) (b ∷ bytes)) (not (eqb (length (drop (line_len (b ∷ bytes)) (b ∷ bytes))) 0)))
    _ out one (λ l is more.
    step (structure.take r l) _ out more (λ next taken rest.
    let t = line_takes r at (take (line_len (b ∷ bytes)) (b ∷ bytes)) _ l is in
    one_line at (b ∷ bytes) r next so_far out l t.0 t.1 t.2 taken
    (read_takes n (at + line_len (b ∷ bytes) + 1) (drop (suc (line_len (b ∷ bytes))) (b ∷ bytes)) next (so_far ++ l ∷ []) out
    shorter rest)))

pub may_end : (r : Reading) (size : ℕ) → fault_of_ending r size ≡ None → r ≡ readings.Ended
may_end readings.Opening size h = absurd cc
may_end readings.Heading size h = absurd cc
may_end (readings.Within s) size h = by_due s.due h
  where
    by_due : (d : Option Due) → fault_of_rows d size ≡ None → readings.Within s ≡ readings.Ended
    by_due None h = absurd cc
    by_due (Some d) h = absurd cc
may_end readings.Ended size h = refl

unless_ok : {A : Type 0} (f : Option Fault) (x y : A) → unless f (Ok x) ≡ Ok y → (f ≡ None) × (x ≡ y)
unless_ok None x y h = (refl, cc)
unless_ok (Some f) x y h = absurd cc

pub text_takes : (text : List ℕ) (lines : List Line) → lines_of text ≡ lines_are lines
    → IsText 0 lines text × (run readings.Opening lines ≡ answer readings.Ended)
unfolding lines_of
text_takes text lines h =
    step (read_on readings.Opening [] (cuts 0 text)) (ended_at (length text)) lines
    (no_fault (ltb (sound_len text) (length text)) _ _ lines h) (λ out is more.
    let e = unless_ok (fault_of_ending out.reading (length text)) out.lines lines more in
    let t = read_takes (length text) 0 text readings.Opening [] out (omega arith) is in
    let same : t.0 ≡ lines = sym t.1 ∙ e.1 in
    let P : List Line → Type 0 = λ ls. IsText 0 ls text × (run readings.Opening ls ≡ answer readings.Ended) in
    subst P same (t.2, t.3 ∙ ap answer (may_end out.reading (length text) e.0)))
