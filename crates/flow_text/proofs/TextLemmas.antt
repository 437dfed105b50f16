-- Reading the lines of a text one after the other, as a loop does.
use Rattle.std.proofs.Common.{◌≡◌, ℕ, suc, ◌+◌, ◌<◌, ◌≤◌, List, [], ◌∷◌, ◌++◌, length, take, drop, Bool, true, false, eqb, cond}
use Rattle.std.proofs.Common.{not, Some, None, Result, Ok, Err, refl, sym, ap, ◌∙◌, arith, length-drop}
use Rattle.std.proofs.Math.Dec.{eqb-suc-zero}
use Rattle.std.proofs.lemmas.List.{drop-drop, drop_all}
use Rattle.flow_text.specs.declared.line.Line.{Line}
use Rattle.mc_base.specs.declared.read_error.Fault.{Fault}
use Rattle.mc_base.specs.declared.read_error.ReadError.{ReadError}
use Rattle.mc_base.specs.declared.read_error.ReadError.TheVariants as errors
use Rattle.mc_base.specs.Reading.{◌>>=◌, Fails}
use Rattle.flow_text.specs.declared.structure.Reading.{Reading}
use Rattle.flow_text.specs.declared.structure.Reading.TheVariants as readings
use Rattle.flow_text.specs.Structure as structure
use Rattle.flow_text.specs.Structure.{fault_of_ending}
use Rattle.flow_text.specs.Text.{line_len, Cut, cuts, line_at, Read, read_on, ended_at, lines_in}

-- the first line is n bytes long
abbrev cut_at : ℕ → ℕ → List ℕ → Cut
cut_at n at bytes = record { at = at; text = take n bytes; ended = not (eqb (length (drop n bytes)) 0) }

abbrev IsFirst : ℕ → ℕ → List ℕ → Type 0
IsFirst n at bytes = cuts at bytes ≡ cut_at n at bytes ∷ cuts (at + n + 1) (drop (suc n) bytes)

feed_first : (at b : ℕ) (bytes : List ℕ) → eqb b 10 ≡ true → IsFirst 0 at (b ∷ bytes)
unfolding cuts
feed_first at b bytes is =
    let e : at + 0 + 1 ≡ at + 1 = omega arith in
    let filled = eqb-suc-zero (length bytes) in
    rw (is, e, filled) refl

byte_alone : (at b : ℕ) → eqb b 10 ≡ false → IsFirst 1 at (b ∷ [])
unfolding cuts
byte_alone at b is = rw is refl

byte_first : (n at b : ℕ) (bytes : List ℕ) → eqb b 10 ≡ false → IsFirst n (at + 1) bytes → IsFirst (suc n) at (b ∷ bytes)
unfolding cuts
byte_first n at b bytes is below = let e : at + 1 + n + 1 ≡ at + suc n + 1 = omega arith in rw (is, below, e) refl

-- the first line, and those after it
pub first_line : (at : ℕ) (bytes : List ℕ) → 0 < length bytes → IsFirst (line_len bytes) at bytes
first_line at [] some = absurd (omega arith)
first_line at (b ∷ []) some = by_feed (eqb b 10) refl
  where
    by_feed : (t : Bool) → eqb b 10 ≡ t → IsFirst (cond (eqb b 10) 0 1) at (b ∷ [])
    by_feed true is = rw is (feed_first at b [] is)
    by_feed false is = rw is (byte_alone at b is)
first_line at (b ∷ c ∷ bytes) some = by_feed (eqb b 10) refl (first_line (at + 1) (c ∷ bytes) (omega arith))
  where
    by_feed : (t : Bool) → eqb b 10 ≡ t → IsFirst (line_len (c ∷ bytes)) (at + 1) (c ∷ bytes)
        → IsFirst (cond (eqb b 10) 0 (suc (line_len (c ∷ bytes)))) at (b ∷ c ∷ bytes)
    by_feed true is below = rw is (feed_first at b (c ∷ bytes) is)
    by_feed false is below = rw is (byte_first (line_len (c ∷ bytes)) at b (c ∷ bytes) is below)

-- a turn of the loop at a place in the text
turn : (r : Reading) (lines : List Line) (text : List ℕ) (at : ℕ) → at < length text
    → read_on r lines (cuts at (drop at text))
    ≡ (line_at r at (take (line_len (drop at text)) (drop at text))
    (not (eqb (length (drop (line_len (drop at text)) (drop at text))) 0)) >>= λ line. structure.take r line >>= λ next.
    read_on next (lines ++ line ∷ [])
    (cuts (at + line_len (drop at text) + 1) (drop (suc (line_len (drop at text))) (drop at text))))
unfolding read_on
turn r lines text at lt =
    let some : 0 < length (drop at text) = simp length-drop (omega arith) in
    rw (first_line at (drop at text) some) refl

pub goes_on : (r next : Reading) (lines : List Line) (line : Line) (text front rest : List ℕ) (at k after : ℕ)
    (total : Result Read Fault) → at < length text
    → k ≡ line_len (drop at text) → front ≡ take k (drop at text) → rest ≡ drop k (drop at text) → length front ≡ k
    → after ≡ at + (length front + 1)
    → line_at r at front (not (eqb (length rest) 0)) ≡ Ok line → structure.take r line ≡ Ok next
    → read_on r lines (cuts at (drop at text)) ≡ total → read_on next (lines ++ line ∷ []) (cuts after (drop after text)) ≡ total
goes_on r next lines line text front rest at k after total lt is_k is_front is_rest len is_after is_line is_next so_far =
    let one = turn r lines text at lt in
    let l : line_at r at (take (line_len (drop at text)) (drop at text))
    (not (eqb (length (drop (line_len (drop at text)) (drop at text))) 0)) ≡ Ok line =
    rw (← is_k, ← is_front, ← is_rest) is_line in
    let place : after ≡ at + line_len (drop at text) + 1 = omega arith in
    let place' : after ≡ at + suc (line_len (drop at text)) = omega arith in
    let behind : drop after text ≡ drop (suc (line_len (drop at text))) (drop at text) = ap (λ (n : ℕ). drop n text) place'
    ∙ sym (drop-drop (suc (line_len (drop at text))) at text) in
    rw (behind, place) (sym (rw (l, is_next) at one) ∙ so_far)

-- nothing more is read after a fault
pub bad_line : (e : ReadError Fault) (r : Reading) (lines : List Line) (text front rest : List ℕ) (at k : ℕ) → at < length text
    → k ≡ line_len (drop at text) → front ≡ take k (drop at text) → rest ≡ drop k (drop at text)
    → Fails e (line_at r at front (not (eqb (length rest) 0)))
    → read_on r lines (cuts at (drop at text)) ≡ read_on readings.Opening [] (cuts 0 text) → Fails e (lines_in text)
bad_line errors.Memory r lines text front rest at k lt is_k is_front is_rest fails so_far = tt
bad_line (errors.Fault f) r lines text front rest at k lt is_k is_front is_rest fails so_far =
    let one = turn r lines text at lt in
    let l : line_at r at (take (line_len (drop at text)) (drop at text))
    (not (eqb (length (drop (line_len (drop at text)) (drop at text))) 0)) ≡ Err f =
    rw (← is_k, ← is_front, ← is_rest) fails in
    rw (sym so_far ∙ rw l at one) refl

pub bad_place : (e : ReadError Fault) (r : Reading) (lines : List Line) (line : Line) (text front rest : List ℕ) (at k : ℕ)
    → at < length text
    → k ≡ line_len (drop at text) → front ≡ take k (drop at text) → rest ≡ drop k (drop at text)
    → line_at r at front (not (eqb (length rest) 0)) ≡ Ok line → Fails e (structure.take r line)
    → read_on r lines (cuts at (drop at text)) ≡ read_on readings.Opening [] (cuts 0 text) → Fails e (lines_in text)
bad_place errors.Memory r lines line text front rest at k lt is_k is_front is_rest is_line fails so_far = tt
bad_place (errors.Fault f) r lines line text front rest at k lt is_k is_front is_rest is_line fails so_far =
    let one = turn r lines text at lt in
    let l : line_at r at (take (line_len (drop at text)) (drop at text))
    (not (eqb (length (drop (line_len (drop at text)) (drop at text))) 0)) ≡ Ok line =
    rw (← is_k, ← is_front, ← is_rest) is_line in
    rw (sym so_far ∙ rw (l, fails) at one) refl

-- at the end of the text
all_read : (r : Reading) (lines : List Line) (text : List ℕ) (at : ℕ) → length text ≤ at
    → read_on r lines (cuts at (drop at text)) ≡ read_on readings.Opening [] (cuts 0 text)
    → lines_in text ≡ ended_at (length text) (record { reading = r; lines = lines })
unfolding read_on cuts
all_read r lines text at le so_far = rw (sym so_far, drop_all at text le) refl

pub may_end : (r : Reading) (lines : List Line) (text : List ℕ) (at : ℕ) → length text ≤ at
    → read_on r lines (cuts at (drop at text)) ≡ read_on readings.Opening [] (cuts 0 text)
    → fault_of_ending r (length text) ≡ None → lines_in text ≡ Ok lines
may_end r lines text at le so_far none = all_read r lines text at le so_far ∙ rw none refl

pub may_not_end : (r : Reading) (lines : List Line) (text : List ℕ) (at : ℕ) (f : Fault) → length text ≤ at
    → read_on r lines (cuts at (drop at text)) ≡ read_on readings.Opening [] (cuts 0 text)
    → fault_of_ending r (length text) ≡ Some f → lines_in text ≡ Err f
may_not_end r lines text at f le so_far some = all_read r lines text at le so_far ∙ rw some refl
