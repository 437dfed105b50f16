-- Reading the lines of a script one after the other, as a loop does.
use Rattle.std.proofs.Common.{◌≡◌, ℕ, suc, ◌+◌, ◌<◌, ◌≤◌, List, [], ◌∷◌, ◌++◌, length, take, drop, Bool, true, false, eqb}
use Rattle.std.proofs.Common.{not, ◌||◌, ◌&&◌, Result, Ok, Err, refl, sym, ap, ◌∙◌, arith, length-drop, append_assoc, append-nil}
use Rattle.std.proofs.Math.Dec.{eqb-suc-zero}
use Rattle.std.proofs.lemmas.Grind.{common_steps}
use Rattle.std.proofs.lemmas.List.{drop-drop, drop_all}
use Rattle.mc_base.specs.declared.read_error.Fault.{Fault}
use Rattle.mc_base.specs.declared.read_error.ReadError.{ReadError}
use Rattle.mc_base.specs.declared.read_error.ReadError.TheVariants as errors
use Rattle.mc_base.specs.Reading.{◌>>=◌, Fails}
use Rattle.edit_script.specs.declared.script.ScriptLine.{ScriptLine}
use Rattle.edit_script.specs.Lines.{Cut, cuts, begins_feed, ends_line}
use Rattle.edit_script.specs.Places.{line_len, end_len}
use Rattle.edit_script.specs.Script.{line_at, steps_in}

-- lines in front of what is read further on
abbrev pub after : List ScriptLine → Result (List ScriptLine) Fault → Result (List ScriptLine) Fault
after lines r = r >>= λ more. Ok (lines ++ more)

-- the first line is n bytes long, and its end e
abbrev cut_at : ℕ → ℕ → List ℕ → Cut
cut_at n at bytes = record { at = at; text = take n bytes; ended = not (eqb (length (drop n bytes)) 0) }

abbrev IsFirst : ℕ → ℕ → ℕ → List ℕ → Type 0
IsFirst n e at bytes = cuts at bytes ≡ cut_at n at bytes ∷ cuts (at + n + e) (drop e (drop n bytes))

feed_alone : (at b : ℕ) (bytes : List ℕ) → ends_line b bytes ≡ true → (eqb b 13 && begins_feed bytes) ≡ false
    → IsFirst 0 (end_len (b ∷ bytes)) at (b ∷ bytes)
unfolding cuts
feed_alone at b bytes is one =
    let e : at + 0 + 1 ≡ at + 1 = omega arith in
    let filled = eqb-suc-zero (length bytes) in
    rw (is, one, e, filled) refl

feed_pair : (at b c : ℕ) (bytes : List ℕ) → ends_line b (c ∷ bytes) ≡ false → eqb b 13 ≡ true → eqb c 10 ≡ true
    → IsFirst 0 (end_len (b ∷ c ∷ bytes)) at (b ∷ c ∷ bytes)
unfolding cuts
feed_pair at b c bytes is ret feed =
    let e : at + 0 + 2 ≡ at + 1 + 1 = omega arith in
    let filled = eqb-suc-zero (suc (length bytes)) in
    rw (is, ret, feed, e, filled) refl

byte_alone : (at b : ℕ) → ends_line b [] ≡ false → eqb b 13 ≡ false → IsFirst 1 0 at (b ∷ [])
unfolding cuts
byte_alone at b is ret = rw (is, ret) refl

byte_first : (n e at b : ℕ) (bytes : List ℕ) → ends_line b bytes ≡ false → eqb b 13 ≡ false → IsFirst n e (at + 1) bytes
    → IsFirst (suc n) e at (b ∷ bytes)
unfolding cuts
byte_first n e at b bytes is ret below =
    let place : at + 1 + n + e ≡ at + suc n + e = omega arith in rw (is, ret, below, place) refl

-- a line end of one byte or of two, by what its first byte is
ended_here : (at b : ℕ) (bytes : List ℕ) → (eqb b 10 || eqb b 13) ≡ true → IsFirst 0 (end_len (b ∷ bytes)) at (b ∷ bytes)
ended_here at b bytes is = by_return (eqb b 13) (eqb b 10) refl refl bytes
  where
    by_return : (r f : Bool) → eqb b 13 ≡ r → eqb b 10 ≡ f → (bs : List ℕ) → IsFirst 0 (end_len (b ∷ bs)) at (b ∷ bs)
    by_return false true ret feed bs = feed_alone at b bs (rw (ret, feed) refl) (rw ret refl)
    by_return false false ret feed bs = absurd (let P : true ≡ false = sym is ∙ rw (ret, feed) refl in cc)
    by_return true true ret feed bs = absurd (grind (arith, common_steps, ret, feed))
    by_return true false ret feed [] = feed_alone at b [] (rw (ret, feed) refl) (rw ret refl)
    by_return true false ret feed (c ∷ bs) = by_feed (eqb c 10) refl
      where
        by_feed : (t : Bool) → eqb c 10 ≡ t → IsFirst 0 (end_len (b ∷ c ∷ bs)) at (b ∷ c ∷ bs)
        by_feed true is_feed = feed_pair at b c bs (rw (ret, feed, is_feed) refl) ret is_feed
        by_feed false is_feed = feed_alone at b (c ∷ bs) (rw (ret, feed, is_feed) refl) (rw (ret, is_feed) refl)

-- the first line, its end, and the lines after it
pub first_line : (at : ℕ) (bytes : List ℕ) → 0 < length bytes
    → IsFirst (line_len bytes) (end_len (drop (line_len bytes) bytes)) at bytes
first_line at [] some = absurd (omega arith)
first_line at (b ∷ bytes) some = by_end (eqb b 10 || eqb b 13) refl bytes (first_line (at + 1) bytes)
  where
    no_end : (eqb b 10 || eqb b 13) ≡ false → (bs : List ℕ) → ends_line b bs ≡ false
    no_end is bs = by_feed (eqb b 10) (eqb b 13) refl refl
      where
        by_feed : (f r : Bool) → eqb b 10 ≡ f → eqb b 13 ≡ r → ends_line b bs ≡ false
        by_feed false false feed ret = rw (feed, ret) refl
        by_feed true r feed ret = let e : true ≡ false = rw feed at is in cc
        by_feed false true feed ret = let e : true ≡ false = rw (feed, ret) at is in cc

    no_return : (eqb b 10 || eqb b 13) ≡ false → eqb b 13 ≡ false
    no_return is = by_feed (eqb b 10) (eqb b 13) refl refl
      where
        by_feed : (f r : Bool) → eqb b 10 ≡ f → eqb b 13 ≡ r → eqb b 13 ≡ false
        by_feed f false feed ret = ret
        by_feed true true feed ret = let e : true ≡ false = rw feed at is in cc
        by_feed false true feed ret = let e : true ≡ false = rw (feed, ret) at is in cc

    by_end : (t : Bool) → (eqb b 10 || eqb b 13) ≡ t → (bs : List ℕ)
        → (0 < length bs → IsFirst (line_len bs) (end_len (drop (line_len bs) bs)) (at + 1) bs)
        → IsFirst (line_len (b ∷ bs)) (end_len (drop (line_len (b ∷ bs)) (b ∷ bs))) at (b ∷ bs)
    by_end true is bs below = rw is (ended_here at b bs is)
    by_end false is [] below = rw is (byte_alone at b (no_end is []) (no_return is))
    by_end false is (c ∷ bs) below = rw is (byte_first (line_len (c ∷ bs)) _ at b (c ∷ bs) (no_end is (c ∷ bs)) (no_return is)
        (below (omega arith)))

-- a turn of the loop at a place in the text
turn : (lines : List ScriptLine) (text : List ℕ) (at : ℕ) → at < length text
    → after lines (steps_in (cuts at (drop at text)))
    ≡ after lines (line_at (cut_at (line_len (drop at text)) at (drop at text)) >>= λ line.
    steps_in (cuts (at + line_len (drop at text) + end_len (drop (line_len (drop at text)) (drop at text)))
    (drop (end_len (drop (line_len (drop at text)) (drop at text))) (drop (line_len (drop at text)) (drop at text)))) >>= λ more.
    Ok (line ∷ more))
turn lines text at lt =
    let some : 0 < length (drop at text) = simp length-drop (omega arith) in
    rw (first_line at (drop at text) some) refl

push_one : (lines : List ScriptLine) (line : ScriptLine) (r : Result (List ScriptLine) Fault)
    → after lines (r >>= λ more. Ok (line ∷ more)) ≡ after (lines ++ line ∷ []) r
push_one lines line (Ok more) = ap Ok (sym (append_assoc lines (line ∷ []) more))
push_one lines line (Err f) = refl

pub goes_on : (lines : List ScriptLine) (line : ScriptLine) (text front rest : List ℕ) (at k e next : ℕ)
    (total : Result (List ScriptLine) Fault) → at < length text
    → k ≡ line_len (drop at text) → front ≡ take k (drop at text) → rest ≡ drop k (drop at text) → length front ≡ k
    → e ≡ end_len rest → next ≡ at + (length front + e)
    → line_at (record { at = at; text = front; ended = not (eqb (length rest) 0) }) ≡ Ok line
    → after lines (steps_in (cuts at (drop at text))) ≡ total
    → after (lines ++ line ∷ []) (steps_in (cuts next (drop next text))) ≡ total
goes_on lines line text front rest at k e next total lt is_k is_front is_rest len is_e is_next is_line so_far =
    let one = turn lines text at lt in
    let l : line_at (cut_at (line_len (drop at text)) at (drop at text)) ≡ Ok line = rw (← is_k, ← is_front, ← is_rest) is_line in
    let to : drop (line_len (drop at text)) (drop at text) ≡ rest = rw (← is_k) (sym is_rest) in
    let place : at + line_len (drop at text) + end_len (drop (line_len (drop at text)) (drop at text)) ≡ next =
    rw (to, ← is_k, ← is_e, is_next, len) (omega arith) in
    let behind : drop (end_len (drop (line_len (drop at text)) (drop at text))) (drop (line_len (drop at text)) (drop at text))
    ≡ drop next text = rw (to, ← is_e, is_rest, is_next, len, drop-drop, drop-drop) (ap (λ n. drop n text) (omega arith)) in
    sym (push_one lines line (steps_in (cuts next (drop next text)))) ∙ sym (rw (l, place, behind) at one) ∙ so_far

-- nothing more is read after a fault
pub bad_line : (e : ReadError Fault) (lines : List ScriptLine) (text front rest : List ℕ) (at k : ℕ)
    (total : Result (List ScriptLine) Fault) → at < length text
    → k ≡ line_len (drop at text) → front ≡ take k (drop at text) → rest ≡ drop k (drop at text)
    → Fails e (line_at (record { at = at; text = front; ended = not (eqb (length rest) 0) }))
    → after lines (steps_in (cuts at (drop at text))) ≡ total → Fails e total
bad_line errors.Memory lines text front rest at k total lt is_k is_front is_rest fails so_far = tt
bad_line (errors.Fault f) lines text front rest at k total lt is_k is_front is_rest fails so_far =
    let one = turn lines text at lt in
    let l : line_at (cut_at (line_len (drop at text)) at (drop at text)) ≡ Err f = rw (← is_k, ← is_front, ← is_rest) fails in
    sym so_far ∙ rw l at one

-- at the end of the text
pub all_read : (lines : List ScriptLine) (text : List ℕ) (at : ℕ) (total : Result (List ScriptLine) Fault) → length text ≤ at
    → after lines (steps_in (cuts at (drop at text))) ≡ total → total ≡ Ok lines
unfolding cuts
all_read lines text at total le so_far = sym so_far ∙ rw (drop_all at text le) (ap Ok (simp append-nil))

-- at its front
pub at_front : (text : List ℕ) (r : Result (List ScriptLine) Fault) → after [] r ≡ r
at_front text (Ok lines) = refl
at_front text (Err f) = refl
