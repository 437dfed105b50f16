-- Bytes are read line by line: what is read is the text of lines, and the text of lines is read.
use Rattle.std.proofs.Common.{◌≡◌, ◌≢◌, ℕ, ◌+◌, ◌<◌, Bool, true, false, cond, eqb, ◌&&◌, List, [], ◌∷◌, ◌++◌, length, Result, Ok}
use Rattle.std.proofs.Common.{Err, refl, sym, ap, subst, ◌∙◌, append_assoc, arith}
use Rattle.std.specs.List.{AllByRecursion, list_all}
use Rattle.std.proofs.lemmas.Bool.{ne_eqb, eqb-true, eqb-false}
use Rattle.std.proofs.lemmas.List.{append-nil, length-append, nil_from_length}
use Rattle.std.proofs.lemmas.List.Folds.{list_all-append}
use Rattle.mc_base.specs.Reading.{fault, ◌>>=◌}
use Rattle.mc_base.specs.declared.read_error.Fault.{Fault}
use Rattle.mc_base.proofs.ReadSteps.{failed_is, step}
use Rattle.font_table.specs.declared.reading.Building.{Building}
use Rattle.font_table.specs.Table.{is_plain, IsLine, text_of, HasLine}
use Rattle.font_table.specs.Reading.{line_taken, read_from}
use Rattle.font_table.proofs.Lines.{Lines, folded}

-- ---- what is read

pub record Read (start : ℕ) (line : List ℕ) (b : Building) (bytes : List ℕ) (after : Building) : Type 0 where
  pub lines : Lines
  pub whole : line ++ bytes ≡ text_of lines
  pub are_lines : AllByRecursion IsLine lines
  pub taken : folded start b lines ≡ Ok after

line_grown : (line : List ℕ) (byte : ℕ) → IsLine line → is_plain byte ≡ true → IsLine (line ++ byte ∷ [])
line_grown line byte is plain = list_all-append is_plain line (byte ∷ []) ∙ rw (is, plain) refl

read_end : (start : ℕ) (line : List ℕ) (b after : Building) (r : Bool) → eqb (length line) 0 ≡ r
    → cond {A = Result Building Fault} r (Ok b) (fault start 2) ≡ Ok after → Read start line b [] after
unfolding folded
read_end start line b after true none e =
    let empty : line ≡ [] = nil_from_length line (eqb-true _ _ none) in
    record { lines = []; whole = ap (λ (l : List ℕ). l ++ []) empty; are_lines = tt; taken = e }
read_end start line b after false some e = absurd cc

read_line : (start : ℕ) (line : List ℕ) (b next after : Building) (byte : ℕ) (bytes : List ℕ) → byte ≡ 10 → IsLine line
    → line_taken start b line ≡ Ok next → Read (start + length line + 1) [] next bytes after
    → Read start line b (byte ∷ bytes) after
unfolding folded
read_line start line b next after byte bytes feed is taken h = record {
  lines = line ∷ h.lines;
  whole = ap (λ (x : ℕ). line ++ x ∷ bytes) feed ∙ ap (λ (t : List ℕ). line ++ 10 ∷ t) h.whole;
  are_lines = (is, h.are_lines);
  taken = ap (λ (r : Result Building Fault). r >>= λ n. folded (start + length line + 1) n h.lines) taken ∙ h.taken;
}

read_byte : (start : ℕ) (line : List ℕ) (b after : Building) (byte : ℕ) (bytes : List ℕ)
    → Read start (line ++ byte ∷ []) b bytes after → Read start line b (byte ∷ bytes) after
read_byte start line b after byte bytes h =
    record {
      lines = h.lines;
      whole = sym (append_assoc line (byte ∷ []) bytes) ∙ h.whole;
      are_lines = h.are_lines;
      taken = h.taken;
    }

pub bytes_found : (start : ℕ) (line : List ℕ) (b after : Building) (bytes : List ℕ) → IsLine line
    → read_from start line b bytes ≡ Ok after → Read start line b bytes after
unfolding read_from
bytes_found start line b after [] is e = read_end start line b after (eqb (length line) 0) refl e
bytes_found start line b after (byte ∷ bytes) is e =
    by_feed (λ next more. bytes_found (start + length line + 1) [] next after bytes refl more)
    (λ plain more. bytes_found start (line ++ byte ∷ []) b after bytes (line_grown line byte is plain) more)
    (eqb byte 10) refl (is_plain byte) refl e
  where
    by_feed : ((next : Building) → read_from (start + length line + 1) [] next bytes ≡ Ok after
        → Read (start + length line + 1) [] next bytes after)
        → (is_plain byte ≡ true → read_from start (line ++ byte ∷ []) b bytes ≡ Ok after
        → Read start (line ++ byte ∷ []) b bytes after) → (r : Bool) → eqb byte 10 ≡ r → (p : Bool) → is_plain byte ≡ p
        → cond {A = Result Building Fault} r
        (line_taken start b line >>= λ next. read_from (start + length line + 1) [] next bytes)
        (cond p (read_from start (line ++ byte ∷ []) b bytes) (fault (start + length line) 2)) ≡ Ok after
        → Read start line b (byte ∷ bytes) after
    by_feed lines_on bytes_on true feed p plain e = step (line_taken start b line) _ after e λ next taken more.
        read_line start line b next after byte bytes (eqb-true _ _ feed) is taken (lines_on next more)
    by_feed lines_on bytes_on false other true plain e = read_byte start line b after byte bytes (bytes_on plain e)
    by_feed lines_on bytes_on false other false plain e = absurd cc

-- ---- what is the text of lines

plain_no_feed : (byte : ℕ) → is_plain byte ≡ true → eqb byte 10 ≡ false
plain_no_feed byte plain = ne_eqb byte 10 (λ same. let f : is_plain 10 ≡ true = subst (λ (n : ℕ). is_plain n ≡ true) same plain
    in absurd cc)

pub line_again : (start : ℕ) (front line : List ℕ) (b : Building) (rest : List ℕ) → IsLine line
    → read_from start front b (line ++ 10 ∷ rest)
    ≡ (line_taken start b (front ++ line) >>= λ next. read_from (start + length (front ++ line) + 1) [] next rest)
unfolding read_from
line_again start front [] b rest is =
    ap (λ (l : List ℕ). line_taken start b l >>= λ next. read_from (start + length l + 1) [] next rest) (sym (append-nil front))
line_again start front (byte ∷ line) b rest is =
    both_plain (λ others. line_again start (front ++ byte ∷ []) line b rest others) (is_plain byte) refl is
  where
    both_plain : ((list_all is_plain line ≡ true)
        → read_from start (front ++ byte ∷ []) b (line ++ 10 ∷ rest)
        ≡ (line_taken start b ((front ++ byte ∷ []) ++ line) >>= λ next.
        read_from (start + length ((front ++ byte ∷ []) ++ line) + 1) [] next rest)) → (p : Bool) → is_plain byte ≡ p
        → (p && list_all is_plain line) ≡ true
        → read_from start front b (byte ∷ (line ++ 10 ∷ rest))
        ≡ (line_taken start b (front ++ (byte ∷ line)) >>= λ next. read_from (start + length (front ++ (byte ∷ line)) + 1) []
        next rest)
    both_plain deeper true plain others =
        let one : read_from start front b (byte ∷ (line ++ 10 ∷ rest)) ≡ read_from start (front ++ byte ∷ []) b
        (line ++ 10 ∷ rest) = rw (plain_no_feed byte plain, plain) refl in
        one ∙ deeper others
        ∙ ap (λ (l : List ℕ). line_taken start b l >>= λ next. read_from (start + length l + 1) [] next rest)
        (append_assoc front (byte ∷ []) line)
    both_plain deeper false plain others = absurd cc

pub bytes_again : (start : ℕ) (lines : Lines) (b after : Building) → AllByRecursion IsLine lines → folded start b lines ≡ Ok after
    → read_from start [] b (text_of lines) ≡ Ok after
unfolding folded read_from
bytes_again start [] b after are e = e
bytes_again start (line ∷ lines) b after are e =
    step (line_taken start b line) _ after e λ next taken more.
    line_again start [] line b (text_of lines) are.0
    ∙ ap (λ (r : Result Building Fault). r >>= λ n. read_from (start + length line + 1) [] n (text_of lines)) taken
    ∙ bytes_again (start + length line + 1) lines next after are.1 more

-- ---- what is refused

-- what is wrong at a place, where a state was reached
pub data IsBroken (start : ℕ) (b : Building) (rest : List ℕ) (f : Fault) : Type 0 where
  bad_byte : (line : List ℕ) (byte : ℕ) (after : List ℕ) → rest ≡ line ++ byte ∷ after → IsLine line → is_plain byte ≡ false
      → byte ≢ 10 → f.at ≡ start + length line → f.rule ≡ 2 → IsBroken start b rest f
  cut_short : 0 < length rest → IsLine rest → f.at ≡ start → f.rule ≡ 2 → IsBroken start b rest f
  refused : (line : List ℕ) → HasLine rest line → line_taken start b line ≡ Err f → IsBroken start b rest f

pub record Broken (start : ℕ) (line : List ℕ) (b : Building) (bytes : List ℕ) (f : Fault) : Type 0 where
  pub front : Lines
  pub rest : List ℕ
  pub whole : line ++ bytes ≡ text_of front ++ rest
  pub are_lines : AllByRecursion IsLine front
  pub reached : Building
  pub taken : folded start b front ≡ Ok reached
  pub broken : IsBroken (start + length (text_of front)) reached rest f

-- the fault stands right here
here : (start : ℕ) (line : List ℕ) (b : Building) (bytes : List ℕ) (f : Fault)
    → ((s : ℕ) → s ≡ start → IsBroken s b (line ++ bytes) f) → Broken start line b bytes f
unfolding folded
here start line b bytes f broken =
    record {
      front = [];
      rest = line ++ bytes;
      whole = refl;
      are_lines = tt;
      reached = b;
      taken = refl;
      broken = broken (start + 0) (omega arith);
    }

broken_end : (start : ℕ) (line : List ℕ) (b : Building) (f : Fault) (r : Bool) → IsLine line → eqb (length line) 0 ≡ r
    → cond {A = Result Building Fault} r (Ok b) (fault start 2) ≡ Err f → Broken start line b [] f
broken_end start line b f true is none e = absurd cc
broken_end start line b f false is some e =
    let f-is = failed_is {A = Building} (record { at = start; rule = 2 }) f e in
    here start line b [] f λ s same.
    subst (λ (l : List ℕ). IsBroken s b l f) (sym (append-nil line))
    (cut_short (let filled = eqb-false (length line) 0 some in omega (arith, filled)) is
    (sym (ap (λ (x : Fault). x.at) f-is) ∙ sym same) (sym (ap (λ (x : Fault). x.rule) f-is)))

broken_later : (start : ℕ) (line : List ℕ) (b next : Building) (byte : ℕ) (bytes : List ℕ) (f : Fault) → byte ≡ 10 → IsLine line
    → line_taken start b line ≡ Ok next → Broken (start + length line + 1) [] next bytes f
    → Broken start line b (byte ∷ bytes) f
unfolding folded
broken_later start line b next byte bytes f feed is taken h =
    let place : start + length line + 1 + length (text_of h.front) ≡ start + length (text_of (line ∷ h.front)) =
    omega (arith, length-append line (10 ∷ text_of h.front)) in
    record {
      front = line ∷ h.front;
      rest = h.rest;
      whole = ap (λ (x : ℕ). line ++ x ∷ bytes) feed ∙ ap (λ (t : List ℕ). line ++ 10 ∷ t) h.whole
          ∙ sym (append_assoc line (10 ∷ text_of h.front) h.rest);
      are_lines = (is, h.are_lines);
      reached = h.reached;
      taken = ap (λ (r : Result Building Fault). r >>= λ n. folded (start + length line + 1) n h.front) taken ∙ h.taken;
      broken = subst (λ (s : ℕ). IsBroken s h.reached h.rest f) place h.broken;
    }

broken_line : (start : ℕ) (line : List ℕ) (b : Building) (byte : ℕ) (bytes : List ℕ) (f : Fault) → byte ≡ 10 → IsLine line
    → line_taken start b line ≡ Err f → Broken start line b (byte ∷ bytes) f
broken_line start line b byte bytes f feed is refusal =
    here start line b (byte ∷ bytes) f λ s same.
    refused line (record { after = bytes; whole = ap (λ (x : ℕ). line ++ x ∷ bytes) feed; is_line = is })
    (ap (λ (p : ℕ). line_taken p b line) same ∙ refusal)

broken_byte : (start : ℕ) (line : List ℕ) (b : Building) (byte : ℕ) (bytes : List ℕ) (f : Fault)
    → Broken start (line ++ byte ∷ []) b bytes f → Broken start line b (byte ∷ bytes) f
broken_byte start line b byte bytes f h =
    record {
      front = h.front;
      rest = h.rest;
      whole = sym (append_assoc line (byte ∷ []) bytes) ∙ h.whole;
      are_lines = h.are_lines;
      reached = h.reached;
      taken = h.taken;
      broken = h.broken;
    }

pub bytes_broken : (start : ℕ) (line : List ℕ) (b : Building) (bytes : List ℕ) (f : Fault) → IsLine line
    → read_from start line b bytes ≡ Err f → Broken start line b bytes f
unfolding read_from
bytes_broken start line b [] f is e = broken_end start line b f (eqb (length line) 0) is refl e
bytes_broken start line b (byte ∷ bytes) f is e =
    by_feed (λ next more. bytes_broken (start + length line + 1) [] next bytes f refl more)
    (λ plain more. bytes_broken start (line ++ byte ∷ []) b bytes f (line_grown line byte is plain) more)
    (eqb byte 10) refl (is_plain byte) refl e
  where
    by_line : ((next : Building) → read_from (start + length line + 1) [] next bytes ≡ Err f
        → Broken (start + length line + 1) [] next bytes f) → byte ≡ 10
        → (r : Result Building Fault) → line_taken start b line ≡ r
        → (r >>= λ next. read_from (start + length line + 1) [] next bytes) ≡ Err f → Broken start line b (byte ∷ bytes) f
    by_line lines_on feed (Ok next) taken e = broken_later start line b next byte bytes f feed is taken (lines_on next e)
    by_line lines_on feed (Err d) taken e = broken_line start line b byte bytes f feed is (taken ∙ e)

    by_feed : ((next : Building) → read_from (start + length line + 1) [] next bytes ≡ Err f
        → Broken (start + length line + 1) [] next bytes f)
        → (is_plain byte ≡ true → read_from start (line ++ byte ∷ []) b bytes ≡ Err f
        → Broken start (line ++ byte ∷ []) b bytes f) → (r : Bool) → eqb byte 10 ≡ r → (p : Bool) → is_plain byte ≡ p
        → cond {A = Result Building Fault} r
        (line_taken start b line >>= λ next. read_from (start + length line + 1) [] next bytes)
        (cond p (read_from start (line ++ byte ∷ []) b bytes) (fault (start + length line) 2)) ≡ Err f
        → Broken start line b (byte ∷ bytes) f
    by_feed lines_on bytes_on true feed p plain e = by_line lines_on (eqb-true _ _ feed) (line_taken start b line) refl e
    by_feed lines_on bytes_on false other true plain e = broken_byte start line b byte bytes f (bytes_on plain e)
    by_feed lines_on bytes_on false other false plain e =
        let f-is = failed_is {A = Building} (record { at = start + length line; rule = 2 }) f e in
        here start line b (byte ∷ bytes) f λ s same.
        bad_byte line byte bytes refl is plain (eqb-false byte 10 other) (sym (ap (λ (x : Fault). x.at) f-is)
        ∙ ap (λ (p : ℕ). p + length line) (sym same)) (sym (ap (λ (x : Fault). x.rule) f-is))
