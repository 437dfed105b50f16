-- Tables as a whole: what is read is a table, a table is read, and a text that is none has its first fault.
use Rattle.std.proofs.Common.{◌≡◌, ◌≢◌, ℕ, ◌+◌, ◌^◌, ◌≤◌, ◌<◌, Bool, true, false, cond, eqb, leb, ltb, ◌&&◌, List, [], ◌∷◌, ◌++◌}
use Rattle.std.proofs.Common.{length, Option, Some, None, Result, Ok, Err, inl, inr, refl, sym, ap, subst, ◌∙◌, append_assoc}
use Rattle.std.proofs.Common.{arith}
use Rattle.std.specs.Prelude.{codes}
use Rattle.std.specs.List.{AllByRecursion, list_all}
use Rattle.std.specs.Str.{bytes_eq}
use Rattle.std.proofs.lemmas.Bool.{ne_eqb, eqb-true, eqb-false, leb-true, ltb-true, ltb-false, le-ltb}
use Rattle.std.proofs.lemmas.List.{append-nil, length-append, nil_from_length}
use Rattle.std.proofs.lemmas.Slice.Eq.{bytes_eq-Decides}
use Rattle.std.proofs.lemmas.Str.{utf8_valid_len_le}
use Rattle.mc_base.specs.SoundText.{sound_len}
use Rattle.mc_base.proofs.SoundBytes.{IsSafe, sound_text}
use Rattle.mc_base.specs.Reading.{fault, ◌>>=◌}
use Rattle.mc_base.specs.declared.read_error.Fault.{Fault}
use Rattle.mc_base.proofs.ReadSteps.{failed, failed_is, step, given_is}
use Rattle.font_table.specs.declared.fonts.Advance.{Advance}
use Rattle.font_table.specs.declared.fonts.Face.{Face}
use Rattle.font_table.specs.declared.reading.Building.{Building}
use Rattle.font_table.specs.Sound.{AreSound, IsSoundFace, IsSound}
use Rattle.font_table.specs.Table.{is_plain, IsLine, text_of, AreCharacters, AreFaces, IsTable, IsMetrics, IsFaceLine}
use Rattle.font_table.specs.Table.{IsCharacterLine, Begins, HasLine, IsFaultBehind, bad_byte, cut_short, no_header, no_form}
use Rattle.font_table.specs.Table.{out_of_order, no_face, IsFaultOfLines, IsFirstFault}
use Rattle.font_table.specs.Forms.{face_at, character_at}
use Rattle.font_table.specs.Reading.{faces_of, nothing_yet, face_begun, character_taken, form_taken, line_taken, read_from, ended}
use Rattle.font_table.specs.Reading.{all_of}
use Rattle.font_table.proofs.Forms.{both, face_again, character_found, character_again}
use Rattle.font_table.proofs.Lines.{Lines, folded, face_taken, table_found, table_again}
use Rattle.font_table.proofs.Bytes.{bytes_found, bytes_again, bytes_broken, IsBroken}
use Rattle.font_table.proofs.Bytes as bytes

-- ---- lines in a row

folded-append : (at : ℕ) (b : Building) (front more : Lines)
    → folded at b (front ++ more) ≡ (folded at b front >>= λ n. folded (at + length (text_of front)) n more)
unfolding folded
folded-append at b [] more = let same : at ≡ at + 0 = omega arith in ap (λ (p : ℕ). folded p b more) same
folded-append at b (line ∷ front) more = by_line (λ n. folded-append (at + length line + 1) n front more) (line_taken at b line)
  where
    by_line : ((n : Building) → folded (at + length line + 1) n (front ++ more)
        ≡ (folded (at + length line + 1) n front >>= λ x. folded (at + length line + 1 + length (text_of front)) x more))
        → (r : Result Building Fault) → (r >>= λ n. folded (at + length line + 1) n (front ++ more))
        ≡ ((r >>= λ n. folded (at + length line + 1) n front) >>= λ n. folded (at + length (text_of (line ∷ front))) n more)
    by_line deeper (Ok n) =
        let place : at + length line + 1 + length (text_of front) ≡ at + length (text_of (line ∷ front)) =
        omega (arith, length-append line (10 ∷ text_of front)) in
        deeper n ∙ ap (λ (p : ℕ). folded (at + length line + 1) n front >>= λ x. folded p x more) place
    by_line deeper (Err f) = refl

-- a face's line that goes on with any lines
example : Face
example = record { name = codes "a"; weight = 1; italic = false; ascent = 0; descent = 0; default_advance = 0; advances = [] }

example_line : List ℕ
example_line = codes "face a 1 normal 0 0 0"

is_example : IsFaceLine example_line example
unfolding example example_line
is_example = record {
  weight = 49 ∷ [];
  ascent = 48 ∷ [];
  descent = 48 ∷ [];
  default = 48 ∷ [];
  words = refl;
  named = omega arith;
  name_bytes = refl;
  is_weight = record { filled = omega arith; digits_only = refl; value = refl };
  weighs = omega arith;
  weight_most = omega arith;
  is_ascent = record { filled = omega arith; digits_only = refl; value = refl };
  ascent_most = omega arith;
  is_descent = record { filled = omega arith; digits_only = refl; value = refl };
  descent_most = omega arith;
  is_default = record { filled = omega arith; digits_only = refl; value = refl };
  default_most = omega arith;
}

begins_some : (front : Lines) (reached : Building) → 0 < length (text_of front) → 0 < length front
    → folded 0 nothing_yet front ≡ Ok reached → Begins front
unfolding folded
begins_some front reached later some e =
    let next = face_begun reached (record example { advances = [] }) in
    let one : folded 0 nothing_yet (front ++ example_line ∷ []) ≡ Ok next =
    folded-append 0 nothing_yet front (example_line ∷ [])
    ∙ ap (λ (r : Result Building Fault). r >>= λ n. folded (0 + length (text_of front)) n (example_line ∷ [])) e
    ∙ ap (λ (r : Result Building Fault). r >>= λ n. Ok n)
    (face_taken (0 + length (text_of front)) reached example_line example (omega (arith, later)) is_example) in (
      example_line ∷ [],
      faces_of next,
      table_found next (front ++ example_line ∷ []) (omega (arith, length-append front (example_line ∷ []), some)) one
          (omega (arith, length-append (faces_of reached) (record example { advances = [] } ∷ []))),
    )

header_taken : folded 0 nothing_yet (codes "metrics 1" ∷ []) ≡ Ok nothing_yet
unfolding folded line_taken
header_taken = refl

pub begins : (front : Lines) (reached : Building) → folded 0 nothing_yet front ≡ Ok reached → Begins front
begins [] reached e = let h = begins_some (codes "metrics 1" ∷ []) nothing_yet (omega arith) (omega arith) header_taken
    in (codes "metrics 1" ∷ h.0, h.1, h.2)
begins (line ∷ front) reached e = begins_some (line ∷ front) reached (omega (arith, length-append line (10 ∷ text_of front)))
    (omega arith) e

-- ---- a line that is refused

no_form_none : (line : List ℕ) → face_at line ≡ None → (face : Face) → IsFaceLine line face → ⊥
no_form_none line none face form = let e = sym none ∙ face_again line face form in absurd cc

no_character_none : (line : List ℕ) → character_at line ≡ None → (a : Advance) → IsCharacterLine line a → ⊥
no_character_none line none a form = let e = sym none ∙ character_again line a form in absurd cc

-- no table begins with lines that were refused
no_table : (front : Lines) (reached : Building) (line : List ℕ) (f : Fault) → folded 0 nothing_yet front ≡ Ok reached
    → line_taken (0 + length (text_of front)) reached line ≡ Err f → Begins (front ++ line ∷ []) → ⊥
unfolding folded
no_table front reached line f taken refusal table =
    let again = table_again ((front ++ line ∷ []) ++ table.0) table.1 table.2 in
    let regrouped : (front ++ line ∷ []) ++ table.0 ≡ front ++ (line ∷ table.0) = append_assoc front (line ∷ []) table.0 in
    let stopped : folded 0 nothing_yet (front ++ (line ∷ table.0)) ≡ Err f =
    folded-append 0 nothing_yet front (line ∷ table.0)
    ∙ ap (λ (r : Result Building Fault). r >>= λ n. folded (0 + length (text_of front)) n (line ∷ table.0)) taken
    ∙ ap (λ (r : Result Building Fault). r >>= λ n. folded (0 + length (text_of front) + length line + 1) n table.0) refusal in
    let both = sym again.1 ∙ ap (folded 0 nothing_yet) regrouped ∙ stopped in
    absurd cc

refused_character : (front : Lines) (rest : List ℕ) (start : ℕ) (b : Building) (line : List ℕ) (a : Advance) (f : Fault)
    (last : Option Face) → 0 < length front → HasLine rest line → IsCharacterLine line a
    → (Begins (front ++ line ∷ []) → ⊥) → character_taken start b last a ≡ Err f → IsFaultBehind front rest start f.at f.rule
refused_character front rest start b line a f None some has form stuck e =
    let f-is = failed_is {A = Building} (record { at = start; rule = 5 }) f e in
    out_of_order line a some has form stuck (sym (ap (λ (x : Fault). x.at) f-is)) (sym (ap (λ (x : Fault). x.rule) f-is))
refused_character front rest start b line a f (Some face) some has form stuck e = by_order (leb b.least a.ch) e
  where
    by_order : (r : Bool) → cond {A = Result Building Fault} r
        (Ok (record { done = b.done; last = Some (record face { advances = face.advances ++ a ∷ [] }); least = a.ch + 1 }))
        (fault start 5) ≡ Err f → IsFaultBehind front rest start f.at f.rule
    by_order true e = absurd cc
    by_order false e =
        let f-is = failed_is {A = Building} (record { at = start; rule = 5 }) f e in
        out_of_order line a some has form stuck (sym (ap (λ (x : Fault). x.at) f-is)) (sym (ap (λ (x : Fault). x.rule) f-is))

refused_form : (front : Lines) (rest : List ℕ) (start : ℕ) (b : Building) (line : List ℕ) (f : Fault) (face : Option Face)
    (character : Option Advance) → 0 < length front → HasLine rest line
    → face_at line ≡ face → character_at line ≡ character → (Begins (front ++ line ∷ []) → ⊥)
    → form_taken start b face character ≡ Err f → IsFaultBehind front rest start f.at f.rule
refused_form front rest start b line f (Some face) character some has is_face is_character stuck e = absurd cc
refused_form front rest start b line f None (Some a) some has is_face is_character stuck e =
    refused_character front rest start b line a f b.last some has (character_found line a is_character) stuck e
refused_form front rest start b line f None None some has is_face is_character stuck e =
    let f-is = failed_is {A = Building} (record { at = start; rule = 4 }) f e in
    no_form line some has (no_form_none line is_face) (no_character_none line is_character) (sym (ap (λ (x : Fault). x.at) f-is))
    (sym (ap (λ (x : Fault). x.rule) f-is))

refused_first : (rest : List ℕ) (b : Building) (line : List ℕ) (f : Fault) → HasLine rest line → line_taken 0 b line ≡ Err f
    → IsFaultBehind [] rest 0 f.at f.rule
unfolding line_taken
refused_first rest b line f has e = by_test (bytes_eq line (codes "metrics 1")) refl e
  where
    by_test : (r : Bool) → bytes_eq line (codes "metrics 1") ≡ r → cond {A = Result Building Fault} r (Ok b) (fault 0 3) ≡ Err f
        → IsFaultBehind [] rest 0 f.at f.rule
    by_test true t e = absurd cc
    by_test false t e =
        let f-is = failed_is {A = Building} (record { at = 0; rule = 3 }) f e in
        let other : line ≢ codes "metrics 1" = λ same. let eq = (bytes_eq-Decides line (codes "metrics 1")).1 same in absurd cc in
        no_header refl (inr (line, other, has)) (sym (ap (λ (x : Fault). x.at) f-is)) (sym (ap (λ (x : Fault). x.rule) f-is))

refused_line : (front : Lines) (reached : Building) (rest line : List ℕ) (f : Fault) → folded 0 nothing_yet front ≡ Ok reached
    → HasLine rest line → line_taken (0 + length (text_of front)) reached line ≡ Err f
    → IsFaultBehind front rest (length (text_of front)) f.at f.rule
unfolding line_taken
refused_line [] reached rest line f taken has e = refused_first rest reached line f has e
refused_line (first ∷ front) reached rest line f taken has e =
    let start = 0 + length (text_of (first ∷ front)) in
    let later : eqb start 0 ≡ false = ne_eqb start 0 (λ same. omega (arith, same, length-append first (10 ∷ text_of front))) in
    let formed : form_taken start reached (face_at line) (character_at line) ≡ Err f =
    sym (ap (λ (r : Bool). cond r (cond (bytes_eq line (codes "metrics 1")) (Ok reached) (fault start 3))
    (form_taken start reached (face_at line) (character_at line))) later) ∙ e in
    let same : start ≡ length (text_of (first ∷ front)) = omega arith in
    subst (λ (s : ℕ). IsFaultBehind (first ∷ front) rest s f.at f.rule) same
    (refused_form (first ∷ front) rest start reached line f (face_at line) (character_at line) (omega arith) has refl refl
    (no_table (first ∷ front) reached line f taken e) formed)

broken_behind : (front : Lines) (reached : Building) (rest : List ℕ) (f : Fault) → folded 0 nothing_yet front ≡ Ok reached
    → IsBroken (0 + length (text_of front)) reached rest f → IsFaultBehind front rest (length (text_of front)) f.at f.rule
broken_behind front reached rest f taken (bytes.bad_byte line byte after whole is bad other at rule) =
    bad_byte line byte after whole is bad other (omega (arith, at)) rule
broken_behind front reached rest f taken (bytes.cut_short filled is at rule) = cut_short filled is (omega (arith, at)) rule
broken_behind front reached rest f taken (bytes.refused line has e) = refused_line front reached rest line f taken has e

-- ---- the first fault

sound_len_le : (text : List ℕ) → sound_len text ≤ length text
sound_len_le text = omega (arith, utf8_valid_len_le text)

fault_of_lines : (text : List ℕ) (f : Fault) → sound_len text ≡ length text → read_from 0 [] nothing_yet text ≡ Err f
    → IsFaultOfLines text f.at f.rule
fault_of_lines text f sound e =
    let h = bytes_broken 0 [] nothing_yet text f refl e in
    record {
      sound = sound;
      front = h.front;
      rest = h.rest;
      whole = h.whole;
      are_lines = h.are_lines;
      begins = begins h.front h.reached h.taken;
      fault = broken_behind h.front h.reached h.rest f h.taken h.broken;
    }

empty_text : (text : List ℕ) (f : Fault) → sound_len text ≡ length text → text ≡ [] → f ≡ record { at = 0; rule = 3 }
    → IsFaultOfLines text f.at f.rule
unfolding folded
empty_text text f sound none f-is = record {
  sound = sound;
  front = [];
  rest = [];
  whole = none;
  are_lines = tt;
  begins = begins [] nothing_yet refl;
  fault = no_header refl (inl refl) (ap (λ (x : Fault). x.at) f-is) (ap (λ (x : Fault). x.rule) f-is);
}

no_lines_no_text : (lines : Lines) → (text_of lines ≡ [] → ⊥) → 0 < length lines
no_lines_no_text [] h = absurd (h refl)
no_lines_no_text (line ∷ lines) h = omega arith

no_faces : (text : List ℕ) (b : Building) (f : Fault) → sound_len text ≡ length text → read_from 0 [] nothing_yet text ≡ Ok b
    → faces_of b ≡ [] → (text ≡ [] → ⊥) → f ≡ record { at = length text; rule = 6 } → IsFaultOfLines text f.at f.rule
no_faces text b f sound e none filled f-is =
    let h = bytes_found 0 [] nothing_yet b text refl e in
    let size : length text ≡ length (text_of h.lines) = ap length h.whole in
    let stuck : (faces : List Face) → IsTable h.lines faces → ⊥ = λ faces table.
    let again = table_again h.lines faces table in
    let same : again.0 ≡ b = given_is again.0 b (sym again.1 ∙ h.taken) in
    let empty : faces ≡ [] = sym again.2 ∙ ap faces_of same ∙ none in
    omega (arith, table.some, ap length empty) in
    record {
      sound = sound;
      front = h.lines;
      rest = [];
      whole = h.whole ∙ sym (append-nil (text_of h.lines));
      are_lines = h.are_lines;
      begins = begins h.lines b h.taken;
      fault = no_face (no_lines_no_text h.lines (λ nil. filled (h.whole ∙ nil))) refl stuck (ap (λ (x : Fault). x.at) f-is ∙ size)
          (ap (λ (x : Fault). x.rule) f-is);
    }

ended_fault : (text : List ℕ) (b : Building) (faces : List Face) (f : Fault) → sound_len text ≡ length text
    → read_from 0 [] nothing_yet text ≡ Ok b → faces_of b ≡ faces → ended (length text) faces ≡ Err f
    → IsFaultOfLines text f.at f.rule
ended_fault text b (face ∷ faces) f sound read faces-is e = absurd cc
ended_fault text b [] f sound read faces-is e = by_size (eqb (length text) 0) refl e
  where
    by_size : (r : Bool) → eqb (length text) 0 ≡ r
        → cond {A = Result (List Face) Fault} r (fault 0 3) (fault (length text) 6) ≡ Err f → IsFaultOfLines text f.at f.rule
    by_size true none e = empty_text text f sound (nil_from_length text (eqb-true _ _ none))
        (sym (failed_is {A = List Face} (record { at = 0; rule = 3 }) f e))
    by_size false some e = no_faces text b f sound read faces-is (λ nil. eqb-false (length text) 0 some (ap length nil))
        (sym (failed_is {A = List Face} (record { at = length text; rule = 6 }) f e))

pub first_fault : (text : List ℕ) (f : Fault) → all_of text ≡ Err f → IsFirstFault text f.at f.rule
unfolding all_of
first_fault text f e = by_sound (ltb (sound_len text) (length text)) refl e
  where
    by_read : (r : Result Building Fault) → read_from 0 [] nothing_yet text ≡ r → sound_len text ≡ length text
        → (r >>= λ b. ended (length text) (faces_of b)) ≡ Err f → IsFirstFault text f.at f.rule
    by_read (Ok b) read sound e = inr (ended_fault text b (faces_of b) f sound read refl e)
    by_read (Err d) read sound e =
        inr (fault_of_lines text f sound (read ∙ ap (λ (x : Fault). failed {A = Building} x) (failed_is {A = List Face} d f e)))

    by_sound : (r : Bool) → ltb (sound_len text) (length text) ≡ r
        → cond r (fault (sound_len text) 1) (read_from 0 [] nothing_yet text >>= λ b. ended (length text) (faces_of b)) ≡ Err f
        → IsFirstFault text f.at f.rule
    by_sound true short e =
        let f-is = failed_is {A = List Face} (record { at = sound_len text; rule = 1 }) f e in
        let at : f.at ≡ sound_len text = sym (ap (λ (x : Fault). x.at) f-is) in
        inl (
          sym (ap (λ (x : Fault). x.rule) f-is),
          at,
          subst (λ (n : ℕ). n < length text) (sym at) (ltb-true (sound_len text) (length text) short),
        )
    by_sound false whole e =
        let le = ltb-false (sound_len text) (length text) whole in
        by_read (read_from 0 [] nothing_yet text) refl (omega (arith, le, sound_len_le text)) e

-- ---- what is read is a table

faces_have_lines : (b : Building) (lines : Lines) → folded 0 nothing_yet lines ≡ Ok b → 0 < length (faces_of b)
    → text_of lines ≡ [] → ⊥
unfolding folded
faces_have_lines b [] taken filled nil = let same = given_is nothing_yet b taken
    in omega (arith, filled, ap (λ (x : Building). length (faces_of x)) same)
faces_have_lines b (line ∷ lines) taken filled nil = omega (arith, ap length nil, length-append line (10 ∷ text_of lines))

pub is_found : (text : List ℕ) (faces : List Face) → all_of text ≡ Ok faces → IsMetrics text faces
unfolding all_of
is_found text faces e = by_sound (ltb (sound_len text) (length text)) e
  where
    by_faces : (b : Building) (all : List Face) → read_from 0 [] nothing_yet text ≡ Ok b → faces_of b ≡ all
        → ended (length text) all ≡ Ok faces → IsMetrics text faces
    by_faces b [] read all-is e = by_size (eqb (length text) 0) e
      where
        by_size : (r : Bool) → cond {A = Result (List Face) Fault} r (fault 0 3) (fault (length text) 6) ≡ Ok faces
            → IsMetrics text faces
        by_size true e = absurd cc
        by_size false e = absurd cc
    by_faces b (face ∷ more) read all-is e =
        let h = bytes_found 0 [] nothing_yet b text refl read in
        let same : faces_of b ≡ faces = all-is ∙ given_is (face ∷ more) faces e in
        let filled : 0 < length (faces_of b) = omega (arith, ap length all-is) in
        let not_empty : text_of h.lines ≡ [] → ⊥ = λ nil. faces_have_lines b h.lines h.taken filled nil in
        record {
          lines = h.lines;
          whole = h.whole;
          are_lines = h.are_lines;
          is_table = subst (λ (xs : List Face). IsTable h.lines xs) same
              (table_found b h.lines (no_lines_no_text h.lines not_empty) h.taken filled);
        }

    by_sound : (r : Bool) → cond r (fault (sound_len text) 1)
        (read_from 0 [] nothing_yet text >>= λ b. ended (length text) (faces_of b)) ≡ Ok faces → IsMetrics text faces
    by_sound true e = absurd cc
    by_sound false e = step (read_from 0 [] nothing_yet text) _ faces e λ b read more. by_faces b (faces_of b) read refl more

-- ---- a table is read

line_safe : (line rest : List ℕ) → IsLine line → AllByRecursion IsSafe rest → AllByRecursion IsSafe (line ++ 10 ∷ rest)
line_safe [] rest is safe = ((omega arith, omega arith), safe)
line_safe (b ∷ line) rest is safe =
    both (leb 32 b && leb b 126) (list_all is_plain line) is λ first others.
    both (leb 32 b) (leb b 126) first λ low high.
    ((omega (arith, leb-true 32 b low), omega (arith, leb-true b 126 high)), line_safe line rest others safe)

text_safe : (lines : Lines) → AllByRecursion IsLine lines → AllByRecursion IsSafe (text_of lines)
text_safe [] are = tt
text_safe (line ∷ lines) are = line_safe line (text_of lines) are.0 (text_safe lines are.1)

pub is_read : (text : List ℕ) (faces : List Face) → IsMetrics text faces → all_of text ≡ Ok faces
unfolding all_of
is_read text faces h = ap all_of h.whole ∙ (
    let again = table_again h.lines faces h.is_table in
    let read = bytes_again 0 h.lines nothing_yet again.0 h.are_lines again.1 in
    let whole : ltb (sound_len (text_of h.lines)) (length (text_of h.lines)) ≡ false =
    le-ltb _ _ (omega (arith, sound_text (text_of h.lines) (text_safe h.lines h.are_lines))) in
    rw (whole, read) (ap (ended (length (text_of h.lines))) again.2 ∙ not_ended (length (text_of h.lines)) faces h.is_table.some))
  where
    not_ended : (size : ℕ) (all : List Face) → 0 < length all → ended size all ≡ Ok all
    not_ended size [] some = absurd (omega arith)
    not_ended size (face ∷ all) some = refl

-- ---- a table is sound

characters_sound : (least : ℕ) (own : Lines) (advances : List Advance) → AreCharacters least own advances
    → AreSound least advances
characters_sound least [] [] are = tt
characters_sound least [] (a ∷ advances) are = absurd are
characters_sound least (line ∷ own) [] are = absurd are
characters_sound least (line ∷ own) (a ∷ advances) are =
    (are.1, are.0.amount_most, characters_sound (a.ch + 1) own advances are.2)

faces_sound : (lines : Lines) (faces : List Face) → AreFaces lines faces → AllByRecursion IsSoundFace faces
faces_sound lines [] are = tt
faces_sound lines (face ∷ faces) are = (
  record {
    ascent = are.4.ascent_most;
    descent = are.4.descent_most;
    default = are.4.default_most;
    advances = characters_sound 0 are.1 face.advances are.5;
  },
  faces_sound are.2 faces are.6,
)

faces_few : (lines : Lines) (faces : List Face) → AreFaces lines faces → length faces ≤ length lines
faces_few lines [] are = omega arith
faces_few lines (face ∷ faces) are = let deeper = faces_few are.2 faces are.6
    in omega (arith, deeper, ap length are.3, length-append are.1 are.2)

lines_few : (lines : Lines) → length lines ≤ length (text_of lines)
lines_few [] = omega arith
lines_few (line ∷ lines) = let deeper = lines_few lines in omega (arith, deeper, length-append line (10 ∷ text_of lines))

pub is_sound : (text : List ℕ) (faces : List Face) → length text ≤ 2 ^ 28 → IsMetrics text faces → IsSound faces
is_sound text faces small h = record {
  some = h.is_table.some;
  few = omega (
    arith,
    small,
    faces_few h.is_table.rest faces h.is_table.are_faces,
    ap length h.is_table.whole,
    lines_few h.lines,
    ap length h.whole,
  );
  faces_sound = faces_sound h.is_table.rest faces h.is_table.are_faces;
}
