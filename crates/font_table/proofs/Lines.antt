-- Lines taken one after the other are a table, and a table's lines are taken.
use Rattle.std.proofs.Common.{◌≡◌, ℕ, ◌+◌, ◌≤◌, ◌<◌, Bool, true, false, cond, eqb, leb, List, [], ◌∷◌, ◌++◌, length, Option, Some}
use Rattle.std.proofs.Common.{None, Result, Ok, Err, refl, sym, ap, subst, ◌∙◌, append_assoc, arith}
use Rattle.std.specs.Prelude.{codes, option_to_list}
use Rattle.std.specs.Str.{bytes_eq}
use Rattle.std.proofs.lemmas.Bool.{ne_eqb, leb-true, le-leb}
use Rattle.std.proofs.lemmas.List.{append-nil}
use Rattle.std.proofs.lemmas.Slice.Eq.{bytes_eq-Decides}
use Rattle.mc_base.specs.Reading.{fault, ◌>>=◌}
use Rattle.mc_base.specs.declared.read_error.Fault.{Fault}
use Rattle.mc_base.proofs.ReadSteps.{step, given_is}
use Rattle.font_table.specs.declared.fonts.Advance.{Advance}
use Rattle.font_table.specs.declared.fonts.Face.{Face}
use Rattle.font_table.specs.declared.reading.Building.{Building}
use Rattle.font_table.specs.Table.{AreCharacters, AreFaces, IsTable, IsFaceLine, IsCharacterLine}
use Rattle.font_table.specs.Forms.{face_at, character_at}
use Rattle.font_table.specs.Reading.{faces_of, nothing_yet, face_begun, with_advance, character_taken, form_taken, line_taken}
use Rattle.font_table.proofs.Forms.{face_found, face_again, character_found, character_again, not_a_face}

abbrev pub Lines : Type 0
Lines = List (List ℕ)

-- all of these lines, of which the first begins at an offset
unfoldable pub folded : ℕ → Building → Lines → Result Building Fault
folded at b [] = Ok b
folded at b (line ∷ lines) = line_taken at b line >>= λ next. folded (at + length line + 1) next lines

-- ---- one line after the first

pub data Taken (at : ℕ) (b : Building) (line : List ℕ) (next : Building) : Type 0 where
  a_face : (face : Face) → IsFaceLine line face → face.advances ≡ [] → next ≡ face_begun b face → Taken at b line next
  a_character : (face : Face) (a : Advance) → IsCharacterLine line a → b.last ≡ Some face → b.least ≤ a.ch
      → next ≡ record { done = b.done; last = Some (with_advance face a); least = a.ch + 1 } → Taken at b line next

placed_found : (at : ℕ) (b : Building) (line : List ℕ) (a : Advance) (next : Building) (last : Option Face) → b.last ≡ last
    → IsCharacterLine line a → character_taken at b last a ≡ Ok next → Taken at b line next
placed_found at b line a next None e form taken = absurd cc
placed_found at b line a next (Some face) e form taken = by_order (leb b.least a.ch) refl taken
  where
    by_order : (r : Bool) → leb b.least a.ch ≡ r
        → cond {A = Result Building Fault} r (Ok (record { done = b.done; last = Some (with_advance face a); least = a.ch + 1 }))
        (fault at 5) ≡ Ok next → Taken at b line next
    by_order true t taken = a_character face a form e (leb-true _ _ t) (sym (given_is _ next taken))
    by_order false t taken = absurd cc

form_found : (at : ℕ) (b : Building) (line : List ℕ) (next : Building) (f : Option Face) (c : Option Advance) → face_at line ≡ f
    → character_at line ≡ c → form_taken at b f c ≡ Ok next → Taken at b line next
form_found at b line next (Some face) c is_f is_c taken = let h = face_found line face is_f
    in a_face face h.0 h.1 (sym (given_is _ next taken))
form_found at b line next None (Some a) is_f is_c taken =
    placed_found at b line a next b.last refl (character_found line a is_c) taken
form_found at b line next None None is_f is_c taken = absurd cc

behind_first : (at : ℕ) (b : Building) (line : List ℕ) → 0 < at
    → line_taken at b line ≡ form_taken at b (face_at line) (character_at line)
unfolding line_taken
behind_first at b line later = let other : eqb at 0 ≡ false = ne_eqb at 0 (λ same. omega (arith, same)) in rw other refl

pub line_found : (at : ℕ) (b : Building) (line : List ℕ) (next : Building) → 0 < at → line_taken at b line ≡ Ok next
    → Taken at b line next
line_found at b line next later taken =
    form_found at b line next (face_at line) (character_at line) refl refl (sym (behind_first at b line later) ∙ taken)

pub face_taken : (at : ℕ) (b : Building) (line : List ℕ) (face : Face) → 0 < at → IsFaceLine line face
    → line_taken at b line ≡ Ok (face_begun b (record face { advances = [] }))
face_taken at b line face later form = behind_first at b line later
    ∙ ap (λ (f : Option Face). form_taken at b f (character_at line)) (face_again line face form)

pub character_is_taken : (at : ℕ) (b : Building) (line : List ℕ) (face : Face) (a : Advance) → 0 < at → IsCharacterLine line a
    → b.last ≡ Some face → b.least ≤ a.ch
    → line_taken at b line ≡ Ok (record { done = b.done; last = Some (with_advance face a); least = a.ch + 1 })
character_is_taken at b line face a later form last order =
    let rises : leb b.least a.ch ≡ true = le-leb _ _ order in
    behind_first at b line later ∙ rw (not_a_face line a form, character_again line a form, last, rises) refl

-- ---- the lines that complete a table

abbrev pub grown : Face → List Advance → Face
grown face more = record face { advances = face.advances ++ more }

abbrev pub CompletesLast : List Face → ℕ → Option Face → Lines → List Face → Type 0
CompletesLast done least None lines faces = (others : List Face) × (faces ≡ done ++ others) × AreFaces lines others
CompletesLast done least (Some face) lines faces = (own : Lines) × (rest : Lines) × (more : List Advance) × (others : List Face)
    × (lines ≡ own ++ rest)
    × AreCharacters least own more × AreFaces rest others × (faces ≡ done ++ (grown face more ∷ others))

-- The lines complete what is read so far to these faces: the first of them are characters of the last face.
abbrev pub Completes : Building → Lines → List Face → Type 0
Completes b lines faces = CompletesLast b.done b.least b.last lines faces

-- ---- what is taken completes

-- a face's line says nothing of the characters
pub other_advances : (line : List ℕ) (face : Face) (advances : List Advance) → IsFaceLine line face
    → IsFaceLine line (record face { advances = advances })
other_advances line face advances h = record {
  weight = h.weight;
  ascent = h.ascent;
  descent = h.descent;
  default = h.default;
  words = h.words;
  named = h.named;
  name_bytes = h.name_bytes;
  is_weight = h.is_weight;
  weighs = h.weighs;
  weight_most = h.weight_most;
  is_ascent = h.is_ascent;
  ascent_most = h.ascent_most;
  is_descent = h.is_descent;
  descent_most = h.descent_most;
  is_default = h.is_default;
  default_most = h.default_most;
}

grown-none : (face : Face) → grown face [] ≡ face
grown-none face = ap (λ (advances : List Advance). record face { advances = advances }) (append-nil face.advances)

grown-more : (face : Face) (a : Advance) (more : List Advance) → grown (with_advance face a) more ≡ grown face (a ∷ more)
grown-more face a more = ap (λ (advances : List Advance). record face { advances = advances })
    (append_assoc face.advances (a ∷ []) more)

nothing_left : (done : List Face) (least : ℕ) (last : Option Face)
    → CompletesLast done least last [] (done ++ option_to_list last)
nothing_left done least None = ([], refl, refl)
nothing_left done least (Some face) = ([], [], [], [], refl, tt, refl, ap (λ (f : Face). done ++ f ∷ []) (sym (grown-none face)))

-- a face's line comes next
face_next : (done : List Face) (least : ℕ) (last : Option Face) (line : List ℕ) (lines : Lines) (others faces : List Face)
    → faces ≡ (done ++ option_to_list last) ++ others → AreFaces (line ∷ lines) others
    → CompletesLast done least last (line ∷ lines) faces
face_next done least None line lines others faces e are =
    (others, e ∙ ap (λ (xs : List Face). xs ++ others) (append-nil done), are)
face_next done least (Some face) line lines others faces e are = (
  [],
  line ∷ lines,
  [],
  others,
  refl,
  tt,
  are,
  e ∙ append_assoc done (face ∷ []) others
      ∙ ap (λ (f : Face). done ++ (f ∷ others)) (sym (grown-none face)),
)

found_face : (b : Building) (line : List ℕ) (lines : Lines) (face : Face) (faces : List Face) → IsFaceLine line face
    → face.advances ≡ [] → Completes (face_begun b face) lines faces → Completes b (line ∷ lines) faces
found_face b line lines face faces form empty h =
    let own = h.0 in
    let rest = h.1 in
    let more = h.2 in
    let others = h.3 in
    let same : (grown face more).advances ≡ more = ap (λ (xs : List Advance). xs ++ more) empty in
    let own_is : AreCharacters 0 own (grown face more).advances =
    subst (λ (xs : List Advance). AreCharacters 0 own xs) (sym same) h.5 in
    face_next b.done b.least b.last line lines (grown face more ∷ others) faces h.7
    (line, own, rest, ap (λ (ls : Lines). line ∷ ls) h.4, other_advances line face (face.advances ++ more) form, own_is, h.6)

found_character : (done : List Face) (least : ℕ) (last : Option Face) (line : List ℕ) (lines : Lines) (face : Face) (a : Advance)
    (faces : List Face) → IsCharacterLine line a → last ≡ Some face → least ≤ a.ch
    → CompletesLast done (a.ch + 1) (Some (with_advance face a)) lines faces → CompletesLast done least last (line ∷ lines) faces
found_character done least last line lines face a faces form last-is order h =
    subst (λ (o : Option Face). CompletesLast done least o (line ∷ lines) faces) (sym last-is) (
      line ∷ h.0,
      h.1,
      a ∷ h.2,
      h.3,
      ap (λ (ls : Lines). line ∷ ls) h.4,
      (form, order, h.5),
      h.6,
      h.7
          ∙ ap (λ (f : Face). done ++ (f ∷ h.3)) (grown-more face a h.2),
    )

taken_next : (at : ℕ) (b next : Building) (line : List ℕ) (lines : Lines) (faces : List Face) → Taken at b line next
    → Completes next lines faces → Completes b (line ∷ lines) faces
taken_next at b next line lines faces (a_face face form empty next-is) h =
    found_face b line lines face faces form empty (subst (λ (n : Building). Completes n lines faces) next-is h)
taken_next at b next line lines faces (a_character face a form last-is order next-is) h =
    found_character b.done b.least b.last line lines face a faces form last-is order
    (subst (λ (n : Building). Completes n lines faces) next-is h)

pub lines_found : (at : ℕ) (b after : Building) (lines : Lines) → 0 < at → folded at b lines ≡ Ok after
    → Completes b lines (faces_of after)
unfolding folded
lines_found at b after [] later e =
    subst (λ (x : Building). Completes b [] (faces_of x)) (given_is b after e) (nothing_left b.done b.least b.last)
lines_found at b after (line ∷ lines) later e =
    step (line_taken at b line) _ after e λ next is_next more.
    taken_next at b next line lines (faces_of after) (line_found at b line next later is_next)
    (lines_found (at + length line + 1) next after lines (omega arith) more)

-- ---- what completes is taken

abbrev pub AreTaken : Lines → Type 0
AreTaken lines = (at : ℕ) (b : Building) (faces : List Face) → 0 < at → Completes b lines faces
    → (after : Building) × (folded at b lines ≡ Ok after) × (faces_of after ≡ faces)

no_faces : (others : List Face) → AreFaces [] others → others ≡ []
no_faces [] are = refl
no_faces (face ∷ others) are = absurd (let e = are.3 in cc)

no_lines : (a b : Lines) → [] ≡ a ++ b → (a ≡ []) × (b ≡ [])
no_lines [] b e = (refl, sym e)
no_lines (l ∷ a) b e = absurd cc

no_characters : (least : ℕ) (own : Lines) (more : List Advance) → own ≡ [] → AreCharacters least own more → more ≡ []
no_characters least [] [] e are = refl
no_characters least [] (a ∷ more) e are = absurd are
no_characters least (l ∷ own) more e are = absurd cc

nothing_more : (done : List Face) (least : ℕ) (last : Option Face) (faces : List Face) → CompletesLast done least last [] faces
    → done ++ option_to_list last ≡ faces
nothing_more done least None faces h = ap (λ (xs : List Face). done ++ xs) (sym (no_faces h.0 h.2)) ∙ sym h.1
nothing_more done least (Some face) faces h =
    let none = no_lines h.0 h.1 h.4 in
    let more-is = no_characters least h.0 h.2 none.0 h.5 in
    let others-is = no_faces h.3 (subst (λ (ls : Lines). AreFaces ls h.3) none.1 h.6) in
    sym (h.7 ∙ ap (λ (xs : List Advance). done ++ (grown face xs ∷ h.3)) more-is
    ∙ ap (λ (f : Face). done ++ (f ∷ h.3)) (grown-none face) ∙ ap (λ (xs : List Face). done ++ (face ∷ xs)) others-is)

extended : (at : ℕ) (b next : Building) (line : List ℕ) (lines : Lines) (faces : List Face) → AreTaken lines
    → line_taken at b line ≡ Ok next → Completes next lines faces
    → (after : Building) × (folded at b (line ∷ lines) ≡ Ok after) × (faces_of after ≡ faces)
unfolding folded
extended at b next line lines faces again taken completes =
    let h = again (at + length line + 1) next faces (omega arith) completes in
    (h.0, ap (λ (r : Result Building Fault). r >>= λ x. folded (at + length line + 1) x lines) taken ∙ h.1, h.2)

again_face : (at : ℕ) (b : Building) (line : List ℕ) (lines : Lines) (others faces : List Face) → 0 < at → AreTaken lines
    → AreFaces (line ∷ lines) others → faces ≡ faces_of b ++ others
    → (after : Building) × (folded at b (line ∷ lines) ≡ Ok after) × (faces_of after ≡ faces)
again_face at b line lines [] faces later again are e = absurd (let none = are in cc)
again_face at b line lines (face ∷ others) faces later again are e =
    let same : line ≡ are.0 = let whole = are.3 in cc in
    let behind : lines ≡ are.1 ++ are.2 = let whole = are.3 in cc in
    let form : IsFaceLine line face = subst (λ (l : List ℕ). IsFaceLine l face) (sym same) are.4 in
    extended at b (face_begun b (record face { advances = [] })) line lines faces again (face_taken at b line face later form)
    (are.1, are.2, face.advances, others, behind, are.5, are.6, e)

again_last : (at : ℕ) (b : Building) (last : Option Face) (line : List ℕ) (lines : Lines) (faces : List Face) → b.last ≡ last
    → 0 < at → AreTaken lines → CompletesLast b.done b.least last (line ∷ lines) faces
    → (after : Building) × (folded at b (line ∷ lines) ≡ Ok after) × (faces_of after ≡ faces)
again_last at b None line lines faces last-is later again h =
    let so_far : faces_of b ≡ b.done = ap (λ (o : Option Face). b.done ++ option_to_list o) last-is ∙ append-nil b.done in
    again_face at b line lines h.0 faces later again h.2 (h.1 ∙ ap (λ (xs : List Face). xs ++ h.0) (sym so_far))
again_last at b (Some face) line lines faces last-is later again h = again_own h.0 h.1 h.2 h.3 h.4 h.5 h.6 h.7
  where
    again_own : (own rest : Lines) (more : List Advance) (others : List Face) → line ∷ lines ≡ own ++ rest
        → AreCharacters b.least own more → AreFaces rest others → faces ≡ b.done ++ (grown face more ∷ others)
        → (after : Building) × (folded at b (line ∷ lines) ≡ Ok after) × (faces_of after ≡ faces)
    again_own [] rest [] others e chars are total =
        let so_far : faces_of b ≡ b.done ++ face ∷ [] = ap (λ (o : Option Face). b.done ++ option_to_list o) last-is in
        again_face at b line lines others faces later again (subst (λ (ls : Lines). AreFaces ls others) (sym e) are)
        (total ∙ ap (λ (f : Face). b.done ++ (f ∷ others)) (grown-none face) ∙ sym (append_assoc b.done (face ∷ []) others)
        ∙ ap (λ (xs : List Face). xs ++ others) (sym so_far))
    again_own [] rest (a ∷ more) others e chars are total = absurd chars
    again_own (l ∷ own) rest [] others e chars are total = absurd chars
    again_own (l ∷ own) rest (a ∷ more) others e chars are total =
        let same : line ≡ l = cc in
        let behind : lines ≡ own ++ rest = cc in
        let form : IsCharacterLine line a = subst (λ (x : List ℕ). IsCharacterLine x a) (sym same) chars.0 in
        extended at b (record { done = b.done; last = Some (with_advance face a); least = a.ch + 1 }) line lines faces again
        (character_is_taken at b line face a later form last-is chars.1) (
          own,
          rest,
          more,
          others,
          behind,
          chars.2,
          are,
          total
              ∙ ap (λ (f : Face). b.done ++ (f ∷ others)) (sym (grown-more face a more)),
        )

pub lines_again : (lines : Lines) → AreTaken lines
unfolding folded
lines_again [] at b faces later h = (b, refl, nothing_more b.done b.least b.last faces h)
lines_again (line ∷ lines) at b faces later h = again_last at b b.last line lines faces refl later (lines_again lines) h

-- ---- the whole table

pub table_found : (b : Building) (lines : Lines) → 0 < length lines → folded 0 nothing_yet lines ≡ Ok b → 0 < length (faces_of b)
    → IsTable lines (faces_of b)
unfolding folded line_taken
table_found b [] some e filled = absurd (omega arith)
table_found b (line ∷ lines) some e filled =
    step (line_taken 0 nothing_yet line) _ b e λ next is_next more.
    by_test (bytes_eq line (codes "metrics 1")) refl next is_next more
  where
    by_test : (r : Bool) → bytes_eq line (codes "metrics 1") ≡ r → (next : Building)
        → cond {A = Result Building Fault} r (Ok nothing_yet) (fault 0 3) ≡ Ok next
        → folded (0 + length line + 1) next lines ≡ Ok b → IsTable (line ∷ lines) (faces_of b)
    by_test true t next is_next more =
        let begun : folded (0 + length line + 1) nothing_yet lines ≡ Ok b =
        ap (λ (n : Building). folded (0 + length line + 1) n lines) (given_is nothing_yet next is_next) ∙ more in
        let h = lines_found (0 + length line + 1) nothing_yet b lines (omega arith) begun in
        record {
          rest = lines;
          whole = ap (λ (l : List ℕ). l ∷ lines) ((bytes_eq-Decides line (codes "metrics 1")).0 t);
          are_faces = subst (λ (xs : List Face). AreFaces lines xs) (sym h.1) h.2;
          some = filled;
        }
    by_test false t next is_next more = absurd cc

pub table_again : (lines : Lines) (faces : List Face) → IsTable lines faces → (b : Building) × (folded 0 nothing_yet lines ≡ Ok b)
    × (faces_of b ≡ faces)
unfolding folded line_taken
table_again lines faces h =
    let t = lines_again h.rest (length (codes "metrics 1") + 1) nothing_yet faces (omega arith) (faces, refl, h.are_faces) in
    (t.0, ap (folded 0 nothing_yet) h.whole ∙ t.1, t.2)
