-- Reading bytes one after the other, as a loop does: `line` is what stands between the line's begin and the place.
use Rattle.std.proofs.Common.{◌≡◌, ℕ, ◌+◌, ◌-◌, ◌≤◌, ◌<◌, true, false, cond, eqb, List, [], ◌∷◌, ◌++◌, length, get_or, take, drop}
use Rattle.std.proofs.Common.{Result, Ok, refl, sym, ap, ◌∙◌, arith, add-one, drop-cons, length-drop}
use Rattle.std.proofs.lemmas.List.{length-take, take_more, get_or-drop, drop_all}
use Rattle.mc_base.specs.declared.refusal.Refusal.{Refusal}
use Rattle.mc_base.specs.declared.refusal.Refusal.TheVariants as refusals
use Rattle.mc_base.specs.Reading.{fault, ◌>>=◌}
use Rattle.mc_base.specs.declared.read_error.Fault.{Fault}
use Rattle.font_table.specs.declared.reading.Building.{Building}
use Rattle.font_table.specs.Table.{is_plain}
use Rattle.font_table.specs.Reading.{Fails, line_taken, read_from}

abbrev pub part : List ℕ → ℕ → ℕ → List ℕ
part text start i = take (i - start) (drop start text)

length-part : (text : List ℕ) (start i : ℕ) → start ≤ i → i ≤ length text → length (part text start i) ≡ i - start
length-part text start i begun fits = omega (arith, length-take (i - start) (drop start text), length-drop start text)

opened : (text : List ℕ) (i : ℕ) → i < length text → drop i text ≡ get_or text i 0 ∷ drop (i + 1) text
opened text i lt = rw (add-one, drop-cons text i 0) refl

pub line_ends : (text : List ℕ) (start i : ℕ) (b : Building) → start ≤ i → i < length text → get_or text i 0 ≡ 10
    → read_from start (part text start i) b (drop i text)
    ≡ (line_taken start b (part text start i) >>= λ next. read_from (i + 1) [] next (drop (i + 1) text))
unfolding read_from
line_ends text start i b begun lt feed =
    let place : start + length (part text start i) + 1 ≡ i + 1 = omega (arith, length-part text start i begun (omega arith)) in
    let front : drop i text ≡ 10 ∷ drop (i + 1) text = opened text i lt ∙ ap (λ (x : ℕ). x ∷ drop (i + 1) text) feed in
    ap (read_from start (part text start i) b) front
    ∙ ap (λ (p : ℕ). line_taken start b (part text start i) >>= λ next. read_from p [] next (drop (i + 1) text)) place

part_more : (text : List ℕ) (start i : ℕ) → start ≤ i → i < length text
    → part text start i ++ get_or text i 0 ∷ [] ≡ part text start (i + 1)
part_more text start i begun lt =
    let more : i + 1 - start ≡ (i - start) + 1 = omega arith in
    let place : start + (i - start) ≡ i = omega arith in
    let short : i - start < length (drop start text) = omega (arith, length-drop start text) in
    let at : get_or (drop start text) (i - start) 0 ≡ get_or text i 0 = get_or-drop start text (i - start) 0
    ∙ ap (λ (k : ℕ). get_or text k 0) place in
    ap (λ (x : ℕ). part text start i ++ x ∷ []) (sym at) ∙ sym (take_more (drop start text) (i - start) 0 short)
    ∙ ap (λ (n : ℕ). take n (drop start text)) (sym more)

pub byte_goes_on : (text : List ℕ) (start i : ℕ) (b : Building) → start ≤ i → i < length text → eqb (get_or text i 0) 10 ≡ false
    → is_plain (get_or text i 0) ≡ true
    → read_from start (part text start i) b (drop i text) ≡ read_from start (part text start (i + 1)) b (drop (i + 1) text)
unfolding read_from
byte_goes_on text start i b begun lt other plain =
    let one : read_from start (part text start i) b (get_or text i 0 ∷ drop (i + 1) text)
    ≡ read_from start (part text start i ++ get_or text i 0 ∷ []) b (drop (i + 1) text) = rw (other, plain) refl in
    ap (read_from start (part text start i) b) (opened text i lt) ∙ one
    ∙ ap (λ (line : List ℕ). read_from start line b (drop (i + 1) text)) (part_more text start i begun lt)

pub byte_is_bad : (text : List ℕ) (start i : ℕ) (b : Building) → start ≤ i → i < length text → eqb (get_or text i 0) 10 ≡ false
    → is_plain (get_or text i 0) ≡ false
    → read_from start (part text start i) b (drop i text) ≡ fault i 2
unfolding read_from
byte_is_bad text start i b begun lt other bad =
    let one : read_from start (part text start i) b (get_or text i 0 ∷ drop (i + 1) text)
    ≡ fault (start + length (part text start i)) 2 = rw (other, bad) refl in
    let place : start + length (part text start i) ≡ i = omega (arith, length-part text start i begun (omega arith)) in
    ap (read_from start (part text start i) b) (opened text i lt) ∙ one ∙ ap (λ (p : ℕ). fault p 2) place

pub fails_along : (e : Refusal) (r : Result Building Fault) (f : Building → Result Building Fault) (total : Result Building Fault)
    → Fails e r → (r >>= f) ≡ total → Fails e total
fails_along refusals.NoMemory r f total h so_far = tt
fails_along (refusals.Grammar input offset rule) r f total h so_far =
    (h.0, h.1, sym so_far ∙ ap (λ (x : Result Building Fault). x >>= f) h.2)
fails_along (refusals.Construct offset name input) r f total h so_far = absurd h
fails_along (refusals.Limit name reached limit) r f total h so_far = absurd h

-- at the end of the text
pub text_ends : (text : List ℕ) (start i : ℕ) (b : Building) → start ≤ i → length text ≤ i → i ≤ length text
    → read_from start (part text start i) b (drop i text) ≡ cond (eqb (i - start) 0) (Ok b) (fault start 2)
unfolding read_from
text_ends text start i b begun over fits =
    ap (read_from start (part text start i) b) (drop_all i text over)
    ∙ ap (λ (n : ℕ). cond (eqb n 0) (Ok b) (fault start 2)) (length-part text start i begun fits)

part-none : (text : List ℕ) (k : ℕ) → part text k k ≡ []
part-none text k =
    let none : k - k ≡ 0 = omega arith in
    ap (λ (n : ℕ). take n (drop k text)) none

pub goes_on : (text : List ℕ) (start i : ℕ) (b next : Building) (total : Result Building Fault) → start ≤ i → i < length text
    → get_or text i 0 ≡ 10
    → line_taken start b (part text start i) ≡ Ok next → read_from start (part text start i) b (drop i text) ≡ total
    → read_from (i + 1) (part text (i + 1) (i + 1)) next (drop (i + 1) text) ≡ total
goes_on text start i b next total begun lt feed taken so_far =
    ap (λ (line : List ℕ). read_from (i + 1) line next (drop (i + 1) text)) (part-none text (i + 1))
    ∙ sym (ap (λ (r : Result Building Fault). r >>= λ next. read_from (i + 1) [] next (drop (i + 1) text)) taken)
    ∙ sym (line_ends text start i b begun lt feed) ∙ so_far
