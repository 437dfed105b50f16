-- Reading line by line, as loops do.
use Rattle.std.proofs.Common.{◌≡◌, ℕ, suc, ◌+◌, ◌<◌, ◌≤◌, ◌==◌, Bool, true, false, List, [], ◌∷◌, ◌++◌, length, take, drop, not}
use Rattle.std.proofs.Common.{refl, sym, ◌∙◌, ap, subst, arith, length-drop, Option, Some, None, Result, Ok, Err}
use Rattle.std.proofs.lemmas.Bool.Decides.{nat_tests}
use Rattle.std.proofs.lemmas.List.{drop-drop, drop_all}
use Rattle.mc_base.specs.declared.read_error.Fault.{Fault}
use Rattle.flow_text.specs.Text.{Cut, cuts, line_len}
use Rattle.flow_text.proofs.TextLemmas.{first_line}
use Rattle.result_laws.specs.Given.{GivenResult}
use Rattle.result_laws.specs.Reading.{CertLine, close, Place, no_range, place_after, is_close, is_cut, line_in, line_here}
use Rattle.result_laws.specs.Reading.{none_after}
use Rattle.result_laws.specs.Reading.{read_entries, read_first, read_tree, fault}
use Rattle.result_laws.proofs.TextRead.{entries-more, entries-end, entries-off, entries-out, tree-more, tree-cert, tree-out}
use Rattle.result_laws.proofs.TextRead.{first-none, first-one, first-two, first-off}
use Rattle.result_reader.specs.declared.build.Building.{Building}
use Rattle.result_reader.specs.Built.{Steps, IsBuilt, lines_taken, place_of, taken, with_cites}
use Rattle.mc_base.specs.declared.read_error.ReadError.{ReadError}
use Rattle.mc_base.specs.declared.read_error.ReadError.TheVariants as errors
use Rattle.std.specs.Prelude.{codes, IfOk}
use Rattle.result_reader.specs.Read.{cut_of, cuts_from, with_lines, IsLast, AreEntries}

-- the line at an offset, and the lines after it
pub line-there : (text front rest : List ℕ) (at n after : ℕ) → at < length text → n ≡ line_len (drop at text)
    → front ≡ take n (drop at text) → rest ≡ drop n (drop at text) → after ≡ at + n + 1
    → cuts_from text at ≡ cut_of at front (not (length rest == 0)) ∷ cuts_from text after
line-there text front rest at n after lt is_n is_front is_rest is_after =
    let some : 0 < length (drop at text) = simp length-drop (omega arith) in
    let place : after ≡ at + suc n = omega arith in
    let behind : drop after text ≡ drop (suc n) (drop at text) =
    ap (λ (k : ℕ). drop k text) place ∙ sym (drop-drop (suc n) at text) in
    let one = first_line at (drop at text) some in
    rw (is_after, is_front, is_rest) (rw (← is_n) at one ∙ rw (← is_after) (ap (λ bs. cut_of at (take n (drop at text))
    (not (length (drop n (drop at text)) == 0)) ∷ cuts after bs) (sym behind)))

-- no line is left at the end
pub none-left : (text : List ℕ) (at : ℕ) → length text ≤ at → cuts_from text at ≡ []
unfolding cuts
none-left text at le = rw (drop_all at text le) refl

-- ---- a line after `cert`

here : (place q : Place) (l : CertLine) (o : Option CertLine) → o ≡ Some l → place_after place l ≡ Some q
    → line_here place o ≡ Some (l, q)
here place q l o e f = rw (e, f) refl

not-here : (place : Place) (l : CertLine) (o : Option CertLine) → o ≡ Some l → place_after place l ≡ None
    → line_here place o ≡ None
not-here place l o e f = rw (e, f) refl

-- it is taken
pub line-taken : (cites : Bool) (len : ℕ) (tree : List (List ℕ)) (place q : Place) (lines : List CertLine) (at : ℕ)
    (front : List ℕ) (ended : Bool) (cs : List Cut) (l : CertLine) → line_in cites (cut_of at front ended) ≡ Some l
    → place_after place l ≡ Some q → is_close l ≡ false
    → read_entries cites len tree place lines (cut_of at front ended ∷ cs) ≡ read_entries cites len tree q (lines ++ l ∷ []) cs
line-taken cites len tree place q lines at front ended cs l e f g =
    entries-more cites len tree place q lines (cut_of at front ended) cs l
    (here place q l (line_in cites (cut_of at front ended)) e f) g

-- it is of no form, or may not stand here
pub line-off : (cites : Bool) (len : ℕ) (tree : List (List ℕ)) (place : Place) (lines : List CertLine) (at : ℕ)
    (front : List ℕ) (ended : Bool) (cs : List Cut) → line_in cites (cut_of at front ended) ≡ None
    → read_entries cites len tree place lines (cut_of at front ended ∷ cs) ≡ fault at 4
line-off cites len tree place lines at front ended cs e =
    entries-off cites len tree place lines (cut_of at front ended) cs (ap (line_here place) e)

pub line-misplaced : (cites : Bool) (len : ℕ) (tree : List (List ℕ)) (place : Place) (lines : List CertLine) (at : ℕ)
    (front : List ℕ) (ended : Bool) (cs : List Cut) (l : CertLine) → line_in cites (cut_of at front ended) ≡ Some l
    → place_after place l ≡ None → read_entries cites len tree place lines (cut_of at front ended ∷ cs) ≡ fault at 4
line-misplaced cites len tree place lines at front ended cs l e f =
    entries-off cites len tree place lines (cut_of at front ended) cs
    (not-here place l (line_in cites (cut_of at front ended)) e f)

-- it is `end`
pub line-last : (cites : Bool) (len : ℕ) (tree : List (List ℕ)) (place : Place) (lines : List CertLine) (at : ℕ)
    (front : List ℕ) (ended : Bool) (cs : List Cut) → line_in cites (cut_of at front ended) ≡ Some close
    → read_entries cites len tree place lines (cut_of at front ended ∷ cs) ≡ none_after (with_lines cites tree lines) cs
line-last cites len tree place lines at front ended cs e =
    entries-end cites len tree place no_range lines (cut_of at front ended) cs close
    (here place no_range close (line_in cites (cut_of at front ended)) e (closes place)) refl
  where
    closes : (place : Place) → place_after place close ≡ Some no_range
    closes p = refl

-- ---- the turns of the loops

abbrev Cutting : List ℕ → List ℕ → Bool → ℕ → ℕ → Type 0
Cutting text front ended at after = cuts_from text at ≡ cut_of at front ended ∷ cuts_from text after

-- the first line
pub first-empty : (text : List ℕ) (t : Bool) → t ≡ (length text == 0) → t ≡ true
    → read_first (length text) (cuts_from text 0) ≡ fault 0 2
first-empty text t e is =
    let none : length text ≡ 0 = grind (arith, nat_tests) in
    ap (read_first (length text)) (none-left text 0 (omega arith)) ∙ first-none (length text)

pub first-old : (text front : List ℕ) (ended : Bool) (after : ℕ) → Cutting text front ended 0 after
    → is_cut (cut_of 0 front ended) (codes "mcol 1") ≡ true
    → read_first (length text) (cuts_from text 0) ≡ read_tree false (length text) [] (cuts_from text after)
first-old text front ended after cut is =
    ap (read_first (length text)) cut ∙ first-one (length text) (cut_of 0 front ended) (cuts_from text after) is

pub first-new : (text front : List ℕ) (ended : Bool) (after : ℕ) → Cutting text front ended 0 after
    → is_cut (cut_of 0 front ended) (codes "mcol 1") ≡ false → is_cut (cut_of 0 front ended) (codes "mcol 2") ≡ true
    → read_first (length text) (cuts_from text 0) ≡ read_tree true (length text) [] (cuts_from text after)
first-new text front ended after cut other is =
    ap (read_first (length text)) cut ∙ first-two (length text) (cut_of 0 front ended) (cuts_from text after) other is

pub first-wrong : (text front : List ℕ) (ended : Bool) (after : ℕ) → Cutting text front ended 0 after
    → is_cut (cut_of 0 front ended) (codes "mcol 1") ≡ false → is_cut (cut_of 0 front ended) (codes "mcol 2") ≡ false
    → read_first (length text) (cuts_from text 0) ≡ fault 0 2
first-wrong text front ended after cut other is =
    ap (read_first (length text)) cut ∙ first-off (length text) (cut_of 0 front ended) (cuts_from text after) other is

-- a line of the tree
pub tree-on : (cites : Bool) (text front : List ℕ) (ended : Bool) (lines : List (List ℕ)) (at after : ℕ)
    (total : Result GivenResult Fault) → Cutting text front ended at after → is_cut (cut_of 0 front ended) (codes "cert") ≡ false
    → read_tree cites (length text) lines (cuts_from text at) ≡ total
    → read_tree cites (length text) (lines ++ front ∷ []) (cuts_from text after) ≡ total
tree-on cites text front ended lines at after total cut other so =
    sym (tree-more cites (length text) lines (cut_of at front ended) (cuts_from text after) other)
    ∙ ap (read_tree cites (length text) lines) (sym cut) ∙ so

-- the line `cert`
pub tree-found : (cites : Bool) (text front : List ℕ) (ended : Bool) (lines : List (List ℕ)) (at after : ℕ)
    (total : Result GivenResult Fault) → Cutting text front ended at after → is_cut (cut_of 0 front ended) (codes "cert") ≡ true
    → read_tree cites (length text) lines (cuts_from text at) ≡ total
    → total ≡ read_entries cites (length text) lines no_range [] (cuts_from text after)
tree-found cites text front ended lines at after total cut is so =
    sym so ∙ ap (read_tree cites (length text) lines) cut
    ∙ tree-cert cites (length text) lines (cut_of at front ended) (cuts_from text after) is

-- no such line
pub tree-none : (cites : Bool) (text : List ℕ) (lines : List (List ℕ)) (at : ℕ) (total : Result GivenResult Fault)
    → length text ≤ at → read_tree cites (length text) lines (cuts_from text at) ≡ total → total ≡ fault (length text) 3
tree-none cites text lines at total le so =
    sym so ∙ ap (read_tree cites (length text) lines) (none-left text at le) ∙ tree-out cites (length text) lines

abbrev Reads : Bool → List ℕ → List (List ℕ) → Building → ℕ → Result GivenResult Fault → Type 0
Reads cites text tree b at total =
    read_entries cites (length text) tree (place_of b) (lines_taken b) (cuts_from text at) ≡ total

abbrev reading : Bool → List ℕ → List (List ℕ) → Building → List Cut → Result GivenResult Fault
reading cites text tree b cs = read_entries cites (length text) tree (place_of b) (lines_taken b) cs

-- nothing is taken yet
pub entries-begin : (cites : Bool) (text : List ℕ) (tree : List (List ℕ)) (b : Building) (at : ℕ) → taken b ≡ []
    → place_of b ≡ no_range → Reads cites text tree b at (read_entries cites (length text) tree no_range [] (cuts_from text at))
entries-begin cites text tree b at none place =
    ap (λ (p : Place). read_entries cites (length text) tree p (lines_taken b) (cuts_from text at)) place
    ∙ ap (λ (ls : List CertLine). read_entries cites (length text) tree no_range (with_cites b.cites ls) (cuts_from text at)) none

-- a line after `cert`
pub entries-on : (cites : Bool) (text front : List ℕ) (ended : Bool) (tree : List (List ℕ)) (b next : Building) (l : CertLine)
    (n at after : ℕ) (total : Result GivenResult Fault) → Cutting text front ended at after
    → line_in cites (cut_of 0 front ended) ≡ Some l → is_close l ≡ false → Steps cites n b l next
    → Reads cites text tree b at total
    → Reads cites text tree next after total
entries-on cites text front ended tree b next l n at after total cut line goes steps so =
    ap (λ ls. read_entries cites (length text) tree (place_of next) ls (cuts_from text after)) steps.lines
    ∙ sym (line-taken cites (length text) tree (place_of b) (place_of next) (lines_taken b) at front ended (cuts_from text after)
    l line steps.place goes)
    ∙ ap (reading cites text tree b) (sym cut) ∙ so

-- one of no form
pub entries-bad : (cites : Bool) (text front : List ℕ) (ended : Bool) (tree : List (List ℕ)) (b : Building) (at after : ℕ)
    (total : Result GivenResult Fault) → Cutting text front ended at after → line_in cites (cut_of 0 front ended) ≡ None
    → Reads cites text tree b at total → total ≡ fault at 4
entries-bad cites text front ended tree b at after total cut line so =
    sym so ∙ ap (reading cites text tree b) cut
    ∙ line-off cites (length text) tree (place_of b) (lines_taken b) at front ended (cuts_from text after) line

-- one that may not stand there
pub entries-misplaced : (cites : Bool) (text front : List ℕ) (ended : Bool) (tree : List (List ℕ)) (b : Building) (l : CertLine)
    (at after : ℕ) (total : Result GivenResult Fault) → Cutting text front ended at after
    → line_in cites (cut_of 0 front ended) ≡ Some l → place_after (place_of b) l ≡ None → Reads cites text tree b at total
    → total ≡ fault at 4
entries-misplaced cites text front ended tree b l at after total cut line place so =
    sym so ∙ ap (reading cites text tree b) cut
    ∙ line-misplaced cites (length text) tree (place_of b) (lines_taken b) at front ended (cuts_from text after) l line place

-- the line `end`
pub entries-closed : (cites : Bool) (text front : List ℕ) (ended : Bool) (tree : List (List ℕ)) (b : Building) (at after : ℕ)
    (total : Result GivenResult Fault) → Cutting text front ended at after → line_in cites (cut_of 0 front ended) ≡ Some close
    → Reads cites text tree b at total → total ≡ none_after (with_lines cites tree (lines_taken b)) (cuts_from text after)
entries-closed cites text front ended tree b at after total cut line so =
    sym so ∙ ap (reading cites text tree b) cut
    ∙ line-last cites (length text) tree (place_of b) (lines_taken b) at front ended (cuts_from text after) line

-- no such line
pub entries-none : (cites : Bool) (text : List ℕ) (tree : List (List ℕ)) (b : Building) (at : ℕ)
    (total : Result GivenResult Fault) → length text ≤ at → Reads cites text tree b at total → total ≡ fault (length text) 5
entries-none cites text tree b at total le so =
    sym so ∙ ap (reading cites text tree b) (none-left text at le)
    ∙ entries-out cites (length text) tree (place_of b) (lines_taken b)

-- ---- after `end`

-- a line that follows
pub line-follows : (text : List ℕ) (next : ℕ) (rule : ℕ) → next < length text → rule ≡ 5
    → (cs : List Cut) × (c : Cut) × (cuts_from text next ≡ c ∷ cs) × (c.at ≡ next) × (rule ≡ 5) × (next ≤ length text)
line-follows text next rule lt is =
    let some : 0 < length (drop next text) = simp length-drop (omega arith) in
    let n = line_len (drop next text) in (
      cuts (next + n + 1) (drop (suc n) (drop next text)),
      record { at = next; text = take n (drop next text); ended = not (length (drop n (drop next text)) == 0) },
      first_line next (drop next text) some,
      refl,
      is,
      omega arith,
    )

fault-five : (c : Cut) (f : Fault) → c.at ≡ f.at → f.rule ≡ 5
    → ◌≡◌ {A = Result GivenResult Fault} (fault c.at 5) (Err f)
fault-five c f at rule =
    ap (λ (n : ℕ). Err (record { at = n; rule = 5 })) at ∙ ap (λ (n : ℕ). Err (record { at = f.at; rule = n })) (sym rule)

-- what is read, where `end` was read
pub last-entries : (text : List ℕ) (cites : Bool) (at : ℕ) (tree : List (List ℕ)) (b : Building) (next : ℕ)
    (answer : Result Building (ReadError Fault)) → IsLast text next b answer
    → read_entries cites (length text) tree no_range [] (cuts_from text at)
    ≡ none_after (with_lines cites tree (lines_taken b)) (cuts_from text next)
    → AreEntries text cites at tree answer
last-entries text cites at tree b next (Ok r) is e =
    e ∙ ap (none_after (with_lines cites tree (lines_taken b))) is.1
    ∙ ap (λ (x : Building). Ok (with_lines cites tree (lines_taken x))) (sym is.0)
last-entries text cites at tree b next (Err errors.Memory) is e = absurd is
last-entries text cites at tree b next (Err (errors.Fault f)) is e =
    (e ∙ ap (none_after (with_lines cites tree (lines_taken b))) is.2 ∙ fault-five is.1 f is.3 is.4, is.5)

pub last-built : (text : List ℕ) (cites : Bool) (n : ℕ) (b : Building) (next : ℕ)
    (answer : Result Building (ReadError Fault)) → IsLast text next b answer → IsBuilt cites n b → IfOk answer (IsBuilt cites n)
last-built text cites n b next (Ok r) is built = subst (IsBuilt cites n) (sym is.0) built
last-built text cites n b next (Err e) is built = tt
