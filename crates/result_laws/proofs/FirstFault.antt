-- The fault that is read in a text is its first.
use Rattle.std.proofs.Common.{◌≡◌, ℕ, ◌==◌, Bool, true, false, ◌||◌, List, [], ◌∷◌, ◌++◌, refl, sym, ◌∙◌, ap}
use Rattle.std.proofs.Common.{arith, cond, Option, Some, None, Result, Err, inl, inr}
use Rattle.std.specs.Prelude.{◌⊎◌, codes}
use Rattle.std.specs.List.{list_any}
use Rattle.std.specs.Str.{bytes_eq}
use Rattle.std.proofs.lemmas.Bool.{or_from, or_parts}
use Rattle.std.proofs.lemmas.List.{append_assoc}
use Rattle.std.proofs.lemmas.List.Folds.{list_any-append}
use Rattle.std.proofs.lemmas.List.Elements.{All-nil, All-cons}
use Rattle.mc_base.specs.declared.read_error.Fault.{Fault}
use Rattle.flow_text.specs.Text.{Cut}
use Rattle.result_laws.specs.Given.{GivenResult, IsTreeText, ended_lines, first_text}
use Rattle.result_laws.specs.Reading.{CertLine, Place, no_range, line_of, fault, is_cut, line_in, is_close, none_after}
use Rattle.result_laws.specs.Reading.{line_here, read_entries, read_tree, read_first}
use Rattle.result_laws.proofs.Spelling.{Printed, not_printed}
use Rattle.result_laws.proofs.TextRead.{Are, AllPrinted, CutsPrinted, Whole, told, okay, lines-read, entries-more, entries-end}
use Rattle.result_laws.proofs.TextRead.{entries-off, entries-out, tree-read, tree-more, tree-cert, tree-out, no-fault, cut-is}
use Rattle.result_laws.proofs.TextRead.{cut-parts, same-text, printed-bytes, whole-rest, first-none, first-one, first-two}
use Rattle.result_laws.proofs.TextRead.{first-off, lines-in-first}

-- After these texts, each with its line feed, these lines are left.
abbrev pub After : List (List ℕ) → List Cut → List Cut → Type 0
After [] cs rest = cs ≡ rest
After (t ∷ ts) [] rest = ⊥
After (t ∷ ts) (c ∷ cs) rest = (c.text ≡ t) × (c.ended ≡ true) × After ts cs rest

-- A fault stands at the first line that is left, or at the end: loose bytes before it are those of a line without a line feed.
abbrev pub StandsAt : (len at : ℕ) → List Cut → (loose : List ℕ) → Type 0
StandsAt len at [] loose = (at ≡ len) × (loose ≡ [])
StandsAt len at (c ∷ cs) loose =
    ((at ≡ c.at) × (loose ≡ [])) ⊎ ((at ≡ len) × (c.ended ≡ false) × (cs ≡ []) × (loose ≡ c.text))

-- A reader's fault in these lines: the texts before it, how some result goes on, and that none goes on with its line.
pub record FaultOf (read : ℕ → List Cut → Result GivenResult Fault) (len : ℕ) (cs : List Cut) (f : Fault) : Type 0 where
  pub texts : List (List ℕ)
  pub rest : List Cut
  pub after : After texts cs rest
  pub loose : List ℕ
  pub stands : StandsAt len f.at rest loose
  pub more : List (List ℕ)
  pub printed : AllPrinted more
  pub begins : (ending : List ℕ) × (ended_lines more ≡ loose ++ ending)
  pub other : f.rule ≡ 1 → ⊥
  pub result : GivenResult
  pub goes_on : (n : ℕ) (ds : List Cut) → Are (texts ++ more) ds → read n ds ≡ okay result
  pub refuses : (c : Cut) (us ds es : List Cut) (r : GivenResult) (n : ℕ) → rest ≡ c ∷ us → c.ended ≡ true
      → After (texts ++ c.text ∷ []) ds es → read n ds ≡ okay r → ⊥

-- a line that was read, and a fault after it
later : (read next : ℕ → List Cut → Result GivenResult Fault) (len : ℕ) (c : Cut) (cs : List Cut) (f : Fault) → c.ended ≡ true
    → ((n : ℕ) (d : Cut) (ds : List Cut) → d.text ≡ c.text → d.ended ≡ true → read n (d ∷ ds) ≡ next n ds)
    → FaultOf next len cs f → FaultOf read len (c ∷ cs) f
later read next len c cs f ended step k = record {
  texts = c.text ∷ k.texts;
  rest = k.rest;
  after = (refl, ended, k.after);
  loose = k.loose;
  stands = k.stands;
  more = k.more;
  printed = k.printed;
  begins = k.begins;
  other = k.other;
  result = k.result;
  goes_on = go;
  refuses = refuse;
}
  where
    go : (n : ℕ) (ds : List Cut) → Are ((c.text ∷ k.texts) ++ k.more) ds → read n ds ≡ okay k.result
    go n [] a = absurd a
    go n (d ∷ ds) a = step n d ds a.0 a.1 ∙ k.goes_on n ds a.2

    refuse : (e : Cut) (us ds es : List Cut) (r : GivenResult) (n : ℕ) → k.rest ≡ e ∷ us → e.ended ≡ true
        → After ((c.text ∷ k.texts) ++ e.text ∷ []) ds es → read n ds ≡ okay r → ⊥
    refuse e us [] es r n is end a ok = absurd a
    refuse e us (d ∷ ds) es r n is end a ok = k.refuses e us ds es r n is end a.2 (sym (step n d ds a.0 a.1) ∙ ok)

-- a fault at this line
at-line : (read : ℕ → List Cut → Result GivenResult Fault) (len : ℕ) (c : Cut) (cs : List Cut) (f : Fault) (more : List (List ℕ))
    (result : GivenResult) → AllPrinted more → f.at ≡ c.at → (f.rule ≡ 1 → ⊥) → ((n : ℕ) (ds : List Cut) → Are more ds
    → read n ds ≡ okay result)
    → ((n : ℕ) (d : Cut) (ds : List Cut) (r : GivenResult) → c.ended ≡ true → d.text ≡ c.text → d.ended ≡ true
    → read n (d ∷ ds) ≡ okay r → ⊥)
    → FaultOf read len (c ∷ cs) f
at-line read len c cs f more result p spot other goes refuse = record {
  texts = [];
  rest = c ∷ cs;
  after = refl;
  loose = [];
  stands = inl (spot, refl);
  more = more;
  printed = p;
  begins = (ended_lines more, refl);
  other = other;
  result = result;
  goes_on = goes;
  refuses = refuses;
}
  where
    refuses : (e : Cut) (us ds es : List Cut) (r : GivenResult) (n : ℕ) → (c ∷ cs) ≡ (e ∷ us) → e.ended ≡ true
        → After (e.text ∷ []) ds es → read n ds ≡ okay r → ⊥
    refuses e us [] es r n is end a ok = absurd a
    refuses e us (d ∷ ds) es r n is end a ok =
        let same : c ≡ e = cc in
        refuse n d ds r (ap (λ (x : Cut). x.ended) same ∙ end) (a.0 ∙ sym (ap (λ (x : Cut). x.text) same)) a.1 ok

-- a fault at the end
at-end : (read : ℕ → List Cut → Result GivenResult Fault) (len : ℕ) (f : Fault) (more : List (List ℕ)) (result : GivenResult)
    → AllPrinted more → f.at ≡ len → (f.rule ≡ 1 → ⊥)
    → ((n : ℕ) (ds : List Cut) → Are more ds → read n ds ≡ okay result) → FaultOf read len [] f
at-end read len f more result p spot other goes = record {
  texts = [];
  rest = [];
  after = refl;
  loose = [];
  stands = (spot, refl);
  more = more;
  printed = p;
  begins = (ended_lines more, refl);
  other = other;
  result = result;
  goes_on = goes;
  refuses = λ e us ds es r n is end a ok. cc;
}

fault-at : (at rule : ℕ) (f : Fault) → ◌≡◌ {A = Result GivenResult Fault} (fault at rule) (Err f) → f.at ≡ at
fault-at at rule f e = let k : f ≡ record { at = at; rule = rule } = cc in ap (λ (x : Fault). x.at) k

fault-rule : (at rule : ℕ) (f : Fault) → ◌≡◌ {A = Result GivenResult Fault} (fault at rule) (Err f) → (rule ≡ 1 → ⊥)
    → f.rule ≡ 1 → ⊥
fault-rule at rule f e never is =
    let k : f ≡ record { at = at; rule = rule } = cc in
    never (sym (ap (λ (x : Fault). x.rule) k) ∙ is)

two-one : ◌≡◌ {A = ℕ} 2 1 → ⊥
two-one e = omega arith

three-one : ◌≡◌ {A = ℕ} 3 1 → ⊥
three-one e = omega arith

four-one : ◌≡◌ {A = ℕ} 4 1 → ⊥
four-one e = omega arith

five-one : ◌≡◌ {A = ℕ} 5 1 → ⊥
five-one e = omega arith

not-told : (r : GivenResult) (f : Fault) → okay r ≡ Err f → ⊥
not-told r f e = cc

-- ---- the lines after `cert`

after-end : (t : GivenResult) (len : ℕ) (cs : List Cut) (f : Fault) → none_after t cs ≡ Err f
    → FaultOf (λ n ds. none_after t ds) len cs f
after-end t len [] f e = absurd (not-told t f e)
after-end t len (c ∷ cs) f e = at-line (λ n ds. none_after t ds) len c cs f [] t tt (fault-at c.at 5 f e)
    (fault-rule c.at 5 f e five-one) go
    (λ n d ds r there same end ok. no-fault d.at 5 r ok)
  where
    go : (n : ℕ) (ds : List Cut) → Are [] ds → none_after t ds ≡ okay t
    go n [] a = refl
    go n (d ∷ ds) a = absurd a

same-line : (cites : Bool) (c d : Cut) → d.text ≡ c.text → c.ended ≡ true → d.ended ≡ true → line_in cites d ≡ line_in cites c
same-line cites c d same e f = rw (e, f) (ap (line_of cites) same)

ended-line : (cites : Bool) (place : Place) (c : Cut) (x : CertLine × Place) → line_here place (line_in cites c) ≡ Some x
    → c.ended ≡ true
ended-line cites place c x e = go c.ended refl e
  where
    go : (t : Bool) → c.ended ≡ t → line_here place (cond t (line_of cites c.text) None) ≡ Some x → c.ended ≡ true
    go true is e = is
    go false is e = absurd cc

entries-fault : (cites : Bool) (len : ℕ) (tree : List (List ℕ)) (place : Place) (lines : List CertLine) (cs : List Cut)
    (f : Fault)
    → read_entries cites len tree place lines cs ≡ Err f
    → FaultOf (λ n ds. read_entries cites n tree place lines ds) len cs f
entries-fault cites len tree place lines [] f e =
    at-end (λ n ds. read_entries cites n tree place lines ds) len f (codes "end" ∷ []) (told cites tree (lines ++ []))
    (refl, tt)
    (fault-at len 5 f (sym (entries-out cites len tree place lines) ∙ e))
    (fault-rule len 5 f (sym (entries-out cites len tree place lines) ∙ e) five-one)
    (λ n ds a. lines-read cites n tree place lines [] ds tt a)
entries-fault cites len tree place lines (c ∷ cs) f e =
    go (line_here place (line_in cites c)) refl (λ q ls k. entries-fault cites len tree q ls cs f k)
  where
    ends : (x : CertLine × Place) → line_here place (line_in cites c) ≡ Some x → (t : Bool) → is_close x.0 ≡ t
        → ((q : Place) (ls : List CertLine) → read_entries cites len tree q ls cs ≡ Err f
        → FaultOf (λ n ds. read_entries cites n tree q ls ds) len cs f)
        → FaultOf (λ n ds. read_entries cites n tree place lines ds) len (c ∷ cs) f
    ends x is false g says =
        let there = ended-line cites place c x is in
        later (λ n ds. read_entries cites n tree place lines ds) (λ n ds. read_entries cites n tree x.1 (lines ++ x.0 ∷ []) ds)
        len c cs f there
        (λ n d ds same end. entries-more cites n tree place x.1 lines d ds x.0
        (ap (line_here place) (same-line cites c d same there end) ∙ is) g)
        (says x.1 (lines ++ x.0 ∷ []) (sym (entries-more cites len tree place x.1 lines c cs x.0 is g) ∙ e))
    ends x is true g says =
        let there = ended-line cites place c x is in
        later (λ n ds. read_entries cites n tree place lines ds) (λ n ds. none_after (told cites tree lines) ds) len c cs f there
        (λ n d ds same end. entries-end cites n tree place x.1 lines d ds x.0
        (ap (line_here place) (same-line cites c d same there end) ∙ is) g)
        (after-end (told cites tree lines) len cs f (sym (entries-end cites len tree place x.1 lines c cs x.0 is g) ∙ e))

    go : (o : Option (CertLine × Place)) → line_here place (line_in cites c) ≡ o
        → ((q : Place) (ls : List CertLine) → read_entries cites len tree q ls cs ≡ Err f
        → FaultOf (λ n ds. read_entries cites n tree q ls ds) len cs f)
        → FaultOf (λ n ds. read_entries cites n tree place lines ds) len (c ∷ cs) f
    go None is says =
        at-line (λ n ds. read_entries cites n tree place lines ds) len c cs f (codes "end" ∷ []) (told cites tree (lines ++ []))
        (refl, tt)
        (fault-at c.at 4 f (sym (entries-off cites len tree place lines c cs is) ∙ e))
        (fault-rule c.at 4 f (sym (entries-off cites len tree place lines c cs is) ∙ e) four-one)
        (λ n ds a. lines-read cites n tree place lines [] ds tt a)
        (λ n d ds r there same end ok. no-fault d.at 4 r
        (sym (entries-off cites n tree place lines d ds
        (ap (line_here place) (same-line cites c d same there end) ∙ is)) ∙ ok))
    go (Some x) is says = ends x is (is_close x.0) refl says

-- ---- the lines of the tree

same-cut : (c d : Cut) (text : List ℕ) → d.text ≡ c.text → c.ended ≡ true → d.ended ≡ true → is_cut d text ≡ is_cut c text
same-cut c d text same e f = rw (e, f) (ap (λ (bs : List ℕ). bytes_eq bs text) same)

-- a text with this byte at its end isn't `cert`
not-cert : (t : List ℕ) → t ++ 35 ∷ [] ≡ codes "cert" → ⊥
not-cert t e =
    let k : list_any (λ b. b == 35) (t ++ 35 ∷ []) ≡ false = ap (list_any (λ b. b == 35)) e in
    let l : (list_any (λ b. b == 35) t || true) ≡ false = sym (list_any-append (λ b. b == 35) t (35 ∷ [])) ∙ k in
    let m = or_parts (list_any (λ b. b == 35) t) true l in
    absurd (let n = m.1 in cc)

mended : (t : List ℕ) → Printed t → IsTreeText (t ++ 35 ∷ [])
mended t p = (not-cert t, printed-bytes (t ++ 35 ∷ []) (list_any-append not_printed t (35 ∷ []) ∙ or_from _ false p refl))

loose-end : (cites : Bool) (len : ℕ) (tree : List (List ℕ)) (c : Cut) (f : Fault) → Printed c.text → c.ended ≡ false → f.at ≡ len
    → (f.rule ≡ 1 → ⊥) → FaultOf (λ n ds. read_tree cites n tree ds) len (c ∷ []) f
loose-end cites len tree c f p bare spot other = record {
  texts = [];
  rest = c ∷ [];
  after = refl;
  loose = c.text;
  stands = inr (spot, bare, refl, refl);
  more = (c.text ++ 35 ∷ []) ∷ codes "cert" ∷ codes "end" ∷ [];
  printed = (
    list_any-append not_printed c.text (35 ∷ []) ∙ or_from (list_any not_printed c.text) false p refl,
    (
      refl,
      (refl, tt),
    ),
  );
  begins = (
    35 ∷ 10 ∷ ended_lines (codes "cert" ∷ codes "end" ∷ []),
    append_assoc (c.text ++ 35 ∷ []) (10 ∷ []) (ended_lines (codes "cert" ∷ codes "end" ∷ []))
        ∙ append_assoc c.text (35 ∷ []) (10 ∷ ended_lines (codes "cert" ∷ codes "end" ∷ [])),
  );
  other = other;
  result = told cites (tree ++ (c.text ++ 35 ∷ []) ∷ []) [];
  goes_on = λ n ds a. tree-read cites n tree ((c.text ++ 35 ∷ []) ∷ []) [] ds
      (All-cons IsTreeText (c.text ++ 35 ∷ []) [] (mended c.text p) (All-nil IsTreeText)) tt a;
  refuses = λ e us ds es r n is end a ok.
      let same : c ≡ e = cc in let k = sym bare ∙ ap (λ (x : Cut). x.ended) same ∙ end in cc;
}

tree-turn : (cites : Bool) (len : ℕ) (tree : List (List ℕ)) (c : Cut) (cs : List Cut) (f : Fault) → Whole (c ∷ cs)
    → Printed c.text → read_tree cites len tree (c ∷ cs) ≡ Err f
    → ((t : List (List ℕ)) → read_tree cites len t cs ≡ Err f → FaultOf (λ n ds. read_tree cites n t ds) len cs f)
    → (t : Bool) → is_cut c (codes "cert") ≡ t → (u : Bool) → c.ended ≡ u
    → FaultOf (λ n ds. read_tree cites n tree ds) len (c ∷ cs) f
tree-turn cites len tree c cs f w p e says true is u there =
    let k = cut-parts c (codes "cert") is in
    later (λ n ds. read_tree cites n tree ds) (λ n ds. read_entries cites n tree no_range [] ds) len c cs f k.0
    (λ n d ds same end. tree-cert cites n tree d ds
    (cut-is d (codes "cert") end (same-text d.text (codes "cert") (same ∙ k.1))))
    (entries-fault cites len tree no_range [] cs f (sym (tree-cert cites len tree c cs is) ∙ e))
tree-turn cites len tree c cs f w p e says false is true there =
    later (λ n ds. read_tree cites n tree ds) (λ n ds. read_tree cites n (tree ++ c.text ∷ []) ds) len c cs f there
    (λ n d ds same end. tree-more cites n tree d ds (same-cut c d (codes "cert") same there end ∙ is)
    ∙ ap (λ (t : List ℕ). read_tree cites n (tree ++ t ∷ []) ds) same)
    (says (tree ++ c.text ∷ []) (sym (tree-more cites len tree c cs is) ∙ e))
tree-turn cites len tree c [] f w p e says false is false there =
    loose-end cites len tree c f p there
    (fault-at len 3 f (sym (tree-out cites len (tree ++ c.text ∷ [])) ∙ sym (tree-more cites len tree c [] is) ∙ e))
    (fault-rule len 3 f (sym (tree-out cites len (tree ++ c.text ∷ [])) ∙ sym (tree-more cites len tree c [] is) ∙ e) three-one)
tree-turn cites len tree c (d ∷ cs) f w p e says false is false there = absurd (let k = sym there ∙ w.0 in cc)

pub tree-fault : (cites : Bool) (len : ℕ) (tree : List (List ℕ)) (cs : List Cut) (f : Fault) → Whole cs → CutsPrinted cs
    → read_tree cites len tree cs ≡ Err f → FaultOf (λ n ds. read_tree cites n tree ds) len cs f
tree-fault cites len tree [] f w p e =
    at-end (λ n ds. read_tree cites n tree ds) len f (codes "cert" ∷ codes "end" ∷ []) (told cites (tree ++ []) [])
    (refl, (refl, tt))
    (fault-at len 3 f (sym (tree-out cites len tree) ∙ e))
    (fault-rule len 3 f (sym (tree-out cites len tree) ∙ e) three-one)
    (λ n ds a. tree-read cites n tree [] [] ds (All-nil IsTreeText) tt a)
tree-fault cites len tree (c ∷ cs) f w p e =
    tree-turn cites len tree c cs f w p.0 e (λ t k. tree-fault cites len t cs f (whole-rest c cs w) p.1 k)
    (is_cut c (codes "cert")) refl c.ended refl

-- ---- the first line

-- the least result of the first format
abbrev least_texts : List (List ℕ)
least_texts = codes "cert" ∷ codes "end" ∷ []

first-off-fault : (len : ℕ) (c : Cut) (cs : List Cut) (f : Fault) → c.at ≡ 0 → is_cut c (codes "mcol 1") ≡ false
    → is_cut c (codes "mcol 2") ≡ false → read_first len (c ∷ cs) ≡ Err f → FaultOf read_first len (c ∷ cs) f
first-off-fault len c cs f at one two e =
    let told-so = sym (first-off len c cs one two) ∙ e in
    at-line read_first len c cs f (first_text false ∷ least_texts) (told false [] []) (refl, (refl, (refl, tt)))
    (fault-at 0 2 f told-so ∙ sym at) (fault-rule 0 2 f told-so two-one)
    (λ n ds a. lines-in-first false n least_texts ds (told false [] []) a
    (λ es b. tree-read false n [] [] [] es (All-nil IsTreeText) tt b))
    (λ n d ds r there same end ok. no-fault 0 2 r
    (sym (first-off n d ds (same-cut c d (codes "mcol 1") same there end ∙ one)
    (same-cut c d (codes "mcol 2") same there end ∙ two)) ∙ ok))

pub first-fault : (len : ℕ) (cs : List Cut) (f : Fault) → (cs ≡ [] → len ≡ 0) → ((c : Cut) (ds : List Cut) → cs ≡ c ∷ ds → c.at
    ≡ 0)
    → Whole cs → CutsPrinted cs → read_first len cs ≡ Err f → FaultOf read_first len cs f
first-fault len [] f none at w p e =
    let told-so = sym (first-none len) ∙ e in
    at-end read_first len f (first_text false ∷ least_texts) (told false [] []) (refl, (refl, (refl, tt)))
    (fault-at 0 2 f told-so ∙ sym (none refl)) (fault-rule 0 2 f told-so two-one)
    (λ n ds a. lines-in-first false n least_texts ds (told false [] []) a
    (λ es b. tree-read false n [] [] [] es (All-nil IsTreeText) tt b))
first-fault len (c ∷ cs) f none at w p e = go (is_cut c (codes "mcol 1")) (is_cut c (codes "mcol 2")) refl refl
  where
    go : (t u : Bool) → is_cut c (codes "mcol 1") ≡ t → is_cut c (codes "mcol 2") ≡ u → FaultOf read_first len (c ∷ cs) f
    go true u one two =
        let k = cut-parts c (codes "mcol 1") one in
        later read_first (λ n ds. read_tree false n [] ds) len c cs f k.0
        (λ n d ds same end. first-one n d ds (same-cut c d (codes "mcol 1") same k.0 end ∙ one))
        (tree-fault false len [] cs f (whole-rest c cs w) p.1 (sym (first-one len c cs one) ∙ e))
    go false true one two =
        let k = cut-parts c (codes "mcol 2") two in
        later read_first (λ n ds. read_tree true n [] ds) len c cs f k.0
        (λ n d ds same end. first-two n d ds (same-cut c d (codes "mcol 1") same k.0 end ∙ one)
        (same-cut c d (codes "mcol 2") same k.0 end ∙ two))
        (tree-fault true len [] cs f (whole-rest c cs w) p.1 (sym (first-two len c cs one two) ∙ e))
    go false false one two = first-off-fault len c cs f (at c cs refl) one two e
