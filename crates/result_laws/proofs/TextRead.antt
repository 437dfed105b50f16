-- A text is a result exactly where that result is read in it.
use Rattle.std.proofs.Common.{◌≡◌, ℕ, ◌+◌, ◌==◌, ◌≤◌, Bool, true, false, ◌&&◌, not, List, [], ◌∷◌, ◌++◌, length}
use Rattle.std.proofs.Common.{map}
use Rattle.std.proofs.Common.{refl, sym, ◌∙◌, ap, subst, arith, cond, Option, Some, None, Result, Ok}
use Rattle.std.specs.Prelude.{nat_lt, codes, All}
use Rattle.std.specs.List.{list_any, flat_map}
use Rattle.std.specs.Str.{bytes_eq}
use Rattle.std.proofs.lemmas.Bool.{or_from, or_parts}
use Rattle.std.proofs.lemmas.Bool.Decides.{nat_tests}
use Rattle.std.proofs.lemmas.List.{append_assoc, append-nil}
use Rattle.std.proofs.lemmas.List.Elements.{All-nil, All-cons, All-head, All-tail}
use Rattle.std.proofs.lemmas.Slice.Eq.{bytes_eq-Decides}
use Rattle.mc_base.specs.declared.read_error.Fault.{Fault}
use Rattle.flow_text.specs.Text.{Cut, cuts, grown}
use Rattle.result_laws.specs.Given.{GivenResult, IsResult, IsTreeText, EntriesStand, result_texts, ended_lines, first_text}
use Rattle.result_laws.specs.Given.{entry_texts, CitedLine, GivenRange, GivenEntry, RangesStand}
use Rattle.result_laws.specs.Reading.{CertLine, entry, range, column, close, Place, no_range, place_after, line_of, gathered}
use Rattle.result_laws.specs.Reading.{fault, Rest}
use Rattle.result_laws.specs.Reading.{is_cut, line_in, is_close, none_after, line_here, read_entries, read_tree, read_first}
use Rattle.result_laws.specs.Reading.{wrong_byte, result_of}
use Rattle.result_laws.proofs.Spelling.{text_in, IsLine, Printed, Without, not_printed, printed-without, text-printed}
use Rattle.result_laws.proofs.WordsBack.{same-bytes, some-same, some-step}
use Rattle.result_laws.proofs.LinesBack.{line-back, line-said}
use Rattle.result_laws.proofs.Gathering.{Stand, lines_in, entries-texts, entries-stand, entries-gathered, entries-length}
use Rattle.result_laws.proofs.Gathering.{lines-gather, columns_onto, ranges_onto}

-- ---- the lines of a text

-- These lines, each with its line feed, are these texts.
abbrev pub Are : List (List ℕ) → List Cut → Type 0
Are [] [] = Unit {0}
Are [] (c ∷ cs) = ⊥
Are (t ∷ ts) [] = ⊥
Are (t ∷ ts) (c ∷ cs) = (c.text ≡ t) × (c.ended ≡ true) × Are ts cs

abbrev pub AllPrinted : List (List ℕ) → Type 0
AllPrinted [] = Unit {0}
AllPrinted (t ∷ ts) = Printed t × AllPrinted ts

pub cuts-none : (at : ℕ) → cuts at [] ≡ []
unfolding cuts
cuts-none at = refl

pub cuts-feed : (at b : ℕ) (bytes : List ℕ) → (b == 10) ≡ true
    → cuts at (b ∷ bytes) ≡ record { at = at; text = []; ended = true } ∷ cuts (at + 1) bytes
unfolding cuts
cuts-feed at b bytes e = rw e refl

pub cuts-byte : (at b : ℕ) (bytes : List ℕ) → (b == 10) ≡ false → cuts at (b ∷ bytes) ≡ grown at b (cuts (at + 1) bytes)
unfolding cuts
cuts-byte at b bytes e = rw e refl

are-grown : (at b : ℕ) (t : List ℕ) (ts : List (List ℕ)) (cs : List Cut) → Are (t ∷ ts) cs → Are ((b ∷ t) ∷ ts) (grown at b cs)
are-grown at b t ts [] a = absurd a
are-grown at b t ts (c ∷ cs) a = (ap (λ (x : List ℕ). b ∷ x) a.0, a.1, a.2)

pub line-cut : (at : ℕ) (t : List ℕ) (ts : List (List ℕ)) (rest : List ℕ) → Without 10 t → ((k : ℕ) → Are ts (cuts k rest))
    → Are (t ∷ ts) (cuts at (t ++ 10 ∷ rest))
line-cut at [] ts rest never a = rw (cuts-feed at 10 rest refl) (refl, refl, a (at + 1))
line-cut at (b ∷ t) ts rest never a =
    let k = or_parts (b == 10) (list_any (λ c. c == 10) t) never in
    rw (cuts-byte at b (t ++ 10 ∷ rest) k.0)
    (are-grown at b t ts (cuts (at + 1) (t ++ 10 ∷ rest)) (line-cut (at + 1) t ts rest k.1 a))

feed-last : (t rest : List ℕ) → (t ++ 10 ∷ []) ++ rest ≡ t ++ 10 ∷ rest
feed-last t rest = append_assoc t (10 ∷ []) rest

pub lines-cut : (at : ℕ) (ts : List (List ℕ)) → AllPrinted ts → Are ts (cuts at (ended_lines ts))
lines-cut at [] p = rw (cuts-none at) tt
lines-cut at (t ∷ ts) p =
    rw (feed-last t (ended_lines ts))
    (line-cut at t ts (ended_lines ts) (printed-without t p.0) (λ k. lines-cut k ts p.1))

-- lines with their line feeds make up the text
texts-of : List Cut → List (List ℕ)
texts-of cs = map (λ (c : Cut). c.text) cs

grown-said : (at b : ℕ) (bytes : List ℕ) (ts : List (List ℕ)) (cs : List Cut)
    → ((us : List (List ℕ)) → Are us cs → bytes ≡ ended_lines us) → Are ts (grown at b cs) → b ∷ bytes ≡ ended_lines ts
grown-said at b bytes [] [] says a = absurd a
grown-said at b bytes [] (c ∷ cs) says a = absurd a
grown-said at b bytes (t ∷ ts) [] says a = absurd (let k = a.1 in cc)
grown-said at b bytes (t ∷ ts) (c ∷ cs) says a =
    let k = says (c.text ∷ ts) (refl, a.1, a.2) in
    ap (λ (bs : List ℕ). b ∷ bs) k ∙ ap (λ (x : List ℕ). (x ++ 10 ∷ []) ++ ended_lines ts) a.0

text-said : (at : ℕ) (bytes : List ℕ) (ts : List (List ℕ)) → Are ts (cuts at bytes) → bytes ≡ ended_lines ts
text-said at [] ts a = go ts (subst (Are ts) (cuts-none at) a)
  where
    go : (ts : List (List ℕ)) → Are ts [] → [] ≡ ended_lines ts
    go [] a = refl
    go (t ∷ ts) a = absurd a
text-said at (b ∷ bytes) ts a = go (b == 10) refl (λ us k. text-said (at + 1) bytes us k)
  where
    feed : (ts : List (List ℕ)) → b ≡ 10 → Are ts (record { at = at; text = []; ended = true } ∷ cuts (at + 1) bytes)
        → ((us : List (List ℕ)) → Are us (cuts (at + 1) bytes) → bytes ≡ ended_lines us) → b ∷ bytes ≡ ended_lines ts
    feed [] is a says = absurd a
    feed (t ∷ ts) is a says =
        ap (λ (c : ℕ). c ∷ bytes) is ∙ ap (λ (bs : List ℕ). 10 ∷ bs) (says ts a.2)
        ∙ ap (λ (x : List ℕ). (x ++ 10 ∷ []) ++ ended_lines ts) a.0

    go : (t : Bool) → (b == 10) ≡ t → ((us : List (List ℕ)) → Are us (cuts (at + 1) bytes) → bytes ≡ ended_lines us)
        → b ∷ bytes ≡ ended_lines ts
    go true is says =
        let same : b ≡ 10 = grind (arith, nat_tests) in
        feed ts same (subst (Are ts) (cuts-feed at b bytes is) a) says
    go false is says = grown-said at b bytes ts (cuts (at + 1) bytes) says (subst (Are ts) (cuts-byte at b bytes is) a)

-- ---- the bytes of a text

abbrev wrong : ℕ → Bool
wrong b = not_printed b && not (b == 10)

wrong-goes : (at b : ℕ) (bytes : List ℕ) → wrong b ≡ false → wrong_byte at (b ∷ bytes) ≡ wrong_byte (at + 1) bytes
wrong-goes at b bytes e = rw e refl

none-wrong : (at : ℕ) (t rest : List ℕ) → Printed t → ((k : ℕ) → wrong_byte k rest ≡ None) → wrong_byte at (t ++ 10 ∷ rest) ≡ None
none-wrong at [] rest p r = r (at + 1)
none-wrong at (b ∷ t) rest p r =
    let k = or_parts (not_printed b) (list_any not_printed t) p in
    let never : wrong b ≡ false = ap (λ (x : Bool). x && not (b == 10)) k.0 in
    wrong-goes at b (t ++ 10 ∷ rest) never ∙ none-wrong (at + 1) t rest k.1 r

pub lines-right : (at : ℕ) (ts : List (List ℕ)) → AllPrinted ts → wrong_byte at (ended_lines ts) ≡ None
lines-right at [] p = refl
lines-right at (t ∷ ts) p =
    rw (feed-last t (ended_lines ts)) (none-wrong at t (ended_lines ts) p.0 (λ k. lines-right k ts p.1))

abbrev pub CutsPrinted : List Cut → Type 0
CutsPrinted [] = Unit {0}
CutsPrinted (c ∷ cs) = Printed c.text × CutsPrinted cs

printed-grown : (at b : ℕ) (cs : List Cut) → not_printed b ≡ false → CutsPrinted cs → CutsPrinted (grown at b cs)
printed-grown at b [] never p = (or_from (not_printed b) false never refl, tt)
printed-grown at b (c ∷ cs) never p = (or_from (not_printed b) (list_any not_printed c.text) never p.0, p.1)

right-parts : (at b : ℕ) (bytes : List ℕ) → wrong_byte at (b ∷ bytes) ≡ None
    → (wrong b ≡ false) × (wrong_byte (at + 1) bytes ≡ None)
right-parts at b bytes e = go (wrong b) refl e
  where
    go : (t : Bool) → wrong b ≡ t → cond t (Some at) (wrong_byte (at + 1) bytes) ≡ None
        → (wrong b ≡ false) × (wrong_byte (at + 1) bytes ≡ None)
    go true is e = absurd cc
    go false is e = (is, e)

first-never : (x y : Bool) → y ≡ false → (x && not y) ≡ false → x ≡ false
first-never false y e f = refl
first-never true true e f = absurd cc
first-never true false e f = absurd cc

pub cuts-printed : (at : ℕ) (bytes : List ℕ) → wrong_byte at bytes ≡ None → CutsPrinted (cuts at bytes)
cuts-printed at [] e = rw (cuts-none at) tt
cuts-printed at (b ∷ bytes) e =
    let k = right-parts at b bytes e in
    go (b == 10) refl k.0 (cuts-printed (at + 1) bytes k.1)
  where
    go : (t : Bool) → (b == 10) ≡ t → wrong b ≡ false → CutsPrinted (cuts (at + 1) bytes) → CutsPrinted (cuts at (b ∷ bytes))
    go true is never p = subst CutsPrinted (sym (cuts-feed at b bytes is)) (refl, p)
    go false is never p =
        subst CutsPrinted (sym (cuts-byte at b bytes is))
        (printed-grown at b (cuts (at + 1) bytes) (first-never (not_printed b) (b == 10) is never) p)

-- only the last line may be without its line feed
abbrev pub Whole : List Cut → Type 0
Whole [] = Unit {0}
Whole (c ∷ []) = Unit {0}
Whole (c ∷ d ∷ cs) = (c.ended ≡ true) × Whole (d ∷ cs)

whole-grown : (at b : ℕ) (cs : List Cut) → Whole cs → Whole (grown at b cs)
whole-grown at b [] w = tt
whole-grown at b (c ∷ []) w = tt
whole-grown at b (c ∷ d ∷ cs) w = (w.0, w.1)

whole-after : (c : Cut) (cs : List Cut) → c.ended ≡ true → Whole cs → Whole (c ∷ cs)
whole-after c [] e w = tt
whole-after c (d ∷ cs) e w = (e, w)

pub whole-rest : (c : Cut) (cs : List Cut) → Whole (c ∷ cs) → Whole cs
whole-rest c [] w = tt
whole-rest c (d ∷ cs) w = w.1

pub cuts-whole : (at : ℕ) (bytes : List ℕ) → Whole (cuts at bytes)
cuts-whole at [] = rw (cuts-none at) tt
cuts-whole at (b ∷ bytes) = go (b == 10) refl (cuts-whole (at + 1) bytes)
  where
    go : (t : Bool) → (b == 10) ≡ t → Whole (cuts (at + 1) bytes) → Whole (cuts at (b ∷ bytes))
    go true is w = subst Whole (sym (cuts-feed at b bytes is))
        (whole-after (record { at = at; text = []; ended = true }) (cuts (at + 1) bytes) refl w)
    go false is w = subst Whole (sym (cuts-byte at b bytes is)) (whole-grown at b (cuts (at + 1) bytes) w)

-- ---- the lines after `cert`

abbrev pub given : Bool → List (List ℕ) → ℕ → List GivenEntry → ℕ → GivenResult
given cites tree cert_at entries end_at =
    record { cites = cites; tree = tree; cert_at = cert_at; entries = entries; end_at = end_at }

abbrev pub told : Bool → List (List ℕ) → List CertLine → GivenResult
told cites tree lines =
    given cites tree (2 + length tree) (gathered (3 + length tree) lines).entries (3 + length tree + length lines)

abbrev pub okay : GivenResult → Result GivenResult Fault
okay r = Ok r

-- what follows on a line that may stand, or may not
abbrev after-close : Bool → ℕ → List (List ℕ) → List CertLine → List Cut → CertLine × Place → Bool → Result GivenResult Fault
after-close cites len tree lines cs next false = read_entries cites len tree next.1 (lines ++ next.0 ∷ []) cs
after-close cites len tree lines cs next true = none_after (told cites tree lines) cs

abbrev after-line : Bool → ℕ → List (List ℕ) → List CertLine → ℕ → List Cut → Option (CertLine × Place)
    → Result GivenResult Fault
after-line cites len tree lines at cs None = fault at 4
after-line cites len tree lines at cs (Some next) = after-close cites len tree lines cs next (is_close next.0)

entries-step : (cites : Bool) (len : ℕ) (tree : List (List ℕ)) (place : Place) (lines : List CertLine) (c : Cut) (cs : List Cut)
    → read_entries cites len tree place lines (c ∷ cs)
    ≡ after-line cites len tree lines c.at cs (line_here place (line_in cites c))
unfolding read_entries
entries-step cites len tree place lines c cs = go (line_here place (line_in cites c))
  where
    closes : (next : CertLine × Place) (t : Bool) → (elim t as (λ _. Result GivenResult Fault) [
      | false ↦ read_entries cites len tree next.1 (lines ++ next.0 ∷ []) cs
      | true ↦ none_after (told cites tree lines) cs
    ]) ≡ after-close cites len tree lines cs next t
    closes next false = refl
    closes next true = refl

    go : (o : Option (CertLine × Place)) → (elim o as (λ _. Result GivenResult Fault) [
      | None ↦ fault c.at 4
      | Some next ↦ elim (is_close next.0) as (λ _. Result GivenResult Fault) [
        | false ↦ read_entries cites len tree next.1 (lines ++ next.0 ∷ []) cs
        | true ↦ none_after (told cites tree lines) cs
      ]
    ]) ≡ after-line cites len tree lines c.at cs o
    go None = refl
    go (Some next) = closes next (is_close next.0)

pub entries-more : (cites : Bool) (len : ℕ) (tree : List (List ℕ)) (place q : Place) (lines : List CertLine) (c : Cut)
    (cs : List Cut)
    (l : CertLine) → line_here place (line_in cites c) ≡ Some (l, q) → is_close l ≡ false
    → read_entries cites len tree place lines (c ∷ cs) ≡ read_entries cites len tree q (lines ++ l ∷ []) cs
entries-more cites len tree place q lines c cs l e f =
    entries-step cites len tree place lines c cs
    ∙ ap (λ (o : Option (CertLine × Place)). after-line cites len tree lines c.at cs o) e
    ∙ ap (λ (t : Bool). after-close cites len tree lines cs (l, q) t) f

pub entries-end : (cites : Bool) (len : ℕ) (tree : List (List ℕ)) (place q : Place) (lines : List CertLine) (c : Cut)
    (cs : List Cut)
    (l : CertLine) → line_here place (line_in cites c) ≡ Some (l, q) → is_close l ≡ true
    → read_entries cites len tree place lines (c ∷ cs) ≡ none_after (told cites tree lines) cs
entries-end cites len tree place q lines c cs l e f =
    entries-step cites len tree place lines c cs
    ∙ ap (λ (o : Option (CertLine × Place)). after-line cites len tree lines c.at cs o) e
    ∙ ap (λ (t : Bool). after-close cites len tree lines cs (l, q) t) f

pub entries-off : (cites : Bool) (len : ℕ) (tree : List (List ℕ)) (place : Place) (lines : List CertLine) (c : Cut)
    (cs : List Cut)
    → line_here place (line_in cites c) ≡ None → read_entries cites len tree place lines (c ∷ cs) ≡ fault c.at 4
entries-off cites len tree place lines c cs e =
    entries-step cites len tree place lines c cs
    ∙ ap (λ (o : Option (CertLine × Place)). after-line cites len tree lines c.at cs o) e

pub entries-out : (cites : Bool) (len : ℕ) (tree : List (List ℕ)) (place : Place) (lines : List CertLine)
    → read_entries cites len tree place lines [] ≡ fault len 5
unfolding read_entries
entries-out cites len tree place lines = refl

line-in : (cites : Bool) (c : Cut) (l : CertLine) → IsLine cites l → c.text ≡ text_in l → c.ended ≡ true
    → line_in cites c ≡ Some l
line-in cites c l is t e = rw (e, t) (line-back cites l is)

here : (place q : Place) (l : CertLine) (o : Option CertLine) → o ≡ Some l → place_after place l ≡ Some q
    → line_here place o ≡ Some (l, q)
here place q l o e f = rw (e, f) refl

pub lines-read : (cites : Bool) (len : ℕ) (tree : List (List ℕ)) (place : Place) (lines ls : List CertLine) (cs : List Cut)
    → Stand cites place ls → Are (map text_in ls ++ codes "end" ∷ []) cs
    → read_entries cites len tree place lines cs ≡ Ok (told cites tree (lines ++ ls))
lines-read cites len tree place lines [] [] s a = absurd a
lines-read cites len tree place lines [] (c ∷ []) s a =
    entries-end cites len tree place no_range lines c [] close
    (here place no_range close (line_in cites c) (line-in cites c close tt a.0 a.1) refl) refl
    ∙ ap (λ (ls : List CertLine). okay (told cites tree ls)) (sym (append-nil lines))
lines-read cites len tree place lines [] (c ∷ d ∷ cs) s a = absurd a.2
lines-read cites len tree place lines (l ∷ ls) [] s a = absurd a
lines-read cites len tree place lines (l ∷ ls) (c ∷ cs) s a =
    entries-more cites len tree place s.2 lines c cs l
    (here place s.2 l (line_in cites c) (line-in cites c l s.0 a.0 a.1) s.3) s.1
    ∙ lines-read cites len tree s.2 (lines ++ l ∷ []) ls cs s.4 a.2
    ∙ ap (λ (ls : List CertLine). okay (told cites tree ls)) (append_assoc lines (l ∷ []) ls)

-- what was read in the lines after `cert`
record Said (cites : Bool) (tree : List (List ℕ)) (place : Place) (lines : List CertLine) (cs : List Cut) (r : GivenResult)
    : Type 0 where
  more : List CertLine
  stand : Stand cites place more
  are : Are (map text_in more ++ codes "end" ∷ []) cs
  is : r ≡ told cites tree (lines ++ more)

ok-same : (x y : GivenResult) → ◌≡◌ {A = Result GivenResult Fault} (Ok x) (Ok y) → x ≡ y
ok-same x y e = cc

pub no-fault : (at rule : ℕ) (r : GivenResult) → ◌≡◌ {A = Result GivenResult Fault} (fault at rule) (Ok r) → ⊥
no-fault at rule r e = cc

line-there : (cites : Bool) (c : Cut) (l : CertLine) → line_in cites c ≡ Some l
    → (c.ended ≡ true) × (line_of cites c.text ≡ Some l)
line-there cites c l e = go c.ended refl e
  where
    go : (t : Bool) → c.ended ≡ t → cond t (line_of cites c.text) None ≡ Some l
        → (c.ended ≡ true) × (line_of cites c.text ≡ Some l)
    go true is e = (is, e)
    go false is e = absurd cc

here-said : (place : Place) (o : Option CertLine) (x : CertLine × Place) → line_here place o ≡ Some x
    → (o ≡ Some x.0) × (place_after place x.0 ≡ Some x.1)
here-said place None x e = absurd cc
here-said place (Some l) x e = some-step ((Some l ≡ Some x.0) × (place_after place x.0 ≡ Some x.1)) (place_after place l) _ x e
    (λ p i f. subst (λ (y : CertLine × Place). (Some l ≡ Some y.0) × (place_after place y.0 ≡ Some y.1)) (some-same (l, p) x f)
    (refl, i))

close-is : (l : CertLine) → is_close l ≡ true → l ≡ close
close-is (entry h) e = absurd cc
close-is (range low high reason) e = absurd cc
close-is (column c) e = absurd cc
close-is close e = refl

last-said : (x r : GivenResult) (cs : List Cut) → none_after x cs ≡ Ok r → (cs ≡ []) × (x ≡ r)
last-said x r [] e = (refl, ok-same x r e)
last-said x r (c ∷ cs) e = absurd (no-fault c.at 5 r e)

more-said : (cites : Bool) (len : ℕ) (tree : List (List ℕ)) (place q : Place) (lines : List CertLine) (c : Cut) (cs : List Cut)
    (r : GivenResult) (l : CertLine) → line_here place (line_in cites c) ≡ Some (l, q)
    → read_entries cites len tree place lines (c ∷ cs) ≡ Ok r
    → ((p : Place) (ls : List CertLine) → read_entries cites len tree p ls cs ≡ Ok r → Said cites tree p ls cs r)
    → (t : Bool) → is_close l ≡ t → Said cites tree place lines (c ∷ cs) r
more-said cites len tree place q lines c cs r l is e says false f =
    let spot = here-said place (line_in cites c) (l, q) is in
    let there = line-there cites c l spot.0 in
    let text = line-said cites c.text l there.1 in
    let s = says q (lines ++ l ∷ []) (sym (entries-more cites len tree place q lines c cs l is f) ∙ e) in
    record {
      more = l ∷ s.more;
      stand = (text.1, f, q, spot.1, s.stand);
      are = (text.0, there.0, s.are);
      is = s.is ∙ ap (told cites tree) (append_assoc lines (l ∷ []) s.more);
    }
more-said cites len tree place q lines c cs r l is e says true f =
    let spot = here-said place (line_in cites c) (l, q) is in
    let there = line-there cites c l spot.0 in
    let text = line-said cites c.text l there.1 in
    let k = last-said (told cites tree lines) r cs (sym (entries-end cites len tree place q lines c cs l is f) ∙ e) in
    let none : Are [] cs = subst (Are []) (sym k.0) tt in
    let word : c.text ≡ codes "end" = text.0 ∙ ap text_in (close-is l f) in
    record {
      more = [];
      stand = tt;
      are = (word, there.0, none);
      is = sym k.1 ∙ ap (told cites tree) (sym (append-nil lines));
    }

lines-said : (cites : Bool) (len : ℕ) (tree : List (List ℕ)) (place : Place) (lines : List CertLine) (cs : List Cut)
    (r : GivenResult) → read_entries cites len tree place lines cs ≡ Ok r → Said cites tree place lines cs r
lines-said cites len tree place lines [] r e = absurd (no-fault len 5 r (sym (entries-out cites len tree place lines) ∙ e))
lines-said cites len tree place lines (c ∷ cs) r e =
    go (line_here place (line_in cites c)) refl (λ q ls k. lines-said cites len tree q ls cs r k)
  where
    go : (o : Option (CertLine × Place)) → line_here place (line_in cites c) ≡ o
        → ((q : Place) (ls : List CertLine) → read_entries cites len tree q ls cs ≡ Ok r → Said cites tree q ls cs r)
        → Said cites tree place lines (c ∷ cs) r
    go None is says = absurd (no-fault c.at 4 r (sym (entries-off cites len tree place lines c cs is) ∙ e))
    go (Some x) is says = more-said cites len tree place x.1 lines c cs r x.0 is e says (is_close x.0) refl

-- ---- the lines of the tree

pub tree-more : (cites : Bool) (len : ℕ) (tree : List (List ℕ)) (c : Cut) (cs : List Cut) → is_cut c (codes "cert") ≡ false
    → read_tree cites len tree (c ∷ cs) ≡ read_tree cites len (tree ++ c.text ∷ []) cs
unfolding read_tree
tree-more cites len tree c cs e = go (is_cut c (codes "cert")) e
  where
    go : (t : Bool) → t ≡ false → (elim t as (λ _. Result GivenResult Fault) [
      | true ↦ read_entries cites len tree no_range [] cs
      | false ↦ read_tree cites len (tree ++ c.text ∷ []) cs
    ]) ≡ read_tree cites len (tree ++ c.text ∷ []) cs
    go true k = absurd cc
    go false k = refl

pub tree-cert : (cites : Bool) (len : ℕ) (tree : List (List ℕ)) (c : Cut) (cs : List Cut) → is_cut c (codes "cert") ≡ true
    → read_tree cites len tree (c ∷ cs) ≡ read_entries cites len tree no_range [] cs
unfolding read_tree
tree-cert cites len tree c cs e = go (is_cut c (codes "cert")) e
  where
    go : (t : Bool) → t ≡ true → (elim t as (λ _. Result GivenResult Fault) [
      | true ↦ read_entries cites len tree no_range [] cs
      | false ↦ read_tree cites len (tree ++ c.text ∷ []) cs
    ]) ≡ read_entries cites len tree no_range [] cs
    go true k = refl
    go false k = absurd cc

pub tree-out : (cites : Bool) (len : ℕ) (tree : List (List ℕ)) → read_tree cites len tree [] ≡ fault len 3
unfolding read_tree
tree-out cites len tree = refl

other-bytes : (a b : List ℕ) → (a ≡ b → ⊥) → bytes_eq a b ≡ false
other-bytes a b other = go (bytes_eq a b) refl
  where
    go : (t : Bool) → bytes_eq a b ≡ t → t ≡ false
    go false e = refl
    go true e = absurd (other (same-bytes a b e))

pub cut-is : (c : Cut) (text : List ℕ) → c.ended ≡ true → bytes_eq c.text text ≡ true → is_cut c text ≡ true
cut-is c text e f = rw (e, f) refl

cut-other : (c : Cut) (text : List ℕ) → c.ended ≡ true → bytes_eq c.text text ≡ false → is_cut c text ≡ false
cut-other c text e f = rw (e, f) refl

pub same-text : (a b : List ℕ) → a ≡ b → bytes_eq a b ≡ true
same-text a b e = (bytes_eq-Decides a b).1 e

pub tree-read : (cites : Bool) (len : ℕ) (tree more : List (List ℕ)) (ls : List CertLine) (cs : List Cut) → All IsTreeText more
    → Stand cites no_range ls → Are (more ++ (codes "cert" ∷ (map text_in ls ++ codes "end" ∷ []))) cs
    → read_tree cites len tree cs ≡ Ok (told cites (tree ++ more) ls)
tree-read cites len tree [] ls [] a s are = absurd are
tree-read cites len tree [] ls (c ∷ cs) a s are =
    tree-cert cites len tree c cs (cut-is c (codes "cert") are.1 (same-text c.text (codes "cert") are.0))
    ∙ lines-read cites len tree no_range [] ls cs s are.2
    ∙ ap (λ (ts : List (List ℕ)). okay (told cites ts ls)) (sym (append-nil tree))
tree-read cites len tree (t ∷ ts) ls [] a s are = absurd are
tree-read cites len tree (t ∷ ts) ls (c ∷ cs) a s are =
    let head = All-head IsTreeText t ts a in
    let other : bytes_eq c.text (codes "cert") ≡ false =
    other-bytes c.text (codes "cert") (λ e. head.0 (sym are.0 ∙ e)) in
    tree-more cites len tree c cs (cut-other c (codes "cert") are.1 other)
    ∙ ap (λ (u : List ℕ). read_tree cites len (tree ++ u ∷ []) cs) are.0
    ∙ tree-read cites len (tree ++ t ∷ []) ts ls cs (All-tail IsTreeText t ts a) s are.2
    ∙ ap (λ (us : List (List ℕ)). okay (told cites us ls)) (append_assoc tree (t ∷ []) ts)

-- what was read from the lines of the tree on
record TreeSaid (cites : Bool) (tree : List (List ℕ)) (cs : List Cut) (r : GivenResult) : Type 0 where
  more : List (List ℕ)
  lines : List CertLine
  texts : All IsTreeText more
  stand : Stand cites no_range lines
  are : Are (more ++ (codes "cert" ∷ (map text_in lines ++ codes "end" ∷ []))) cs
  is : r ≡ told cites (tree ++ more) lines

pub printed-bytes : (t : List ℕ) → Printed t → All (λ b. (32 ≤ b) × (b ≤ 126)) t
printed-bytes [] p = All-nil (λ b. (32 ≤ b) × (b ≤ 126))
printed-bytes (b ∷ t) p =
    let k = or_parts (not_printed b) (list_any not_printed t) p in
    let l = or_parts (nat_lt b 32) (nat_lt 126 b) k.0 in
    let low : nat_lt b 32 ≡ false = l.0 in
    let high : nat_lt 126 b ≡ false = l.1 in
    let from : 32 ≤ b = grind (arith, nat_tests) in
    let to : b ≤ 126 = grind (arith, nat_tests) in
    All-cons (λ b. (32 ≤ b) × (b ≤ 126)) b t (from, to) (printed-bytes t k.1)

bytes-printed : (t : List ℕ) → All (λ b. (32 ≤ b) × (b ≤ 126)) t → Printed t
bytes-printed [] a = refl
bytes-printed (b ∷ t) a =
    let k = All-head (λ b. (32 ≤ b) × (b ≤ 126)) b t a in
    let from : 32 ≤ b = k.0 in
    let to : b ≤ 126 = k.1 in
    let low : nat_lt b 32 ≡ false = grind (arith, nat_tests) in
    let high : nat_lt 126 b ≡ false = grind (arith, nat_tests) in
    or_from (not_printed b) (list_any not_printed t) (or_from (nat_lt b 32) (nat_lt 126 b) low high)
    (bytes-printed t (All-tail (λ b. (32 ≤ b) × (b ≤ 126)) b t a))

pub cut-parts : (c : Cut) (text : List ℕ) → is_cut c text ≡ true → (c.ended ≡ true) × (c.text ≡ text)
cut-parts c text e = go c.ended refl e
  where
    go : (t : Bool) → c.ended ≡ t → (t && bytes_eq c.text text) ≡ true → (c.ended ≡ true) × (c.text ≡ text)
    go true is e = (is, same-bytes c.text text e)
    go false is e = absurd cc

cut-differs : (c : Cut) (text : List ℕ) → c.ended ≡ true → is_cut c text ≡ false → c.text ≡ text → ⊥
cut-differs c text ended e same = let k = cut-is c text ended (same-text c.text text same) in absurd (let f = sym e ∙ k in cc)

tree-step : (cites : Bool) (len : ℕ) (tree : List (List ℕ)) (c : Cut) (cs : List Cut) (r : GivenResult)
    → Printed c.text → (read_tree cites len (tree ++ c.text ∷ []) cs ≡ Ok r → c.ended ≡ true)
    → (read_tree cites len (tree ++ c.text ∷ []) cs ≡ Ok r → TreeSaid cites (tree ++ c.text ∷ []) cs r)
    → read_tree cites len tree (c ∷ cs) ≡ Ok r → (t : Bool) → is_cut c (codes "cert") ≡ t → TreeSaid cites tree (c ∷ cs) r
tree-step cites len tree c cs r p ended says e true f =
    let k = cut-parts c (codes "cert") f in
    let s = lines-said cites len tree no_range [] cs r (sym (tree-cert cites len tree c cs f) ∙ e) in
    record {
      more = [];
      lines = s.more;
      texts = All-nil IsTreeText;
      stand = s.stand;
      are = (k.1, k.0, s.are);
      is = s.is ∙ ap (λ (ts : List (List ℕ)). told cites ts s.more) (sym (append-nil tree));
    }
tree-step cites len tree c cs r p ended says e false f =
    let later = sym (tree-more cites len tree c cs f) ∙ e in
    let s = says later in
    let there = ended later in
    record {
      more = c.text ∷ s.more;
      lines = s.lines;
      texts = All-cons IsTreeText c.text s.more (cut-differs c (codes "cert") there f, printed-bytes c.text p) s.texts;
      stand = s.stand;
      are = (refl, there, s.are);
      is = s.is ∙ ap (λ (ts : List (List ℕ)). told cites ts s.lines) (append_assoc tree (c.text ∷ []) s.more);
    }

tree-ended : (cites : Bool) (len : ℕ) (tree : List (List ℕ)) (c : Cut) (cs : List Cut) (r : GivenResult) → Whole (c ∷ cs)
    → read_tree cites len tree cs ≡ Ok r → c.ended ≡ true
tree-ended cites len tree c [] r w e = absurd (no-fault len 3 r (sym (tree-out cites len tree) ∙ e))
tree-ended cites len tree c (d ∷ cs) r w e = w.0

tree-said : (cites : Bool) (len : ℕ) (tree : List (List ℕ)) (cs : List Cut) (r : GivenResult) → Whole cs → CutsPrinted cs
    → read_tree cites len tree cs ≡ Ok r → TreeSaid cites tree cs r
tree-said cites len tree [] r w p e = absurd (no-fault len 3 r (sym (tree-out cites len tree) ∙ e))
tree-said cites len tree (c ∷ cs) r w p e =
    tree-step cites len tree c cs r p.0 (λ k. tree-ended cites len (tree ++ c.text ∷ []) c cs r w k)
    (λ k. tree-said cites len (tree ++ c.text ∷ []) cs r (whole-rest c cs w) p.1 k) e (is_cut c (codes "cert")) refl

-- ---- the first line

pub first-none : (len : ℕ) → read_first len [] ≡ fault 0 2
unfolding read_first
first-none len = refl

pub first-one : (len : ℕ) (c : Cut) (cs : List Cut) → is_cut c (codes "mcol 1") ≡ true
    → read_first len (c ∷ cs) ≡ read_tree false len [] cs
unfolding read_first
first-one len c cs e = go (is_cut c (codes "mcol 1")) (is_cut c (codes "mcol 2")) e
  where
    go : (t u : Bool) → t ≡ true → (elim t as (λ _. Result GivenResult Fault) [
      | true ↦ read_tree false len [] cs
      | false ↦ elim u as (λ _. Result GivenResult Fault) [ true ↦ read_tree true len [] cs | false ↦ fault 0 2 ]
    ]) ≡ read_tree false len [] cs
    go true u k = refl
    go false u k = absurd cc

pub first-two : (len : ℕ) (c : Cut) (cs : List Cut) → is_cut c (codes "mcol 1") ≡ false → is_cut c (codes "mcol 2") ≡ true
    → read_first len (c ∷ cs) ≡ read_tree true len [] cs
unfolding read_first
first-two len c cs e f = go (is_cut c (codes "mcol 1")) (is_cut c (codes "mcol 2")) e f
  where
    go : (t u : Bool) → t ≡ false → u ≡ true → (elim t as (λ _. Result GivenResult Fault) [
      | true ↦ read_tree false len [] cs
      | false ↦ elim u as (λ _. Result GivenResult Fault) [ true ↦ read_tree true len [] cs | false ↦ fault 0 2 ]
    ]) ≡ read_tree true len [] cs
    go true u k l = absurd cc
    go false true k l = refl
    go false false k l = absurd cc

pub first-off : (len : ℕ) (c : Cut) (cs : List Cut) → is_cut c (codes "mcol 1") ≡ false → is_cut c (codes "mcol 2") ≡ false
    → read_first len (c ∷ cs) ≡ fault 0 2
unfolding read_first
first-off len c cs e f = go (is_cut c (codes "mcol 1")) (is_cut c (codes "mcol 2")) e f
  where
    go : (t u : Bool) → t ≡ false → u ≡ false → (elim t as (λ _. Result GivenResult Fault) [
      | true ↦ read_tree false len [] cs
      | false ↦ elim u as (λ _. Result GivenResult Fault) [ true ↦ read_tree true len [] cs | false ↦ fault 0 2 ]
    ]) ≡ fault 0 2
    go true u k l = absurd cc
    go false true k l = absurd cc
    go false false k l = refl

first-read : (cites : Bool) (len : ℕ) (c : Cut) (cs : List Cut) → c.text ≡ first_text cites → c.ended ≡ true
    → read_first len (c ∷ cs) ≡ read_tree cites len [] cs
first-read false len c cs e f = first-one len c cs (cut-is c (codes "mcol 1") f (same-text c.text (codes "mcol 1") e))
first-read true len c cs e f =
    first-two len c cs
    (cut-other c (codes "mcol 1") f (ap (λ (bs : List ℕ). bytes_eq bs (codes "mcol 1")) e))
    (cut-is c (codes "mcol 2") f (same-text c.text (codes "mcol 2") e))

-- what the first line says
record FirstSaid (len : ℕ) (c : Cut) (cs : List Cut) (r : GivenResult) : Type 0 where
  cites : Bool
  text : c.text ≡ first_text cites
  ended : c.ended ≡ true
  later : read_tree cites len [] cs ≡ Ok r

first-said : (len : ℕ) (c : Cut) (cs : List Cut) (r : GivenResult) → read_first len (c ∷ cs) ≡ Ok r → FirstSaid len c cs r
first-said len c cs r e = go (is_cut c (codes "mcol 1")) (is_cut c (codes "mcol 2")) refl refl
  where
    go : (t u : Bool) → is_cut c (codes "mcol 1") ≡ t → is_cut c (codes "mcol 2") ≡ u → FirstSaid len c cs r
    go true u f g =
        let k = cut-parts c (codes "mcol 1") f in
        record { cites = false; text = k.1; ended = k.0; later = sym (first-one len c cs f) ∙ e }
    go false true f g =
        let k = cut-parts c (codes "mcol 2") g in
        record { cites = true; text = k.1; ended = k.0; later = sym (first-two len c cs f g) ∙ e }
    go false false f g = absurd (no-fault 0 2 r (sym (first-off len c cs f g) ∙ e))

-- ---- the whole text

pub right-read : (text : List ℕ) → wrong_byte 0 text ≡ None → result_of text ≡ read_first (length text) (cuts 0 text)
unfolding result_of
right-read text e = go (wrong_byte 0 text) e
  where
    go : (o : Option ℕ) → o ≡ None → (elim o as (λ _. Result GivenResult Fault) [
      | Some at ↦ fault at 1
      | None ↦ read_first (length text) (cuts 0 text)
    ]) ≡ read_first (length text) (cuts 0 text)
    go None k = refl
    go (Some at) k = absurd cc

abbrev wrong-at : ℕ → Result GivenResult Fault
wrong-at n = fault n 1

pub wrong-read : (text : List ℕ) (n : ℕ) → wrong_byte 0 text ≡ Some n → result_of text ≡ fault n 1
unfolding result_of
wrong-read text n e = go (wrong_byte 0 text) e
  where
    go : (o : Option ℕ) → o ≡ Some n → (elim o as (λ _. Result GivenResult Fault) [
      | Some at ↦ fault at 1
      | None ↦ read_first (length text) (cuts 0 text)
    ]) ≡ fault n 1
    go None k = absurd cc
    go (Some at) k = ap wrong-at (some-same at n k)

-- the lines of a result after the first
abbrev after-first : GivenResult → List (List ℕ)
after-first r = r.tree ++ (codes "cert" ∷ (map text_in (lines_in r.entries) ++ codes "end" ∷ []))

texts-are : (r : GivenResult) → result_texts r
    ≡ first_text r.cites ∷ after-first r
texts-are r =
    ap (λ ts. first_text r.cites ∷ ts) (append_assoc r.tree (codes "cert" ∷ flat_map entry_texts r.entries) (codes "end" ∷ []))
    ∙ ap (λ ts. first_text r.cites ∷ (r.tree ++ (codes "cert" ∷ (ts ++ codes "end" ∷ [])))) (sym (entries-texts r.entries))

printed-both : (ts us : List (List ℕ)) → AllPrinted ts → AllPrinted us → AllPrinted (ts ++ us)
printed-both [] us p q = q
printed-both (t ∷ ts) us p q = (p.0, printed-both ts us p.1 q)

tree-printed : (ts : List (List ℕ)) → All IsTreeText ts → AllPrinted ts
tree-printed [] a = tt
tree-printed (t ∷ ts) a =
    (bytes-printed t (let k = All-head IsTreeText t ts a in k.1), tree-printed ts (All-tail IsTreeText t ts a))

cert-printed : (cites : Bool) (p : Place) (ls : List CertLine) → Stand cites p ls → AllPrinted (map text_in ls)
cert-printed cites p [] s = tt
cert-printed cites p (l ∷ ls) s = (text-printed cites l s.0, cert-printed cites s.2 ls s.4)

first-printed : (cites : Bool) → Printed (first_text cites)
first-printed false = refl
first-printed true = refl

all-printed : (r : GivenResult) → All IsTreeText r.tree → (m : ℕ) (n : ℕ) → EntriesStand r.cites n r.entries m
    → AllPrinted (first_text r.cites ∷ after-first r)
all-printed r a m n e =
    let s = entries-stand r.cites n r.entries m e no_range in
    let cert = cert-printed r.cites no_range (lines_in r.entries) s in (
      first-printed r.cites,
      printed-both r.tree (codes "cert" ∷ (map text_in (lines_in r.entries) ++ codes "end" ∷ []))
          (tree-printed r.tree a) (refl, printed-both (map text_in (lines_in r.entries)) (codes "end" ∷ []) cert (refl, tt)),
    )

pub lines-in-first : (cites : Bool) (len : ℕ) (ts : List (List ℕ)) (cs : List Cut) (r : GivenResult) → Are
    (first_text cites ∷ ts) cs
    → ((ds : List Cut) → Are ts ds → read_tree cites len [] ds ≡ Ok r) → read_first len cs ≡ Ok r
lines-in-first cites len ts [] r a later = absurd a
lines-in-first cites len ts (c ∷ cs) r a later = first-read cites len c cs a.0 a.1 ∙ later cs a.2

told-is : (r : GivenResult) → r.cert_at ≡ 2 + length r.tree → EntriesStand r.cites (r.cert_at + 1) r.entries r.end_at
    → told r.cites r.tree (lines_in r.entries) ≡ r
told-is r cert e =
    let g = entries-gathered r.cites (r.cert_at + 1) r.entries r.end_at e in
    let l = entries-length r.cites (r.cert_at + 1) r.entries r.end_at e in
    let place : 3 + length r.tree ≡ r.cert_at + 1 = omega arith in
    let last : 3 + length r.tree + length (lines_in r.entries) ≡ r.end_at = omega arith in
    let entries : (gathered (3 + length r.tree) (lines_in r.entries)).entries ≡ r.entries =
    ap (λ (n : ℕ). (gathered n (lines_in r.entries)).entries) place ∙ ap (λ (x : Rest). x.entries) g in
    ap (λ (n : ℕ). given r.cites r.tree n (gathered (3 + length r.tree) (lines_in r.entries)).entries
    (3 + length r.tree + length (lines_in r.entries))) (sym cert)
    ∙ ap (λ (es : List GivenEntry). given r.cites r.tree r.cert_at es (3 + length r.tree + length (lines_in r.entries))) entries
    ∙ ap (λ (n : ℕ). given r.cites r.tree r.cert_at r.entries n) last

pub reads : (text : List ℕ) (r : GivenResult) → IsResult text r → result_of text ≡ Ok r
reads text r is =
    let ts = first_text r.cites ∷ after-first r in
    let p = all-printed r is.tree r.end_at (r.cert_at + 1) is.entries in
    let text-is : text ≡ ended_lines ts = is.spelled ∙ ap ended_lines (texts-are r) in
    let right : wrong_byte 0 text ≡ None = ap (wrong_byte 0) text-is ∙ lines-right 0 ts p in
    let are : Are ts (cuts 0 text) = subst (λ (bs : List ℕ). Are ts (cuts 0 bs)) (sym text-is) (lines-cut 0 ts p) in
    let s = entries-stand r.cites (r.cert_at + 1) r.entries r.end_at is.entries no_range in
    right-read text right
    ∙ lines-in-first r.cites (length text) (after-first r) (cuts 0 text) r are
    (λ ds a. tree-read r.cites (length text) [] r.tree (lines_in r.entries) ds is.tree s a
    ∙ ap okay (told-is r is.cert_at is.entries))

result-is : (cites : Bool) (tree : List (List ℕ)) (lines : List CertLine) (text : List ℕ) → All IsTreeText tree
    → Stand cites no_range lines
    → text ≡ ended_lines (first_text cites ∷ (tree ++ (codes "cert" ∷ (map text_in lines ++ codes "end" ∷ []))))
    → IsResult text (told cites tree lines)
result-is cites tree lines text a s e =
    let n = 3 + length tree in
    let k = lines-gather cites no_range n lines (n + length lines) refl s in
    let g = gathered n lines in
    let none : g.columns ≡ [] = k.no_columns in
    let bare : g.ranges ≡ [] = k.no_ranges in
    let count : length g.columns ≡ 0 = ap (λ (cs : List CitedLine). length cs) none in
    let starts = k.starts in
    let ranges : RangesStand cites k.from [] k.to =
    subst (λ (xs : List GivenRange). RangesStand cites k.from xs k.to) bare k.ranges in
    let meet : k.from ≡ k.to = ranges in
    let from : k.to ≡ 2 + length tree + 1 = omega arith in
    let back : lines_in g.entries ≡ lines =
    ap (λ (cs : List CitedLine). columns_onto cs (ranges_onto [] (lines_in g.entries))) (sym none)
    ∙ ap (λ (xs : List GivenRange). columns_onto g.columns (ranges_onto xs (lines_in g.entries))) (sym bare) ∙ k.lines in
    let text-is = ap (λ ls. ended_lines (first_text cites ∷ (tree ++ (codes "cert" ∷ (map text_in ls ++ codes "end" ∷ [])))))
    (sym back) in
    record {
      spelled = e ∙ text-is ∙ ap ended_lines (sym (texts-are (told cites tree lines)));
      tree = a;
      cert_at = refl;
      entries = subst (λ (j : ℕ). EntriesStand cites j g.entries (n + length lines)) from k.entries;
    }

pub said : (text : List ℕ) (r : GivenResult) → result_of text ≡ Ok r → IsResult text r
said text r e = go (wrong_byte 0 text) refl
  where
    first : (cs : List Cut) → cs ≡ cuts 0 text → Whole cs → CutsPrinted cs → read_first (length text) cs ≡ Ok r → IsResult text r
    first [] is w p e = absurd (no-fault 0 2 r (sym (first-none (length text)) ∙ e))
    first (c ∷ cs) is w p e =
        let k = first-said (length text) c cs r e in
        let s = tree-said k.cites (length text) [] cs r (whole-rest c cs w) p.1 k.later in
        let ts = s.more ++ (codes "cert" ∷ (map text_in s.lines ++ codes "end" ∷ [])) in
        let are : Are (first_text k.cites ∷ ts) (c ∷ cs) = (k.text, k.ended, s.are) in
        let spelled = text-said 0 text (first_text k.cites ∷ ts) (subst (Are (first_text k.cites ∷ ts)) is are) in
        subst (IsResult text) (sym s.is) (result-is k.cites s.more s.lines text s.texts s.stand spelled)

    go : (o : Option ℕ) → wrong_byte 0 text ≡ o → IsResult text r
    go None is = first (cuts 0 text) refl (cuts-whole 0 text) (cuts-printed 0 text is) (sym (right-read text is) ∙ e)
    go (Some at) is = absurd (no-fault at 1 r (sym (wrong-read text at is) ∙ e))

pub alone : (text : List ℕ) (r s : GivenResult) → IsResult text r → IsResult text s → r ≡ s
alone text r s a b = ok-same r s (sym (reads text r a) ∙ reads text s b)
