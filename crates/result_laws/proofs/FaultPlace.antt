-- Where the first fault of a text stands.
use Rattle.std.proofs.Common.{◌≡◌, ℕ, suc, ◌+◌, ◌==◌, ◌<◌, Bool, true, false, ◌&&◌, ◌||◌, not, List, [], ◌∷◌}
use Rattle.std.proofs.Common.{◌++◌, length, take, drop, get_or, refl, sym, ◌∙◌, ap, subst, arith}
use Rattle.std.proofs.Common.{cond, Option, Some, None, Result, Ok}
use Rattle.std.proofs.Common.{Err, inl, inr, length-append}
use Rattle.std.specs.Prelude.{◌≢◌, nat_lt, All}
use Rattle.std.specs.List.{list_any}
use Rattle.std.proofs.lemmas.Bool.{or_from, or_parts}
use Rattle.std.proofs.lemmas.Bool.Decides.{nat_tests}
use Rattle.std.proofs.lemmas.List.{append_assoc, append-nil, take_all, drop_all}
use Rattle.std.proofs.lemmas.List.Elements.{All-nil, All-cons, All-head, All-tail}
use Rattle.mc_base.specs.declared.read_error.Fault.{Fault}
use Rattle.flow_text.specs.Text.{Cut, cuts, grown}
use Rattle.result_laws.specs.FirstFault.{BeginsResult, IsTextByte, IsFirstFault}
use Rattle.result_laws.specs.Given.{GivenResult, IsResult, ended_lines}
use Rattle.result_laws.specs.Reading.{fault, read_first, wrong_byte, result_of}
use Rattle.result_laws.proofs.FirstFault.{After, StandsAt, FaultOf, first-fault}
use Rattle.result_laws.proofs.Spelling.{Printed, Without, printed-without}
use Rattle.result_laws.proofs.TextRead.{AllPrinted, CutsPrinted, okay, no-fault, cuts-none, cuts-feed, cuts-byte}
use Rattle.result_laws.proofs.TextRead.{lines-cut, lines-right, cuts-whole, cuts-printed, right-read, wrong-read, reads, said}

-- ---- the lines of a text, and where they begin

abbrev empty_cut : ℕ → Cut
empty_cut at = record { at = at; text = []; ended = true }

abbrev longer : ℕ → ℕ → Cut → Cut
longer at b d = record { at = at; text = b ∷ d.text; ended = d.ended }

head-same : (c d : Cut) (cs ds : List Cut) → c ∷ cs ≡ d ∷ ds → c ≡ d
head-same c d cs ds e = cc

tail-same : (c d : Cut) (cs ds : List Cut) → c ∷ cs ≡ d ∷ ds → cs ≡ ds
tail-same c d cs ds e = cc

first-at : (at : ℕ) (bytes : List ℕ) (c : Cut) (cs : List Cut) → cuts at bytes ≡ c ∷ cs → c.at ≡ at
first-at at [] c cs e = absurd (let k = sym (cuts-none at) ∙ e in cc)
first-at at (b ∷ bytes) c cs e = go (b == 10) refl
  where
    more : (ds : List Cut) → grown at b ds ≡ c ∷ cs → c.at ≡ at
    more [] f = sym (ap (λ (x : Cut). x.at) (head-same (record { at = at; text = b ∷ []; ended = false }) c [] cs f))
    more (d ∷ ds) f = sym (ap (λ (x : Cut). x.at) (head-same (longer at b d) c ds cs f))

    go : (t : Bool) → (b == 10) ≡ t → c.at ≡ at
    go true is =
        let f = sym (cuts-feed at b bytes is) ∙ e in
        sym (ap (λ (x : Cut). x.at) (head-same (empty_cut at) c (cuts (at + 1) bytes) cs f))
    go false is = more (cuts (at + 1) bytes) (sym (cuts-byte at b bytes is) ∙ e)

-- a whole line, and what follows it
record CutRest (at : ℕ) (bytes : List ℕ) (c : Cut) (cs : List Cut) : Type 0 where
  tail : List ℕ
  bytes_are : bytes ≡ c.text ++ 10 ∷ tail
  cuts_are : cs ≡ cuts (at + length c.text + 1) tail

cut-rest : (at : ℕ) (bytes : List ℕ) (c : Cut) (cs : List Cut) → cuts at bytes ≡ c ∷ cs → c.ended ≡ true → CutRest at bytes c cs
cut-rest at [] c cs e there = absurd (let k = sym (cuts-none at) ∙ e in cc)
cut-rest at (b ∷ bytes) c cs e there = go (b == 10) refl (λ d ds f g. cut-rest (at + 1) bytes d ds f g)
  where
    feed : b ≡ 10 → (empty_cut at ∷ cuts (at + 1) bytes) ≡ c ∷ cs → CutRest at (b ∷ bytes) c cs
    feed is f =
        let h : empty_cut at ≡ c = head-same (empty_cut at) c (cuts (at + 1) bytes) cs f in
        let t : cuts (at + 1) bytes ≡ cs = tail-same (empty_cut at) c (cuts (at + 1) bytes) cs f in
        let text : [] ≡ c.text = ap (λ (x : Cut). x.text) h in
        let none = ap (λ (ts : List ℕ). length ts) text in
        let long : at + 1 ≡ at + length c.text + 1 = omega arith in
        record {
          tail = bytes;
          bytes_are = ap (λ (d : ℕ). d ∷ bytes) is ∙ ap (λ (ts : List ℕ). ts ++ 10 ∷ bytes) text;
          cuts_are = sym t ∙ ap (λ (n : ℕ). cuts n bytes) long;
        }

    more : (ds : List Cut) → cuts (at + 1) bytes ≡ ds → grown at b ds ≡ c ∷ cs
        → ((d : Cut) (es : List Cut) → cuts (at + 1) bytes ≡ d ∷ es → d.ended ≡ true → CutRest (at + 1) bytes d es)
        → CutRest at (b ∷ bytes) c cs
    more [] is f says =
        absurd (let k = ap (λ (x : Cut). x.ended) (head-same (record { at = at; text = b ∷ []; ended = false }) c [] cs f) ∙ there
        in cc)
    more (d ∷ ds) is f says =
        let h : longer at b d ≡ c = head-same (longer at b d) c ds cs f in
        let t : ds ≡ cs = tail-same (longer at b d) c ds cs f in
        let k = says d ds is (ap (λ (x : Cut). x.ended) h ∙ there) in
        let text : b ∷ d.text ≡ c.text = ap (λ (x : Cut). x.text) h in
        let long : suc (length d.text) ≡ length c.text = ap (λ (ts : List ℕ). length ts) text in
        let place : at + 1 + length d.text + 1 ≡ at + length c.text + 1 = omega arith in
        record {
          tail = k.tail;
          bytes_are = ap (λ (bs : List ℕ). b ∷ bs) k.bytes_are ∙ ap (λ (ts : List ℕ). ts ++ 10 ∷ k.tail) text;
          cuts_are = sym t ∙ k.cuts_are ∙ ap (λ (n : ℕ). cuts n k.tail) place;
        }

    go : (t : Bool) → (b == 10) ≡ t
        → ((d : Cut) (es : List Cut) → cuts (at + 1) bytes ≡ d ∷ es → d.ended ≡ true → CutRest (at + 1) bytes d es)
        → CutRest at (b ∷ bytes) c cs
    go true is says =
        let same : b ≡ 10 = grind (arith, nat_tests) in feed same (sym (cuts-feed at b bytes is) ∙ e)
    go false is says = more (cuts (at + 1) bytes) refl (sym (cuts-byte at b bytes is) ∙ e) says

grown-some : (at b : ℕ) (ds : List Cut) → grown at b ds ≡ [] → ⊥
grown-some at b [] f = cc
grown-some at b (d ∷ ds) f = cc

-- bytes have a line
some-cut : (at b : ℕ) (bytes : List ℕ) → cuts at (b ∷ bytes) ≡ [] → ⊥
some-cut at b bytes e = go (b == 10) refl
  where
    go : (t : Bool) → (b == 10) ≡ t → ⊥
    go true is = let k : empty_cut at ∷ cuts (at + 1) bytes ≡ [] = sym (cuts-feed at b bytes is) ∙ e in absurd cc
    go false is = grown-some at b (cuts (at + 1) bytes) (sym (cuts-byte at b bytes is) ∙ e)

no-cut : (at : ℕ) (bytes : List ℕ) → cuts at bytes ≡ [] → bytes ≡ []
no-cut at [] e = refl
no-cut at (b ∷ bytes) e = absurd (some-cut at b bytes e)

-- a last line without its line feed is what is left
cut-loose : (at : ℕ) (bytes : List ℕ) (c : Cut) → cuts at bytes ≡ c ∷ [] → c.ended ≡ false → bytes ≡ c.text
cut-loose at [] c e bare = absurd (let k = sym (cuts-none at) ∙ e in cc)
cut-loose at (b ∷ bytes) c e bare = go (b == 10) refl (λ d f g. cut-loose (at + 1) bytes d f g)
  where
    more : (ds : List Cut) → cuts (at + 1) bytes ≡ ds → grown at b ds ≡ c ∷ []
        → ((d : Cut) → cuts (at + 1) bytes ≡ d ∷ [] → d.ended ≡ false → bytes ≡ d.text) → b ∷ bytes ≡ c.text
    more [] is f says =
        ap (λ (bs : List ℕ). b ∷ bs) (no-cut (at + 1) bytes is)
        ∙ ap (λ (x : Cut). x.text) (head-same (record { at = at; text = b ∷ []; ended = false }) c [] [] f)
    more (d ∷ ds) is f says =
        let h : longer at b d ≡ c = head-same (longer at b d) c ds [] f in
        let t : ds ≡ [] = tail-same (longer at b d) c ds [] f in
        let k = says d (is ∙ ap (λ (es : List Cut). d ∷ es) t) (ap (λ (x : Cut). x.ended) h ∙ bare) in
        ap (λ (bs : List ℕ). b ∷ bs) k ∙ ap (λ (x : Cut). x.text) h

    go : (t : Bool) → (b == 10) ≡ t → ((d : Cut) → cuts (at + 1) bytes ≡ d ∷ [] → d.ended ≡ false → bytes ≡ d.text)
        → b ∷ bytes ≡ c.text
    go true is says =
        absurd (let k = ap (λ (x : Cut). x.ended)
        (head-same (empty_cut at) c (cuts (at + 1) bytes) [] (sym (cuts-feed at b bytes is) ∙ e)) ∙ bare
        in cc)
    go false is says = more (cuts (at + 1) bytes) refl (sym (cuts-byte at b bytes is) ∙ e) says

-- ---- after some lines

-- what follows these lines of bytes
record LeftOver (at : ℕ) (bytes : List ℕ) (ts : List (List ℕ)) (rest : List Cut) : Type 0 where
  tail : List ℕ
  bytes_are : bytes ≡ ended_lines ts ++ tail
  rest_are : rest ≡ cuts (at + length (ended_lines ts)) tail

-- a line in front
line-front : (t us tail : List ℕ) → t ++ 10 ∷ (us ++ tail) ≡ ((t ++ 10 ∷ []) ++ us) ++ tail
line-front t us tail =
    sym (append_assoc (t ++ 10 ∷ []) us tail ∙ append_assoc t (10 ∷ []) (us ++ tail))

left-over : (at : ℕ) (bytes : List ℕ) (ts : List (List ℕ)) (rest : List Cut) → After ts (cuts at bytes) rest
    → LeftOver at bytes ts rest
left-over at bytes [] rest a =
    let e : at ≡ at + 0 = omega arith in
    record { tail = bytes; bytes_are = refl; rest_are = sym a ∙ ap (λ (n : ℕ). cuts n bytes) e }
left-over at bytes (t ∷ ts) rest a = go (cuts at bytes) refl a (λ n bs b. left-over n bs ts rest b)
  where
    go : (cs : List Cut) → cuts at bytes ≡ cs → After (t ∷ ts) cs rest
        → ((n : ℕ) (bs : List ℕ) → After ts (cuts n bs) rest → LeftOver n bs ts rest) → LeftOver at bytes (t ∷ ts) rest
    go [] is a says = absurd a
    go (c ∷ cs) is a says =
        let k = cut-rest at bytes c cs is a.1 in
        let n = at + length c.text + 1 in
        let l = says n k.tail (subst (λ (ds : List Cut). After ts ds rest) k.cuts_are a.2) in
        let text : c.text ≡ t = a.0 in
        let long = ap (λ (xs : List ℕ). length xs) text in
        let whole = length-append (t ++ 10 ∷ []) (ended_lines ts) in
        let first = length-append t (10 ∷ []) in
        let place : n + length (ended_lines ts) ≡ at + length (ended_lines (t ∷ ts)) = omega arith in
        record {
          tail = l.tail;
          bytes_are =
              k.bytes_are ∙ ap (λ (xs : List ℕ). xs ++ 10 ∷ k.tail) text ∙ ap (λ (bs : List ℕ). t ++ 10 ∷ bs) l.bytes_are
              ∙ line-front t (ended_lines ts) l.tail;
          rest_are = l.rest_are ∙ ap (λ (m : ℕ). cuts m l.tail) place;
        }

abbrev AllOneLine : List (List ℕ) → Type 0
AllOneLine [] = Unit {0}
AllOneLine (t ∷ ts) = Without 10 t × AllOneLine ts

-- the first line of bytes that begin with a line
line-first : (at : ℕ) (t rest : List ℕ) → Without 10 t
    → cuts at (t ++ 10 ∷ rest) ≡ record { at = at; text = t; ended = true } ∷ cuts (at + length t + 1) rest
line-first at [] rest w =
    let e : at + 1 ≡ at + 0 + 1 = omega arith in
    cuts-feed at 10 rest refl ∙ ap (λ (n : ℕ). empty_cut at ∷ cuts n rest) e
line-first at (b ∷ t) rest w =
    let k = or_parts (b == 10) (list_any (λ c. c == 10) t) w in
    let e : at + 1 + length t + 1 ≡ at + suc (length t) + 1 = omega arith in
    cuts-byte at b (t ++ 10 ∷ rest) k.0 ∙ ap (grown at b) (line-first (at + 1) t rest k.1)
    ∙ ap (λ (n : ℕ). record { at = at; text = b ∷ t; ended = true } ∷ cuts n rest) e

after-cuts : (ts : List (List ℕ)) (cs ds rest : List Cut) → cs ≡ ds → After ts ds rest → After ts cs rest
after-cuts ts cs ds rest e a = subst (λ (xs : List Cut). After ts xs rest) (sym e) a

lines-after : (at : ℕ) (ts : List (List ℕ)) (rest : List ℕ) → AllOneLine ts
    → After ts (cuts at (ended_lines ts ++ rest)) (cuts (at + length (ended_lines ts)) rest)
lines-after at [] rest one = let e : at ≡ at + 0 = omega arith in ap (λ (n : ℕ). cuts n rest) e
lines-after at (t ∷ ts) rest one =
    let whole = length-append (t ++ 10 ∷ []) (ended_lines ts) in
    let first = length-append t (10 ∷ []) in
    let place : at + length t + 1 + length (ended_lines ts) ≡ at + length (ended_lines (t ∷ ts)) = omega arith in
    let cut = ap (cuts at) (sym (line-front t (ended_lines ts) rest)) ∙ line-first at t (ended_lines ts ++ rest) one.0 in
    after-cuts (t ∷ ts) (cuts at (ended_lines (t ∷ ts) ++ rest))
    (record { at = at; text = t; ended = true } ∷ cuts (at + length t + 1) (ended_lines ts ++ rest))
    (cuts (at + length (ended_lines (t ∷ ts))) rest) cut (
      refl,
      refl,
      subst (λ (n : ℕ). After ts (cuts (at + length t + 1) (ended_lines ts ++ rest)) (cuts n rest)) place
          (lines-after (at + length t + 1) ts rest one.1),
    )

printed-after : (ts : List (List ℕ)) (cs rest : List Cut) → CutsPrinted cs → After ts cs rest → AllPrinted ts
printed-after [] cs rest p a = tt
printed-after (t ∷ ts) [] rest p a = absurd a
printed-after (t ∷ ts) (c ∷ cs) rest p a = (subst Printed a.0 p.0, printed-after ts cs rest p.1 a.2)

printed-both : (ts us : List (List ℕ)) → AllPrinted ts → AllPrinted us → AllPrinted (ts ++ us)
printed-both [] us p q = q
printed-both (t ∷ ts) us p q = (p.0, printed-both ts us p.1 q)

one-lines : (ts : List (List ℕ)) → AllPrinted ts → AllOneLine ts
one-lines [] p = tt
one-lines (t ∷ ts) p = (printed-without t p.0, one-lines ts p.1)

one-more-line : (ts : List (List ℕ)) (t : List ℕ) → AllOneLine ts → Without 10 t → AllOneLine (ts ++ t ∷ [])
one-more-line [] t one w = (w, tt)
one-more-line (u ∷ ts) t one w = (one.0, one-more-line ts t one.1 w)

lines-both : (ts us : List (List ℕ)) → ended_lines (ts ++ us) ≡ ended_lines ts ++ ended_lines us
lines-both [] us = refl
lines-both (t ∷ ts) us =
    ap (λ (bs : List ℕ). (t ++ 10 ∷ []) ++ bs) (lines-both ts us)
    ∙ sym (append_assoc (t ++ 10 ∷ []) (ended_lines ts) (ended_lines us))

without-feed : (line : List ℕ) → All (λ b. b ≢ 10) line → Without 10 line
without-feed [] a = refl
without-feed (b ∷ line) a =
    let k : b ≢ 10 = All-head (λ b. b ≢ 10) b line a in
    or_from (b == 10) (list_any (λ c. c == 10) line) (go (b == 10) refl k)
    (without-feed line (All-tail (λ b. b ≢ 10) b line a))
  where
    go : (t : Bool) → (b == 10) ≡ t → b ≢ 10 → (b == 10) ≡ false
    go true is k = absurd (k (grind (arith, nat_tests)))
    go false is k = is

-- ---- the fault of a text whose bytes may stand in a result

-- bytes, a line and what follows
abbrev seen : (front line more : List ℕ) → List ℕ
seen front line more = (front ++ (line ++ 10 ∷ [])) ++ more

read-first : (text : List ℕ) (r : GivenResult) → result_of text ≡ Ok r → read_first (length text) (cuts 0 text) ≡ okay r
read-first text r e = go (wrong_byte 0 text) refl
  where
    go : (o : Option ℕ) → wrong_byte 0 text ≡ o → read_first (length text) (cuts 0 text) ≡ okay r
    go None is = sym (right-read text is) ∙ e
    go (Some at) is = absurd (no-fault at 1 r (sym (wrong-read text at is) ∙ e))

take-front : (xs ys : List ℕ) → take (length xs) (xs ++ ys) ≡ xs
take-front [] ys = refl
take-front (x ∷ xs) ys = ap (λ (zs : List ℕ). x ∷ zs) (take-front xs ys)

drop-front : (xs ys : List ℕ) → drop (length xs) (xs ++ ys) ≡ ys
drop-front [] ys = refl
drop-front (x ∷ xs) ys = drop-front xs ys

module _ (text : List ℕ) (f : Fault) (right : wrong_byte 0 text ≡ None) (k : FaultOf read_first (length text)
    (cuts 0 text) f) where
  over : LeftOver 0 text k.texts k.rest
  over = left-over 0 text k.texts k.rest k.after

  at-all : (loose : List ℕ) → f.at ≡ length text → text ≡ ended_lines k.texts ++ loose
      → take f.at text ≡ ended_lines k.texts ++ loose
  at-all loose e is = ap (λ (n : ℕ). take n text) e ∙ take_all (length text) text (omega arith) ∙ is

  -- what stands before the fault
  before : take f.at text ≡ ended_lines k.texts ++ k.loose
  before = go k.rest refl k.stands
    where
      go : (rest : List Cut) → k.rest ≡ rest → StandsAt (length text) f.at rest k.loose
          → take f.at text ≡ ended_lines k.texts ++ k.loose
      go [] is s =
          let o = over in
          let none : o.tail ≡ [] = no-cut (0 + length (ended_lines k.texts)) o.tail (sym o.rest_are ∙ is) in
          at-all k.loose s.0
          (o.bytes_are ∙ ap (λ (bs : List ℕ). ended_lines k.texts ++ bs) (none ∙ sym s.1))
      go (c ∷ cs) is (inl s) =
          let o = over in
          let at = first-at (0 + length (ended_lines k.texts)) o.tail c cs (sym o.rest_are ∙ is) in
          let place : f.at ≡ length (ended_lines k.texts) = s.0 ∙ at ∙ (omega arith) in
          ap (λ (n : ℕ). take n text) place ∙ ap (λ (bs : List ℕ). take (length (ended_lines k.texts)) bs) o.bytes_are
          ∙ take-front (ended_lines k.texts) o.tail ∙ sym (append-nil (ended_lines k.texts))
          ∙ ap (λ (bs : List ℕ). ended_lines k.texts ++ bs) (sym s.1)
      go (c ∷ cs) is (inr s) =
          let o = over in
          let one : c ∷ cs ≡ c ∷ [] = ap (λ (ds : List Cut). c ∷ ds) s.2 in
          let tail : o.tail ≡ c.text =
          cut-loose (0 + length (ended_lines k.texts)) o.tail c (sym o.rest_are ∙ is ∙ one) s.1 in
          at-all k.loose s.0
          (o.bytes_are ∙ ap (λ (bs : List ℕ). ended_lines k.texts ++ bs) (tail ∙ sym s.3))

  texts-printed : AllPrinted k.texts
  texts-printed = printed-after k.texts (cuts 0 text) k.rest (cuts-printed 0 text right) k.after

  begins-result : BeginsResult (take f.at text)
  begins-result =
      let ts = k.texts ++ k.more in
      let p = printed-both k.texts k.more texts-printed k.printed in
      let whole = ended_lines ts in
      let ending = k.begins.0 in
      let is : whole ≡ take f.at text ++ ending =
      lines-both k.texts k.more ∙ ap (λ (bs : List ℕ). ended_lines k.texts ++ bs) k.begins.1
      ∙ sym (append_assoc (ended_lines k.texts) k.loose ending) ∙ ap (λ (bs : List ℕ). bs ++ ending) (sym before) in
      let read = right-read whole (lines-right 0 ts p) ∙ k.goes_on (length whole) (cuts 0 whole) (lines-cut 0 ts p) in
      (ending, k.result, subst (λ (bs : List ℕ). IsResult bs k.result) is (said whole k.result read))

  -- no result begins with that and the line at which it stands
  refused-there : (line rest : List ℕ) (b : BeginsResult (take f.at text ++ (line ++ 10 ∷ []))) (c : Cut) (cs : List Cut)
      → drop f.at text ≡ line ++ 10 ∷ rest → All (λ b. b ≢ 10) line → k.rest ≡ c ∷ cs → f.at ≡ c.at → k.loose ≡ [] → ⊥
  refused-there line rest b c cs here one is at bare =
      let o = over in
      let w = without-feed line one in
      let n = 0 + length (ended_lines k.texts) in
      let begins = first-at n o.tail c cs (sym o.rest_are ∙ is) in
      let place : f.at ≡ length (ended_lines k.texts) = at ∙ begins ∙ (omega arith) in
      let tail : o.tail ≡ line ++ 10 ∷ rest =
      sym (drop-front (ended_lines k.texts) o.tail)
      ∙ ap (λ (bs : List ℕ). drop (length (ended_lines k.texts)) bs) (sym o.bytes_are)
      ∙ ap (λ (m : ℕ). drop m text) (sym place) ∙ here in
      let cut : c ∷ cs ≡ record { at = n; text = line; ended = true } ∷ cuts (n + length line + 1) rest =
      sym is ∙ o.rest_are ∙ ap (cuts n) tail ∙ line-first n line rest w in
      let first = head-same c (record { at = n; text = line; ended = true }) cs (cuts (n + length line + 1) rest) cut in
      let same : c.text ≡ line = ap (λ (x : Cut). x.text) first in
      let there : c.ended ≡ true = ap (λ (x : Cut). x.ended) first in
      let front : take f.at text ≡ ended_lines k.texts =
      before ∙ ap (λ (bs : List ℕ). ended_lines k.texts ++ bs) bare ∙ append-nil (ended_lines k.texts) in
      let spelled : seen (take f.at text) line b.0 ≡ ended_lines (k.texts ++ c.text ∷ []) ++ b.0 =
      ap (λ (bs : List ℕ). seen bs line b.0) front
      ∙ ap (λ (bs : List ℕ). (ended_lines k.texts ++ bs) ++ b.0) (sym (append-nil (line ++ 10 ∷ [])))
      ∙ ap (λ (bs : List ℕ). bs ++ b.0) (sym (lines-both k.texts (line ∷ [])))
      ∙ ap (λ (t : List ℕ). ended_lines (k.texts ++ t ∷ []) ++ b.0) (sym same) in
      let lone : AllOneLine (k.texts ++ c.text ∷ []) =
      one-more-line k.texts c.text (one-lines k.texts texts-printed) (subst (Without 10) (sym same) w) in
      let rests = cuts (0 + length (ended_lines (k.texts ++ c.text ∷ []))) b.0 in
      let whole = seen (take f.at text) line b.0 in
      let after : After (k.texts ++ c.text ∷ []) (cuts 0 whole) rests =
      after-cuts (k.texts ++ c.text ∷ []) (cuts 0 whole) (cuts 0 (ended_lines (k.texts ++ c.text ∷ []) ++ b.0)) rests
      (ap (cuts 0) spelled) (lines-after 0 (k.texts ++ c.text ∷ []) b.0 lone) in
      k.refuses c cs (cuts 0 whole) rests b.1 (length whole) is there after (read-first whole b.1 (reads whole b.1 b.2))

  refused-end : (line rest : List ℕ) → drop f.at text ≡ line ++ 10 ∷ rest → f.at ≡ length text → ⊥
  refused-end line rest here e =
      let d : drop f.at text ≡ [] = ap (λ (n : ℕ). drop n text) e ∙ drop_all (length text) text (omega arith) in
      let long = ap (λ (bs : List ℕ). length bs) (sym d ∙ here) in
      let more = length-append line (10 ∷ rest) in
      omega arith

  refused-line : (line rest : List ℕ) → drop f.at text ≡ line ++ 10 ∷ rest → All (λ b. b ≢ 10) line
      → BeginsResult (take f.at text ++ (line ++ 10 ∷ [])) → ⊥
  refused-line line rest here one b = go k.rest refl k.stands
    where
      go : (cs : List Cut) → k.rest ≡ cs → StandsAt (length text) f.at cs k.loose → ⊥
      go [] is s = refused-end line rest here s.0
      go (c ∷ cs) is (inl s) = refused-there line rest b c cs here one is s.0 s.1
      go (c ∷ cs) is (inr s) = refused-end line rest here s.0

-- ---- a byte that may stand in no result

abbrev wrong : ℕ → Bool
wrong b = (nat_lt b 32 || nat_lt 126 b) && not (b == 10)

right-byte : (b : ℕ) → wrong b ≡ false → IsTextByte b
right-byte b e = go (nat_lt b 32) (nat_lt 126 b) (b == 10) refl refl refl e
  where
    go : (t u v : Bool) → nat_lt b 32 ≡ t → nat_lt 126 b ≡ u → (b == 10) ≡ v → ((t || u) && not v) ≡ false → IsTextByte b
    go t u true e f g h = inr (grind (arith, nat_tests))
    go false false false e f g h = inl (grind (arith, nat_tests), grind (arith, nat_tests))
    go true u false e f g h = absurd cc
    go false true false e f g h = absurd cc

not-byte : (b : ℕ) → wrong b ≡ true → IsTextByte b → ⊥
not-byte b e (inl s) =
    let low = s.0 in
    let high = s.1 in
    let x : nat_lt b 32 ≡ false = grind (arith, nat_tests) in
    let y : nat_lt 126 b ≡ false = grind (arith, nat_tests) in
    let z : wrong b ≡ false = ap (λ (t : Bool). (t || nat_lt 126 b) && not (b == 10)) x
    ∙ ap (λ (t : Bool). (false || t) && not (b == 10)) y in
    let w = sym e ∙ z in
    cc
not-byte b e (inr s) =
    let z : wrong 10 ≡ true = ap wrong (sym s) ∙ e in cc

record WrongThere (base : ℕ) (bytes : List ℕ) (at : ℕ) : Type 0 where
  place : ℕ
  at_is : at ≡ base + place
  within : place < length bytes
  not_text : IsTextByte (get_or bytes place 0) → ⊥
  before_text : All IsTextByte (take place bytes)

some-at : (x y : ℕ) → Some x ≡ Some y → x ≡ y
some-at x y e = cc

wrong-there : (base : ℕ) (bytes : List ℕ) (at : ℕ) → wrong_byte base bytes ≡ Some at → WrongThere base bytes at
wrong-there base [] at e = absurd cc
wrong-there base (b ∷ bytes) at e = go (wrong b) refl e (λ k. wrong-there (base + 1) bytes at k)
  where
    go : (t : Bool) → wrong b ≡ t → cond t (Some base) (wrong_byte (base + 1) bytes) ≡ Some at
        → (wrong_byte (base + 1) bytes ≡ Some at → WrongThere (base + 1) bytes at) → WrongThere base (b ∷ bytes) at
    go true is e says =
        let same = some-at base at e in
        record {
          place = 0;
          at_is = omega arith;
          within = omega arith;
          not_text = not-byte b is;
          before_text = All-nil IsTextByte;
        }
    go false is e says =
        let k = says e in
        let at_is = k.at_is in
        let within = k.within in
        record {
          place = suc k.place;
          at_is = omega arith;
          within = omega arith;
          not_text = k.not_text;
          before_text = All-cons IsTextByte b (take k.place bytes) (right-byte b is) k.before_text;
        }

-- ---- the whole

fault-is : (at rule : ℕ) (f : Fault) → ◌≡◌ {A = Result GivenResult Fault} (fault at rule) (Err f)
    → record { at = at; rule = rule } ≡ f
fault-is at rule f e = cc

first-rule : (text : List ℕ) (at : ℕ) (f : Fault) → wrong_byte 0 text ≡ Some at → result_of text ≡ Err f → IsFirstFault text f
first-rule text at f wrong e =
    let same : record { at = at; rule = 1 } ≡ f = fault-is at 1 f (sym (wrong-read text at wrong) ∙ e) in
    let k = wrong-there 0 text at wrong in
    let at_is = k.at_is in
    let place : k.place ≡ f.at = (let z : k.place ≡ at = omega arith in z ∙ ap (λ (x : Fault). x.at) same) in
    let rule : f.rule ≡ 1 = sym (ap (λ (x : Fault). x.rule) same) in
    record {
      wrong_byte = λ is. (
        subst (λ (n : ℕ). n < length text) place k.within,
        subst (λ (n : ℕ). IsTextByte (get_or text n 0) → ⊥) place k.not_text,
        subst (λ (n : ℕ). All IsTextByte (take n text)) place k.before_text,
      );
      begins = λ never. absurd (never rule);
      refused = λ never. absurd (never rule);
    }

later-rule : (text : List ℕ) (f : Fault) → wrong_byte 0 text ≡ None → result_of text ≡ Err f → IsFirstFault text f
later-rule text f right e =
    let k = first-fault (length text) (cuts 0 text) f (λ none. ap (λ (bs : List ℕ). length bs) (no-cut 0 text none))
    (λ c ds is. first-at 0 text c ds is) (cuts-whole 0 text) (cuts-printed 0 text right) (sym (right-read text right) ∙ e) in
    record {
      wrong_byte = λ is. absurd (k.other is);
      begins = λ never. begins-result text f right k;
      refused = λ never. refused-line text f right k;
    }

pub first : (text : List ℕ) (f : Fault) → result_of text ≡ Err f → IsFirstFault text f
first text f e = go (wrong_byte 0 text) refl
  where
    go : (o : Option ℕ) → wrong_byte 0 text ≡ o → IsFirstFault text f
    go None is = later-rule text f is e
    go (Some at) is = first-rule text at f is e
