-- The entries of a result, and the lines that say them.
use Rattle.std.proofs.Common.{◌≡◌, ℕ, ◌+◌, Bool, false, List, [], ◌∷◌, ◌++◌, length, map, refl, sym, ◌∙◌, ap}
use Rattle.std.proofs.Common.{subst, arith, Some}
use Rattle.std.specs.Prelude.{All}
use Rattle.std.specs.List.{flat_map}
use Rattle.std.proofs.lemmas.List.{append_assoc}
use Rattle.std.proofs.lemmas.List.Elements.{All-nil, All-cons, All-head, All-tail}
use Rattle.flow_list.specs.Ranges.{Reason, tall, area, left, bad, over}
use Rattle.result_laws.specs.Given.{Head, size, balanced, filled, CitedLine, GivenRange, GivenEntry, IsCitedLine, MayHave}
use Rattle.result_laws.specs.Given.{MayRange}
use Rattle.result_laws.specs.Given.{RangesStand, EntriesStand, cited_text, range_texts, entry_texts}
use Rattle.result_laws.specs.Reading.{CertLine, entry, range, column, close, Place, no_range, no_column, any_line, after_head}
use Rattle.result_laws.specs.Reading.{after_reason, place_after, Rest, onto_rest, gathered, is_close}
use Rattle.result_laws.proofs.Spelling.{text_in, IsLine}

-- ---- the lines of entries

abbrev pub columns_onto : List CitedLine → List CertLine → List CertLine
columns_onto [] rest = rest
columns_onto (c ∷ cs) rest = column c ∷ columns_onto cs rest

abbrev pub ranges_onto : List GivenRange → List CertLine → List CertLine
ranges_onto [] rest = rest
ranges_onto (x ∷ xs) rest = range x.low x.high x.reason ∷ columns_onto x.columns (ranges_onto xs rest)

abbrev pub lines_in : List GivenEntry → List CertLine
lines_in [] = []
lines_in (e ∷ es) = entry e.head ∷ ranges_onto e.ranges (lines_in es)

columns-texts : (cs : List CitedLine) (rest : List CertLine)
    → map text_in (columns_onto cs rest) ≡ map cited_text cs ++ map text_in rest
columns-texts [] rest = refl
columns-texts (c ∷ cs) rest = ap (λ ts. cited_text c ∷ ts) (columns-texts cs rest)

ranges-texts : (xs : List GivenRange) (rest : List CertLine)
    → map text_in (ranges_onto xs rest) ≡ flat_map range_texts xs ++ map text_in rest
ranges-texts [] rest = refl
ranges-texts (x ∷ xs) rest =
    let e = columns-texts x.columns (ranges_onto xs rest)
    ∙ ap (λ ts. map cited_text x.columns ++ ts) (ranges-texts xs rest)
    ∙ sym (append_assoc (map cited_text x.columns) (flat_map range_texts xs) (map text_in rest)) in
    ap (λ ts. text_in (range x.low x.high x.reason) ∷ ts) e

pub entries-texts : (es : List GivenEntry) → map text_in (lines_in es) ≡ flat_map entry_texts es
entries-texts [] = refl
entries-texts (e ∷ es) =
    ap (λ ts. text_in (entry e.head) ∷ ts)
    (ranges-texts e.ranges (lines_in es) ∙ ap (λ ts. flat_map range_texts e.ranges ++ ts) (entries-texts es))

-- ---- lines that may stand

-- each of these lines is of a form, none is `end`, and each may stand where it does
abbrev pub Stand : Bool → Place → List CertLine → Type 0
Stand cites p [] = Unit {0}
Stand cites p (l ∷ ls) = IsLine cites l × (is_close l ≡ false) × (q : Place) × (place_after p l ≡ Some q) × Stand cites q ls

-- ---- from entries to lines

columns-stand : (cites : Bool) (cs : List CitedLine) (rest : List CertLine) → All (IsCitedLine cites) cs
    → Stand cites any_line rest → Stand cites any_line (columns_onto cs rest)
columns-stand cites [] rest a s = s
columns-stand cites (c ∷ cs) rest a s = (
  All-head (IsCitedLine cites) c cs a,
  refl,
  any_line,
  refl,
  columns-stand cites cs rest (All-tail (IsCitedLine cites) c cs a) s,
)

after-reason : (cites : Bool) (r : Reason) (cs : List CitedLine) (rest : List CertLine) → All (IsCitedLine cites) cs
    → MayHave r cs
    → ((p : Place) → (p ≡ no_range → ⊥) → Stand cites p rest) → Stand cites (after_reason r) (columns_onto cs rest)
after-reason cites (tall k) cs rest a may s = rw may (s no_column (λ e. cc))
after-reason cites area cs rest a may s = rw may (s no_column (λ e. cc))
after-reason cites (left q) cs rest a may s = columns-stand cites cs rest a (s any_line (λ e. cc))
after-reason cites (bad c) cs rest a may s = columns-stand cites cs rest a (s any_line (λ e. cc))
after-reason cites (over c) cs rest a may s = columns-stand cites cs rest a (s any_line (λ e. cc))

range-may : (p : Place) (low high : ℕ) (r : Reason) → (p ≡ no_range → ⊥)
    → place_after p (range low high r) ≡ Some (after_reason r)
range-may no_range low high r never = absurd (never refl)
range-may no_column low high r never = refl
range-may any_line low high r never = refl

ranges-stand : (cites : Bool) (n : ℕ) (xs : List GivenRange) (m : ℕ) (rest : List CertLine) → RangesStand cites n xs m
    → ((p : Place) → Stand cites p rest) → (p : Place) → (p ≡ no_range → ⊥) → Stand cites p (ranges_onto xs rest)
ranges-stand cites n [] m rest are s p never = s p
ranges-stand cites n (x ∷ xs) m rest are s p never = (
  (are.1, are.2, are.3),
  refl,
  after_reason x.reason,
  range-may p x.low x.high x.reason never,
  after-reason cites x.reason x.columns (ranges_onto xs rest) are.4 are.5
      (ranges-stand cites (n + 1 + length x.columns) xs m rest are.6 s),
)

after-head : (cites : Bool) (h : Head) (n : ℕ) (xs : List GivenRange) (m : ℕ) (rest : List CertLine) → MayRange h xs
    → RangesStand cites n xs m → ((p : Place) → Stand cites p rest) → Stand cites (after_head h) (ranges_onto xs rest)
after-head cites (size r q h) n xs m rest may are s = ranges-stand cites n xs m rest are s no_column (λ e. cc)
after-head cites (balanced r a h fits) n xs m rest may are s = ranges-stand cites n xs m rest are s no_column (λ e. cc)
after-head cites (filled r a h) n xs m rest may are s = rw may (s no_range)

pub entries-stand : (cites : Bool) (n : ℕ) (es : List GivenEntry) (m : ℕ) → EntriesStand cites n es m → (p : Place)
    → Stand cites p (lines_in es)
entries-stand cites n [] m are p = tt
entries-stand cites n (e ∷ es) m are p = (
  are.1,
  refl,
  after_head e.head,
  refl,
  after-head cites e.head (n + 1) e.ranges are.3 (lines_in es) are.2 are.4 (entries-stand cites are.3 es m are.5),
)

abbrev only : List GivenRange → List GivenEntry → Rest
only xs es = record { columns = []; ranges = xs; entries = es }

columns-gathered : (n m : ℕ) (cs : List CitedLine) (rest : List CertLine) (xs : List GivenRange) (es : List GivenEntry)
    → n + length cs ≡ m → gathered m rest ≡ only xs es
    → gathered n (columns_onto cs rest) ≡ record { columns = cs; ranges = xs; entries = es }
unfolding gathered
columns-gathered n m [] rest xs es e g = let same : n ≡ m = omega arith in rw same g
columns-gathered n m (c ∷ cs) rest xs es e g =
    ap (λ (r : Rest). onto_rest n (column c) r) (columns-gathered (n + 1) m cs rest xs es (omega arith) g)

ranges-gathered : (cites : Bool) (n : ℕ) (xs : List GivenRange) (m : ℕ) (rest : List CertLine) (es : List GivenEntry)
    → RangesStand cites n xs m → gathered m rest ≡ only [] es → gathered n (ranges_onto xs rest) ≡ only xs es
unfolding gathered
ranges-gathered cites n [] m rest es are g = rw are g
ranges-gathered cites n (x ∷ xs) m rest es are g =
    let k = columns-gathered (n + 1) (n + 1 + length x.columns) x.columns (ranges_onto xs rest) xs es refl
    (ranges-gathered cites (n + 1 + length x.columns) xs m rest es are.6 g) in
    ap (λ (r : Rest). onto_rest n (range x.low x.high x.reason) r) k
    ∙ ap (λ (a : ℕ). only
    (record { at = a; low = x.low; high = x.high; reason = x.reason; columns = x.columns } ∷ xs) es) (sym are.0)

pub entries-gathered : (cites : Bool) (n : ℕ) (es : List GivenEntry) (m : ℕ) → EntriesStand cites n es m
    → gathered n (lines_in es) ≡ only [] es
unfolding gathered
entries-gathered cites n [] m are = refl
entries-gathered cites n (e ∷ es) m are =
    ap (λ (r : Rest). onto_rest n (entry e.head) r)
    (ranges-gathered cites (n + 1) e.ranges are.3 (lines_in es) es are.4 (entries-gathered cites are.3 es m are.5))
    ∙ ap (λ (a : ℕ). only [] (record { at = a; head = e.head; ranges = e.ranges } ∷ es)) (sym are.0)

pub columns-length : (cs : List CitedLine) (rest : List CertLine) → length (columns_onto cs rest) ≡ length cs + length rest
columns-length [] rest = omega arith
columns-length (c ∷ cs) rest = let k = columns-length cs rest in omega arith

ranges-length : (cites : Bool) (n : ℕ) (xs : List GivenRange) (m : ℕ) (rest : List CertLine) → RangesStand cites n xs m
    → n + length (ranges_onto xs rest) ≡ m + length rest
ranges-length cites n [] m rest are = omega arith
ranges-length cites n (x ∷ xs) m rest are =
    let k = columns-length x.columns (ranges_onto xs rest) in
    let l = ranges-length cites (n + 1 + length x.columns) xs m rest are.6 in
    omega arith

pub entries-length : (cites : Bool) (n : ℕ) (es : List GivenEntry) (m : ℕ) → EntriesStand cites n es m
    → n + length (lines_in es) ≡ m
entries-length cites n [] m are = let k : n ≡ m = are in omega arith
entries-length cites n (e ∷ es) m are =
    let k = ranges-length cites (n + 1) e.ranges are.3 (lines_in es) are.4 in
    let l = entries-length cites are.3 es m are.5 in
    omega arith

-- ---- from lines to entries

abbrev pub MayColumn : Place → List CitedLine → Type 0
MayColumn no_range cs = cs ≡ []
MayColumn no_column cs = cs ≡ []
MayColumn any_line cs = Unit {0}

abbrev pub MayRangeAt : Place → List GivenRange → Type 0
MayRangeAt no_range xs = xs ≡ []
MayRangeAt no_column xs = Unit {0}
MayRangeAt any_line xs = Unit {0}

-- What is gathered from lines that stand from line n on, up to line m, at a place.
pub record Gathers (cites : Bool) (p : Place) (n : ℕ) (ls : List CertLine) (g : Rest) (m : ℕ) : Type 0 where
  pub no_columns : MayColumn p g.columns
  pub no_ranges : MayRangeAt p g.ranges
  pub cited : All (IsCitedLine cites) g.columns
  pub from : ℕ
  pub starts : from ≡ n + length g.columns
  pub to : ℕ
  pub ranges : RangesStand cites from g.ranges to
  pub entries : EntriesStand cites to g.entries m
  pub lines : columns_onto g.columns (ranges_onto g.ranges (lines_in g.entries)) ≡ ls

nothing-at : (p : Place) → MayColumn p [] × MayRangeAt p []
nothing-at no_range = (refl, refl)
nothing-at no_column = (refl, tt)
nothing-at any_line = (tt, tt)

none-gather : (cites : Bool) (p : Place) (n : ℕ) → Gathers cites p n [] (gathered n []) n
unfolding gathered
none-gather cites p n =
    let may = nothing-at p in
    record {
      no_columns = may.0;
      no_ranges = may.1;
      cited = All-nil (IsCitedLine cites);
      from = n;
      starts = omega arith;
      to = n;
      ranges = refl;
      entries = refl;
      lines = refl;
    }

head-columns : (h : Head) (cs : List CitedLine) → MayColumn (after_head h) cs → cs ≡ []
head-columns (size r q h) cs may = may
head-columns (balanced r a h fits) cs may = may
head-columns (filled r a h) cs may = may

head-ranges : (h : Head) (xs : List GivenRange) → MayRangeAt (after_head h) xs → MayRange h xs
head-ranges (size r q h) xs may = tt
head-ranges (balanced r a h fits) xs may = tt
head-ranges (filled r a h) xs may = may

reason-columns : (r : Reason) (cs : List CitedLine) → MayColumn (after_reason r) cs → MayHave r cs
reason-columns (tall k) cs may = may
reason-columns area cs may = may
reason-columns (left q) cs may = tt
reason-columns (bad c) cs may = tt
reason-columns (over c) cs may = tt

entry-gathers : (cites : Bool) (p : Place) (n : ℕ) (h : Head) (ls : List CertLine) (g : Rest) (m : ℕ) → IsLine cites (entry h)
    → Gathers cites (after_head h) (n + 1) ls g m → Gathers cites p n (entry h ∷ ls) (onto_rest n (entry h) g) m
entry-gathers cites p n h ls g m is k =
    let none = head-columns h g.columns k.no_columns in
    let count : length g.columns ≡ 0 = ap (λ (cs : List CitedLine). length cs) none in
    let starts = k.starts in
    let from : k.from ≡ n + 1 = omega arith in
    let ranges : RangesStand cites (n + 1) g.ranges k.to = subst (λ (j : ℕ). RangesStand cites j g.ranges k.to) from k.ranges in
    let lines : ranges_onto g.ranges (lines_in g.entries) ≡ ls =
    ap (λ (cs : List CitedLine). columns_onto cs (ranges_onto g.ranges (lines_in g.entries))) (sym none) ∙ k.lines in
    let may = nothing-at p in
    record {
      no_columns = may.0;
      no_ranges = may.1;
      cited = All-nil (IsCitedLine cites);
      from = n;
      starts = omega arith;
      to = n;
      ranges = refl;
      entries = (refl, is, head-ranges h g.ranges k.no_ranges, k.to, ranges, k.entries);
      lines = ap (λ (xs : List CertLine). entry h ∷ xs) lines;
    }

some-place : (x y : Place) → Some x ≡ Some y → x ≡ y
some-place x y e = cc

range-held : (cites : Bool) (p : Place) (n low high : ℕ) (r : Reason) (ls : List CertLine) (g : Rest) (m : ℕ)
    → IsLine cites (range low high r) → MayColumn p [] → ((xs : List GivenRange) → MayRangeAt p xs)
    → Gathers cites (after_reason r) (n + 1) ls g m
    → Gathers cites p n (range low high r ∷ ls) (onto_rest n (range low high r) g) m
range-held cites p n low high r ls g m is never may k =
    let starts = k.starts in
    let x : GivenRange = record { at = n; low = low; high = high; reason = r; columns = g.columns } in
    let from : k.from ≡ n + 1 + length g.columns = omega arith in
    record {
      no_columns = never;
      no_ranges = may (x ∷ g.ranges);
      cited = All-nil (IsCitedLine cites);
      from = n;
      starts = omega arith;
      to = k.to;
      ranges = (
        refl,
        is.0,
        is.1,
        is.2,
        k.cited,
        reason-columns r g.columns k.no_columns,
        subst (λ (j : ℕ). RangesStand cites j g.ranges k.to) from k.ranges,
      );
      entries = k.entries;
      lines = ap (λ (xs : List CertLine). range low high r ∷ xs) k.lines;
    }

range-gathers : (cites : Bool) (p q : Place) (n low high : ℕ) (r : Reason) (ls : List CertLine) (g : Rest) (m : ℕ)
    → IsLine cites (range low high r) → place_after p (range low high r) ≡ Some q
    → Gathers cites q (n + 1) ls g m → Gathers cites p n (range low high r ∷ ls) (onto_rest n (range low high r) g) m
range-gathers cites no_range q n low high r ls g m is at k = absurd cc
range-gathers cites no_column q n low high r ls g m is at k = range-held cites no_column n low high r ls g m is refl (λ _. tt)
    (subst (λ (p : Place). Gathers cites p (n + 1) ls g m) (sym (some-place (after_reason r) q at)) k)
range-gathers cites any_line q n low high r ls g m is at k = range-held cites any_line n low high r ls g m is tt (λ _. tt)
    (subst (λ (p : Place). Gathers cites p (n + 1) ls g m) (sym (some-place (after_reason r) q at)) k)

column-gathers : (cites : Bool) (p q : Place) (n : ℕ) (c : CitedLine) (ls : List CertLine) (g : Rest) (m : ℕ)
    → IsLine cites (column c) → place_after p (column c) ≡ Some q
    → Gathers cites q (n + 1) ls g m → Gathers cites p n (column c ∷ ls) (onto_rest n (column c) g) m
column-gathers cites no_range q n c ls g m is at k = absurd cc
column-gathers cites no_column q n c ls g m is at k = absurd cc
column-gathers cites any_line q n c ls g m is at k =
    let starts = k.starts in
    record {
      no_columns = tt;
      no_ranges = tt;
      cited = All-cons (IsCitedLine cites) c g.columns is k.cited;
      from = k.from;
      starts = omega arith;
      to = k.to;
      ranges = k.ranges;
      entries = k.entries;
      lines = ap (λ (xs : List CertLine). column c ∷ xs) k.lines;
    }

pub lines-gather : (cites : Bool) (p : Place) (n : ℕ) (ls : List CertLine) (m : ℕ) → m ≡ n + length ls → Stand cites p ls
    → Gathers cites p n ls (gathered n ls) m
unfolding gathered
lines-gather cites p n [] m e s =
    let same : n ≡ m = omega arith in
    subst (λ (k : ℕ). Gathers cites p n [] (gathered n []) k) same (none-gather cites p n)
lines-gather cites p n (entry h ∷ ls) m e s =
    entry-gathers cites p n h ls (gathered (n + 1) ls) m s.0
    (lines-gather cites (after_head h) (n + 1) ls m (omega arith)
    (subst (λ (q : Place). Stand cites q ls) (sym (some-place (after_head h) s.2 s.3)) s.4))
lines-gather cites p n (range low high r ∷ ls) m e s =
    range-gathers cites p s.2 n low high r ls (gathered (n + 1) ls) m s.0 s.3
    (lines-gather cites s.2 (n + 1) ls m (omega arith) s.4)
lines-gather cites p n (column c ∷ ls) m e s =
    column-gathers cites p s.2 n c ls (gathered (n + 1) ls) m s.0 s.3
    (lines-gather cites s.2 (n + 1) ls m (omega arith) s.4)
lines-gather cites p n (close ∷ ls) m e s = absurd (let k = s.1 in cc)
