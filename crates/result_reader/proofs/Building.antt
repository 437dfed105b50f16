-- Lines are taken one after the other.
use Rattle.std.proofs.Common.{◌≡◌, ℕ, suc, ◌+◌, Bool, true, false, List, [], ◌∷◌, ◌++◌, length, drop, map, refl}
use Rattle.std.proofs.Common.{sym}
use Rattle.std.proofs.Common.{◌∙◌, ap, cond, arith, length-append, Option, Some, None}
use Rattle.std.specs.List.{flat_map}
use Rattle.std.proofs.lemmas.Grind.{flat_map-append}
use Rattle.std.proofs.lemmas.List.{append_assoc, append-nil, map-append}
use Rattle.flow_list.specs.Column.{ColumnLine}
use Rattle.flow_list.specs.Ranges.{Reason, tall, area, left, bad, over, Range}
use Rattle.height_cert.specs.declared.cert.Cites.{Cites}
use Rattle.height_cert.specs.declared.cert.CertEntry.{CertEntry}
use Rattle.height_cert.specs.declared.cert.CertEntry.TheVariants.{Size, Row, Auto}
use Rattle.height_cert.specs.Certs.{head_of, ranges_in, first_cites}
use Rattle.result_laws.specs.Given.{CitedLine}
use Rattle.result_laws.specs.Reading.{CertLine, entry, range, column, close, Place, no_range, no_column, any_line, after_reason}
use Rattle.result_laws.specs.Reading.{place_after, after_head}
use Rattle.result_reader.specs.declared.build.Building.{Building}
use Rattle.result_reader.specs.Built.{plain_column, plain_range, plain_entry, plain_lines, open_entry, open_range, taken}
use Rattle.result_reader.specs.Built.{with_cites}
use Rattle.result_reader.specs.Built.{columns_among, numbers_from, lines_taken, HasCites, MayHold, MayOpen, MayStand, may_range}
use Rattle.result_reader.specs.Built.{has_columns, may_column, IsHeld, place_after_range, place_in, place_of, IsBuilt, Takes}
use Rattle.result_reader.specs.Built.{Steps}

-- ---- what is closed

pub range-closed : (xs : List Range) (x y : Range) (ls : List ColumnLine) → y.low ≡ x.low → y.high ≡ x.high → y.reason ≡ x.reason
    → y.lines ≡ ls
    → flat_map plain_range (xs ++ y ∷ []) ≡ flat_map plain_range xs ++ (open_range (Some x) ++ map plain_column ls)
range-closed xs x y ls a b c d =
    flat_map-append plain_range xs (y ∷ [])
    ∙ ap (λ (rs : List CertLine). flat_map plain_range xs ++ rs)
    (append-nil (plain_range y) ∙ ap (λ (n : ℕ). range n y.high y.reason ∷ map plain_column y.lines) a
    ∙ ap (λ (n : ℕ). range x.low n y.reason ∷ map plain_column y.lines) b
    ∙ ap (λ (r : Reason). range x.low x.high r ∷ map plain_column y.lines) c
    ∙ ap (λ (ls : List ColumnLine). range x.low x.high x.reason ∷ map plain_column ls) d)

pub no-range-closed : (xs : List Range) (ls : List ColumnLine) → ls ≡ []
    → flat_map plain_range xs ≡ flat_map plain_range xs ++ (open_range None ++ map plain_column ls)
no-range-closed xs ls none = sym (ap (λ (ls : List ColumnLine). flat_map plain_range xs ++ ([] ++ map plain_column ls)) none
    ∙ append-nil (flat_map plain_range xs))

pub entry-closed : (es : List CertEntry) (e f : CertEntry) (xs : List Range) → head_of f ≡ head_of e → ranges_in f ≡ xs
    → plain_lines (es ++ f ∷ []) ≡ plain_lines es ++ (open_entry (Some e) ++ flat_map plain_range xs)
entry-closed es e f xs a b =
    flat_map-append plain_entry es (f ∷ [])
    ∙ ap (λ (ls : List CertLine). plain_lines es ++ ls)
    (append-nil (plain_entry f) ∙ ap (λ h. entry h ∷ flat_map plain_range (ranges_in f)) a
    ∙ ap (λ (xs : List Range). entry (head_of e) ∷ flat_map plain_range xs) b)

pub no-entry-closed : (es : List CertEntry) (xs : List Range) → xs ≡ []
    → plain_lines es ≡ plain_lines es ++ (open_entry None ++ flat_map plain_range xs)
no-entry-closed es xs none = sym (ap (λ (xs : List Range). plain_lines es ++ ([] ++ flat_map plain_range xs)) none
    ∙ append-nil (plain_lines es))

no-range-lines : (ys : List Range) → flat_map plain_range ys ≡ [] → ys ≡ []
no-range-lines [] e = refl
no-range-lines (y ∷ ys) e = absurd cc

none-closed : (xs ys : List Range) (ls : List ColumnLine) → xs ≡ [] → ls ≡ []
    → flat_map plain_range ys ≡ flat_map plain_range xs ++ (open_range None ++ map plain_column ls) → ys ≡ []
none-closed xs ys ls none bare e =
    no-range-lines ys
    (e ∙ ap (λ (xs : List Range). flat_map plain_range xs ++ map plain_column ls) none ∙ ap (map plain_column) bare)

-- ranges that are closed stand where those before stood
pub held-closed : (e : Option CertEntry) (xs ys : List Range) (r : Option Range) (ls : List ColumnLine) → MayHold e xs
    → MayOpen e r → MayStand r ls
    → flat_map plain_range ys ≡ flat_map plain_range xs ++ (open_range r ++ map plain_column ls) → MayHold e ys
held-closed None xs ys None ls held open_ stands e = none-closed xs ys ls held stands e
held-closed None xs ys (Some x) ls held open_ stands e = absurd (let k : x ∷ [] ≡ [] = open_ in cc)
held-closed (Some (Size s)) xs ys r ls held open_ stands e = tt
held-closed (Some (Row row available height fits ranges)) xs ys r ls held open_ stands e = tt
held-closed (Some (Auto row available height)) xs ys None ls held open_ stands e = none-closed xs ys ls held stands e
held-closed (Some (Auto row available height)) xs ys (Some x) ls held open_ stands e = absurd (let k : x ∷ [] ≡ [] = open_ in cc)

-- ---- places

pub place-of-entry : (e : CertEntry) → after_head (head_of e) ≡ place_in (Some e) None
place-of-entry (Size e) = refl
place-of-entry (Row row available height fits ranges) = refl
place-of-entry (Auto row available height) = refl

pub hold-none : (e : CertEntry) → MayHold (Some e) []
hold-none (Size e) = tt
hold-none (Row row available height fits ranges) = tt
hold-none (Auto row available height) = refl

abbrev mark : ℕ → ℕ → Reason → CertLine
mark low high r = range low high r

range-after : (r : Option Range) (low high : ℕ) (reason : Reason)
    → place_after (place_after_range r) (mark low high reason) ≡ Some (after_reason reason)
range-after None low high reason = refl
range-after (Some x) low high reason = go x.reason
  where
    go : (r : Reason) → place_after (after_reason r) (mark low high reason) ≡ Some (after_reason reason)
    go (tall k) = refl
    go area = refl
    go (left q) = refl
    go (bad c) = refl
    go (over c) = refl

pub range-place : (e : Option CertEntry) (r : Option Range) (x : Range) → may_range e ≡ true
    → place_after (place_in e r) (mark x.low x.high x.reason) ≡ Some (place_in e (Some x))
range-place None r x may = absurd cc
range-place (Some (Size e)) r x may = range-after r x.low x.high x.reason
range-place (Some (Row row available height fits ranges)) r x may = range-after r x.low x.high x.reason
range-place (Some (Auto row available height)) r x may = absurd cc

pub no-range-place : (e : Option CertEntry) (r : Option Range) (low high : ℕ) (reason : Reason) → may_range e ≡ false
    → place_after (place_in e r) (mark low high reason) ≡ None
no-range-place None r low high reason may = refl
no-range-place (Some (Size e)) r low high reason may = absurd cc
no-range-place (Some (Row row available height fits ranges)) r low high reason may = absurd cc
no-range-place (Some (Auto row available height)) r low high reason may = refl

pub range-held : (e : Option CertEntry) (xs : List Range) → may_range e ≡ true → MayHold e xs
range-held None xs may = absurd cc
range-held (Some (Size e)) xs may = tt
range-held (Some (Row row available height fits ranges)) xs may = tt
range-held (Some (Auto row available height)) xs may = absurd cc

column-after : (x : Reason) (c : CitedLine) → has_columns x ≡ true
    → place_after (after_reason x) (column c) ≡ Some (after_reason x)
column-after (tall k) c may = absurd cc
column-after area c may = absurd cc
column-after (left q) c may = refl
column-after (bad k) c may = refl
column-after (over k) c may = refl

pub column-place : (e : Option CertEntry) (r : Option Range) (c : CitedLine) → MayOpen e r → may_column r ≡ true
    → place_after (place_in e r) (column c) ≡ Some (place_in e r)
column-place e None c open_ may = absurd cc
column-place None (Some x) c open_ may = absurd cc
column-place (Some (Size e)) (Some x) c open_ may = column-after x.reason c may
column-place (Some (Row row available height fits ranges)) (Some x) c open_ may = column-after x.reason c may
column-place (Some (Auto row available height)) (Some x) c open_ may = absurd cc

no-column-after : (r : Option Range) (c : CitedLine) → may_column r ≡ false → place_after (place_after_range r) (column c) ≡ None
no-column-after None c may = refl
no-column-after (Some x) c may = go x.reason may
  where
    go : (r : Reason) → has_columns r ≡ false → place_after (after_reason r) (column c) ≡ None
    go (tall k) may = refl
    go area may = refl
    go (left q) may = absurd cc
    go (bad k) may = absurd cc
    go (over k) may = absurd cc

pub no-column-place : (e : Option CertEntry) (r : Option Range) (c : CitedLine) → may_column r ≡ false
    → place_after (place_in e r) (column c) ≡ None
no-column-place None r c may = refl
no-column-place (Some (Size e)) r c may = no-column-after r c may
no-column-place (Some (Row row available height fits ranges)) r c may = no-column-after r c may
no-column-place (Some (Auto row available height)) r c may = refl

pub column-stands : (r : Option Range) (ls : List ColumnLine) → may_column r ≡ true → MayStand r ls
column-stands None ls may = absurd cc
column-stands (Some x) ls may = tt

-- ---- a line is taken

pub entry-taken : (b : Building) (xs : List Range) (es : List CertEntry) (e : CertEntry) (cites : List Cites) (numbers : List ℕ)
    → flat_map plain_range xs ≡ flat_map plain_range b.ranges ++ (open_range b.range ++ map plain_column b.columns)
    → plain_lines es ≡ plain_lines b.entries ++ (open_entry b.entry ++ flat_map plain_range xs)
    → Takes b (entry (head_of e)) (record {
      entries = es;
      cites = cites;
      numbers = numbers;
      entry = Some e;
      ranges = [];
      range = None;
      columns = [];
    })
entry-taken b xs es e cites numbers ranges entries = record {
  held = record { ranges = hold-none e; range = tt; columns = refl };
  lines =
      ap (λ (ls : List CertLine). ls ++ entry (head_of e) ∷ []) entries
      ∙ ap (λ (ls : List CertLine). (plain_lines b.entries ++ (open_entry b.entry ++ ls)) ++ entry (head_of e) ∷ []) ranges;
  place = ap (λ (p : Place). Some p) (place-of-entry e);
}

pub range-taken : (b : Building) (xs : List Range) (x : Range) (cites : List Cites) (numbers : List ℕ) → may_range b.entry ≡ true
    → flat_map plain_range xs ≡ flat_map plain_range b.ranges ++ (open_range b.range ++ map plain_column b.columns)
    → Takes b (range x.low x.high x.reason) (record {
      entries = b.entries;
      cites = cites;
      numbers = numbers;
      entry = b.entry;
      ranges = xs;
      range = Some x;
      columns = [];
    })
range-taken b xs x cites numbers may ranges =
    let l = range x.low x.high x.reason ∷ [] in
    let rest = flat_map plain_range b.ranges ++ (open_range b.range ++ map plain_column b.columns) in
    record {
      held = record {
        ranges = range-held b.entry xs may;
        range = range-held b.entry (x ∷ []) may;
        columns = tt;
      };
      lines =
          ap (λ (ls : List CertLine). plain_lines b.entries ++ (open_entry b.entry ++ (ls ++ l))) ranges
          ∙ ap (λ (ls : List CertLine). plain_lines b.entries ++ ls) (sym (append_assoc (open_entry b.entry) rest l))
          ∙ sym (append_assoc (plain_lines b.entries) (open_entry b.entry ++ rest) l);
      place = range-place b.entry b.range x may;
    }

pub column-taken : (b : Building) (line : ColumnLine) (cites : List Cites) → IsHeld b → may_column b.range ≡ true
    → Takes b (plain_column line) (record {
      entries = b.entries;
      cites = cites;
      numbers = b.numbers;
      entry = b.entry;
      ranges = b.ranges;
      range = b.range;
      columns = b.columns ++ line ∷ [];
    })
column-taken b line cites held may =
    let l = plain_column line ∷ [] in
    let columns = map plain_column b.columns in
    let ranges = flat_map plain_range b.ranges in
    record {
      held = record { ranges = held.ranges; range = held.range; columns = column-stands b.range (b.columns ++ line ∷ []) may };
      lines =
          ap (λ (ls : List CertLine). plain_lines b.entries ++ (open_entry b.entry ++ (ranges ++ (open_range b.range ++ ls))))
          (map-append plain_column b.columns (line ∷ []))
          ∙ ap (λ (ls : List CertLine). plain_lines b.entries ++ (open_entry b.entry ++ (ranges ++ ls)))
          (sym (append_assoc (open_range b.range) columns l))
          ∙ ap (λ (ls : List CertLine). plain_lines b.entries ++ (open_entry b.entry ++ ls))
          (sym (append_assoc ranges (open_range b.range ++ columns) l))
          ∙ ap (λ (ls : List CertLine). plain_lines b.entries ++ ls)
          (sym (append_assoc (open_entry b.entry) (ranges ++ (open_range b.range ++ columns)) l))
          ∙ sym (append_assoc (plain_lines b.entries) (open_entry b.entry ++ (ranges ++ (open_range b.range ++ columns))) l);
      place = column-place b.entry b.range (record { line = line; cites = [] }) held.range may;
    }

-- ---- a line with its sizes is taken

-- an entry or a range
abbrev Marks : CertLine → Type 0
Marks (entry h) = Unit {0}
Marks (range low high r) = Unit {0}
Marks (column c) = ⊥
Marks close = ⊥

mark-cited : (cites : List Cites) (ls : List CertLine) (l : CertLine) → Marks l
    → with_cites cites (ls ++ l ∷ []) ≡ with_cites cites ls ++ l ∷ []
mark-cited cites [] (entry h) m = refl
mark-cited cites [] (range low high r) m = refl
mark-cited cites [] (column c) m = absurd m
mark-cited cites [] close m = absurd m
mark-cited cites (entry h ∷ ls) l m = ap (λ (xs : List CertLine). entry h ∷ xs) (mark-cited cites ls l m)
mark-cited cites (range low high r ∷ ls) l m = ap (λ (xs : List CertLine). range low high r ∷ xs) (mark-cited cites ls l m)
mark-cited cites (column c ∷ ls) l m =
    ap (λ (xs : List CertLine). column (record { line = c.line; cites = first_cites cites }) ∷ xs)
    (mark-cited (drop 1 cites) ls l m)
mark-cited cites (close ∷ ls) l m = ap (λ (xs : List CertLine). close ∷ xs) (mark-cited cites ls l m)

mark-counted : (ls : List CertLine) (l : CertLine) → Marks l → columns_among (ls ++ l ∷ []) ≡ columns_among ls
mark-counted [] (entry h) m = refl
mark-counted [] (range low high r) m = refl
mark-counted [] (column c) m = absurd m
mark-counted [] close m = absurd m
mark-counted (entry h ∷ ls) l m = mark-counted ls l m
mark-counted (range low high r ∷ ls) l m = mark-counted ls l m
mark-counted (column c ∷ ls) l m = let k = mark-counted ls l m in omega arith
mark-counted (close ∷ ls) l m = mark-counted ls l m

mark-numbered : (n : ℕ) (ls : List CertLine) (l : CertLine) → Marks l
    → numbers_from n (ls ++ l ∷ []) ≡ numbers_from n ls ++ (n + length ls) ∷ []
mark-numbered n [] (entry h) m = let e : n ≡ n + 0 = omega arith in ap (λ (k : ℕ). k ∷ []) e
mark-numbered n [] (range low high r) m = let e : n ≡ n + 0 = omega arith in ap (λ (k : ℕ). k ∷ []) e
mark-numbered n [] (column c) m = absurd m
mark-numbered n [] close m = absurd m
mark-numbered n (entry h ∷ ls) l m =
    let e : n + 1 + length ls ≡ n + suc (length ls) = omega arith in
    ap (λ (ns : List ℕ). n ∷ ns) (mark-numbered (n + 1) ls l m ∙ ap (λ (k : ℕ). numbers_from (n + 1) ls ++ k ∷ []) e)
mark-numbered n (range low high r ∷ ls) l m =
    let e : n + 1 + length ls ≡ n + suc (length ls) = omega arith in
    ap (λ (ns : List ℕ). n ∷ ns) (mark-numbered (n + 1) ls l m ∙ ap (λ (k : ℕ). numbers_from (n + 1) ls ++ k ∷ []) e)
mark-numbered n (column c ∷ ls) l m =
    let e : n + 1 + length ls ≡ n + suc (length ls) = omega arith in
    mark-numbered (n + 1) ls l m ∙ ap (λ (k : ℕ). numbers_from (n + 1) ls ++ k ∷ []) e
mark-numbered n (close ∷ ls) l m =
    let e : n + 1 + length ls ≡ n + suc (length ls) = omega arith in
    mark-numbered (n + 1) ls l m ∙ ap (λ (k : ℕ). numbers_from (n + 1) ls ++ k ∷ []) e

one-more : (ls : List CertLine) (l : CertLine) → length (ls ++ l ∷ []) ≡ length ls + 1
one-more ls l = length-append ls (l ∷ [])

-- an entry or a range is taken
pub mark-step : (second : Bool) (n at : ℕ) (b next : Building) (l : CertLine) → Marks l → IsBuilt second n b
    → at ≡ n + length (taken b) → Takes b l next → next.cites ≡ b.cites → next.numbers ≡ b.numbers ++ at ∷ []
    → Steps second n b l next
mark-step second n at b next l m built is_at takes cites numbers = record {
  built = record { held = takes.held; cites = all second built.cites; numbers = numbered };
  lines =
      ap (λ (cs : List Cites). with_cites cs (taken next)) cites ∙ ap (λ (ls : List CertLine). with_cites b.cites ls) takes.lines
      ∙ mark-cited b.cites (taken b) l m;
  count = ap (λ (ls : List CertLine). length ls) takes.lines ∙ one-more (taken b) l;
  place = takes.place;
}
  where
    all : (second : Bool) → HasCites second b.cites (taken b) → HasCites second next.cites (taken next)
    all false has = cites ∙ has
    all true has =
        ap (λ (cs : List Cites). length cs) cites ∙ has ∙ sym (mark-counted (taken b) l m) ∙ ap columns_among (sym takes.lines)

    numbered : next.numbers ≡ numbers_from n (taken next)
    numbered =
        numbers ∙ ap (λ (ns : List ℕ). ns ++ at ∷ []) built.numbers
        ∙ ap (λ (k : ℕ). numbers_from n (taken b) ++ k ∷ []) is_at ∙ sym (mark-numbered n (taken b) l m)
        ∙ ap (numbers_from n) (sym takes.lines)

-- ---- a column line is taken

column-cited : (cites : List Cites) (c : Cites) (ls : List CertLine) (l : ColumnLine) → length cites ≡ columns_among ls
    → with_cites (cites ++ c ∷ []) (ls ++ plain_column l ∷ [])
    ≡ with_cites cites ls ++ column (record { line = l; cites = c.sizes }) ∷ []
column-cited [] c [] l e = refl
column-cited (d ∷ cs) c [] l e = absurd (omega arith)
column-cited cites c (entry h ∷ ls) l e = ap (λ (xs : List CertLine). entry h ∷ xs) (column-cited cites c ls l e)
column-cited cites c (range low high r ∷ ls) l e =
    ap (λ (xs : List CertLine). range low high r ∷ xs) (column-cited cites c ls l e)
column-cited [] c (column d ∷ ls) l e = absurd (omega arith)
column-cited (f ∷ cs) c (column d ∷ ls) l e =
    ap (λ (xs : List CertLine). column (record { line = d.line; cites = f.sizes }) ∷ xs) (column-cited cs c ls l (omega arith))
column-cited cites c (close ∷ ls) l e = ap (λ (xs : List CertLine). close ∷ xs) (column-cited cites c ls l e)

column-uncited : (ls : List CertLine) (l : ColumnLine)
    → with_cites [] (ls ++ plain_column l ∷ []) ≡ with_cites [] ls ++ plain_column l ∷ []
column-uncited [] l = refl
column-uncited (entry h ∷ ls) l = ap (λ (xs : List CertLine). entry h ∷ xs) (column-uncited ls l)
column-uncited (range low high r ∷ ls) l = ap (λ (xs : List CertLine). range low high r ∷ xs) (column-uncited ls l)
column-uncited (column c ∷ ls) l =
    ap (λ (xs : List CertLine). column (record { line = c.line; cites = [] }) ∷ xs) (column-uncited ls l)
column-uncited (close ∷ ls) l = ap (λ (xs : List CertLine). close ∷ xs) (column-uncited ls l)

column-counted : (ls : List CertLine) (l : ColumnLine) → columns_among (ls ++ plain_column l ∷ []) ≡ columns_among ls + 1
column-counted [] l = refl
column-counted (entry h ∷ ls) l = column-counted ls l
column-counted (range low high r ∷ ls) l = column-counted ls l
column-counted (column c ∷ ls) l = let k = column-counted ls l in omega arith
column-counted (close ∷ ls) l = column-counted ls l

column-numbered : (n : ℕ) (ls : List CertLine) (l : ColumnLine) → numbers_from n (ls ++ plain_column l ∷ []) ≡ numbers_from n ls
column-numbered n [] l = refl
column-numbered n (entry h ∷ ls) l = ap (λ (ns : List ℕ). n ∷ ns) (column-numbered (n + 1) ls l)
column-numbered n (range low high r ∷ ls) l = ap (λ (ns : List ℕ). n ∷ ns) (column-numbered (n + 1) ls l)
column-numbered n (column c ∷ ls) l = column-numbered (n + 1) ls l
column-numbered n (close ∷ ls) l = column-numbered (n + 1) ls l

-- the place doesn't depend on the sizes
pub same-place : (p : Place) (c d : CitedLine) → place_after p (column c) ≡ place_after p (column d)
same-place no_range c d = refl
same-place no_column c d = refl
same-place any_line c d = refl

pub column-step : (second : Bool) (n : ℕ) (b next : Building) (l : ColumnLine) (c : Cites) → IsBuilt second n b
    → (second ≡ false → c.sizes ≡ []) → Takes b (plain_column l) next
    → next.cites ≡ cond second (b.cites ++ c ∷ []) b.cites → next.numbers ≡ b.numbers
    → Steps second n b (column (record { line = l; cites = c.sizes })) next
column-step second n b next l c built none takes cites numbers = record {
  built = record { held = takes.held; cites = has second built.cites cites; numbers = numbered };
  lines = go second built.cites none cites;
  count = ap (λ (ls : List CertLine). length ls) takes.lines ∙ one-more (taken b) (plain_column l);
  place = same-place (place_of b) (record { line = l; cites = c.sizes }) (record { line = l; cites = [] }) ∙ takes.place;
}
  where
    has : (second : Bool) → HasCites second b.cites (taken b) → next.cites ≡ cond second (b.cites ++ c ∷ []) b.cites
        → HasCites second next.cites (taken next)
    has false h e = e ∙ h
    has true h e =
        let long = length-append b.cites (c ∷ []) in
        let k = column-counted (taken b) l in
        let f = ap (λ (cs : List Cites). length cs) e in
        let g = ap columns_among takes.lines in
        omega arith

    go : (second : Bool) → HasCites second b.cites (taken b) → (second ≡ false → c.sizes ≡ [])
        → next.cites ≡ cond second (b.cites ++ c ∷ []) b.cites
        → lines_taken next ≡ lines_taken b ++ column (record { line = l; cites = c.sizes }) ∷ []
    go false h none e =
        ap (λ (cs : List Cites). with_cites cs (taken next)) (e ∙ h) ∙ ap (λ (ls : List CertLine). with_cites [] ls) takes.lines
        ∙ column-uncited (taken b) l
        ∙ ap (λ (cs : List Cites). with_cites cs (taken b) ++ plain_column l ∷ []) (sym h)
        ∙ ap (λ (ns : List ℕ). lines_taken b ++ column (record { line = l; cites = ns }) ∷ []) (sym (none refl))
    go true h none e =
        ap (λ (cs : List Cites). with_cites cs (taken next)) e
        ∙ ap (λ (ls : List CertLine). with_cites (b.cites ++ c ∷ []) ls) takes.lines ∙ column-cited b.cites c (taken b) l h

    numbered : next.numbers ≡ numbers_from n (taken next)
    numbered = numbers ∙ built.numbers ∙ sym (column-numbered n (taken b) l) ∙ ap (numbers_from n) (sym takes.lines)

pub ruleset close_rules = (range-closed, no-range-closed, entry-closed, no-entry-closed)

pub ruleset take_rules = (
  entry-taken,
  range-taken,
  column-taken,
  no-range-place,
  no-column-place,
  mark-step,
  column-step,
  same-place,
)
