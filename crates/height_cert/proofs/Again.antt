-- Certificates are read again as themselves.
use Rattle.std.proofs.Common.{◌≡◌, ℕ, ◌+◌, ◌≤◌, true, false, List, [], ◌∷◌, ◌++◌, length, drop, refl, sym, ◌∙◌}
use Rattle.std.proofs.Common.{ap, subst, arith, zero, suc}
use Rattle.std.specs.Prelude.{codes, All, Ok}
use Rattle.std.specs.List.{flat_map}
use Rattle.std.proofs.lemmas.List.{append_assoc, drop-drop, length-drop}
use Rattle.std.proofs.lemmas.List.Elements.{All-nil, All-cons, All-head, All-tail}
use Rattle.flow_text.specs.Numbers.{IsNumber}
use Rattle.flow_list.specs.Column.{ColumnLine}
use Rattle.flow_list.specs.Ranges.{Reason, tall, area, left, bad, over, Range}
use Rattle.height_cert.specs.declared.cert.Cites.{Cites}
use Rattle.height_cert.specs.declared.cert.Cert.{Cert}
use Rattle.height_cert.specs.declared.cert.CertEntry.{CertEntry}
use Rattle.height_cert.specs.declared.cert.CertEntry.TheVariants.{Size, Row, Auto}
use Rattle.height_cert.specs.Certs.{head_of, ranges_in, first_cites, cited, given_ranges, column_count, line_count, given_entries}
use Rattle.height_cert.specs.Certs.{line_after, with_cert, result_text}
use Rattle.height_cert.specs.Laws.{IsFitLine, IsFitRange, IsFitEntry, IsFitCites, columns_count, HasAllCites, CanBeRead}
use Rattle.height_cert.proofs.Texts.{entries-anywhere}
use Rattle.result_laws.specs.Clauses.{tells}
use Rattle.result_laws.specs.Given.{CitedLine, GivenRange, GivenEntry, GivenResult, IsCitedLine, MayHave, MayRange, RangesStand}
use Rattle.result_laws.specs.Given.{EntriesStand, IsTreeText, IsResult, entry_texts, ended_lines}
use Rattle.result_laws.specs.Reading.{result_of}
use Rattle.result_laws.proofs.TextRead.{reads}

-- ---- the entries stand from a line on

cites-after : (k : ℕ) (cites : List Cites) → All IsFitCites cites → All IsFitCites (drop k cites)
cites-after zero cites a = a
cites-after (suc k) [] a = a
cites-after (suc k) (c ∷ cs) a = cites-after k cs (All-tail IsFitCites c cs a)

first-fit : (cites : List Cites) → All IsFitCites cites → All IsNumber (first_cites cites)
first-fit [] a = All-nil IsNumber
first-fit (c ∷ cs) a = All-head IsFitCites c cs a

cited-fit : (cites : List Cites) (ls : List ColumnLine) → All IsFitCites cites → All IsFitLine ls
    → All (IsCitedLine true) (cited cites ls)
cited-fit cites [] a b = All-nil (IsCitedLine true)
cited-fit cites (l ∷ ls) a b =
    let k = All-head IsFitLine l ls b in
    All-cons (IsCitedLine true) (record { line = l; cites = first_cites cites }) (cited (drop 1 cites) ls)
    (k.0, k.1, k.2, first-fit cites a, λ e. absurd cc) (cited-fit (drop 1 cites) ls (cites-after 1 cites a)
    (All-tail IsFitLine l ls b))

cited-length : (cites : List Cites) (ls : List ColumnLine) → length (cited cites ls) ≡ length ls
cited-length cites [] = refl
cited-length cites (l ∷ ls) = let k = cited-length (drop 1 cites) ls in omega arith

may-have : (r : Reason) (cites : List Cites) (ls : List ColumnLine) → (tells r ≡ false → ls ≡ []) → MayHave r (cited cites ls)
may-have (tall k) cites ls none = ap (cited cites) (none refl)
may-have area cites ls none = ap (cited cites) (none refl)
may-have (left q) cites ls none = tt
may-have (bad c) cites ls none = tt
may-have (over c) cites ls none = tt

ranges-fit : (n m : ℕ) (cites : List Cites) (xs : List Range) → All IsFitCites cites → All IsFitRange xs → m ≡ n + line_count xs
    → RangesStand true n (given_ranges n cites xs) m
ranges-fit n m cites [] a b e = omega arith
ranges-fit n m cites (x ∷ xs) a b e =
    let k = All-head IsFitRange x xs b in
    let long = cited-length cites x.lines in
    let same : n + 1 + length x.lines ≡ n + 1 + length (cited cites x.lines) = omega arith in (
      refl,
      k.0,
      k.1,
      k.2,
      cited-fit cites x.lines a k.3,
      may-have x.reason cites x.lines k.4,
      subst (λ (j : ℕ). RangesStand true j (given_ranges (n + 1 + length x.lines) (drop (length x.lines) cites) xs) m) same
          (ranges-fit (n + 1 + length x.lines) m (drop (length x.lines) cites) xs (cites-after (length x.lines) cites a)
          (All-tail IsFitRange x xs b) (omega arith)),
    )

may-range : (n : ℕ) (cites : List Cites) (e : CertEntry) → MayRange (head_of e) (given_ranges n cites (ranges_in e))
may-range n cites (Size e) = tt
may-range n cites (Row row available height fits ranges) = tt
may-range n cites (Auto row available height) = refl

entries-fit : (n : ℕ) (cites : List Cites) (es : List CertEntry) → All IsFitCites cites → All IsFitEntry es
    → EntriesStand true n (given_entries n cites es) (line_after n es)
entries-fit n cites [] a b = refl
entries-fit n cites (e ∷ es) a b =
    let k = All-head IsFitEntry e es b in (
      refl,
      k.0,
      may-range (n + 1) cites e,
      n + 1 + line_count (ranges_in e),
      ranges-fit (n + 1) (n + 1 + line_count (ranges_in e)) cites (ranges_in e) a k.1 refl,
      entries-fit (n + 1 + line_count (ranges_in e)) (drop (column_count (ranges_in e)) cites) es
          (cites-after (column_count (ranges_in e)) cites a) (All-tail IsFitEntry e es b),
    )

cert-result : (tree : List (List ℕ)) (c : Cert) → CanBeRead c → All IsTreeText tree
    → IsResult (result_text tree c) (with_cert true tree c)
cert-result tree c can a = record {
  spelled =
      ap (λ ts. ended_lines (codes "mcol 2" ∷ tree ++ (codes "cert" ∷ ts ++ codes "end" ∷ [])))
      (entries-anywhere 0 (3 + length tree) c.cites c.entries)
      ∙ ap (λ ts. ended_lines (codes "mcol 2" ∷ ts))
      (sym (append_assoc tree (codes "cert" ∷ flat_map entry_texts (given_entries (3 + length tree) c.cites c.entries))
      (codes "end" ∷ [])));
  tree = a;
  cert_at = refl;
  entries =
      let at : 3 + length tree ≡ 2 + length tree + 1 = omega arith in
      subst (λ (n : ℕ). EntriesStand true n (given_entries (3 + length tree) c.cites c.entries)
      (line_after (3 + length tree) c.entries)) at (entries-fit (3 + length tree) c.cites c.entries can.cites can.entries);
}

pub read : (tree : List (List ℕ)) (c : Cert) → CanBeRead c → All IsTreeText tree
    → result_of (result_text tree c) ≡ Ok (with_cert true tree c)
read tree c can a = reads (result_text tree c) (with_cert true tree c) (cert-result tree c can a)

-- ---- one certificate for its entries

-- equal lines are the same, and the lists that they cite; with equal lists after them, all lists are the same
record CitedSame (cs ds : List Cites) (ls ms : List ColumnLine) : Type 0 where
  lines : ls ≡ ms
  lists : drop (length ls) cs ≡ drop (length ms) ds → cs ≡ ds

cited-same : (cs ds : List Cites) (ls ms : List ColumnLine) → length ls ≤ length cs → length ms ≤ length ds
    → cited cs ls ≡ cited ds ms → CitedSame cs ds ls ms
cited-same cs ds [] [] a b e = record { lines = refl; lists = λ k. k }
cited-same cs ds [] (m ∷ ms) a b e = absurd cc
cited-same cs ds (l ∷ ls) [] a b e = absurd cc
cited-same [] ds (l ∷ ls) (m ∷ ms) a b e = absurd (omega arith)
cited-same (c ∷ cs) [] (l ∷ ls) (m ∷ ms) a b e = absurd (omega arith)
cited-same (c ∷ cs) (d ∷ ds) (l ∷ ls) (m ∷ ms) a b e =
    let h : ◌≡◌ {A = CitedLine} (record { line = l; cites = c.sizes }) (record { line = m; cites = d.sizes }) = cc in
    let t : cited cs ls ≡ cited ds ms = cc in
    let k = cited-same cs ds ls ms (omega arith) (omega arith) t in
    let lines = k.lines in
    let line : l ≡ m = ap (λ (x : CitedLine). x.line) h in
    let sizes : c.sizes ≡ d.sizes = ap (λ (x : CitedLine). x.cites) h in
    let list : c ≡ d = ap (λ (s : List ℕ). record { sizes = s }) sizes in
    record { lines = cc; lists = λ f. let rest = k.lists f in cc }

-- what follows equal lists of lists after some of them
drop-both : (j k j' k' : ℕ) (cs ds : List Cites) → drop (j + k) cs ≡ drop (j' + k') ds
    → drop k (drop j cs) ≡ drop k' (drop j' ds)
drop-both j k j' k' cs ds e = drop-drop k j cs ∙ e ∙ sym (drop-drop k' j' ds)

drop-length : (k : ℕ) (cs : List Cites) (n : ℕ) → k + n ≤ length cs → n ≤ length (drop k cs)
drop-length zero cs n le = omega arith
drop-length (suc k) [] n le = absurd (omega arith)
drop-length (suc k) (c ∷ cs) n le = drop-length k cs n (omega arith)

record RangesSame (cs ds : List Cites) (xs ys : List Range) : Type 0 where
  ranges : xs ≡ ys
  lists : drop (column_count xs) cs ≡ drop (column_count ys) ds → cs ≡ ds

ranges-same : (n m : ℕ) (cs ds : List Cites) (xs ys : List Range) → column_count xs ≤ length cs → column_count ys ≤ length ds
    → given_ranges n cs xs ≡ given_ranges m ds ys → RangesSame cs ds xs ys
ranges-same n m cs ds [] [] a b e = record { ranges = refl; lists = λ k. k }
ranges-same n m cs ds [] (y ∷ ys) a b e = absurd cc
ranges-same n m cs ds (x ∷ xs) [] a b e = absurd cc
ranges-same n m cs ds (x ∷ xs) (y ∷ ys) a b e =
    let p : GivenRange = record { at = n; low = x.low; high = x.high; reason = x.reason; columns = cited cs x.lines } in
    let q : GivenRange = record { at = m; low = y.low; high = y.high; reason = y.reason; columns = cited ds y.lines } in
    let ps = given_ranges (n + 1 + length x.lines) (drop (length x.lines) cs) xs in
    let qs = given_ranges (m + 1 + length y.lines) (drop (length y.lines) ds) ys in
    let h : p ≡ q = head-same p q ps qs e in
    let t : ps ≡ qs = tail-same p q ps qs e in
    let k = cited-same cs ds x.lines y.lines (omega arith) (omega arith) (ap (λ (r : GivenRange). r.columns) h) in
    let l = ranges-same (n + 1 + length x.lines) (m + 1 + length y.lines) (drop (length x.lines) cs) (drop (length y.lines) ds)
    xs ys (drop-length (length x.lines) cs (column_count xs) (omega arith))
    (drop-length (length y.lines) ds (column_count ys) (omega arith)) t in
    let low : x.low ≡ y.low = ap (λ (r : GivenRange). r.low) h in
    let high : x.high ≡ y.high = ap (λ (r : GivenRange). r.high) h in
    let reason : x.reason ≡ y.reason = ap (λ (r : GivenRange). r.reason) h in
    let lines : x.lines ≡ y.lines = k.lines in
    let one : x ≡ y = range-is x y low high reason lines in
    let rest : xs ≡ ys = l.ranges in
    record {
      ranges = cc;
      lists = λ f.
          k.lists (l.lists (drop-both (length x.lines) (column_count xs) (length y.lines) (column_count ys) cs ds f));
    }
  where
    head-same : (p q : GivenRange) (ps qs : List GivenRange) → p ∷ ps ≡ q ∷ qs → p ≡ q
    head-same p q ps qs e = cc

    tail-same : (p q : GivenRange) (ps qs : List GivenRange) → p ∷ ps ≡ q ∷ qs → ps ≡ qs
    tail-same p q ps qs e = cc

    range-is : (x y : Range) → x.low ≡ y.low → x.high ≡ y.high → x.reason ≡ y.reason → x.lines ≡ y.lines → x ≡ y
    range-is x y a b c d =
        ap (λ (n : ℕ). record { low = n; high = x.high; reason = x.reason; lines = x.lines }) a
        ∙ ap (λ (n : ℕ). record { low = y.low; high = n; reason = x.reason; lines = x.lines }) b
        ∙ ap (λ (r : Reason). record { low = y.low; high = y.high; reason = r; lines = x.lines }) c
        ∙ ap (λ (ls : List ColumnLine). record { low = y.low; high = y.high; reason = y.reason; lines = ls }) d

-- an entry is its head and its ranges
entry-is : (e f : CertEntry) → head_of e ≡ head_of f → ranges_in e ≡ ranges_in f → e ≡ f
entry-is (Size e) (Size f) h r =
    let row : e.row ≡ f.row = cc in
    let from : e.from ≡ f.from = cc in
    let height : e.height ≡ f.height = cc in
    ap Size
    (ap (λ (n : ℕ). record { row = n; from = e.from; height = e.height; ranges = e.ranges }) row
    ∙ ap (λ (q : List ℕ). record { row = f.row; from = q; height = e.height; ranges = e.ranges }) from
    ∙ ap (λ (n : ℕ). record { row = f.row; from = f.from; height = n; ranges = e.ranges }) height
    ∙ ap (λ (xs : List Range). record { row = f.row; from = f.from; height = f.height; ranges = xs }) r)
entry-is (Size e) (Row row available height fits ranges) h r = absurd cc
entry-is (Size e) (Auto row available height) h r = absurd cc
entry-is (Row row available height fits ranges) (Size f) h r = absurd cc
entry-is (Row n a h f xs) (Row n' a' h' f' xs') e r =
    let row : n ≡ n' = cc in
    let available : a ≡ a' = cc in
    let height : h ≡ h' = cc in
    let fits : f ≡ f' = cc in
    cc
entry-is (Row n a h f xs) (Auto n' a' h') e r = absurd cc
entry-is (Auto n a h) (Size f) e r = absurd cc
entry-is (Auto n a h) (Row n' a' h' f xs) e r = absurd cc
entry-is (Auto n a h) (Auto n' a' h') e r =
    let row : n ≡ n' = cc in let available : a ≡ a' = cc in let height : h ≡ h' = cc in cc

record EntriesSame (cs ds : List Cites) (es fs : List CertEntry) : Type 0 where
  entries : es ≡ fs
  lists : cs ≡ ds

entries-same : (n m : ℕ) (cs ds : List Cites) (es fs : List CertEntry) → length cs ≡ columns_count es
    → length ds ≡ columns_count fs → given_entries n cs es ≡ given_entries m ds fs → EntriesSame cs ds es fs
entries-same n m [] [] [] [] a b e = record { entries = refl; lists = refl }
entries-same n m (c ∷ cs) ds [] fs a b e = absurd (omega arith)
entries-same n m cs (d ∷ ds) es [] a b e = absurd (omega arith)
entries-same n m cs ds [] (f ∷ fs) a b e = absurd cc
entries-same n m cs ds (e ∷ es) [] a b g = absurd cc
entries-same n m cs ds (e ∷ es) (f ∷ fs) a b g =
    let p : GivenEntry = record { at = n; head = head_of e; ranges = given_ranges (n + 1) cs (ranges_in e) } in
    let q : GivenEntry = record { at = m; head = head_of f; ranges = given_ranges (m + 1) ds (ranges_in f) } in
    let ps = given_entries (n + 1 + line_count (ranges_in e)) (drop (column_count (ranges_in e)) cs) es in
    let qs = given_entries (m + 1 + line_count (ranges_in f)) (drop (column_count (ranges_in f)) ds) fs in
    let h : p ≡ q = head-same p q ps qs g in
    let t : ps ≡ qs = tail-same p q ps qs g in
    let k = ranges-same (n + 1) (m + 1) cs ds (ranges_in e) (ranges_in f) (omega arith) (omega arith)
    (ap (λ (x : GivenEntry). x.ranges) h) in
    let long = length-drop (column_count (ranges_in e)) cs in
    let long' = length-drop (column_count (ranges_in f)) ds in
    let l = entries-same (n + 1 + line_count (ranges_in e)) (m + 1 + line_count (ranges_in f))
    (drop (column_count (ranges_in e)) cs) (drop (column_count (ranges_in f)) ds) es fs (omega arith) (omega arith) t in
    let one : e ≡ f = entry-is e f (ap (λ (x : GivenEntry). x.head) h) k.ranges in
    let rest : es ≡ fs = l.entries in
    record { entries = cc; lists = k.lists l.lists }
  where
    head-same : (p q : GivenEntry) (ps qs : List GivenEntry) → p ∷ ps ≡ q ∷ qs → p ≡ q
    head-same p q ps qs e = cc

    tail-same : (p q : GivenEntry) (ps qs : List GivenEntry) → p ∷ ps ≡ q ∷ qs → ps ≡ qs
    tail-same p q ps qs e = cc

pub alone : (tree other : List (List ℕ)) (c d : Cert) → HasAllCites c → HasAllCites d
    → with_cert true tree c ≡ with_cert true other d → (tree ≡ other) × (c ≡ d)
alone tree other c d a b e =
    let k = entries-same (3 + length tree) (3 + length other) c.cites d.cites c.entries d.entries a b
    (ap (λ (r : GivenResult). r.entries) e) in
    let entries : c.entries ≡ d.entries = k.entries in
    let lists : c.cites ≡ d.cites = k.lists in (
      ap (λ (r : GivenResult). r.tree) e,
      ap (λ (es : List CertEntry). record { entries = es; cites = c.cites }) entries
          ∙ ap (λ (cs : List Cites). record { entries = d.entries; cites = cs }) lists,
    )
