-- The texts of entries, part by part.
use Rattle.std.proofs.Common.{◌≡◌, ℕ, ◌+◌, ◌<◌, ◌≤◌, List, [], ◌∷◌, ◌++◌, length, map, drop, get_or, refl, sym, ◌∙◌, ap}
use Rattle.std.specs.Prelude.{codes}
use Rattle.std.specs.Fmt.{decimal}
use Rattle.std.specs.List.{flat_map}
use Rattle.std.proofs.lemmas.Grind.{flat_map-append}
use Rattle.std.proofs.lemmas.List.{append_assoc, append-nil, drop-drop, drop_more, drop_all}
use Rattle.flow_list.specs.Column.{ColumnLine}
use Rattle.flow_list.specs.Ranges.{Range}
use Rattle.flow_list.specs.ResultText.{line_words, reason_words}
use Rattle.height_cert.specs.declared.cert.Cites.{Cites}
use Rattle.height_cert.specs.declared.cert.CertEntry.{CertEntry}
use Rattle.height_cert.specs.Certs.{given_ranges, given_entries, ranges_in, line_count, column_count, cited, head_of, first_cites}
use Rattle.result_laws.specs.Given.{range_texts, entry_texts, ended_lines, cited_text, head_words}

-- the texts are the same on any line
pub ranges-anywhere : (n m : ℕ) (cites : List Cites) (xs : List Range)
    → flat_map range_texts (given_ranges n cites xs) ≡ flat_map range_texts (given_ranges m cites xs)
ranges-anywhere n m cites [] = refl
ranges-anywhere n m cites (x ∷ xs) =
    ap (λ ts. range_texts (record { at = 0; low = x.low; high = x.high; reason = x.reason; columns = cited cites x.lines }) ++ ts)
    (ranges-anywhere (n + 1 + length x.lines) (m + 1 + length x.lines) (drop (length x.lines) cites) xs)

pub entries-anywhere : (n m : ℕ) (cites : List Cites) (es : List CertEntry)
    → flat_map entry_texts (given_entries n cites es) ≡ flat_map entry_texts (given_entries m cites es)
entries-anywhere n m cites [] = refl
entries-anywhere n m cites (e ∷ es) =
    ap (λ ts. (entry_texts (record { at = 0; head = head_of e; ranges = [] }) ++ ts)
    ++ flat_map entry_texts (given_entries (n + 1 + line_count (ranges_in e)) (drop (column_count (ranges_in e)) cites) es))
    (ranges-anywhere (n + 1) (m + 1) cites (ranges_in e))
    ∙ ap (λ ts. entry_texts (record { at = 0; head = head_of e; ranges = given_ranges (m + 1) cites (ranges_in e) }) ++ ts)
    (entries-anywhere (n + 1 + line_count (ranges_in e)) (m + 1 + line_count (ranges_in e))
    (drop (column_count (ranges_in e)) cites) es)

-- ---- the steps of writing

-- a line, and what follows it
line-on : (out t rest : List ℕ) → ((out ++ t) ++ 10 ∷ []) ++ rest ≡ out ++ ((t ++ 10 ∷ []) ++ rest)
line-on out t rest = simp append_assoc

abbrev columns_text : List Cites → List ColumnLine → List ℕ
columns_text cites ls = ended_lines (map cited_text (cited cites ls))

-- a column line is written
pub column-step : (out now start : List ℕ) (cites : List Cites) (ls : List ColumnLine) (i : ℕ) (l : ColumnLine) → i < length ls
    → l ≡ get_or ls i l → now ≡ (out ++ cited_text (record { line = l; cites = first_cites cites })) ++ 10 ∷ []
    → out ++ columns_text cites (drop i ls) ≡ start → now ++ columns_text (drop 1 cites) (drop (i + 1) ls) ≡ start
column-step out now start cites ls i l lt is e so =
    let t = cited_text (record { line = l; cites = first_cites cites }) in
    let rest = columns_text (drop 1 cites) (drop (i + 1) ls) in
    let there : drop i ls ≡ l ∷ drop (i + 1) ls =
    drop_more ls i l lt ∙ ap (λ (x : ColumnLine). x ∷ drop (i + 1) ls) (sym is) in
    ap (λ (bs : List ℕ). bs ++ rest) e ∙ line-on out t rest
    ∙ ap (λ (xs : List ColumnLine). out ++ columns_text cites xs) (sym there) ∙ so

abbrev ranges_text : ℕ → List Cites → List Range → List ℕ
ranges_text n cites xs = ended_lines (flat_map range_texts (given_ranges n cites xs))

abbrev bounds_text : Range → List ℕ
bounds_text x = line_words (codes "range" ∷ decimal x.low ∷ decimal x.high ∷ reason_words x.reason)

-- a range is written
pub range-step : (out bounds now start : List ℕ) (cites : List Cites) (xs : List Range) (i : ℕ) (x : Range) → i < length xs
    → x ≡ get_or xs i x → bounds ≡ (out ++ bounds_text x) ++ 10 ∷ [] → now ≡ bounds ++ columns_text cites x.lines
    → out ++ ranges_text 0 cites (drop i xs) ≡ start
    → now ++ ranges_text 0 (drop (length x.lines) cites) (drop (i + 1) xs) ≡ start
range-step out bounds now start cites xs i x lt is e f so =
    let n = 0 + 1 + length x.lines in
    let cs = drop (length x.lines) cites in
    let later = drop (i + 1) xs in
    let there : drop i xs ≡ x ∷ later = drop_more xs i x lt ∙ ap (λ (y : Range). y ∷ later) (sym is) in
    let moved : ranges_text 0 cs later ≡ ranges_text n cs later = ap ended_lines (ranges-anywhere 0 n cs later) in
    let whole : ranges_text 0 cites (x ∷ later)
    ≡ (bounds_text x ++ 10 ∷ []) ++ (columns_text cites x.lines ++ ranges_text n cs later) =
    ap (λ (bs : List ℕ). (bounds_text x ++ 10 ∷ []) ++ bs)
    (flat_map-append (λ (t : List ℕ). t ++ 10 ∷ []) (map cited_text (cited cites x.lines))
    (flat_map range_texts (given_ranges n cs later))) in
    ap (λ (bs : List ℕ). bs ++ ranges_text 0 cs later) f
    ∙ append_assoc bounds (columns_text cites x.lines) (ranges_text 0 cs later)
    ∙ ap (λ (bs : List ℕ). bs ++ (columns_text cites x.lines ++ ranges_text 0 cs later)) e
    ∙ line-on out (bounds_text x) (columns_text cites x.lines ++ ranges_text 0 cs later)
    ∙ ap (λ (bs : List ℕ). out ++ ((bounds_text x ++ 10 ∷ []) ++ (columns_text cites x.lines ++ bs))) moved
    ∙ ap (λ (bs : List ℕ). out ++ bs) (sym whole)
    ∙ ap (λ (ys : List Range). out ++ ranges_text 0 cites ys) (sym there) ∙ so

pub range-lists : (cites rest now : List Cites) (xs : List Range) (i : ℕ) (x : Range) → i < length xs → x ≡ get_or xs i x
    → now ≡ drop (length x.lines) rest → drop (column_count (drop i xs)) rest ≡ cites
    → drop (column_count (drop (i + 1) xs)) now ≡ cites
range-lists cites rest now xs i x lt is e so =
    let later = drop (i + 1) xs in
    let there : drop i xs ≡ x ∷ later = drop_more xs i x lt ∙ ap (λ (y : Range). y ∷ later) (sym is) in
    ap (λ (cs : List Cites). drop (column_count later) cs) e ∙ drop-drop (column_count later) (length x.lines) rest
    ∙ ap (λ (ys : List Range). drop (column_count ys) rest) (sym there) ∙ so

-- all ranges are written
pub ranges-end : (n : ℕ) (out start : List ℕ) (cites rest : List Cites) (xs : List Range) (i : ℕ) → length xs ≤ i
    → out ++ ranges_text 0 rest (drop i xs) ≡ start ++ ranges_text 0 cites xs → out ≡ start ++ ranges_text n cites xs
ranges-end n out start cites rest xs i le so =
    sym (ap (λ (ys : List Range). out ++ ranges_text 0 rest ys) (drop_all i xs le) ∙ append-nil out) ∙ so
    ∙ ap (λ ts. start ++ ended_lines ts) (ranges-anywhere 0 n cites xs)

abbrev entries_text : ℕ → List Cites → List CertEntry → List ℕ
entries_text n cites es = ended_lines (flat_map entry_texts (given_entries n cites es))

abbrev head_text : CertEntry → List ℕ
head_text e = line_words (head_words (head_of e))

-- an entry is written
pub entry-step : (out head now start : List ℕ) (cites : List Cites) (es : List CertEntry) (i : ℕ) (e : CertEntry) → i < length es
    → e ≡ get_or es i e → head ≡ (out ++ head_text e) ++ 10 ∷ [] → now ≡ head ++ ranges_text 1 cites (ranges_in e)
    → out ++ entries_text 0 cites (drop i es) ≡ start
    → now ++ entries_text 0 (drop (column_count (ranges_in e)) cites) (drop (i + 1) es) ≡ start
entry-step out head now start cites es i e lt is f g so =
    let n = 0 + 1 + line_count (ranges_in e) in
    let cs = drop (column_count (ranges_in e)) cites in
    let later = drop (i + 1) es in
    let ranges = ranges_text 1 cites (ranges_in e) in
    let there : drop i es ≡ e ∷ later = drop_more es i e lt ∙ ap (λ (y : CertEntry). y ∷ later) (sym is) in
    let moved : entries_text 0 cs later ≡ entries_text n cs later = ap ended_lines (entries-anywhere 0 n cs later) in
    let whole : entries_text 0 cites (e ∷ later) ≡ (head_text e ++ 10 ∷ []) ++ (ranges ++ entries_text n cs later) =
    ap (λ (bs : List ℕ). (head_text e ++ 10 ∷ []) ++ bs)
    (flat_map-append (λ (t : List ℕ). t ++ 10 ∷ []) (flat_map range_texts (given_ranges 1 cites (ranges_in e)))
    (flat_map entry_texts (given_entries n cs later))) in
    ap (λ (bs : List ℕ). bs ++ entries_text 0 cs later) g ∙ append_assoc head ranges (entries_text 0 cs later)
    ∙ ap (λ (bs : List ℕ). bs ++ (ranges ++ entries_text 0 cs later)) f
    ∙ line-on out (head_text e) (ranges ++ entries_text 0 cs later)
    ∙ ap (λ (bs : List ℕ). out ++ ((head_text e ++ 10 ∷ []) ++ (ranges ++ bs))) moved
    ∙ ap (λ (bs : List ℕ). out ++ bs) (sym whole)
    ∙ ap (λ (ys : List CertEntry). out ++ entries_text 0 cites ys) (sym there) ∙ so

pub entries-end : (n : ℕ) (out start : List ℕ) (cites rest : List Cites) (es : List CertEntry) (i : ℕ) → length es ≤ i
    → out ++ entries_text 0 rest (drop i es) ≡ start ++ entries_text 0 cites es → out ≡ start ++ entries_text n cites es
entries-end n out start cites rest es i le so =
    sym (ap (λ (ys : List CertEntry). out ++ entries_text 0 rest ys) (drop_all i es le) ∙ append-nil out) ∙ so
    ∙ ap (λ ts. start ++ ended_lines ts) (entries-anywhere 0 n cites es)
