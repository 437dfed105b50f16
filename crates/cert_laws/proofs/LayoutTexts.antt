-- The certificate that is made of a layout is the layout's.
use Rattle.std.proofs.Common.{◌≡◌, ℕ, zero, suc, ◌+◌, ◌-◌, ◌≤◌, Bool, true, false, List, [], ◌∷◌, ◌++◌}
use Rattle.std.proofs.Common.{length, map, take, drop, refl}
use Rattle.std.proofs.Common.{sym, ◌∙◌, ap, cond, arith, Option, Some, None, inl, inr}
use Rattle.std.specs.Prelude.{◌⊎◌, codes, All, max, min, nat_lt}
use Rattle.std.specs.Fmt.{decimal}
use Rattle.std.specs.List.{flat_map}
use Rattle.std.proofs.lemmas.Grind.{flat_map-append}
use Rattle.std.proofs.lemmas.List.{drop-take}
use Rattle.std.proofs.lemmas.List.Elements.{All-nil, All-cons, All-head, All-tail, All-take, All-drop, All-append}
use Rattle.flow_list.specs.Column.{ColumnLine}
use Rattle.flow_list.specs.Data.{FlowsData}
use Rattle.flow_data.specs.Flows.{row_of, flow_in}
use Rattle.flow_list.specs.Certificate.{Use, StackRow, size_entry, row_entry, auto_entry, entry_of, row_book, entries_behind}
use Rattle.flow_list.specs.Certificate.{rows_in_stacks, certificate, size_ranges, row_ranges, range_owned}
use Rattle.flow_list.specs.Entries.{use_of, uses_in}
use Rattle.flow_list.specs.Ranges.{Range, Reason, ranges, searched, range_up_to, judged}
use Rattle.flow_list.specs.Ranges.{lines_of, reason_of, least_bound, bounds_of}
use Rattle.flow_list.specs.Ranges.{is_past, top_of, tallest_from, spread, atoms_height, tall, area}
use Rattle.flow_list.specs.Rows.{all_rows, most_columns, reach}
use Rattle.flow_list.specs.ResultText.{line_words, reason_words, number_in, column_line, column_lines, range_lines, entry_lines}
use Rattle.flow_list.specs.ResultText.{certificate_lines, number_or_dash}
use Rattle.flow_list.specs.RowHeights.{size_of, row_height, balanced_fits}
use Rattle.flow_list.specs.Tokens.{Token, row_start}
use Rattle.flow_list.specs.TreeText.{token_text}
use Rattle.flow_list.specs.declared.book.SizeEntry.{SizeEntry}
use Rattle.flow_list.specs.declared.laid.LaidRow.{LaidRow}
use Rattle.height_cert.specs.declared.cert.CertEntry.{CertEntry}
use Rattle.height_cert.specs.declared.cert.CertEntry.TheVariants.{Size, Row, Auto}
use Rattle.height_cert.specs.Certs.{cited}
use Rattle.result_laws.specs.Given.{cited_text, column_words, fits_text}
use Rattle.cite_laws.specs.Starts.{rows_of_lines}
use Rattle.cite_laws.proofs.Telling.{tell}
use Rattle.cert_laws.specs.Made.{as_cites, entry_of_row, entries_made}
use Rattle.cert_laws.specs.Laid.{IsSizeEntry, IsLaidRow, AreLaidRows, MadeIsLayouts}
use Rattle.cert_laws.proofs.MadeTexts as texts
use Rattle.cert_laws.proofs.MadeTexts.{made_range, made_entry}

-- ---- column lines

numbers-same : (bk us : List Use) → map decimal (map (number_in bk) us) ≡ map (λ u. decimal (number_in bk u)) us
numbers-same bk [] = refl
numbers-same bk (u ∷ us) = ap (λ ts. decimal (number_in bk u) ∷ ts) (numbers-same bk us)

columns-same : (book : List SizeEntry) (ls : List ColumnLine) (uss : List (List Use))
    → map cited_text (cited (map (as_cites book) uss) ls) ≡ column_lines (uses_in book) ls uss
columns-same book [] uss = refl
columns-same book (l ∷ ls) [] = ap (λ ts. column_line (uses_in book) l [] ∷ ts) (columns-same book ls [])
columns-same book (l ∷ ls) (us ∷ uss) =
    ap (λ ns. line_words (column_words l ++ ns) ∷ map cited_text (cited (map (as_cites book) uss) ls))
    (numbers-same (uses_in book) us)
    ∙ ap (λ ts. column_line (uses_in book) l us ∷ ts) (columns-same book ls uss)

-- ---- ranges

-- a range has the lines of the columns that are judged where it begins, or none
abbrev HasLines : FlowsData → ℕ → Token → Range → Type 0
HasLines d r q x = (x.lines ≡ []) ⊎ (x.lines ≡ lines_of (judged (all_rows d) d r q x.low))

range-same : (d : FlowsData) (book : List SizeEntry) (r : ℕ) (q : Token) (x : Range) → HasLines d r q x
    → made_range d book (r, q) x ≡ range_lines (uses_in book) (range_owned d r q) x
range-same d book r q x has = ap (λ ts. line_words (codes "range" ∷ decimal x.low ∷ decimal x.high ∷ reason_words x.reason) ∷ ts)
    (columns-same book x.lines (rows_of_lines d ((r, q) ∷ []) x.lines) ∙ go has)
  where
    go : HasLines d r q x
        → column_lines (uses_in book) x.lines (rows_of_lines d ((r, q) ∷ []) x.lines)
        ≡ column_lines (uses_in book) x.lines (range_owned d r q x)
    go (inl none) =
        ap (λ ls. column_lines (uses_in book) ls (rows_of_lines d ((r, q) ∷ []) ls)) none
        ∙ ap (λ ls. column_lines (uses_in book) ls (range_owned d r q x)) (sym none)
    go (inr is) =
        ap (column_lines (uses_in book) x.lines) (ap (rows_of_lines d ((r, q) ∷ [])) is ∙ tell d r q x)

ranges-same : (d : FlowsData) (book : List SizeEntry) (r : ℕ) (q : Token) (xs : List Range) → All (HasLines d r q) xs
    → flat_map (made_range d book (r, q)) xs ≡ flat_map (range_lines (uses_in book) (range_owned d r q)) xs
ranges-same d book r q [] a = refl
ranges-same d book r q (x ∷ xs) a =
    ap (λ ts. ts ++ flat_map (made_range d book (r, q)) xs) (range-same d book r q x (All-head (HasLines d r q) x xs a))
    ∙ ap (λ ts. range_lines (uses_in book) (range_owned d r q) x ++ ts)
    (ranges-same d book r q xs (All-tail (HasLines d r q) x xs a))

abbrev bare : ℕ → ℕ → Reason → Range
bare low high reason = record { low = low; high = high; reason = reason; lines = [] }

one-bare : (d : FlowsData) (r : ℕ) (q : Token) (low high : ℕ) (reason : Reason) (b : Bool)
    → All (HasLines d r q) (cond b (bare low high reason ∷ []) [])
one-bare d r q low high reason true = All-cons (HasLines d r q) (bare low high reason) [] (inl refl) (All-nil (HasLines d r q))
one-bare d r q low high reason false = All-nil (HasLines d r q)

bare-lines : (d : FlowsData) (r : ℕ) (q : Token) (top : Option ℕ) (low high : ℕ) (reason : Reason)
    → All (HasLines d r q) (range_up_to top low high reason)
bare-lines d r q None low high reason = one-bare d r q low high reason (nat_lt low high)
bare-lines d r q (Some top) low high reason = one-bare d r q low (min high top) reason (nat_lt low (min high top))

abbrev found : FlowsData → ℕ → Token → Option ℕ → ℕ → ℕ → Bool → Option Reason → Option ℕ → List Range
found d r q top n low past reason bound = elim past [
  | true ↦ []
  | false ↦ elim reason [
    | None ↦ []
    | Some reason ↦ elim bound [
      | None ↦ []
      | Some high ↦ record { low = low; high = high; reason = reason; lines = lines_of (judged (all_rows d) d r q low) }
          ∷ searched (all_rows d) d r q top n high
    ]
  ]
]

found-lines : (d : FlowsData) (r : ℕ) (q : Token) (top : Option ℕ) (n low : ℕ) (past : Bool) (reason : Option Reason)
    (bound : Option ℕ) → ((high : ℕ) → All (HasLines d r q) (searched (all_rows d) d r q top n high))
    → All (HasLines d r q) (found d r q top n low past reason bound)
found-lines d r q top n low true reason bound later = All-nil (HasLines d r q)
found-lines d r q top n low false None bound later = All-nil (HasLines d r q)
found-lines d r q top n low false (Some reason) None later = All-nil (HasLines d r q)
found-lines d r q top n low false (Some reason) (Some high) later =
    All-cons (HasLines d r q)
    (record { low = low; high = high; reason = reason; lines = lines_of (judged (all_rows d) d r q low) })
    (searched (all_rows d) d r q top n high) (inr refl) (later high)

searched-lines : (d : FlowsData) (r : ℕ) (q : Token) (top : Option ℕ) (n low : ℕ)
    → All (HasLines d r q) (searched (all_rows d) d r q top n low)
unfolding searched
searched-lines d r q top zero low = All-nil (HasLines d r q)
searched-lines d r q top (suc n) low =
    found-lines d r q top n low (is_past top low) (reason_of (flow_in d r) 1 q (judged (all_rows d) d r q low))
    (least_bound top (bounds_of (judged (all_rows d) d r q low))) (λ high. searched-lines d r q top n high)

ranges-lines : (d : FlowsData) (r : ℕ) (q : Token) (available : Option ℕ)
    → All (HasLines d r q) (ranges (all_rows d) d r q available)
unfolding ranges
ranges-lines d r q available =
    let f = flow_in d r in
    let top = top_of available in
    let tallest = tallest_from (all_rows d) d f q in
    let wide = spread (atoms_height f q) (most_columns (row_of d r).n f q) in
    All-append (HasLines d r q)
    (range_up_to top 0 tallest.need (tall tallest.item) ++ range_up_to top tallest.need wide area)
    (searched (all_rows d) d r q top (reach (all_rows d) d f q + 1) (max tallest.need wide))
    (All-append (HasLines d r q) (range_up_to top 0 tallest.need (tall tallest.item))
    (range_up_to top tallest.need wide area) (bare-lines d r q top 0 tallest.need (tall tallest.item))
    (bare-lines d r q top tallest.need wide area))
    (searched-lines d r q top (reach (all_rows d) d f q + 1) (max tallest.need wide))

-- ---- entries

size-same : (d : FlowsData) (book : List SizeEntry) (e : SizeEntry) → IsSizeEntry d e
    → made_entry d book (Size e) ≡ entry_lines d (uses_in book) (size_entry (use_of e))
size-same d book e is =
    ap (λ h. line_words (codes "size" ∷ decimal e.row ∷ token_text e.from ∷ decimal h ∷ [])
    ∷ flat_map (made_range d book (e.row, e.from)) e.ranges) is.0
    ∙ ap (λ ts. line_words (codes "size" ∷ decimal e.row ∷ token_text e.from ∷ decimal (size_of d e.row e.from) ∷ []) ∷ ts)
    (ap (flat_map (made_range d book (e.row, e.from))) is.1
    ∙ ranges-same d book e.row e.from (size_ranges d e.row e.from) (ranges-lines d e.row e.from None))

sizes-same : (d : FlowsData) (book es : List SizeEntry) → All (IsSizeEntry d) es
    → flat_map (made_entry d book) (map Size es) ≡ flat_map (entry_lines d (uses_in book)) (map size_entry (uses_in es))
sizes-same d book [] a = refl
sizes-same d book (e ∷ es) a =
    ap (λ ts. ts ++ flat_map (made_entry d book) (map Size es)) (size-same d book e (All-head (IsSizeEntry d) e es a))
    ∙ ap (λ ts. entry_lines d (uses_in book) (size_entry (use_of e)) ++ ts)
    (sizes-same d book es (All-tail (IsSizeEntry d) e es a))

-- a row of these parts
abbrev row_parts : Bool → ℕ → Option ℕ → ℕ → Bool → List Range → CertEntry
row_parts auto row available height fits ranges = cond auto (Auto row available height) (Row row available height fits ranges)

-- whether a row with `column-fill: auto` fits is no part of its entry
parts-fit : (auto : Bool) (row height : ℕ) (available : Option ℕ) (a b : Bool) (ranges : List Range) → (auto ≡ false → a ≡ b)
    → row_parts auto row available height a ranges ≡ row_parts auto row available height b ranges
parts-fit true row height available a b ranges same = refl
parts-fit false row height available a b ranges same = ap (λ (fits : Bool). Row row available height fits ranges) (same refl)

parts-same : (d : FlowsData) (r : LaidRow) (s : StackRow) → IsLaidRow d r s
    → entry_of_row r
    ≡ row_parts (row_of d s.row).auto s.row s.available (row_height d s.row s.available)
    (balanced_fits s.available (size_of d s.row row_start)) (row_ranges d s.row s.available)
parts-same d r s is =
    ap (λ (b : Bool). row_parts b r.row r.available r.height r.fits r.ranges) is.auto
    ∙ ap (λ (n : ℕ). row_parts (row_of d s.row).auto n r.available r.height r.fits r.ranges) is.row
    ∙ ap (λ (a : Option ℕ). row_parts (row_of d s.row).auto s.row a r.height r.fits r.ranges) is.available
    ∙ ap (λ (h : ℕ). row_parts (row_of d s.row).auto s.row s.available h r.fits r.ranges) is.height
    ∙ parts-fit (row_of d s.row).auto s.row (row_height d s.row s.available) s.available r.fits
    (balanced_fits s.available (size_of d s.row row_start)) r.ranges is.fits
    ∙ ap (λ (xs : List Range). row_parts (row_of d s.row).auto s.row s.available (row_height d s.row s.available)
    (balanced_fits s.available (size_of d s.row row_start)) xs) is.ranges

row-lines : (d : FlowsData) (r : ℕ) (available : Option ℕ) (auto : Bool)
    → All (HasLines d r row_start) (cond auto [] (ranges (all_rows d) d r row_start available))
row-lines d r available true = All-nil (HasLines d r row_start)
row-lines d r available false = ranges-lines d r row_start available

row-entry-same : (d : FlowsData) (book : List SizeEntry) (s : StackRow) (auto : Bool)
    → made_entry d book (row_parts auto s.row s.available (row_height d s.row s.available)
    (balanced_fits s.available (size_of d s.row row_start)) (row_ranges d s.row s.available))
    ≡ entry_lines d (uses_in book) (cond auto (auto_entry s) (row_entry s))
row-entry-same d book s true = refl
row-entry-same d book s false =
    ap (λ ts. line_words (codes "row" ∷ decimal s.row ∷ number_or_dash s.available ∷ decimal (row_height d s.row s.available)
    ∷ fits_text (balanced_fits s.available (size_of d s.row row_start)) ∷ []) ∷ ts)
    (ranges-same d book s.row row_start (row_ranges d s.row s.available)
    (row-lines d s.row s.available (row_of d s.row).auto))

row-same : (d : FlowsData) (book : List SizeEntry) (r : LaidRow) (s : StackRow) → IsLaidRow d r s
    → made_entry d book (entry_of_row r) ≡ entry_lines d (uses_in book) (entry_of d s)
row-same d book r s is =
    ap (made_entry d book) (parts-same d r s is) ∙ row-entry-same d book s (row_of d s.row).auto

-- ---- all entries

uses-take : (n : ℕ) (book : List SizeEntry) → uses_in (take n book) ≡ take n (uses_in book)
uses-take zero book = refl
uses-take (suc n) [] = refl
uses-take (suc n) (e ∷ book) = ap (λ (us : List Use). use_of e ∷ us) (uses-take n book)

uses-drop : (n : ℕ) (book : List SizeEntry) → uses_in (drop n book) ≡ drop n (uses_in book)
uses-drop zero book = refl
uses-drop (suc n) [] = refl
uses-drop (suc n) (e ∷ book) = uses-drop n book

-- the sizes between two rows
between : (n to : ℕ) (book : List SizeEntry) (us : List Use) → n ≤ to → take to (uses_in book) ≡ us
    → uses_in (take (to - n) (drop n book)) ≡ drop n us
between n to book us le is =
    let m : n + (to - n) ≡ to = omega arith in
    uses-take (to - n) (drop n book) ∙ ap (take (to - n)) (uses-drop n book)
    ∙ sym (drop-take n (to - n) (uses_in book)) ∙ ap (λ (k : ℕ). drop n (take k (uses_in book))) m ∙ ap (drop n) is

rows-same : (d : FlowsData) (book : List SizeEntry) → All (IsSizeEntry d) book → (before : List Use) (rs : List LaidRow)
    (ss : List StackRow) → AreLaidRows d (uses_in book) before rs ss
    → flat_map (made_entry d book) (entries_made book (length before) rs)
    ≡ flat_map (entry_lines d (uses_in book)) (entries_behind d before ss)
rows-same d book all before [] [] are = refl
rows-same d book all before [] (s ∷ ss) are = absurd are
rows-same d book all before (r ∷ rs) [] are = absurd are
rows-same d book all before (r ∷ rs) (s ∷ ss) are =
    let n = length before in
    let es = take (r.before - n) (drop n book) in
    let own = row_book d before s in
    let sizes : All (IsSizeEntry d) es =
    All-take (IsSizeEntry d) (r.before - n) (drop n book) (All-drop (IsSizeEntry d) n book all) in
    let later = rows-same d book all own rs ss are.4 in
    let k : uses_in es ≡ drop n own = between n r.before book own are.3 are.1 in
    flat_map-append (made_entry d book) (map Size es) (entry_of_row r ∷ entries_made book r.before rs)
    ∙ ap (λ ts. ts ++ (made_entry d book (entry_of_row r) ++ flat_map (made_entry d book) (entries_made book r.before rs)))
    (sizes-same d book es sizes)
    ∙ ap (λ us. flat_map (entry_lines d (uses_in book)) (map size_entry us)
    ++ (made_entry d book (entry_of_row r) ++ flat_map (made_entry d book) (entries_made book r.before rs))) k
    ∙ ap (λ ts. flat_map (entry_lines d (uses_in book)) (map size_entry (drop n own))
    ++ (ts ++ flat_map (made_entry d book) (entries_made book r.before rs))) (row-same d book r s are.0)
    ∙ ap (λ m. flat_map (entry_lines d (uses_in book)) (map size_entry (drop n own))
    ++ (entry_lines d (uses_in book) (entry_of d s) ++ flat_map (made_entry d book) (entries_made book m rs))) (sym are.2)
    ∙ ap (λ ts. flat_map (entry_lines d (uses_in book)) (map size_entry (drop n own))
    ++ (entry_lines d (uses_in book) (entry_of d s) ++ ts)) later
    ∙ sym (flat_map-append (entry_lines d (uses_in book)) (map size_entry (drop n own)) (entry_of d s ∷ entries_behind d own ss))

pub made : (d : FlowsData) (book : List SizeEntry) (rows : List LaidRow) → MadeIsLayouts d book rows
unfolding certificate certificate_lines
made d book rows = λ is.
    ap (λ ts. codes "cert" ∷ ts ++ codes "end" ∷ [])
    (texts.entries-made d book 0 (entries_made book 0 rows)
    ∙ rows-same d book is.sizes [] rows (rows_in_stacks d) is.laid
    ∙ ap (λ us. flat_map (entry_lines d us) (entries_behind d [] (rows_in_stacks d))) is.uses)
