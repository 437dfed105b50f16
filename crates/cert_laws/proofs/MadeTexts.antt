-- The text of a certificate that is made, entry by entry.
use Rattle.std.proofs.Common.{◌≡◌, ℕ, zero, suc, ◌+◌, List, [], ◌∷◌, ◌++◌, length, map, drop, refl, ◌∙◌, ap, arith}
use Rattle.std.proofs.Common.{length-append}
use Rattle.std.specs.Prelude.{codes}
use Rattle.std.specs.Fmt.{decimal}
use Rattle.std.specs.List.{flat_map}
use Rattle.std.proofs.lemmas.List.{append_assoc}
use Rattle.flow_list.specs.Column.{ColumnLine}
use Rattle.flow_list.specs.Data.{FlowsData}
use Rattle.flow_list.specs.Certificate.{Use}
use Rattle.flow_list.specs.Ranges.{Range}
use Rattle.flow_list.specs.ResultText.{line_words, reason_words}
use Rattle.flow_list.specs.declared.book.SizeEntry.{SizeEntry}
use Rattle.height_cert.specs.declared.cert.Cites.{Cites}
use Rattle.height_cert.specs.declared.cert.CertEntry.{CertEntry}
use Rattle.height_cert.specs.Certs.{head_of, ranges_in, cited, given_ranges, given_entries, column_count, line_count}
use Rattle.result_laws.specs.Clauses.{row_in, from_in}
use Rattle.result_laws.specs.Given.{cited_text, range_texts, entry_texts, head_words}
use Rattle.cite_laws.specs.Starts.{rows_of_lines, starts_after}
use Rattle.cert_laws.specs.Made.{as_cites, range_cites, entry_cites}

-- the lines of a range that is made, and of an entry
abbrev pub made_range : FlowsData → List SizeEntry → Use → Range → List (List ℕ)
made_range d book u x =
    line_words (codes "range" ∷ decimal x.low ∷ decimal x.high ∷ reason_words x.reason)
    ∷ map cited_text (cited (range_cites d book u x) x.lines)

abbrev pub use_in : CertEntry → Use
use_in e = (row_in (head_of e), from_in (head_of e))

abbrev pub made_entry : FlowsData → List SizeEntry → CertEntry → List (List ℕ)
made_entry d book e = line_words (head_words (head_of e)) ∷ flat_map (made_range d book (use_in e)) (ranges_in e)

rows-length : (d : FlowsData) (starts : List Use) (ls : List ColumnLine) → length (rows_of_lines d starts ls) ≡ length ls
rows-length d starts [] = refl
rows-length d starts (l ∷ ls) = let k = rows-length d (starts_after d starts l) ls in omega arith

map-long : (book : List SizeEntry) (us : List (List Use)) → length (map (as_cites book) us) ≡ length us
map-long book [] = refl
map-long book (u ∷ us) = let k = map-long book us in omega arith

cites-length : (d : FlowsData) (book : List SizeEntry) (u : Use) (x : Range) → length (range_cites d book u x) ≡ length x.lines
cites-length d book u x = map-long book (rows_of_lines d (u ∷ []) x.lines) ∙ rows-length d (u ∷ []) x.lines

drop-front : (n : ℕ) (cs more : List Cites) → length cs ≡ n → drop n (cs ++ more) ≡ more
drop-front zero [] more e = refl
drop-front zero (c ∷ cs) more e = absurd (omega arith)
drop-front (suc n) [] more e = absurd (omega arith)
drop-front (suc n) (c ∷ cs) more e = drop-front n cs more (omega arith)

cited-front : (cs more : List Cites) (ls : List ColumnLine) → length cs ≡ length ls → cited (cs ++ more) ls ≡ cited cs ls
cited-front cs more [] e = refl
cited-front [] more (l ∷ ls) e = absurd (omega arith)
cited-front (c ∷ cs) more (l ∷ ls) e =
    ap (λ xs. record { line = l; cites = c.sizes } ∷ xs) (cited-front cs more ls (omega arith))

abbrev all_cites : FlowsData → List SizeEntry → Use → List Range → List Cites
all_cites d book u xs = flat_map (range_cites d book u) xs

all-length : (d : FlowsData) (book : List SizeEntry) (u : Use) (xs : List Range)
    → length (all_cites d book u xs) ≡ column_count xs
all-length d book u [] = refl
all-length d book u (x ∷ xs) =
    let k = cites-length d book u x in
    let l = all-length d book u xs in
    let m = length-append (range_cites d book u x) (all_cites d book u xs) in
    omega arith

ranges-made : (d : FlowsData) (book : List SizeEntry) (u : Use) (n : ℕ) (xs : List Range) (more : List Cites)
    → flat_map range_texts (given_ranges n (all_cites d book u xs ++ more) xs) ≡ flat_map (made_range d book u) xs
ranges-made d book u n [] more = refl
ranges-made d book u n (x ∷ xs) more =
    let own = range_cites d book u x in
    let rest = all_cites d book u xs ++ more in
    let m = n + 1 + length x.lines in
    let line = line_words (codes "range" ∷ decimal x.low ∷ decimal x.high ∷ reason_words x.reason) in
    ap (λ (cs : List Cites). flat_map range_texts (given_ranges n cs (x ∷ xs))) (append_assoc own (all_cites d book u xs) more)
    ∙ ap (λ cs. (line ∷ map cited_text cs) ++ flat_map range_texts (given_ranges m (drop (length x.lines) (own ++ rest)) xs))
    (cited-front own rest x.lines (cites-length d book u x))
    ∙ ap (λ (cs : List Cites). made_range d book u x ++ flat_map range_texts (given_ranges m cs xs))
    (drop-front (length x.lines) own rest (cites-length d book u x))
    ∙ ap (λ ts. made_range d book u x ++ ts) (ranges-made d book u m xs more)

pub entries-made : (d : FlowsData) (book : List SizeEntry) (n : ℕ) (es : List CertEntry)
    → flat_map entry_texts (given_entries n (flat_map (entry_cites d book) es) es) ≡ flat_map (made_entry d book) es
entries-made d book n [] = refl
entries-made d book n (e ∷ es) =
    let own = all_cites d book (use_in e) (ranges_in e) in
    let rest = flat_map (entry_cites d book) es in
    let m = n + 1 + line_count (ranges_in e) in
    let head = line_words (head_words (head_of e)) in
    ap (λ ts. (head ∷ ts)
    ++ flat_map entry_texts (given_entries m (drop (column_count (ranges_in e)) (own ++ rest)) es))
    (ranges-made d book (use_in e) (n + 1) (ranges_in e) rest)
    ∙ ap (λ (cs : List Cites). made_entry d book e ++ flat_map entry_texts (given_entries m cs es))
    (drop-front (column_count (ranges_in e)) own rest (all-length d book (use_in e) (ranges_in e)))
    ∙ ap (λ ts. made_entry d book e ++ ts) (entries-made d book m es)
