-- The lines of a certificate, and the entries that are gathered from them.
use Rattle.std.proofs.Common.{◌≡◌, ℕ, zero, suc, ◌+◌, Bool, List, [], ◌∷◌, ◌++◌, length, drop, map, refl}
use Rattle.std.proofs.Common.{◌∙◌, ap, arith}
use Rattle.std.specs.List.{flat_map}
use Rattle.std.proofs.lemmas.List.{append_assoc, drop-drop}
use Rattle.flow_list.specs.Column.{ColumnLine}
use Rattle.flow_list.specs.Ranges.{Range}
use Rattle.height_cert.specs.declared.cert.Cites.{Cites}
use Rattle.height_cert.specs.declared.cert.CertEntry.{CertEntry}
use Rattle.height_cert.specs.Certs.{head_of, ranges_in, cited, given_ranges, given_entries, column_count, line_count, line_after}
use Rattle.height_cert.specs.Certs.{with_cert, first_cites}
use Rattle.height_cert.specs.Laws.{columns_count}
use Rattle.result_laws.specs.Given.{CitedLine, GivenRange, GivenEntry, GivenResult}
use Rattle.result_laws.specs.Reading.{CertLine, entry, range, column, close, Rest, onto_rest, gathered}
use Rattle.result_laws.proofs.Gathering.{columns_onto, ranges_onto, lines_in}
use Rattle.result_reader.specs.Built.{plain_column, plain_range, plain_lines, with_cites, columns_among}
use Rattle.result_reader.specs.Built.{numbers_from}
use Rattle.result_reader.specs.Read.{numbers_in, with_lines}

-- ---- the lines with their sizes

-- lists after one more
rest-of : (k : ℕ) (cites : List Cites) → drop k (drop 1 cites) ≡ drop (suc k) cites
rest-of zero [] = refl
rest-of (suc k) [] = refl
rest-of k (c ∷ cs) = refl

columns-cited : (cites : List Cites) (ls : List ColumnLine) (rest : List CertLine)
    → with_cites cites (map plain_column ls ++ rest) ≡ columns_onto (cited cites ls) (with_cites (drop (length ls) cites) rest)
columns-cited cites [] rest = refl
columns-cited cites (l ∷ ls) rest =
    ap (λ (xs : List CertLine). column (record { line = l; cites = first_cites cites }) ∷ xs)
    (columns-cited (drop 1 cites) ls rest
    ∙ ap (λ (cs : List Cites). columns_onto (cited (drop 1 cites) ls) (with_cites cs rest)) (rest-of (length ls) cites))

ranges-cited : (n : ℕ) (cites : List Cites) (xs : List Range) (rest : List CertLine)
    → with_cites cites (flat_map plain_range xs ++ rest)
    ≡ ranges_onto (given_ranges n cites xs) (with_cites (drop (column_count xs) cites) rest)
ranges-cited n cites [] rest = refl
ranges-cited n cites (x ∷ xs) rest =
    ap (λ (ls : List CertLine). range x.low x.high x.reason ∷ with_cites cites ls)
    (append_assoc (map plain_column x.lines) (flat_map plain_range xs) rest)
    ∙ ap (λ (ls : List CertLine). range x.low x.high x.reason ∷ ls)
    (columns-cited cites x.lines (flat_map plain_range xs ++ rest)
    ∙ ap (λ (ls : List CertLine). columns_onto (cited cites x.lines) ls)
    (ranges-cited (n + 1 + length x.lines) (drop (length x.lines) cites) xs rest
    ∙ ap (λ (cs : List Cites). ranges_onto (given_ranges (n + 1 + length x.lines) (drop (length x.lines) cites) xs)
    (with_cites cs rest)) (drop-drop (column_count xs) (length x.lines) cites)))

pub entries-cited : (n : ℕ) (cites : List Cites) (es : List CertEntry)
    → with_cites cites (plain_lines es) ≡ lines_in (given_entries n cites es)
entries-cited n cites [] = refl
entries-cited n cites (e ∷ es) =
    ap (λ (ls : List CertLine). entry (head_of e) ∷ ls)
    (ranges-cited (n + 1) cites (ranges_in e) (plain_lines es)
    ∙ ap (λ (ls : List CertLine). ranges_onto (given_ranges (n + 1) cites (ranges_in e)) ls)
    (entries-cited (n + 1 + line_count (ranges_in e)) (drop (column_count (ranges_in e)) cites) es))

-- ---- what is gathered

abbrev only : List GivenRange → List GivenEntry → Rest
only xs es = record { columns = []; ranges = xs; entries = es }

cited-length : (cites : List Cites) (ls : List ColumnLine) → length (cited cites ls) ≡ length ls
cited-length cites [] = refl
cited-length cites (l ∷ ls) = let k = cited-length (drop 1 cites) ls in omega arith

columns-gathered : (n m : ℕ) (cs : List CitedLine) (rest : List CertLine) (xs : List GivenRange) (es : List GivenEntry)
    → n + length cs ≡ m → gathered m rest ≡ only xs es
    → gathered n (columns_onto cs rest) ≡ record { columns = cs; ranges = xs; entries = es }
unfolding gathered
columns-gathered n m [] rest xs es e g = let same : n ≡ m = omega arith in rw same g
columns-gathered n m (c ∷ cs) rest xs es e g =
    ap (λ (r : Rest). onto_rest n (column c) r) (columns-gathered (n + 1) m cs rest xs es (omega arith) g)

ranges-gathered : (n m : ℕ) (cites : List Cites) (xs : List Range) (rest : List CertLine) (es : List GivenEntry)
    → n + line_count xs ≡ m → gathered m rest ≡ only [] es
    → gathered n (ranges_onto (given_ranges n cites xs) rest) ≡ only (given_ranges n cites xs) es
unfolding gathered
ranges-gathered n m cites [] rest es e g = let same : n ≡ m = omega arith in rw same g
ranges-gathered n m cites (x ∷ xs) rest es e g =
    let long = cited-length cites x.lines in
    ap (λ (r : Rest). onto_rest n (range x.low x.high x.reason) r)
    (columns-gathered (n + 1) (n + 1 + length x.lines) (cited cites x.lines)
    (ranges_onto (given_ranges (n + 1 + length x.lines) (drop (length x.lines) cites) xs) rest)
    (given_ranges (n + 1 + length x.lines) (drop (length x.lines) cites) xs) es (omega arith)
    (ranges-gathered (n + 1 + length x.lines) m (drop (length x.lines) cites) xs rest es (omega arith) g))

pub entries-gathered : (n : ℕ) (cites : List Cites) (es : List CertEntry)
    → gathered n (lines_in (given_entries n cites es)) ≡ only [] (given_entries n cites es)
unfolding gathered
entries-gathered n cites [] = refl
entries-gathered n cites (e ∷ es) =
    ap (λ (r : Rest). onto_rest n (entry (head_of e)) r)
    (ranges-gathered (n + 1) (n + 1 + line_count (ranges_in e)) cites (ranges_in e)
    (lines_in (given_entries (n + 1 + line_count (ranges_in e)) (drop (column_count (ranges_in e)) cites) es))
    (given_entries (n + 1 + line_count (ranges_in e)) (drop (column_count (ranges_in e)) cites) es) refl
    (entries-gathered (n + 1 + line_count (ranges_in e)) (drop (column_count (ranges_in e)) cites) es))

-- ---- how many lines, and their numbers

pub cites-length : (cites : List Cites) (ls : List CertLine) → length (with_cites cites ls) ≡ length ls
cites-length cites [] = refl
cites-length cites (entry h ∷ ls) = let k = cites-length cites ls in omega arith
cites-length cites (range low high r ∷ ls) = let k = cites-length cites ls in omega arith
cites-length cites (column c ∷ ls) = let k = cites-length (drop 1 cites) ls in omega arith
cites-length cites (close ∷ ls) = let k = cites-length cites ls in omega arith

columns-long : (ls : List ColumnLine) (rest : List CertLine) → length (map plain_column ls ++ rest) ≡ length ls + length rest
columns-long [] rest = omega arith
columns-long (l ∷ ls) rest = let k = columns-long ls rest in omega arith

ranges-long : (xs : List Range) (rest : List CertLine) → length (flat_map plain_range xs ++ rest) ≡ line_count xs + length rest
ranges-long [] rest = omega arith
ranges-long (x ∷ xs) rest =
    let k = columns-long x.lines (flat_map plain_range xs ++ rest) in
    let l = ranges-long xs rest in
    let same = ap (λ (ls : List CertLine). length ls) (append_assoc (map plain_column x.lines) (flat_map plain_range xs) rest) in
    omega arith

pub lines-after : (n : ℕ) (es : List CertEntry) → line_after n es ≡ n + length (plain_lines es)
lines-after n [] = omega arith
lines-after n (e ∷ es) =
    let k = lines-after (n + 1 + line_count (ranges_in e)) es in
    let l = ranges-long (ranges_in e) (plain_lines es) in
    omega arith

columns-numbers : (n : ℕ) (ls : List ColumnLine) (rest : List CertLine)
    → numbers_from n (map plain_column ls ++ rest) ≡ numbers_from (n + length ls) rest
columns-numbers n [] rest = let e : n ≡ n + 0 = omega arith in ap (λ (k : ℕ). numbers_from k rest) e
columns-numbers n (l ∷ ls) rest =
    let e : n + 1 + length ls ≡ n + suc (length ls) = omega arith in
    columns-numbers (n + 1) ls rest ∙ ap (λ (k : ℕ). numbers_from k rest) e

abbrev range_at : GivenRange → ℕ
range_at x = x.at

ranges-numbers : (n : ℕ) (cites : List Cites) (xs : List Range) (rest : List CertLine)
    → numbers_from n (flat_map plain_range xs ++ rest)
    ≡ map range_at (given_ranges n cites xs) ++ numbers_from (n + line_count xs) rest
ranges-numbers n cites [] rest = let e : n ≡ n + 0 = omega arith in ap (λ (k : ℕ). numbers_from k rest) e
ranges-numbers n cites (x ∷ xs) rest =
    let e : n + 1 + length x.lines + line_count xs ≡ n + line_count (x ∷ xs) = omega arith in
    ap (λ (ls : List CertLine). n ∷ numbers_from (n + 1) ls)
    (append_assoc (map plain_column x.lines) (flat_map plain_range xs) rest)
    ∙ ap (λ (ns : List ℕ). n ∷ ns)
    (columns-numbers (n + 1) x.lines (flat_map plain_range xs ++ rest)
    ∙ ranges-numbers (n + 1 + length x.lines) (drop (length x.lines) cites) xs rest
    ∙ ap (λ (k : ℕ). map range_at (given_ranges (n + 1 + length x.lines) (drop (length x.lines) cites) xs)
    ++ numbers_from k rest) e)

pub entries-numbers : (n : ℕ) (cites : List Cites) (es : List CertEntry)
    → numbers_from n (plain_lines es) ≡ numbers_in (given_entries n cites es)
entries-numbers n cites [] = refl
entries-numbers n cites (e ∷ es) =
    ap (λ (ns : List ℕ). n ∷ ns)
    (ranges-numbers (n + 1) cites (ranges_in e) (plain_lines es)
    ∙ ap (λ (ns : List ℕ). map range_at (given_ranges (n + 1) cites (ranges_in e)) ++ ns)
    (entries-numbers (n + 1 + line_count (ranges_in e)) (drop (column_count (ranges_in e)) cites) es))

columns-counted : (ls : List ColumnLine) (rest : List CertLine)
    → columns_among (map plain_column ls ++ rest) ≡ length ls + columns_among rest
columns-counted [] rest = omega arith
columns-counted (l ∷ ls) rest = let k = columns-counted ls rest in omega arith

ranges-counted : (xs : List Range) (rest : List CertLine)
    → columns_among (flat_map plain_range xs ++ rest) ≡ column_count xs + columns_among rest
ranges-counted [] rest = omega arith
ranges-counted (x ∷ xs) rest =
    let k = columns-counted x.lines (flat_map plain_range xs ++ rest) in
    let l = ranges-counted xs rest in
    let same = ap columns_among (append_assoc (map plain_column x.lines) (flat_map plain_range xs) rest) in
    omega arith

pub entries-counted : (es : List CertEntry) → columns_among (plain_lines es) ≡ columns_count es
entries-counted [] = refl
entries-counted (e ∷ es) =
    let k = ranges-counted (ranges_in e) (plain_lines es) in let l = entries-counted es in omega arith

-- ---- the whole

abbrev as_result : Bool → List (List ℕ) → List GivenEntry → ℕ → GivenResult
as_result cites tree gs k = record { cites = cites; tree = tree; cert_at = 2 + length tree; entries = gs; end_at = k }

-- the result with the lines of a certificate is the result with that certificate
pub lines-cert : (cites : Bool) (tree : List (List ℕ)) (cs : List Cites) (es : List CertEntry)
    → with_lines cites tree (with_cites cs (plain_lines es)) ≡ with_cert cites tree (record { entries = es; cites = cs })
lines-cert cites tree cs es =
    let n = 3 + length tree in
    let ls = with_cites cs (plain_lines es) in
    let long = cites-length cs (plain_lines es) in
    let after = lines-after n es in
    let last : n + length ls ≡ line_after n es = omega arith in
    let entries : (gathered n ls).entries ≡ given_entries n cs es =
    ap (λ (ls : List CertLine). (gathered n ls).entries) (entries-cited n cs es)
    ∙ ap (λ (r : Rest). r.entries) (entries-gathered n cs es) in
    ap (λ (k : ℕ). as_result cites tree (gathered n ls).entries k) last
    ∙ ap (λ (gs : List GivenEntry). as_result cites tree gs (line_after n es)) entries
