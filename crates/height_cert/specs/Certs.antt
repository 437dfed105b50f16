-- What a certificate says, as a result gives it (this project's own).
use Rattle.std.specs.Prelude.{ℕ, ◌+◌, Bool, List, [], ◌∷◌, ◌++◌, length, drop, codes}
use Rattle.std.specs.List.{flat_map}
use Rattle.flow_list.specs.Column.{ColumnLine}
use Rattle.flow_list.specs.Ranges.{Range}
use Rattle.height_cert.specs.declared.cert.Cites.{Cites}
use Rattle.height_cert.specs.declared.cert.CertEntry.{CertEntry}
use Rattle.height_cert.specs.declared.cert.CertEntry.TheVariants.{Size, Row, Auto}
use Rattle.height_cert.specs.declared.cert.Cert.{Cert}
use Rattle.result_laws.specs.Given.{Head, size, balanced, filled, CitedLine, GivenRange, GivenEntry, GivenResult, entry_texts}
use Rattle.result_laws.specs.Given.{ended_lines}

abbrev pub head_of : CertEntry → Head
head_of (Size e) = size e.row e.from e.height
head_of (Row row available height fits ranges) = balanced row available height fits
head_of (Auto row available height) = filled row available height

abbrev pub ranges_in : CertEntry → List Range
ranges_in (Size e) = e.ranges
ranges_in (Row row available height fits ranges) = ranges
ranges_in (Auto row available height) = []

-- the sizes of the first list
abbrev pub first_cites : List Cites → List ℕ
first_cites [] = []
first_cites (c ∷ cs) = c.sizes

-- each of these column lines cites the sizes of the next list
abbrev pub cited : List Cites → List ColumnLine → List CitedLine
cited cites [] = []
cited cites (l ∷ ls) = record { line = l; cites = first_cites cites } ∷ cited (drop 1 cites) ls

-- these ranges from line n on
abbrev pub given_ranges : ℕ → List Cites → List Range → List GivenRange
given_ranges n cites [] = []
given_ranges n cites (x ∷ xs) =
    record { at = n; low = x.low; high = x.high; reason = x.reason; columns = cited cites x.lines }
    ∷ given_ranges (n + 1 + length x.lines) (drop (length x.lines) cites) xs

-- how many column lines ranges have, and how many lines
abbrev pub column_count : List Range → ℕ
column_count [] = 0
column_count (x ∷ xs) = length x.lines + column_count xs

abbrev pub line_count : List Range → ℕ
line_count [] = 0
line_count (x ∷ xs) = 1 + length x.lines + line_count xs

-- these entries from line n on
abbrev pub given_entries : ℕ → List Cites → List CertEntry → List GivenEntry
given_entries n cites [] = []
given_entries n cites (e ∷ es) =
    record { at = n; head = head_of e; ranges = given_ranges (n + 1) cites (ranges_in e) }
    ∷ given_entries (n + 1 + line_count (ranges_in e)) (drop (column_count (ranges_in e)) cites) es

-- the number of the line after these entries
abbrev pub line_after : ℕ → List CertEntry → ℕ
line_after n [] = n
line_after n (e ∷ es) = line_after (n + 1 + line_count (ranges_in e)) es

-- the lines of a certificate, from `cert` up to `end`
abbrev pub cert_texts : Cert → List (List ℕ)
cert_texts c = codes "cert" ∷ flat_map entry_texts (given_entries 0 c.cites c.entries) ++ codes "end" ∷ []

-- a result with this tree and this certificate
abbrev pub with_cert : (cites : Bool) → (tree : List (List ℕ)) → Cert → GivenResult
with_cert cites tree c = record {
  cites = cites;
  tree = tree;
  cert_at = 2 + length tree;
  entries = given_entries (3 + length tree) c.cites c.entries;
  end_at = line_after (3 + length tree) c.entries;
}

-- the text of a result of the second format
abbrev pub result_text : (tree : List (List ℕ)) → Cert → List ℕ
result_text tree c = ended_lines (codes "mcol 2" ∷ tree ++ cert_texts c)
