-- The certificate that is made of a book of sizes and the rows of a layout (this project's own).
use Rattle.std.specs.Prelude.{ℕ, ◌+◌, ◌-◌, ◌≤◌, cond, List, [], ◌∷◌, ◌++◌, length, take, drop, map, Option, Some, None}
use Rattle.std.specs.List.{flat_map}
use Rattle.flow_list.specs.Data.{Flow, FlowsData}
use Rattle.flow_list.specs.Tokens.{Token}
use Rattle.flow_list.specs.Certificate.{Use}
use Rattle.flow_list.specs.Entries.{uses_in}
use Rattle.flow_list.specs.Ranges.{Range}
use Rattle.flow_list.specs.ResultText.{number_in}
use Rattle.flow_list.specs.declared.book.SizeEntry.{SizeEntry}
use Rattle.flow_list.specs.declared.laid.LaidRow.{LaidRow}
use Rattle.height_cert.specs.declared.cert.Cites.{Cites}
use Rattle.height_cert.specs.declared.cert.Cert.{Cert}
use Rattle.height_cert.specs.declared.cert.CertEntry.{CertEntry}
use Rattle.height_cert.specs.declared.cert.CertEntry.TheVariants.{Size, Row, Auto}
use Rattle.height_cert.specs.Certs.{head_of, ranges_in}
use Rattle.result_laws.specs.Clauses.{row_in, from_in}
use Rattle.cite_laws.specs.Starts.{before_forced, rows_of_lines}

-- a row from a place on, where there is one
abbrev pub row_listed : Option ℕ → Token → List Use
row_listed None q = []
row_listed (Some r) q = (r, q) ∷ []

abbrev pub listed : Option Use → List Use
listed None = []
listed (Some u) = u ∷ []

-- how many items a column has that begins at this one, through its stop, or up to the next forced seam
abbrev pub ends_after : Flow → ℕ → Option ℕ → ℕ
ends_after f first None = before_forced f first (length f.items - first)
ends_after f first (Some stop) = stop + 1 - first

-- the entry of a row directly in a stack
abbrev pub entry_of_row : LaidRow → CertEntry
entry_of_row r = cond r.auto (Auto r.row r.available r.height) (Row r.row r.available r.height r.fits r.ranges)

-- the entries of these rows, before each those of the book that no row before it has before it, from number n on
abbrev pub entries_made : List SizeEntry → ℕ → List LaidRow → List CertEntry
entries_made book n [] = []
entries_made book n (r ∷ rs) =
    map Size (take (r.before - n) (drop n book)) ++ entry_of_row r ∷ entries_made book r.before rs

-- the numbers of these sizes in the book
abbrev pub as_cites : List SizeEntry → List Use → Cites
as_cites book us = record { sizes = map (number_in (uses_in book)) us }

-- what the column lines cite of a range of a row from a place on, and of an entry
abbrev pub range_cites : FlowsData → List SizeEntry → Use → Range → List Cites
range_cites d book u x = map (as_cites book) (rows_of_lines d (u ∷ []) x.lines)

abbrev pub entry_cites : FlowsData → List SizeEntry → CertEntry → List Cites
entry_cites d book e = flat_map (range_cites d book (row_in (head_of e), from_in (head_of e))) (ranges_in e)

-- the certificate
abbrev pub cert_made : FlowsData → List SizeEntry → List LaidRow → Cert
cert_made d book rows =
    let entries = entries_made book 0 rows in record { entries = entries; cites = flat_map (entry_cites d book) entries }

-- the numbers of entries before the rows don't fall, and none is above the book's count
abbrev pub BeforesRise : ℕ → ℕ → List LaidRow → Type 0
BeforesRise count n [] = Unit {0}
BeforesRise count n (r ∷ rs) = (n ≤ r.before) × (r.before ≤ count) × BeforesRise count r.before rs
