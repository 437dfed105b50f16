-- What a line after `cert` says, word by word (this project's own).
use Rattle.std.specs.Prelude.{◌≡◌, ℕ, List, [], ◌∷◌, Bool, false, Option, Some, None, codes, if◌then◌else◌}
use Rattle.std.specs.Str.{bytes_eq}
use Rattle.flow_list.specs.Column.{ColumnLine}
use Rattle.height_cert.specs.Certs.{head_of}
use Rattle.result_laws.specs.Given.{size, balanced, filled}
use Rattle.result_laws.specs.Reading as reading
use Rattle.result_laws.specs.Words.{◌>>=◌, number_of, small_of, token_of, dash_or, end_of_word, yes_or_no}
use Rattle.result_reader.specs.Words.{three_of, four_of}
use Rattle.result_reader.specs.declared.line.CertLine.{CertLine}
use Rattle.result_reader.specs.declared.line.CertLine.TheVariants.{Entry, Rejected, Column, Close}

-- the line that is read, as the definitions have it
abbrev pub said : CertLine → reading.CertLine
said (Entry e) = reading.entry (head_of e)
said (Rejected x) = reading.range x.low x.high x.reason
said (Column line cites) = reading.column (record { line = line; cites = cites.sizes })
said Close = reading.close

abbrev pub size_line : List (List ℕ) → Option reading.CertLine
size_line ws = three_of ws >>= λ w. small_of w.0 >>= λ r. token_of w.1 >>= λ q. number_of w.2 >>= λ h.
    Some (reading.entry (size r q h))

abbrev pub row_line : List (List ℕ) → Option reading.CertLine
row_line ws = four_of ws >>= λ w. small_of w.0 >>= λ r. dash_or number_of w.1 >>= λ a. number_of w.2 >>= λ h.
    yes_or_no w.3 >>= λ fits. Some (reading.entry (balanced r a h fits))

abbrev pub auto_line : List (List ℕ) → Option reading.CertLine
auto_line ws = three_of ws >>= λ w. small_of w.0 >>= λ r. dash_or number_of w.1 >>= λ a. number_of w.2 >>= λ h.
    Some (reading.entry (filled r a h))

-- a column line before its sizes, and the words of those
abbrev pub column_front : List (List ℕ) → Option (ColumnLine × List (List ℕ))
column_front (depth ∷ end ∷ stop ∷ rest) =
    small_of depth >>= λ depth. end_of_word end >>= λ end. dash_or small_of stop >>= λ stop.
    Some (record { depth = depth; end = end; stop = stop }, rest)
column_front _ = None

-- a line that is no column's, by its first word
abbrev pub other_of_words : List ℕ → List (List ℕ) → Option reading.CertLine
other_of_words w ws =
    if bytes_eq w (codes "range") then reading.range_of_words ws else
    (if bytes_eq w (codes "size") then size_line ws else
    (if bytes_eq w (codes "row") then row_line ws else
    (if bytes_eq w (codes "auto") then auto_line ws else None)))

-- only lines of the second format cite sizes
abbrev pub NoSizes : Bool → CertLine → Type 0
NoSizes second (Entry e) = Unit {0}
NoSizes second (Rejected x) = Unit {0}
NoSizes second (Column line cites) = second ≡ false → cites.sizes ≡ []
NoSizes second Close = Unit {0}
