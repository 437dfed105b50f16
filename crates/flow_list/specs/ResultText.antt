-- The lines of a result: the tree, and the certificate with the numbers of the sizes that each column line rests on (this
-- project's own).
use Rattle.std.specs.Prelude.{ℕ, ◌+◌, cond, List, [], ◌∷◌, ◌++◌, map, Option, Some, None, codes, if◌then◌else◌}
use Rattle.std.specs.List.{flat_map}
use Rattle.std.specs.Fmt.{decimal}
use Rattle.flow_list.specs.Data.{FlowsData}
use Rattle.flow_list.specs.Tokens.{Token, row_start}
use Rattle.flow_list.specs.Column.{ColumnLine}
use Rattle.flow_list.specs.RowHeights.{size_of, row_height, balanced_fits}
use Rattle.flow_list.specs.Ranges.{Reason, tall, area, left, bad, over, Range}
use Rattle.flow_list.specs.Tree.{tree_of}
use Rattle.flow_list.specs.TreeText.{spaced, token_text, tree_line_words}
use Rattle.flow_list.specs.Certificate.{Use, same_use, Entry, size_entry, row_entry, auto_entry, size_ranges, row_ranges}
use Rattle.flow_list.specs.Certificate.{range_owned, certificate, book_of}

-- a line of words, with a space between each two
abbrev pub line_words : List (List ℕ) → List ℕ
line_words [] = []
line_words (word ∷ words) = word ++ spaced words

abbrev pub number_or_dash : Option ℕ → List ℕ
number_or_dash None = codes "-"
number_or_dash (Some n) = decimal n

abbrev pub end_text : Option Token → List ℕ
end_text None = codes "!"
end_text (Some t) = token_text t

abbrev pub reason_words : Reason → List (List ℕ)
reason_words (tall k) = codes "tall" ∷ decimal k ∷ []
reason_words area = codes "area" ∷ []
reason_words (left at) = codes "left" ∷ token_text at ∷ []
reason_words (bad c) = codes "bad" ∷ decimal c ∷ []
reason_words (over c) = codes "over" ∷ decimal c ∷ []

-- the number of a size: how many stand before it
abbrev pub number_in : List Use → Use → ℕ
number_in [] u = 0
number_in (v ∷ book) u = cond (same_use u v) 0 (1 + number_in book u)

-- a column line, and the numbers of the sizes that it cites
abbrev pub column_line : List Use → ColumnLine → List Use → List ℕ
column_line book line owned =
    line_words (codes "col" ∷ decimal line.depth ∷ end_text line.end ∷ number_or_dash line.stop ∷ map
    (λ u. decimal (number_in book u)) owned)

abbrev pub column_lines : List Use → List ColumnLine → List (List Use) → List (List ℕ)
column_lines book [] owned = []
column_lines book (line ∷ lines) [] = column_line book line [] ∷ column_lines book lines []
column_lines book (line ∷ lines) (us ∷ owned) = column_line book line us ∷ column_lines book lines owned

abbrev pub range_lines : List Use → (Range → List (List Use)) → Range → List (List ℕ)
range_lines book owned range =
    line_words (codes "range" ∷ decimal range.low ∷ decimal range.high ∷ reason_words range.reason) ∷ column_lines book
    range.lines (owned range)

abbrev pub entry_lines : FlowsData → List Use → Entry → List (List ℕ)
entry_lines d book (size_entry u) =
    line_words (codes "size" ∷ decimal u.0 ∷ token_text u.1 ∷ decimal (size_of d u.0 u.1) ∷ []) ∷ flat_map
    (range_lines book (range_owned d u.0 u.1)) (size_ranges d u.0 u.1)
entry_lines d book (row_entry r) =
    line_words (codes "row" ∷ decimal r.row ∷ number_or_dash r.available ∷ decimal (row_height d r.row r.available)
    ∷ (if balanced_fits r.available (size_of d r.row row_start) then codes "yes" else codes "no") ∷ [])
    ∷ flat_map (range_lines book (range_owned d r.row row_start)) (row_ranges d r.row r.available)
entry_lines d book (auto_entry r) =
    line_words (codes "auto" ∷ decimal r.row ∷ number_or_dash r.available ∷ decimal (row_height d r.row r.available) ∷ []) ∷ []

-- the lines of the certificate, from `cert` up to `end`
unfoldable pub certificate_lines : FlowsData → List (List ℕ)
certificate_lines d = codes "cert" ∷ flat_map (entry_lines d (book_of d)) (certificate d) ++ codes "end" ∷ []

-- the lines of a result in the second format
unfoldable pub result_lines : FlowsData → List (List ℕ)
result_lines d = codes "mcol 2" ∷ map tree_line_words (tree_of d) ++ certificate_lines d
