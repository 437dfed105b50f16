-- When a book and rows are those of the layout, and what their certificate is then (this project's own).
use Rattle.std.specs.Prelude.{◌≡◌, ◌≤◌, false, List, [], ◌∷◌, length, take, All}
use Rattle.flow_list.specs.Data.{FlowsData}
use Rattle.flow_data.specs.Flows.{row_of}
use Rattle.flow_list.specs.Certificate.{Use, StackRow, rows_in_stacks, row_book, book_of, size_ranges, row_ranges}
use Rattle.flow_list.specs.Entries.{uses_in}
use Rattle.flow_list.specs.ResultText.{certificate_lines}
use Rattle.flow_list.specs.RowHeights.{size_of, row_height, balanced_fits}
use Rattle.flow_list.specs.Tokens.{row_start}
use Rattle.flow_list.specs.declared.book.SizeEntry.{SizeEntry}
use Rattle.flow_list.specs.declared.laid.LaidRow.{LaidRow}
use Rattle.height_cert.specs.Certs.{cert_texts}
use Rattle.cert_laws.specs.Made.{cert_made}

-- the entry has the size and the ranges of its row and place
abbrev pub IsSizeEntry : FlowsData → SizeEntry → Type 0
IsSizeEntry d e = (e.height ≡ size_of d e.row e.from) × (e.ranges ≡ size_ranges d e.row e.from)

-- the row was laid out as it is; of one with `column-fill: auto` the certificate doesn't say whether it fits
pub record IsLaidRow (d : FlowsData) (r : LaidRow) (s : StackRow) : Type 0 where
  pub row : r.row ≡ s.row
  pub available : r.available ≡ s.available
  pub auto : r.auto ≡ (row_of d s.row).auto
  pub height : r.height ≡ row_height d s.row s.available
  pub fits : (row_of d s.row).auto ≡ false → r.fits ≡ balanced_fits s.available (size_of d s.row row_start)
  pub ranges : r.ranges ≡ row_ranges d s.row s.available

-- these rows were laid out so, and before each stand the sizes of the book that the definitions have before it
abbrev pub AreLaidRows : FlowsData → List Use → List Use → List LaidRow → List StackRow → Type 0
AreLaidRows d book before [] [] = Unit {0}
AreLaidRows d book before [] (s ∷ ss) = ⊥
AreLaidRows d book before (r ∷ rs) [] = ⊥
AreLaidRows d book before (r ∷ rs) (s ∷ ss) = IsLaidRow d r s × (take r.before book ≡ row_book d before s)
    × (length (row_book d before s) ≡ r.before) × (length before ≤ r.before) × AreLaidRows d book (row_book d before s) rs ss

-- The book has the sizes of the definitions, and the rows are those in stacks.
pub record IsLayout (d : FlowsData) (book : List SizeEntry) (rows : List LaidRow) : Type 0 where
  pub uses : uses_in book ≡ book_of d
  pub sizes : All (IsSizeEntry d) book
  pub laid : AreLaidRows d (uses_in book) [] rows (rows_in_stacks d)

-- The law: the certificate that is made of a layout is the layout's.
abbrev pub MadeIsLayouts : FlowsData → List SizeEntry → List LaidRow → Type 0
MadeIsLayouts d book rows = IsLayout d book rows → cert_texts (cert_made d book rows) ≡ certificate_lines d
