-- What the certificate of a whole layout rests on, and what it is (this project's own).
use Rattle.std.specs.Prelude.{◌≡◌, ◌<◌, List, [], length, All}
use Rattle.flow_data.specs.declared.data.FlowsData.{FlowsData}
use Rattle.flow_list.specs.Certificate.{Use, rows_in_stacks, book_of}
use Rattle.flow_list.specs.Entries.{uses_in}
use Rattle.flow_list.specs.ResultText.{certificate_lines}
use Rattle.flow_list.specs.declared.book.SizeEntry.{SizeEntry}
use Rattle.flow_list.specs.declared.laid.LaidRow.{LaidRow}
use Rattle.frag_pool.specs.Nodes.{Nodes}
use Rattle.inner_rows.specs.TrueBook.{AreTrue}
use Rattle.container_layout.specs.Laid.{AreLaidAfter}
use Rattle.height_cert.specs.Certs.{cert_texts}
use Rattle.cert_laws.specs.Made.{BeforesRise, cert_made}

-- a certificate can be made of this book and these rows, and it has the lines of the flows' certificate
pub record IsCertified (d : FlowsData) (book : List SizeEntry) (rows : List LaidRow) : Type 0 where
  pub befores : BeforesRise (length book) 0 rows
  pub sizes : All (λ (u : Use). u.0 < length d.rows) (uses_in book)
  pub known : All (λ (r : LaidRow). r.row < length d.rows) rows
  pub lines : cert_texts (cert_made d book rows) ≡ certificate_lines d

-- The law: what is promised of a layout is enough.
abbrev pub LayoutIsCertified : FlowsData → Nodes → List SizeEntry → List LaidRow → Type 0
LayoutIsCertified d pool book rows =
    AreTrue d book → uses_in book ≡ book_of d → AreLaidAfter d pool [] (rows_in_stacks d) rows → IsCertified d book rows
