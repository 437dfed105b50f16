-- Which entries of a book are true, and what a book is after a call that lays out (this project's own).
use Rattle.std.specs.Prelude.{◌≡◌, ◌<◌, List, ◌++◌, length, All}
use Rattle.flow_data.specs.declared.data.FlowsData.{FlowsData}
use Rattle.flow_list.specs.Book.{IsTrueBook}
use Rattle.flow_list.specs.Certificate.{size_ranges}
use Rattle.flow_list.specs.Entries.{uses_in}
use Rattle.flow_list.specs.RowHeights.{size_of}
use Rattle.flow_list.specs.declared.book.SizeEntry.{SizeEntry}

-- an entry of a row of the data: its size from its place on, with the ranges of all lesser heights
pub record IsTrueEntry (d : FlowsData) (e : SizeEntry) : Type 0 where
  pub of_a_row : e.row < length d.rows
  pub size : e.height ≡ size_of d e.row e.from
  pub reasons : e.ranges ≡ size_ranges d e.row e.from

-- These entries are true; no size is there twice, and each stands after those that it uses itself.
pub record AreTrue (d : FlowsData) (book : List SizeEntry) : Type 0 where
  pub each : All (IsTrueEntry d) book
  pub order : IsTrueBook d (uses_in book)

-- a book with further entries after its own
pub record Extends (old new : List SizeEntry) : Type 0 where
  pub more : List SizeEntry
  pub is : new ≡ old ++ more

-- the book after a call: it holds what it held, and is true
pub record BookAfter (d : FlowsData) (old new : List SizeEntry) : Type 0 where
  pub held : Extends old new
  pub is_true : AreTrue d new
