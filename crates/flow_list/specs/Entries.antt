-- The entries of a book of sizes, and the sizes that they are of (this project's own).
use Rattle.std.specs.Prelude.{List, map, find, Option}
use Rattle.flow_list.specs.Certificate.{Use, same_use}
use Rattle.flow_list.specs.declared.book.SizeEntry.{SizeEntry}
use Rattle.flow_list.specs.declared.place.Place.{Place}

-- the row and the place that an entry is of
abbrev pub use_of : SizeEntry → Use
use_of e = (e.row, e.from)

abbrev pub uses_in : List SizeEntry → List Use
uses_in book = map use_of book

-- the first entry of a row from a place on
abbrev pub entry_for : List SizeEntry → Use → Option SizeEntry
entry_for book u = find (λ e. same_use u (use_of e)) book

-- the key by which an entry is found
abbrev pub place_of : SizeEntry → Place
place_of e = record { row = e.row; from = e.from }
