-- What is built of the lines after `cert` (this project's own).
use Rattle.std.specs.Prelude.{◌≡◌, ℕ, ◌+◌, Bool, true, false, List, [], ◌∷◌, ◌++◌, length, drop, map, Option, Some, None}
use Rattle.std.specs.List.{flat_map}
use Rattle.flow_list.specs.Column.{ColumnLine}
use Rattle.flow_list.specs.Ranges.{Reason, tall, area, left, bad, over, Range}
use Rattle.height_cert.specs.declared.cert.Cites.{Cites}
use Rattle.height_cert.specs.declared.cert.CertEntry.{CertEntry}
use Rattle.height_cert.specs.declared.cert.CertEntry.TheVariants.{Size, Row, Auto}
use Rattle.height_cert.specs.Certs.{head_of, ranges_in, first_cites}
use Rattle.result_laws.specs.Reading.{CertLine, entry, range, column, close, Place, no_range, no_column, after_reason}
use Rattle.result_laws.specs.Reading.{place_after}
use Rattle.result_reader.specs.declared.build.Building.{Building}

-- ---- lines without the sizes that they cite

abbrev pub plain_column : ColumnLine → CertLine
plain_column l = column (record { line = l; cites = [] })

abbrev pub plain_range : Range → List CertLine
plain_range x = range x.low x.high x.reason ∷ map plain_column x.lines

abbrev pub plain_entry : CertEntry → List CertLine
plain_entry e = entry (head_of e) ∷ flat_map plain_range (ranges_in e)

abbrev pub plain_lines : List CertEntry → List CertLine
plain_lines es = flat_map plain_entry es

-- the line of an entry, and that of a range, that more may follow
abbrev pub open_entry : Option CertEntry → List CertLine
open_entry None = []
open_entry (Some e) = entry (head_of e) ∷ []

abbrev pub open_range : Option Range → List CertLine
open_range None = []
open_range (Some x) = range x.low x.high x.reason ∷ []

-- the lines that were taken, without their sizes
abbrev pub taken : Building → List CertLine
taken b = plain_lines b.entries ++ (open_entry b.entry ++ (flat_map plain_range b.ranges
    ++ (open_range b.range ++ map plain_column b.columns)))

-- ---- lines with the sizes that they cite

-- the k-th of the column lines cites the sizes of the k-th list
abbrev pub with_cites : List Cites → List CertLine → List CertLine
with_cites cites [] = []
with_cites cites (entry h ∷ ls) = entry h ∷ with_cites cites ls
with_cites cites (range low high r ∷ ls) = range low high r ∷ with_cites cites ls
with_cites cites (column c ∷ ls) = column (record { line = c.line; cites = first_cites cites }) ∷ with_cites (drop 1 cites) ls
with_cites cites (close ∷ ls) = close ∷ with_cites cites ls

-- how many of these lines are columns'
abbrev pub columns_among : List CertLine → ℕ
columns_among [] = 0
columns_among (entry h ∷ ls) = columns_among ls
columns_among (range low high r ∷ ls) = columns_among ls
columns_among (column c ∷ ls) = 1 + columns_among ls
columns_among (close ∷ ls) = columns_among ls

-- the numbers of the lines of entries and ranges, from line n on
abbrev pub numbers_from : ℕ → List CertLine → List ℕ
numbers_from n [] = []
numbers_from n (entry h ∷ ls) = n ∷ numbers_from (n + 1) ls
numbers_from n (range low high r ∷ ls) = n ∷ numbers_from (n + 1) ls
numbers_from n (column c ∷ ls) = numbers_from (n + 1) ls
numbers_from n (close ∷ ls) = numbers_from (n + 1) ls

abbrev pub lines_taken : Building → List CertLine
lines_taken b = with_cites b.cites (taken b)

-- a list of sizes for each column line in the second format, and none in the first
abbrev pub HasCites : Bool → List Cites → List CertLine → Type 0
HasCites false cites ls = cites ≡ []
HasCites true cites ls = length cites ≡ columns_among ls

-- ranges stand only below an entry that may have them, and columns below a range
abbrev pub MayHold : Option CertEntry → List Range → Type 0
MayHold None xs = xs ≡ []
MayHold (Some (Size e)) xs = Unit {0}
MayHold (Some (Row row available height fits ranges)) xs = Unit {0}
MayHold (Some (Auto row available height)) xs = xs ≡ []

abbrev pub MayOpen : Option CertEntry → Option Range → Type 0
MayOpen e None = Unit {0}
MayOpen e (Some x) = MayHold e (x ∷ [])

abbrev pub MayStand : Option Range → List ColumnLine → Type 0
MayStand None ls = ls ≡ []
MayStand (Some x) ls = Unit {0}

-- whether ranges may stand below an entry, and column lines below a range
abbrev pub may_range : Option CertEntry → Bool
may_range None = false
may_range (Some (Size e)) = true
may_range (Some (Row row available height fits ranges)) = true
may_range (Some (Auto row available height)) = false

abbrev pub has_columns : Reason → Bool
has_columns (tall k) = false
has_columns area = false
has_columns (left q) = true
has_columns (bad c) = true
has_columns (over c) = true

abbrev pub may_column : Option Range → Bool
may_column None = false
may_column (Some x) = has_columns x.reason

-- what is held open stands below what may have it
pub record IsHeld (b : Building) : Type 0 where
  pub ranges : MayHold b.entry b.ranges
  pub range : MayOpen b.entry b.range
  pub columns : MayStand b.range b.columns

-- the place after what was taken
abbrev pub place_after_range : Option Range → Place
place_after_range None = no_column
place_after_range (Some x) = after_reason x.reason

abbrev pub place_in : Option CertEntry → Option Range → Place
place_in None r = no_range
place_in (Some (Size e)) r = place_after_range r
place_in (Some (Row row available height fits ranges)) r = place_after_range r
place_in (Some (Auto row available height)) r = no_range

abbrev pub place_of : Building → Place
place_of b = place_in b.entry b.range

-- What was taken from line n on is in order.
pub record IsBuilt (second : Bool) (n : ℕ) (b : Building) : Type 0 where
  pub held : IsHeld b
  pub cites : HasCites second b.cites (taken b)
  pub numbers : b.numbers ≡ numbers_from n (taken b)

-- a line is taken too, at its place
pub record Takes (b : Building) (l : CertLine) (next : Building) : Type 0 where
  pub held : IsHeld next
  pub lines : taken next ≡ taken b ++ l ∷ []
  pub place : place_after (place_of b) l ≡ Some (place_of next)

-- a line may not stand here, or it is taken
abbrev pub TakesOrNot : Building → CertLine → Option Building → Type 0
TakesOrNot b l None = place_after (place_of b) l ≡ None
TakesOrNot b l (Some next) = Takes b l next

-- a line with its sizes may not stand here, or it is taken, and all is in order
pub record Steps (cites : Bool) (n : ℕ) (b : Building) (l : CertLine) (next : Building) : Type 0 where
  pub built : IsBuilt cites n next
  pub lines : lines_taken next ≡ lines_taken b ++ l ∷ []
  pub count : length (taken next) ≡ length (taken b) + 1
  pub place : place_after (place_of b) l ≡ Some (place_of next)

abbrev pub StepsOrNot : Bool → ℕ → Building → CertLine → Option Building → Type 0
StepsOrNot cites n b l None = place_after (place_of b) l ≡ None
StepsOrNot cites n b l (Some next) = Steps cites n b l next
