-- What the text of a result says: a tree, and a certificate of entries with their ranges (this project's own).
use Rattle.std.specs.Prelude.{◌≡◌, ℕ, ◌+◌, ◌^◌, ◌<◌, ◌≤◌, Bool, false, if◌then◌else◌, List, [], ◌∷◌, ◌++◌, length, map, Option}
use Rattle.std.specs.Prelude.{IfSome, All, codes, ◌≢◌}
use Rattle.std.specs.List.{flat_map}
use Rattle.std.specs.Fmt.{decimal}
use Rattle.flow_text.specs.Numbers.{IsNumber}
use Rattle.flow_list.specs.Tokens.{Token}
use Rattle.flow_list.specs.Column.{ColumnLine}
use Rattle.flow_list.specs.Ranges.{Reason, tall, area, left, bad, over}
use Rattle.flow_list.specs.TreeText.{token_text}
use Rattle.flow_list.specs.ResultText.{line_words, number_or_dash, end_text, reason_words}

-- What an entry says: the size of a row from a place on; the height of a balanced row directly in a stack where this much is
-- available, and whether it fits; or the height of a row with `column-fill: auto`.
pub data Head : Type 0 where
  size : (row : ℕ) (from : Token) (height : ℕ) → Head
  balanced : (row : ℕ) (available : Option ℕ) (height : ℕ) (fits : Bool) → Head
  filled : (row : ℕ) (available : Option ℕ) (height : ℕ) → Head

-- a column line with the numbers of the sizes that it cites
pub record CitedLine : Type 0 where
  pub line : ColumnLine
  pub cites : List ℕ

-- a range as it is given, with the number of its line
pub record GivenRange : Type 0 where
  pub at : ℕ
  pub low : ℕ
  pub high : ℕ
  pub reason : Reason
  pub columns : List CitedLine

-- an entry as it is given, with the number of its line
pub record GivenEntry : Type 0 where
  pub at : ℕ
  pub head : Head
  pub ranges : List GivenRange

-- A result as it is given: whether its column lines cite sizes (the second format), the lines of its tree, its entries, and the
-- numbers of the lines `cert` and `end`.
pub record GivenResult : Type 0 where
  pub cites : Bool
  pub tree : List (List ℕ)
  pub cert_at : ℕ
  pub entries : List GivenEntry
  pub end_at : ℕ

-- ---- the lines

abbrev pub fits_text : Bool → List ℕ
fits_text fits = if fits then codes "yes" else codes "no"

abbrev pub head_words : Head → List (List ℕ)
head_words (size r q h) = codes "size" ∷ decimal r ∷ token_text q ∷ decimal h ∷ []
head_words (balanced r a h fits) = codes "row" ∷ decimal r ∷ number_or_dash a ∷ decimal h ∷ fits_text fits ∷ []
head_words (filled r a h) = codes "auto" ∷ decimal r ∷ number_or_dash a ∷ decimal h ∷ []

abbrev pub column_words : ColumnLine → List (List ℕ)
column_words line = codes "col" ∷ decimal line.depth ∷ end_text line.end ∷ number_or_dash line.stop ∷ []

abbrev pub cited_text : CitedLine → List ℕ
cited_text c = line_words (column_words c.line ++ map decimal c.cites)

abbrev pub range_texts : GivenRange → List (List ℕ)
range_texts x = line_words (codes "range" ∷ decimal x.low ∷ decimal x.high ∷ reason_words x.reason) ∷ map cited_text x.columns

abbrev pub entry_texts : GivenEntry → List (List ℕ)
entry_texts e = line_words (head_words e.head) ∷ flat_map range_texts e.ranges

abbrev pub first_text : Bool → List ℕ
first_text cites = if cites then codes "mcol 2" else codes "mcol 1"

-- the lines of a result, without their line feeds
abbrev pub result_texts : GivenResult → List (List ℕ)
result_texts r = first_text r.cites ∷ r.tree ++ codes "cert" ∷ flat_map entry_texts r.entries ++ codes "end" ∷ []

abbrev pub ended_lines : List (List ℕ) → List ℕ
ended_lines texts = flat_map (λ text. text ++ 10 ∷ []) texts

-- ---- which numbers may stand where

-- the number of a row, an item, a column or a depth
abbrev pub IsSmall : ℕ → Type 0
IsSmall n = n < 2 ^ 32

-- a place has one to three numbers
abbrev pub IsToken : Token → Type 0
IsToken q = (1 ≤ length q) × (length q ≤ 3) × All IsSmall q

abbrev pub IsHeadLine : Head → Type 0
IsHeadLine (size r q h) = IsSmall r × IsToken q × IsNumber h
IsHeadLine (balanced r a h fits) = IsSmall r × IfSome a IsNumber × IsNumber h
IsHeadLine (filled r a h) = IsSmall r × IfSome a IsNumber × IsNumber h

abbrev pub IsReasonLine : Reason → Type 0
IsReasonLine (tall k) = IsSmall k
IsReasonLine area = Unit {0}
IsReasonLine (left q) = IsToken q
IsReasonLine (bad c) = IsSmall c
IsReasonLine (over c) = IsSmall c

abbrev pub IsCitedLine : Bool → CitedLine → Type 0
IsCitedLine cites c = IsSmall c.line.depth × IfSome c.line.end IsToken × IfSome c.line.stop IsSmall × All IsNumber c.cites
    × (cites ≡ false → c.cites ≡ [])

-- columns stand only below a reason that speaks of them
abbrev pub MayHave : Reason → List CitedLine → Type 0
MayHave (tall k) columns = columns ≡ []
MayHave area columns = columns ≡ []
MayHave (left q) columns = Unit {0}
MayHave (bad c) columns = Unit {0}
MayHave (over c) columns = Unit {0}

-- and no ranges below a row with `column-fill: auto`
abbrev pub MayRange : Head → List GivenRange → Type 0
MayRange (size r q h) ranges = Unit {0}
MayRange (balanced r a h fits) ranges = Unit {0}
MayRange (filled r a h) ranges = ranges ≡ []

-- These ranges stand from line n on, and what follows them begins at line m.
abbrev pub RangesStand : Bool → ℕ → List GivenRange → ℕ → Type 0
RangesStand cites n [] m = n ≡ m
RangesStand cites n (x ∷ xs) m =
    (x.at ≡ n) × IsNumber x.low × IsNumber x.high × IsReasonLine x.reason × All (IsCitedLine cites) x.columns
    × MayHave x.reason x.columns
    × RangesStand cites (n + 1 + length x.columns) xs m

abbrev pub EntriesStand : Bool → ℕ → List GivenEntry → ℕ → Type 0
EntriesStand cites n [] m = n ≡ m
EntriesStand cites n (e ∷ es) m =
    (e.at ≡ n) × IsHeadLine e.head × MayRange e.head e.ranges × (k : ℕ) × RangesStand cites (n + 1) e.ranges k
    × EntriesStand cites k es m

-- any text other than `cert`, from space to `~`
abbrev pub IsTreeText : List ℕ → Type 0
IsTreeText text = (text ≢ codes "cert") × All (λ b. (32 ≤ b) × (b ≤ 126)) text

-- These bytes are this result.
pub record IsResult (text : List ℕ) (r : GivenResult) : Type 0 where
  pub spelled : text ≡ ended_lines (result_texts r)
  pub tree : All IsTreeText r.tree
  pub cert_at : r.cert_at ≡ 2 + length r.tree
  pub entries : EntriesStand r.cites (r.cert_at + 1) r.entries r.end_at
