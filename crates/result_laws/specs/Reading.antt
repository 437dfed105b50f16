-- What is read in the text of a result, or its first fault.
use Rattle.std.specs.Prelude.{ℕ, ◌+◌, List, [], ◌∷◌, ◌++◌, length, Bool, true, false, not, ◌&&◌, ◌||◌, ◌==◌, nat_lt, Option, Some}
use Rattle.std.specs.Prelude.{None, codes, if◌then◌else◌, Result, Ok, Err}
use Rattle.std.specs.Str.{bytes_eq}
use Rattle.mc_base.specs.declared.read_error.Fault.{Fault}
use Rattle.flow_text.specs.Text.{Cut, cuts}
use Rattle.flow_list.specs.Ranges.{Reason, tall, area, left, bad, over}
use Rattle.result_laws.specs.Given.{Head, size, balanced, filled, CitedLine, GivenRange, GivenEntry, GivenResult}
use Rattle.result_laws.specs.Words.{words_of, ◌>>=◌, number_of, small_of, numbers_of, token_of, dash_or}
use Rattle.result_laws.specs.Words.{end_of_word, yes_or_no}

-- a line after `cert`
pub data CertLine : Type 0 where
  entry : Head → CertLine
  range : (low high : ℕ) → Reason → CertLine
  column : CitedLine → CertLine
  close : CertLine

-- ---- what a line says

abbrev pub head_of_size : List (List ℕ) → Option CertLine
head_of_size (r ∷ q ∷ h ∷ []) = small_of r >>= λ r. token_of q >>= λ q. number_of h >>= λ h. Some (entry (size r q h))
head_of_size _ = None

abbrev pub head_of_row : List (List ℕ) → Option CertLine
head_of_row (r ∷ a ∷ h ∷ fits ∷ []) = small_of r >>= λ r. dash_or number_of a >>= λ a. number_of h >>= λ h.
    yes_or_no fits >>= λ fits. Some (entry (balanced r a h fits))
head_of_row _ = None

abbrev pub head_of_auto : List (List ℕ) → Option CertLine
head_of_auto (r ∷ a ∷ h ∷ []) = small_of r >>= λ r. dash_or number_of a >>= λ a. number_of h >>= λ h.
    Some (entry (filled r a h))
head_of_auto _ = None

abbrev pub reason_of_words : List (List ℕ) → Option Reason
reason_of_words (w ∷ []) = if bytes_eq w (codes "area") then Some area else None
reason_of_words (w ∷ n ∷ []) =
    if bytes_eq w (codes "tall") then (small_of n >>= λ k. Some (tall k)) else
    (if bytes_eq w (codes "left") then (token_of n >>= λ q. Some (left q)) else
    (if bytes_eq w (codes "bad") then (small_of n >>= λ c. Some (bad c)) else
    (if bytes_eq w (codes "over") then (small_of n >>= λ c. Some (over c)) else None)))
reason_of_words _ = None

abbrev pub range_of_words : List (List ℕ) → Option CertLine
range_of_words (low ∷ high ∷ reason) = number_of low >>= λ low. number_of high >>= λ high. reason_of_words reason >>= λ reason.
    Some (range low high reason)
range_of_words _ = None

-- only lines of the second format cite sizes
abbrev pub cites_of : Bool → List (List ℕ) → Option (List ℕ)
cites_of cites [] = Some []
cites_of false (w ∷ ws) = None
cites_of true (w ∷ ws) = numbers_of (w ∷ ws)

abbrev pub column_of_words : Bool → List (List ℕ) → Option CertLine
column_of_words cites (depth ∷ end ∷ stop ∷ rest) =
    small_of depth >>= λ depth. end_of_word end >>= λ end. dash_or small_of stop >>= λ stop. cites_of cites rest >>= λ cited.
    Some (column (record { line = record { depth = depth; end = end; stop = stop }; cites = cited }))
column_of_words cites _ = None

abbrev pub line_of_words : Bool → List (List ℕ) → Option CertLine
line_of_words cites [] = None
line_of_words cites (w ∷ ws) =
    if bytes_eq w (codes "col") then column_of_words cites ws else
    (if bytes_eq w (codes "range") then range_of_words ws else
    (if bytes_eq w (codes "size") then head_of_size ws else
    (if bytes_eq w (codes "row") then head_of_row ws else
    (if bytes_eq w (codes "auto") then head_of_auto ws else None))))

unfoldable pub line_of : Bool → List ℕ → Option CertLine
line_of cites text = if bytes_eq text (codes "end") then Some close else line_of_words cites (words_of text)

-- ---- which line may stand where

-- what may stand next: no range, a range too, or a range and a column line too
pub data Place : Type 0 where
  no_range : Place
  no_column : Place
  any_line : Place

abbrev pub after_head : Head → Place
after_head (size r q h) = no_column
after_head (balanced r a h fits) = no_column
after_head (filled r a h) = no_range

abbrev pub after_reason : Reason → Place
after_reason (tall k) = no_column
after_reason area = no_column
after_reason (left q) = any_line
after_reason (bad c) = any_line
after_reason (over c) = any_line

-- the place after a line that may stand here
abbrev pub place_after : Place → CertLine → Option Place
place_after place (entry head) = Some (after_head head)
place_after place close = Some no_range
place_after no_range (range low high reason) = None
place_after no_column (range low high reason) = Some (after_reason reason)
place_after any_line (range low high reason) = Some (after_reason reason)
place_after any_line (column c) = Some any_line
place_after no_range (column c) = None
place_after no_column (column c) = None

-- ---- the entries of lines

-- what these lines are from one on: columns of a range before them, ranges of an entry before them, and entries
pub record Rest : Type 0 where
  pub columns : List CitedLine
  pub ranges : List GivenRange
  pub entries : List GivenEntry

abbrev pub onto_rest : ℕ → CertLine → Rest → Rest
onto_rest n (entry head) r = record
    { columns = []; ranges = []; entries = record { at = n; head = head; ranges = r.ranges } ∷ r.entries }
onto_rest n (range low high reason) r =
    record {
      columns = [];
      ranges = record { at = n; low = low; high = high; reason = reason; columns = r.columns } ∷ r.ranges;
      entries = r.entries;
    }
onto_rest n (column c) r = record { columns = c ∷ r.columns; ranges = r.ranges; entries = r.entries }
onto_rest n close r = r

unfoldable pub gathered : ℕ → List CertLine → Rest
gathered n [] = record { columns = []; ranges = []; entries = [] }
gathered n (l ∷ ls) = onto_rest n l (gathered (n + 1) ls)

-- ---- a text

abbrev pub fault : {A : Type 0} → ℕ → ℕ → Result A Fault
fault at rule = Err (record { at = at; rule = rule })

abbrev pub is_cut : Cut → List ℕ → Bool
is_cut c text = c.ended && bytes_eq c.text text

abbrev pub line_in : Bool → Cut → Option CertLine
line_in cites c = if c.ended then line_of cites c.text else None

abbrev pub is_close : CertLine → Bool
is_close (entry head) = false
is_close (range low high reason) = false
is_close (column c) = false
is_close close = true

abbrev pub none_after : GivenResult → List Cut → Result GivenResult Fault
none_after r [] = Ok r
none_after r (c ∷ cs) = fault c.at 5

-- a line that may stand here, with the place after it
abbrev pub line_here : Place → Option CertLine → Option (CertLine × Place)
line_here place None = None
line_here place (Some l) = place_after place l >>= λ p. Some (l, p)

unfoldable pub read_entries : Bool → (len : ℕ) → List (List ℕ) → Place → List CertLine → List Cut → Result GivenResult Fault
read_entries cites len tree place lines [] = fault len 5
read_entries cites len tree place lines (c ∷ cs) = elim (line_here place (line_in cites c)) [
  | None ↦ fault c.at 4
  | Some next ↦ elim (is_close next.0) [
    | false ↦ read_entries cites len tree next.1 (lines ++ next.0 ∷ []) cs
    | true ↦
        none_after (record {
          cites = cites;
          tree = tree;
          cert_at = 2 + length tree;
          entries = (gathered (3 + length tree) lines).entries;
          end_at = 3 + length tree + length lines;
        }) cs
  ]
]

unfoldable pub read_tree : Bool → (len : ℕ) → List (List ℕ) → List Cut → Result GivenResult Fault
read_tree cites len tree [] = fault len 3
read_tree cites len tree (c ∷ cs) =
    elim (is_cut c (codes "cert")) [
      | true ↦ read_entries cites len tree no_range [] cs
      | false ↦ read_tree cites len (tree ++ c.text ∷ []) cs
    ]

unfoldable pub read_first : (len : ℕ) → List Cut → Result GivenResult Fault
read_first len [] = fault 0 2
read_first len (c ∷ cs) = elim (is_cut c (codes "mcol 1")) [
  | true ↦ read_tree false len [] cs
  | false ↦ elim (is_cut c (codes "mcol 2")) [ true ↦ read_tree true len [] cs | false ↦ fault 0 2 ]
]

-- where the first byte stands that is neither from space to `~` nor a line feed
abbrev pub wrong_byte : ℕ → List ℕ → Option ℕ
wrong_byte at [] = None
wrong_byte at (b ∷ bytes) = if (nat_lt b 32 || nat_lt 126 b) && not (b == 10) then Some at else wrong_byte (at + 1) bytes

-- the result that a text is, or its first fault
unfoldable pub result_of : List ℕ → Result GivenResult Fault
result_of text = elim (wrong_byte 0 text) [ Some at ↦ fault at 1 | None ↦ read_first (length text) (cuts 0 text) ]
