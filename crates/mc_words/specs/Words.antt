-- The words of the command line, and what they ask for. Commands are this project's own.
use Rattle.std.specs.Prelude.{ℕ, ◌^◌, ◌*◌, ◌/◌, max, ◌==◌, nat_lt, Bool, false, not, ◌&&◌, ◌||◌, if◌then◌else◌, List, [], ◌∷◌}
use Rattle.std.specs.Prelude.{Option, None, Some, option_map, codes}
use Rattle.std.specs.List.{list_all}
use Rattle.std.specs.Str.{bytes_eq}
use Rattle.std.specs.Str.Parse.{digits_value}
use Rattle.mc_base.specs.DecimalReading.{decimal_at}
use Rattle.mc_base.specs.Decimals.{is_numeral}
use Rattle.mc_base.specs.declared.decimal.Decimal.{Decimal}

-- a document, a style sheet and a table of metrics, by their names, and the width and the available height, or any, in units
pub record Page : Type 0 where
  pub document : List ℕ
  pub sheet : List ℕ
  pub metrics : List ℕ
  pub width : ℕ
  pub height : Option ℕ

pub data Command : Type 0 where
  -- the result of a flow file, by its name
  rows : (flow : List ℕ) → Command
  -- the generated document of a start and a count of paragraphs
  gen : (start count : ℕ) → Command
  -- how the layout of that document comes out
  trial : (start count : ℕ) → Command
  -- the result of a document
  layout : (page : Page) → Command
  -- its layout with each cut piece of a row as low as it can be, where the row's `column-fill` is `balance-all`
  all : (page : Page) → Command
  -- what stands at a point of it
  hit : (page : Page) (x y : ℕ) → Command
  -- its drawing, with a rule this wide between columns
  draw : (page : Page) (rule : ℕ) → Command
  -- whether a file, by its name, holds the result of a document
  check : (page : Page) (printed : List ℕ) → Command
  -- whether it holds the result of a flow file
  rows_check : (flow printed : List ℕ) → Command

-- a document to lay out, and a script of edits of it, by its name
pub record Session : Type 0 where
  pub page : Page
  pub script : List ℕ

-- ---- numbers

-- the number that a word of digits writes, where it is below this bound
abbrev pub number_below : ℕ → List ℕ → Option ℕ
number_below bound word =
    if is_numeral word && nat_lt (digits_value 10 word) bound then Some (digits_value 10 word) else None

-- a word that begins with a sign: `-`, 45, or `+`, 43
abbrev pub has_sign : List ℕ → Bool
has_sign [] = false
has_sign (c ∷ cs) = c == 45 || c == 43

-- the decimal number that a word writes without a sign
abbrev pub unsigned_of : List ℕ → Option Decimal
unsigned_of word = if has_sign word then None else decimal_at word

-- the units, 64 to a px, of the px that a word writes, rounded down
abbrev pub units_of : List ℕ → Option ℕ
units_of word = option_map (λ number. number.billionths * 64 / 10 ^ 9) (unsigned_of word)

-- an available height: any, for the word `auto`, or at least one px
abbrev pub height_of : List ℕ → Option (Option ℕ)
height_of word =
    if bytes_eq word (codes "auto") then Some None else option_map (λ height. Some (max height 64)) (units_of word)

-- ---- the words after the name of a command

-- the word `rows` takes one more word
abbrev pub rows_of : List (List ℕ) → Option Command
rows_of (flow ∷ []) = Some (rows flow)
rows_of words = None

-- the word `rows-check` takes one more
abbrev pub rows_check_of : List (List ℕ) → Option Command
rows_check_of (flow ∷ printed ∷ []) = Some (rows_check flow printed)
rows_check_of words = None

-- the words `gen` and `trial` take two more, a start below 2^64 and a count below 2^32
abbrev pub numbers_with : Option ℕ → Option ℕ → Option (ℕ × ℕ)
numbers_with (Some start) (Some count) = Some (start, count)
numbers_with start count = None

abbrev pub numbers_of : List (List ℕ) → Option (ℕ × ℕ)
numbers_of (start ∷ count ∷ []) = numbers_with (number_below (2 ^ 64) start) (number_below (2 ^ 32) count)
numbers_of words = None

abbrev pub gen_of : List (List ℕ) → Option Command
gen_of words = option_map (λ numbers. gen numbers.0 numbers.1) (numbers_of words)

abbrev pub trial_of : List (List ℕ) → Option Command
trial_of words = option_map (λ numbers. trial numbers.0 numbers.1) (numbers_of words)

abbrev pub page_with : List ℕ → List ℕ → List ℕ → Option ℕ → Option (Option ℕ) → Option Page
page_with document sheet metrics (Some width) (Some height) = Some (record {
  document = document;
  sheet = sheet;
  metrics = metrics;
  width = width;
  height = height;
})
page_with document sheet metrics width height = None

-- the names of a document, a style sheet and a table of metrics, a width and an available height
abbrev pub page_of : (document sheet metrics width height : List ℕ) → Option Page
page_of document sheet metrics width height = page_with document sheet metrics (units_of width) (height_of height)

-- the words `layout` and `all` take these five
abbrev pub layout_of : List (List ℕ) → Option Command
layout_of (document ∷ sheet ∷ metrics ∷ width ∷ height ∷ []) =
    option_map (λ page. layout page) (page_of document sheet metrics width height)
layout_of words = None

abbrev pub all_of : List (List ℕ) → Option Command
all_of (document ∷ sheet ∷ metrics ∷ width ∷ height ∷ []) =
    option_map (λ page. all page) (page_of document sheet metrics width height)
all_of words = None

abbrev pub point_with : Option ℕ → Option ℕ → Option (ℕ × ℕ)
point_with (Some x) (Some y) = Some (x, y)
point_with x y = None

abbrev pub hit_with : Option Page → Option (ℕ × ℕ) → Option Command
hit_with (Some page) (Some point) = Some (hit page point.0 point.1)
hit_with page point = None

-- the word `hit` takes two lengths more
abbrev pub hit_of : List (List ℕ) → Option Command
hit_of (document ∷ sheet ∷ metrics ∷ width ∷ height ∷ x ∷ y ∷ []) =
    hit_with (page_of document sheet metrics width height) (point_with (units_of x) (units_of y))
hit_of words = None

abbrev pub draw_with : Option Page → Option ℕ → Option Command
draw_with (Some page) (Some rule) = Some (draw page rule)
draw_with page rule = None

-- the word `draw` takes one length more
abbrev pub draw_of : List (List ℕ) → Option Command
draw_of (document ∷ sheet ∷ metrics ∷ width ∷ height ∷ rule ∷ []) =
    draw_with (page_of document sheet metrics width height) (units_of rule)
draw_of words = None

-- the word `check` takes one name more
abbrev pub check_of : List (List ℕ) → Option Command
check_of (document ∷ sheet ∷ metrics ∷ width ∷ height ∷ printed ∷ []) =
    option_map (λ page. check page printed) (page_of document sheet metrics width height)
check_of words = None

-- ---- all words

-- a word that isn't empty and doesn't begin with `-`, 45
abbrev pub is_plain : List ℕ → Bool
is_plain [] = false
is_plain (c ∷ cs) = not (c == 45)

abbrev pub command_named : List ℕ → List (List ℕ) → Option Command
command_named name words =
    if bytes_eq name (codes "rows") then rows_of words
    else (if bytes_eq name (codes "rows-check") then rows_check_of words
    else (if bytes_eq name (codes "gen") then gen_of words
    else (if bytes_eq name (codes "trial") then trial_of words
    else (if bytes_eq name (codes "layout") then layout_of words
    else (if bytes_eq name (codes "check") then check_of words
    else (if bytes_eq name (codes "all") then all_of words
    else (if bytes_eq name (codes "hit") then hit_of words
    else (if bytes_eq name (codes "draw") then draw_of words else None))))))))

abbrev pub plain_command : List (List ℕ) → Option Command
plain_command [] = None
plain_command (name ∷ words) = command_named name words

-- what the words after the program's name ask for: no word is empty or begins with `-`, and the first names a command
abbrev pub command_of : List (List ℕ) → Option Command
command_of words = if list_all is_plain words then plain_command words else None

-- ---- the words of a session of edits

abbrev pub plain_session : List (List ℕ) → Option Session
plain_session (document ∷ sheet ∷ metrics ∷ width ∷ height ∷ script ∷ []) =
    option_map (λ page. record { page = page; script = script }) (page_of document sheet metrics width height)
plain_session words = None

-- what the words of a session ask for: they are six, and none is empty or begins with `-`
abbrev pub session_of : List (List ℕ) → Option Session
session_of words = if list_all is_plain words then plain_session words else None
