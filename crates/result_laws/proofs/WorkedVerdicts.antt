-- Worked verdicts.
use Rattle.std.proofs.Common.{◌≡◌, ℕ, false, List, [], ◌∷◌, ◌++◌, ◌+◌, ◌*◌, ◌-◌, refl}
use Rattle.std.specs.Prelude.{codes, Result, Ok, Err, take, length}
use Rattle.std.specs.Fmt.{decimal, digits}
use Rattle.mc_base.specs.declared.level.Level.TheVariants.{L0, L1}
use Rattle.mc_base.specs.declared.level.Level.{Level}
use Rattle.mc_base.specs.declared.read_error.Fault.{Fault}
use Rattle.flow_text.specs.Text.{cuts}
use Rattle.flow_text.specs.Numbers.{number_at}
use Rattle.flow_list.specs.Data.{Plain, Bound, Free, Each, FlowsData, Seam, Item, Atom, Row}
use Rattle.flow_list.specs.Column.{column, steps, endless_column}
use Rattle.flow_list.specs.Rows.{columns_by, fits, least, size_in, fill_in, rows_to, all_rows}
use Rattle.flow_list.specs.RowHeights.{size_of, height_fits, row_columns, row_height, columns_of_row}
use Rattle.flow_list.specs.Ranges.{judged, searched, ranges}
use Rattle.flow_list.specs.Certificate.{owned_to, range_owned, size_uses, row_uses, entered, rows_in_stacks, certificate, book_of}
use Rattle.flow_list.specs.ResultText.{certificate_lines, result_lines, line_words}
use Rattle.flow_list.specs.Placing.{places_from}
use Rattle.flow_list.specs.Fragments.{laid_items, strip_after, trees_of, row_fragments, stack_laid, stack_fragment}
use Rattle.flow_list.specs.Stacks.{stack_strip, stack_height}
use Rattle.flow_list.specs.Tree.{lines_of_tree, lines_of_trees, lines_of_columns, lines_of_column, lines_of_stack, tree_of}
use Rattle.result_laws.specs.Failure.{first_of, verdict_lines}
use Rattle.result_laws.specs.Given.{GivenResult, ended_lines}
use Rattle.result_laws.specs.Words.{parted, number_of, small_of, token_of}
use Rattle.result_laws.specs.Reading.{line_of, gathered, read_entries, read_tree, read_first, result_of}
use Rattle.result_laws.specs.Clauses.{first_missing, is_place, name, twice, avail, hole, empty, same, tall_fails, area_fails}
use Rattle.result_laws.specs.Clauses.{cite, end, number, long, reason, last_high, reach, cite_height, height, missing, tree}
use Rattle.result_laws.specs.Verdict.{range_tests, ranges_tests, entry_tests, entries_tests, tests, verdict}

abbrev pub read_words : Result GivenResult Fault → List (List ℕ)
read_words (Ok r) = codes "read" ∷ []
read_words (Err f) = line_words (codes "fault" ∷ decimal f.at ∷ decimal f.rule ∷ []) ∷ []

abbrev judged_so : FlowsData → Result GivenResult Fault → List (List ℕ)
judged_so d (Ok r) = verdict_lines (verdict d r)
judged_so d (Err f) = line_words (codes "fault" ∷ decimal f.at ∷ decimal f.rule ∷ []) ∷ []

unfoldable says : FlowsData → List (List ℕ) → List (List ℕ)
unfolding digits places_from laid_items strip_after trees_of row_fragments stack_laid stack_fragment column steps endless_column
    columns_by fits least size_in fill_in rows_to all_rows size_of height_fits row_columns row_height columns_of_row judged
    searched ranges owned_to range_owned size_uses row_uses entered rows_in_stacks certificate book_of certificate_lines
    result_lines stack_strip stack_height lines_of_tree lines_of_trees lines_of_columns lines_of_column lines_of_stack tree_of
    first_of parted number_of small_of token_of line_of gathered read_entries read_tree read_first result_of first_missing
    is_place name twice avail hole empty same tall_fails area_fails cite end number long reason last_high reach cite_height height
    missing tree range_tests ranges_tests entry_tests entries_tests tests verdict cuts number_at
says d texts = judged_so d (result_of (ended_lines texts))

-- ---- flows

abbrev atom : ℕ → Item
atom h = Atom h Plain

abbrev bare : Level → Seam
bare level = record { tail = []; head = []; level = level }

abbrev one_row : Bound → (n : ℕ) → List Item → List Seam → FlowsData
one_row bound n items seams = record {
  flows = record { opened = []; items = Row 0 ∷ []; seams = bare L0 ∷ bare L0 ∷ [] } ∷ record
      { opened = []; items = items; seams = seams } ∷ [];
  rows = record { flow = 1; n = n; w = 100; step = 110; x = 0; auto = false } ∷ [];
  boxes = [];
  stacks = record { flow = 0; w = (110 * (n - 1)) + 100; bound = bound } ∷ [];
}

-- six items of 20 in three columns
abbrev six : FlowsData
six = one_row Free 3 (atom 20 ∷ atom 20 ∷ atom 20 ∷ atom 20 ∷ atom 20 ∷ atom 20 ∷ [])
    (bare L0 ∷ bare L0 ∷ bare L0 ∷ bare L0 ∷ bare L0 ∷ bare L0 ∷ bare L0 ∷ [])

abbrev six_tree : List (List ℕ)
six_tree = codes "0 stack 0 0 0 320 40" ∷ codes "1 row 0 0 0 0 320 40"
    ∷ codes "2 col 0 0 0 100 40" ∷ codes "3 atom 0 0 0 100 20" ∷ codes "3 atom 1 0 20 100 20"
    ∷ codes "2 col 1 110 0 100 40" ∷ codes "3 atom 2 110 0 100 20" ∷ codes "3 atom 3 110 20 100 20"
    ∷ codes "2 col 2 220 0 100 40" ∷ codes "3 atom 4 220 0 100 20" ∷ codes "3 atom 5 220 20 100 20" ∷ []

abbrev six_text : List (List ℕ) → List (List ℕ)
six_text cert = codes "mcol 1" ∷ six_tree ++ codes "cert" ∷ cert ++ codes "end" ∷ []

six-own : says six (six_text (codes "row 0 - 40 yes" ∷ codes "range 0 20 tall 0" ∷ codes "range 20 40 area" ∷ []))
    ≡ codes "yes" ∷ []
unfolding says
six-own = refl

-- the last range is left out
six-short : says six (six_text (codes "row 0 - 40 yes" ∷ codes "range 0 20 tall 0" ∷ []))
    ≡ codes "no 14 reach" ∷ codes "expected 40" ∷ codes "found 20" ∷ []
unfolding says
six-short = refl

-- an item stands one lower
six-lower : says six (codes "mcol 1" ∷ codes "0 stack 0 0 0 320 40" ∷ codes "1 row 0 0 0 0 320 40" ∷ codes "2 col 0 0 0 100 40"
    ∷ codes "3 atom 0 0 0 100 20" ∷ codes "3 atom 1 0 21 100 20" ∷ codes "2 col 1 110 0 100 40" ∷ codes
    "3 atom 2 110 0 100 20" ∷ codes "3 atom 3 110 20 100 20" ∷ codes "2 col 2 220 0 100 40" ∷ codes "3 atom 4 220 0 100 20"
    ∷ codes "3 atom 5 220 20 100 20" ∷ codes "cert" ∷ codes "row 0 - 40 yes" ∷ codes "range 0 20 tall 0" ∷ codes
    "range 20 40 area" ∷ codes "end" ∷ []) ≡ codes "no 6 tree" ∷ codes "expected 3 atom 1 0 20 100 20" ∷ codes
    "found 3 atom 1 0 21 100 20" ∷ []
unfolding says
six-lower = refl

-- the last line is cut
unfoldable cut_says : FlowsData → List (List ℕ) → List (List ℕ)
unfolding says
cut_says d texts = judged_so d (result_of (take (length (ended_lines texts) - 2) (ended_lines texts)))

six-cut : cut_says six (six_text (codes "row 0 - 40 yes" ∷ codes "range 0 20 tall 0" ∷ codes "range 20 40 area" ∷ []))
    ≡ codes "fault 296 4" ∷ []
unfolding cut_says
six-cut = refl

-- less is given as available than a row can have
six-less : says six (six_text (codes "row 0 10 40 yes" ∷ codes "range 0 20 tall 0" ∷ codes "range 20 40 area" ∷ []))
    ≡ codes "no 14 avail" ∷ codes "expected -" ∷ codes "found 10" ∷ []
unfolding says
six-less = refl

-- forged results
six-hole : says six (six_text (codes "row 0 - 40 yes" ∷ codes "range 5 20 tall 0" ∷ codes "range 20 40 area" ∷ []))
    ≡ codes "no 15 hole" ∷ codes "expected 0" ∷ codes "found 5" ∷ []
unfolding says
six-hole = refl

six-tall : says six (six_text (codes "row 0 - 40 yes" ∷ codes "range 0 21 tall 0" ∷ codes "range 21 40 area" ∷ []))
    ≡ codes "no 15 tall" ∷ codes "expected 21" ∷ codes "found 20" ∷ []
unfolding says
six-tall = refl

six-area : says six (six_text (codes "row 0 - 41 yes" ∷ codes "range 0 20 tall 0" ∷ codes "range 20 41 area" ∷ []))
    ≡ codes "no 16 area" ∷ codes "expected 121" ∷ codes "found 120" ∷ []
unfolding says
six-area = refl

six-same :
    says six
    (six_text (codes "row 0 - 40 yes" ∷ codes "range 0 20 tall 0" ∷ codes "range 20 30 area" ∷ codes "range 30 40 area" ∷ []))
    ≡ codes "no 17 same" ∷ codes "expected 16" ∷ codes "found 17" ∷ []
unfolding says
six-same = refl

six-twice :
    says six
    (six_text (codes "row 0 - 40 yes" ∷ codes "range 0 20 tall 0" ∷ codes "range 20 40 area" ∷ codes "row 0 - 40 yes" ∷ []))
    ≡ codes "no 17 twice" ∷ codes "expected 14" ∷ codes "found 17" ∷ []
unfolding says
six-twice = refl

six-other : says six (six_text (codes "row 1 - 40 yes" ∷ [])) ≡ codes "no 14 name" ∷ codes "expected 1" ∷ codes "found 1" ∷ []
unfolding says
six-other = refl

six-size : says six (six_text (codes "size 0 0 40" ∷ [])) ≡ codes "no 14 name" ∷ codes "expected 1" ∷ codes "found 0" ∷ []
unfolding says
six-size = refl

six-avail : says six (six_text (codes "row 0 80 40 yes" ∷ [])) ≡ codes "no 14 avail" ∷ codes "expected -" ∷ codes "found 80" ∷ []
unfolding says
six-avail = refl

six-huge :
    says six
    (six_text (codes "row 0 - 9999999999999999999 yes" ∷ codes "range 0 20 tall 0" ∷ codes "range 20 9999999999999999999 left 0"
    ∷ [])) ≡ codes "no 16 end" ∷ codes "expected col 0 1 1" ∷ codes "found none" ∷ []
unfolding says
six-huge = refl

six-huge-atom :
    says six (six_text (codes "row 0 - 9999999999999999999 yes" ∷ codes "range 0 9999999999999999999 tall 4294967295" ∷ []))
    ≡ codes "no 15 tall" ∷ codes "expected 9999999999999999999" ∷ codes "found 0" ∷ []
unfolding says
six-huge-atom = refl

abbrev five : FlowsData
five = one_row Free 2 (atom 10 ∷ atom 10 ∷ atom 10 ∷ atom 10 ∷ atom 10 ∷ [])
    (bare L0 ∷ bare L1 ∷ bare L0 ∷ bare L0 ∷ bare L1 ∷ bare L0 ∷ [])

five-own : says five (codes "mcol 1" ∷ codes "0 stack 0 0 0 210 30" ∷ codes "1 row 0 0 0 0 210 30" ∷ codes "2 col 0 0 0 100 30"
    ∷ codes "3 atom 0 0 0 100 10" ∷ codes "3 atom 1 0 10 100 10" ∷ codes "3 atom 2 0 20 100 10" ∷ codes "2 col 1 110 0 100 30"
    ∷ codes "3 atom 3 110 0 100 10" ∷ codes "3 atom 4 110 10 100 10" ∷ codes "cert" ∷ codes "row 0 - 30 yes" ∷ codes
    "range 0 10 tall 0" ∷ codes "range 10 25 area" ∷ codes "range 25 30 left 3" ∷ codes "col 0 2 2" ∷ codes "col 0 3 4"
    ∷ codes "end" ∷ []) ≡ codes "yes" ∷ []
unfolding says
five-own = refl

five-end : says five (codes "mcol 1" ∷ codes "0 stack 0 0 0 210 30" ∷ codes "1 row 0 0 0 0 210 30" ∷ codes "2 col 0 0 0 100 30"
    ∷ codes "3 atom 0 0 0 100 10" ∷ codes "3 atom 1 0 10 100 10" ∷ codes "3 atom 2 0 20 100 10" ∷ codes "2 col 1 110 0 100 30"
    ∷ codes "3 atom 3 110 0 100 10" ∷ codes "3 atom 4 110 10 100 10" ∷ codes "cert" ∷ codes "row 0 - 30 yes" ∷ codes
    "range 0 10 tall 0" ∷ codes "range 10 25 area" ∷ codes "range 25 30 left 3" ∷ codes "col 0 2 3" ∷ codes "col 0 3 4"
    ∷ codes "end" ∷ []) ≡ codes "no 16 end" ∷ codes "expected col 0 2 2" ∷ codes "found col 0 2 3" ∷ []
unfolding says
five-end = refl

abbrev three : FlowsData
three = one_row (Each 80) 2 (atom 40 ∷ atom 40 ∷ atom 40 ∷ []) (bare L0 ∷ bare L1 ∷ bare L1 ∷ bare L0 ∷ [])

three-own : says three (codes "mcol 1" ∷ codes "0 stack 0 0 0 210 80" ∷ codes "1 row 0 0 0 0 210 80" ∷ codes "2 col 0 0 0 100 80"
    ∷ codes "3 atom 0 0 0 100 40" ∷ codes "3 atom 1 0 40 100 40" ∷ codes "2 col 1 110 0 100 80" ∷ codes
    "3 atom 2 110 0 100 40" ∷ codes "cert" ∷ codes "row 0 80 80 no" ∷ codes "range 0 40 tall 0" ∷ codes "range 40 60 area"
    ∷ codes "range 60 80 bad 1" ∷ codes "col 0 1 1" ∷ codes "range 80 81 bad 1" ∷ codes "col 0 2 2" ∷ codes "end" ∷ [])
    ≡ codes "yes" ∷ []
unfolding says
three-own = refl

three-forged : says three (codes "mcol 1" ∷ codes "0 stack 0 0 0 210 80" ∷ codes "1 row 0 0 0 0 210 80" ∷ codes
    "2 col 0 0 0 100 80" ∷ codes "3 atom 0 0 0 100 40" ∷ codes "3 atom 1 0 40 100 40" ∷ codes "2 col 1 110 0 100 80" ∷ codes
    "3 atom 2 110 0 100 40" ∷ codes "cert" ∷ codes "row 0 80 120 yes" ∷ codes "range 0 40 tall 0" ∷ codes "range 40 60 area"
    ∷ codes "range 60 80 bad 1" ∷ codes "col 0 1 1" ∷ codes "range 80 120 bad 1" ∷ codes "col 0 2 2" ∷ codes "end" ∷ [])
    ≡ codes "no 10 height" ∷ codes "expected 80" ∷ codes "found 120" ∷ []
unfolding says
three-forged = refl

abbrev nothing : FlowsData
nothing = one_row Free 2 [] (bare L0 ∷ [])

nothing-own : says nothing (codes "mcol 1" ∷ codes "0 stack 0 0 0 210 0" ∷ codes "1 row 0 0 0 0 210 0" ∷ codes "cert" ∷ codes
    "row 0 - 0 yes" ∷ codes "end" ∷ []) ≡ codes "yes" ∷ []
unfolding says
nothing-own = refl

nothing-missing : says nothing
    (codes "mcol 1" ∷ codes "0 stack 0 0 0 210 0" ∷ codes "1 row 0 0 0 0 210 0" ∷ codes "cert" ∷ codes "end" ∷ [])
    ≡ codes "no 5 missing" ∷ codes "expected 0" ∷ codes "found none" ∷ []
unfolding says
nothing-missing = refl

-- a row of four items, an item, and a row of two
abbrev nested : FlowsData
nested = record {
  flows = record { opened = []; items = Row 0 ∷ []; seams = bare L0 ∷ bare L0 ∷ [] }
      ∷ record { opened = []; items = Row 1 ∷ atom 30 ∷ Row 2 ∷ []; seams = bare L0 ∷ bare L0 ∷ bare L0 ∷ bare L0 ∷ [] }
      ∷ record {
        opened = [];
        items = atom 20 ∷ atom 20 ∷ atom 20 ∷ atom 20 ∷ [];
        seams = bare L0 ∷ bare L0 ∷ bare L0 ∷ bare L0 ∷ bare L0 ∷ [];
      }
      ∷ record { opened = []; items = atom 20 ∷ atom 20 ∷ []; seams = bare L0 ∷ bare L0 ∷ bare L0 ∷ [] } ∷ [];
  rows = record { flow = 1; n = 1; w = 210; step = 210; x = 0; auto = false }
      ∷ record { flow = 2; n = 2; w = 100; step = 110; x = 0; auto = false }
      ∷ record { flow = 3; n = 2; w = 100; step = 110; x = 0; auto = false } ∷ [];
  boxes = [];
  stacks = record { flow = 0; w = 210; bound = Free } ∷ [];
}

nested-own : says nested (result_lines nested) ≡ codes "yes" ∷ []
unfolding says
nested-own = refl

-- the certificate of this with a tree that is too short, and forged ones (lines from 5 on)
nested-tree : says nested (codes "mcol 2" ∷ codes "0 stack 0 0 0 210 90" ∷ codes "1 row 0 0 0 0 210 90" ∷ codes "cert" ∷ codes
    "size 1 0 40" ∷ codes "range 0 20 tall 0" ∷ codes "range 20 40 area" ∷ codes "size 2 0 20" ∷ codes "range 0 20 tall 0"
    ∷ codes "row 0 - 90 yes" ∷ codes "range 0 30 tall 1" ∷ codes "range 30 40 left 0.2" ∷ codes "col 0 0.2 0 0" ∷ codes
    "col 1 1 1" ∷ codes "col 1 2 2" ∷ codes "range 40 70 left 1" ∷ codes "col 0 1 1 0" ∷ codes "range 70 90 left 2" ∷ codes
    "col 0 2 2 0 1" ∷ codes "col 1 ! 0" ∷ codes "end" ∷ []) ≡ codes "no 4 tree" ∷ codes "expected 2 col 0 0 0 210 90" ∷ codes
    "found none" ∷ []
unfolding says
nested-tree = refl

nested-cite : says nested (codes "mcol 2" ∷ codes "0 stack 0 0 0 210 90" ∷ codes "1 row 0 0 0 0 210 90" ∷ codes "cert" ∷ codes
    "size 1 0 40" ∷ codes "range 0 20 tall 0" ∷ codes "range 20 40 area" ∷ codes "row 0 - 90 yes" ∷ codes "range 0 30 tall 1"
    ∷ codes "range 30 40 left 0.2" ∷ codes "col 0 0.2 0 0" ∷ codes "col 1 1 1" ∷ codes "col 1 2 2" ∷ codes
    "range 40 70 left 1" ∷ codes "col 0 1 1 0" ∷ codes "range 70 90 left 2" ∷ codes "col 0 2 2 0 1" ∷ codes "col 1 ! 0"
    ∷ codes "end" ∷ []) ≡ codes "no 16 cite" ∷ codes "expected size 2 0" ∷ codes "found none" ∷ []
unfolding says
nested-cite = refl

nested-later : says nested (codes "mcol 2" ∷ codes "0 stack 0 0 0 210 90" ∷ codes "1 row 0 0 0 0 210 90" ∷ codes "cert" ∷ codes
    "size 1 0 40" ∷ codes "range 0 20 tall 0" ∷ codes "range 20 40 area" ∷ codes "row 0 - 90 yes" ∷ codes "range 0 30 tall 1"
    ∷ codes "range 30 40 left 0.2" ∷ codes "col 0 0.2 0 0" ∷ codes "col 1 1 1" ∷ codes "col 1 2 2" ∷ codes
    "range 40 70 left 1" ∷ codes "col 0 1 1 0" ∷ codes "range 70 90 left 2" ∷ codes "col 0 2 2 0 1" ∷ codes "col 1 ! 0"
    ∷ codes "size 2 0 20" ∷ codes "range 0 20 tall 0" ∷ codes "end" ∷ []) ≡ codes "no 16 cite" ∷ codes "expected size 2 0"
    ∷ codes "found none" ∷ []
unfolding says
nested-later = refl

nested-twice : says nested (codes "mcol 2" ∷ codes "0 stack 0 0 0 210 90" ∷ codes "1 row 0 0 0 0 210 90" ∷ codes "cert" ∷ codes
    "size 1 0 40" ∷ codes "range 0 20 tall 0" ∷ codes "range 20 40 area" ∷ codes "size 1 0 40" ∷ codes "range 0 20 tall 0"
    ∷ codes "range 20 40 area" ∷ codes "size 2 0 20" ∷ codes "range 0 20 tall 0" ∷ codes "row 0 - 90 yes" ∷ codes
    "range 0 30 tall 1" ∷ codes "range 30 40 left 0.2" ∷ codes "col 0 0.2 0 0" ∷ codes "col 1 1 1" ∷ codes "col 1 2 2" ∷ codes
    "range 40 70 left 1" ∷ codes "col 0 1 1 0" ∷ codes "range 70 90 left 2" ∷ codes "col 0 2 2 0 1" ∷ codes "col 1 ! 0"
    ∷ codes "end" ∷ []) ≡ codes "no 8 twice" ∷ codes "expected 5" ∷ codes "found 8" ∷ []
unfolding says
nested-twice = refl

nested-no-place : says nested
    (codes "mcol 2" ∷ codes "0 stack 0 0 0 210 90" ∷ codes "1 row 0 0 0 0 210 90" ∷ codes "cert" ∷ codes "size 1 4 0" ∷ codes
    "size 1 0 40" ∷ codes "range 0 20 tall 0" ∷ codes "range 20 40 area" ∷ codes "size 2 0 20" ∷ codes "range 0 20 tall 0"
    ∷ codes "row 0 - 90 yes" ∷ codes "range 0 30 tall 1" ∷ codes "range 30 40 left 0.2" ∷ codes "col 0 0.2 0 0" ∷ codes
    "col 1 1 1" ∷ codes "col 1 2 2" ∷ codes "range 40 70 left 1" ∷ codes "col 0 1 1 0" ∷ codes "range 70 90 left 2" ∷ codes
    "col 0 2 2 0 1" ∷ codes "col 1 ! 0" ∷ codes "end" ∷ []) ≡ codes "no 5 name" ∷ codes "expected 3" ∷ codes "found 1" ∷ []
unfolding says
nested-no-place = refl

nested-high : says nested (codes "mcol 2" ∷ codes "0 stack 0 0 0 210 90" ∷ codes "1 row 0 0 0 0 210 90" ∷ codes "cert" ∷ codes
    "size 1 0 41" ∷ codes "range 0 20 tall 0" ∷ codes "range 20 41 area" ∷ codes "size 2 0 20" ∷ codes "range 0 20 tall 0"
    ∷ codes "row 0 - 90 yes" ∷ codes "range 0 30 tall 1" ∷ codes "range 30 40 left 0.2" ∷ codes "col 0 0.2 0 0" ∷ codes
    "col 1 1 1" ∷ codes "col 1 2 2" ∷ codes "range 40 70 left 1" ∷ codes "col 0 1 1 0" ∷ codes "range 70 90 left 2" ∷ codes
    "col 0 2 2 0 1" ∷ codes "col 1 ! 0" ∷ codes "end" ∷ []) ≡ codes "no 7 area" ∷ codes "expected 81" ∷ codes "found 80" ∷ []
unfolding says
nested-high = refl

nested-low : says nested (codes "mcol 2" ∷ codes "0 stack 0 0 0 210 90" ∷ codes "1 row 0 0 0 0 210 90" ∷ codes "cert" ∷ codes
    "size 1 0 20" ∷ codes "range 0 20 tall 0" ∷ codes "size 2 0 20" ∷ codes "range 0 20 tall 0" ∷ codes "row 0 - 90 yes"
    ∷ codes "range 0 30 tall 1" ∷ codes "range 30 40 left 0.2" ∷ codes "col 0 0.2 0 0" ∷ codes "col 1 1 1" ∷ codes "col 1 2 2"
    ∷ codes "range 40 70 left 1" ∷ codes "col 0 1 1 0" ∷ codes "range 70 90 left 2" ∷ codes "col 0 2 2 0 1" ∷ codes
    "col 1 ! 0" ∷ codes "end" ∷ []) ≡ codes "no 5 height" ∷ codes "expected yes" ∷ codes "found no" ∷ []
unfolding says
nested-low = refl

nested-number : says nested (codes "mcol 2" ∷ codes "0 stack 0 0 0 210 90" ∷ codes "1 row 0 0 0 0 210 90" ∷ codes "cert" ∷ codes
    "size 1 0 40" ∷ codes "range 0 20 tall 0" ∷ codes "range 20 40 area" ∷ codes "size 2 0 20" ∷ codes "range 0 20 tall 0"
    ∷ codes "row 0 - 90 yes" ∷ codes "range 0 30 tall 1" ∷ codes "range 30 40 left 0.2" ∷ codes "col 0 0.2 0 0" ∷ codes
    "col 1 1 1" ∷ codes "col 1 2 2" ∷ codes "range 40 70 left 1" ∷ codes "col 0 1 1 0" ∷ codes "range 70 90 left 2" ∷ codes
    "col 0 2 2 1 0" ∷ codes "col 1 ! 0" ∷ codes "end" ∷ []) ≡ codes "no 19 number" ∷ codes "expected 0 1" ∷ codes
    "found 1 0" ∷ []
unfolding says
nested-number = refl

nested-format-1 : says nested
    (codes "mcol 1" ∷ codes "0 stack 0 0 0 210 90" ∷ codes "1 row 0 0 0 0 210 90" ∷ codes "cert" ∷ codes "size 1 0 40" ∷ codes
    "range 0 20 tall 0" ∷ codes "range 20 40 area" ∷ codes "size 2 0 20" ∷ codes "range 0 20 tall 0" ∷ codes "row 0 - 90 yes"
    ∷ codes "range 0 30 tall 1" ∷ codes "range 30 40 left 0.2" ∷ codes "col 0 0.2 0 0" ∷ codes "col 1 1 1" ∷ codes "col 1 2 2"
    ∷ codes "range 40 70 left 1" ∷ codes "col 0 1 1 0" ∷ codes "range 70 90 left 2" ∷ codes "col 0 2 2 0 1" ∷ codes
    "col 1 ! 0" ∷ codes "end" ∷ []) ≡ codes "fault 185 4" ∷ []
unfolding says
nested-format-1 = refl

-- the last line of a text is cut
