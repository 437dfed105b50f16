-- The flows that a flow file says. Flow files are this project's own. Rows are numbered in the order of their lines, from
-- the first row, 0; row k has flow k + 1, and flow 0 is that of stack 0.
use Rattle.std.specs.Prelude.{◌≡◌, ℕ, suc, ◌+◌, ◌-◌, ◌*◌, false, List, [], ◌∷◌, ◌++◌, Option, Some, None, ⊤}
use Rattle.mc_base.specs.declared.level.Level.{Level}
use Rattle.mc_base.specs.declared.level.Level.TheVariants.{L0}
use Rattle.mc_base.specs.declared.refusal.Refusal.{Refusal}
use Rattle.mc_base.specs.declared.refusal.Refusal.TheVariants as refusals
use Rattle.mc_base.specs.declared.read_error.Fault.{Fault}
use Rattle.flow_text.specs.declared.line.Line.{Line}
use Rattle.flow_text.specs.declared.line.Form.{Form}
use Rattle.flow_text.specs.declared.line.Form.TheVariants as forms
use Rattle.flow_text.specs.Answer.{refusal_of}
use Rattle.flow_text.specs.Faults.{IsFirstFault}
use Rattle.flow_text.specs.Grammar.{Rest, no_more, edge, place, atom, row, FlowFile, IsFlowFile, file_lines}
use Rattle.flow_text.specs.Limits.{limit_passed}
use Rattle.flow_text.specs.Text.{IsText}
use Rattle.flow_list.specs.Data.{Bound, BoxInfo, Edge, Flow, FlowsData, Item, RowInfo, Seam, Stack, Plain, Free, Each, Margin}
use Rattle.flow_list.specs.Data.{Solid, Wall, Start, End, Atom, Row}
use Rattle.flow_data.specs.Flows.{no_seam}

-- ---- seams

-- the edge that a line is
abbrev pub line_edges : Form → List Edge
line_edges (forms.Margin u) = Margin u ∷ []
line_edges (forms.Solid u) = Solid u ∷ []
line_edges forms.Wall = Wall ∷ []
line_edges (forms.Start number x w avoid top bottom) = Start number ∷ []
line_edges (forms.End number) = End number ∷ []
line_edges _ = []

-- the edges before the next break place or item
abbrev pub edges_before : Rest → List Edge
edges_before no_more = []
edges_before (edge l rest) = line_edges l.form ++ edges_before rest
edges_before (place at level rest) = []
edges_before (atom at height rest) = []
edges_before (row at n w step x content ended rest) = []

-- the edges between the next break place and the item after it
abbrev pub edges_behind : Rest → List Edge
edges_behind no_more = []
edges_behind (edge l rest) = edges_behind rest
edges_behind (place at level rest) = edges_before rest
edges_behind (atom at height rest) = []
edges_behind (row at n w step x content ended rest) = []

-- the level of the next break place before an item
abbrev pub next_level : Rest → Level
next_level no_more = L0
next_level (edge l rest) = next_level rest
next_level (place at level rest) = level
next_level (atom at height rest) = L0
next_level (row at n w step x content ended rest) = L0

-- the seam between an item and what is left of its row after it
abbrev pub seam_behind : Rest → Seam
seam_behind rest = record { tail = edges_before rest; head = edges_behind rest; level = next_level rest }

-- the seams after the items that are left
abbrev pub seams_behind : Rest → List Seam
seams_behind no_more = []
seams_behind (edge l rest) = seams_behind rest
seams_behind (place at level rest) = seams_behind rest
seams_behind (atom at height rest) = seam_behind rest ∷ seams_behind rest
seams_behind (row at n w step x content ended rest) = seam_behind rest ∷ seams_behind rest

-- the seam before the first item
abbrev pub first_seam : Rest → Seam
first_seam rest = record { tail = []; head = edges_before rest; level = L0 }

-- ---- items, flows and rows; the next row has number k

-- how many rows are left, those within other rows included
abbrev pub row_count : Rest → ℕ
row_count no_more = 0
row_count (edge l rest) = row_count rest
row_count (place at level rest) = row_count rest
row_count (atom at height rest) = row_count rest
row_count (row at n w step x content ended rest) = suc (row_count content + row_count rest)

abbrev pub items_from : ℕ → Rest → List Item
items_from k no_more = []
items_from k (edge l rest) = items_from k rest
items_from k (place at level rest) = items_from k rest
items_from k (atom at height rest) = Atom height Plain ∷ items_from k rest
items_from k (row at n w step x content ended rest) = Row k ∷ items_from (suc k + row_count content) rest

-- the flow of a row in which this stands
abbrev pub row_flow : ℕ → Rest → Flow
row_flow k content = record { opened = []; items = items_from k content; seams = first_seam content ∷ seams_behind content }

-- the rows that are left, each before those within it
abbrev pub rows_from : ℕ → Rest → List RowInfo
rows_from k no_more = []
rows_from k (edge l rest) = rows_from k rest
rows_from k (place at level rest) = rows_from k rest
rows_from k (atom at height rest) = rows_from k rest
rows_from k (row at n w step x content ended rest) =
    record { flow = suc k; n = n; w = w; step = step; x = x; auto = false }
    ∷ rows_from (suc k) content ++ rows_from (suc k + row_count content) rest

-- their flows, in the same order
abbrev pub flows_from : ℕ → Rest → List Flow
flows_from k no_more = []
flows_from k (edge l rest) = flows_from k rest
flows_from k (place at level rest) = flows_from k rest
flows_from k (atom at height rest) = flows_from k rest
flows_from k (row at n w step x content ended rest) =
    row_flow (suc k) content ∷ flows_from (suc k) content ++ flows_from (suc k + row_count content) rest

-- ---- boxes, in the order of their starts

abbrev pub line_boxes : Form → List BoxInfo
line_boxes (forms.Start number x w avoid top bottom) = record { x = x; w = w; avoid = avoid; top = top; bottom = bottom } ∷ []
line_boxes _ = []

abbrev pub boxes_from : Rest → List BoxInfo
boxes_from no_more = []
boxes_from (edge l rest) = line_boxes l.form ++ boxes_from rest
boxes_from (place at level rest) = boxes_from rest
boxes_from (atom at height rest) = boxes_from rest
boxes_from (row at n w step x content ended rest) = boxes_from content ++ boxes_from rest

-- ---- the file

abbrev pub bound_of : Option ℕ → Bound
bound_of None = Free
bound_of (Some available) = Each available

-- the flow of stack 0 is row 0 alone
abbrev pub outer_flow : Flow
outer_flow = record { opened = []; items = Row 0 ∷ []; seams = no_seam ∷ no_seam ∷ [] }

abbrev pub empty_flow : Flow
empty_flow = record { opened = []; items = []; seams = no_seam ∷ [] }

abbrev pub first_row : FlowFile → RowInfo
first_row f = record { flow = 1; n = f.n; w = f.w; step = f.step; x = 0; auto = f.auto }

-- the stack is as wide as the columns that are wanted
abbrev pub first_stack : FlowFile → Stack
first_stack f = record { flow = 0; w = (f.n - 1) * f.step + f.w; bound = bound_of f.available }

-- the flow of row 0, and those of the rows within it
abbrev pub content_flows : Option Rest → List Flow
content_flows None = empty_flow ∷ []
content_flows (Some rest) = row_flow 1 rest ∷ flows_from 1 rest

abbrev pub content_rows : Option Rest → List RowInfo
content_rows None = []
content_rows (Some rest) = rows_from 1 rest

abbrev pub content_boxes : Option Rest → List BoxInfo
content_boxes None = []
content_boxes (Some rest) = boxes_from rest

abbrev pub flows_of : FlowFile → FlowsData
flows_of f = record {
  flows = outer_flow ∷ content_flows f.content;
  rows = first_row f ∷ content_rows f.content;
  boxes = content_boxes f.content;
  stacks = first_stack f ∷ [];
}

-- ---- texts

-- These bytes are this flow file.
pub record IsFile (text : List ℕ) (file : FlowFile) : Type 0 where
  pub lines : List Line
  pub spelled : IsText 0 lines text
  pub on_grammar : IsFlowFile lines file

-- the first limit that a flow file passes
abbrev pub limit_of : FlowFile → Option Refusal
limit_of file = limit_passed (file_lines file)

-- A text is refused for this reason: its first fault, or the first limit that the flow file passes; or memory ran out.
abbrev pub RefusesText : List ℕ → Refusal → Type 0
RefusesText text (refusals.Grammar input offset rule) =
    (fault : Fault) × IsFirstFault text fault × (refusal_of fault ≡ refusals.Grammar input offset rule)
RefusesText text (refusals.Construct input offset name) = ⊥
RefusesText text (refusals.Limit name reached limit) =
    (file : FlowFile) × IsFile text file × (limit_of file ≡ Some (refusals.Limit name reached limit))
RefusesText text refusals.NoMemory = ⊤
