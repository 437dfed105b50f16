-- How flows are made of the marks of a content, mark by mark.
use Rattle.std.specs.Prelude.{ℕ, Bool, true, false, ◌&&◌, ◌||◌, if◌then◌else◌, List, [], ◌∷◌, ◌++◌, length, slice_get}
use Rattle.std.specs.Prelude.{slice_set, Option, Some, None}
use Rattle.mc_base.specs.declared.level.Level.{Level}
use Rattle.mc_base.specs.declared.level.Level.TheVariants.{L0}
use Rattle.break_rules.specs.declared.seam.LineCounts.{LineCounts}
use Rattle.break_rules.specs.declared.seam.SeamBoxes.{SeamBoxes}
use Rattle.break_rules.specs.Levels.{level_of}
use Rattle.flow_data.specs.declared.data.AtomKind.TheVariants.{Bounded}
use Rattle.flow_data.specs.declared.data.Bound.TheVariants.{Left}
use Rattle.flow_data.specs.declared.data.BoxInfo.{BoxInfo}
use Rattle.flow_data.specs.declared.data.Flow.{Flow}
use Rattle.flow_data.specs.declared.data.FlowsData.{FlowsData}
use Rattle.flow_data.specs.declared.data.Item.{Item}
use Rattle.flow_data.specs.declared.data.Item.TheVariants.{Atom, Row}
use Rattle.flow_data.specs.declared.data.Seam.{Seam}
use Rattle.flow_data.specs.Flows.{no_flow}
use Rattle.line_breaker.specs.declared.line.Line.{Line}
use Rattle.box_data.specs.declared.mark.Mark.{Mark}
use Rattle.box_data.specs.declared.mark.Mark.TheVariants as marked
use Rattle.box_data.specs.declared.placed.Placed.{Placed}
use Rattle.box_data.specs.Content.{line, image, void}
use Rattle.box_data.specs.DocumentFlows.{opening, closing, leaf_item, leaf_counts, bound_of}
use Rattle.flow_maker.specs.declared.seam.Around.{Around}
use Rattle.flow_maker.specs.declared.seam.Stage.{Stage}
use Rattle.flow_maker.specs.declared.seam.Stage.TheVariants.{First, Direct, Closing, Opening}
use Rattle.flow_maker.specs.declared.seam.OpenSeam.{OpenSeam}
use Rattle.flow_maker.specs.declared.open_flow.OpenFlow.{OpenFlow}
use Rattle.flow_maker.specs.declared.parts.Parts.{Parts}

-- ---- the boxes that are open

abbrev pub no_boxes : Around
no_boxes = record { avoid = false; outer = [] }

abbrev pub entered : Around → Placed → Around
entered a p = record { avoid = p.style.avoid_inside || a.avoid; outer = a.avoid ∷ a.outer }

abbrev pub nearest_avoid : List Bool → Bool
nearest_avoid [] = false
nearest_avoid (a ∷ outer) = a

abbrev pub farther_avoids : List Bool → List Bool
farther_avoids [] = []
farther_avoids (a ∷ outer) = outer

abbrev pub exited : Around → Around
exited a = record { avoid = nearest_avoid a.outer; outer = farther_avoids a.outer }

abbrev pub entered_one : Around → Option Placed → Around
entered_one a None = a
entered_one a (Some p) = entered a p

-- within these boxes too, the outermost first
abbrev pub within : List Placed → Around → List ℕ → Around
within places a [] = a
within places a (n ∷ numbers) = within places (entered_one a (slice_get places n)) numbers

-- ---- the seam in progress

abbrev pub fresh : Stage → OpenSeam
fresh stage = record { tail = []; head = []; after = []; before = []; inside = false; stage = stage }

-- an end of a box belongs to the seam where no box starts before it, but not before the first item
abbrev pub takes_ends : Stage → Bool
takes_ends First = false
takes_ends Direct = true
takes_ends Closing = true
takes_ends Opening = false

abbrev pub stage_opened : Stage → Stage
stage_opened First = First
stage_opened Direct = Opening
stage_opened Closing = Opening
stage_opened Opening = Opening

-- whether a box that is open across the seam avoids a break inside: none that starts at the seam counts
abbrev pub inside_of : Stage → (inside avoid : Bool) → Bool
inside_of First inside avoid = avoid
inside_of Direct inside avoid = avoid
inside_of Closing inside avoid = avoid
inside_of Opening inside avoid = inside

abbrev pub seam_opened : OpenSeam → (avoid : Bool) → Placed → OpenSeam
seam_opened s avoid p = record {
  tail = s.tail;
  head = s.head ++ opening p;
  after = s.after;
  before = s.before ++ p.style.break_before ∷ [];
  inside = inside_of s.stage s.inside avoid;
  stage = stage_opened s.stage;
}

abbrev pub with_end : OpenSeam → Placed → OpenSeam
with_end s p = record {
  tail = s.tail ++ closing p;
  head = s.head;
  after = s.after ++ p.style.break_after ∷ [];
  before = s.before;
  inside = s.inside;
  stage = Closing;
}

abbrev pub seam_closed : OpenSeam → Placed → OpenSeam
seam_closed s p = if takes_ends s.stage then with_end s p else s

-- lines count where nothing stands between them
abbrev pub counts_at : Stage → Option LineCounts → Option LineCounts
counts_at First counts = None
counts_at Direct counts = counts
counts_at Closing counts = None
counts_at Opening counts = None

abbrev pub boxes_at : OpenSeam → (avoid : Bool) → Option LineCounts → SeamBoxes
boxes_at s avoid counts = record {
  after = s.after;
  before = s.before;
  inside_avoid = inside_of s.stage s.inside avoid;
  lines = counts_at s.stage counts;
}

abbrev pub level_at : Stage → SeamBoxes → Level
level_at First boxes = L0
level_at Direct boxes = level_of boxes
level_at Closing boxes = level_of boxes
level_at Opening boxes = level_of boxes

abbrev pub seam_of : OpenSeam → Level → Seam
seam_of s level = record { tail = s.tail; head = s.head; level = level }

abbrev pub seam_before : OpenSeam → (avoid : Bool) → Option LineCounts → Seam
seam_before s avoid counts = seam_of s (level_at s.stage (boxes_at s avoid counts))

abbrev pub last_seam : OpenSeam → Seam
last_seam s = seam_of s L0

-- ---- the innermost open flow

abbrev pub open_flow : (flow : ℕ) → (in_stack : Bool) → List ℕ → Around → OpenFlow
open_flow flow in_stack opened around = record {
  flow = flow;
  in_stack = in_stack;
  opened = opened;
  items = [];
  seams = [];
  seam = fresh First;
  around = around;
}

abbrev pub with_start : OpenFlow → Placed → OpenFlow
with_start o p = record {
  flow = o.flow;
  in_stack = o.in_stack;
  opened = o.opened;
  items = o.items;
  seams = o.seams;
  seam = seam_opened o.seam o.around.avoid p;
  around = entered o.around p;
}

abbrev pub with_close : OpenFlow → Placed → OpenFlow
with_close o p = record {
  flow = o.flow;
  in_stack = o.in_stack;
  opened = o.opened;
  items = o.items;
  seams = o.seams;
  seam = seam_closed o.seam p;
  around = exited o.around;
}

abbrev pub with_item : OpenFlow → Item → Option LineCounts → OpenFlow
with_item o item counts = record {
  flow = o.flow;
  in_stack = o.in_stack;
  opened = o.opened;
  items = o.items ++ item ∷ [];
  seams = o.seams ++ seam_before o.seam o.around.avoid counts ∷ [];
  seam = fresh Direct;
  around = o.around;
}

abbrev pub closed : OpenFlow → Flow
closed o = record { opened = o.opened; items = o.items; seams = o.seams ++ last_seam o.seam ∷ [] }

-- ---- all that is made so far

-- stack 0 is open, and has flow 0
abbrev pub begun : (width : ℕ) → (height : Option ℕ) → Parts
begun width height = record {
  flow = open_flow 0 true [] no_boxes;
  outer = [];
  flows = no_flow ∷ [];
  rows = [];
  stacks = record { flow = 0; w = width; bound = bound_of height } ∷ [];
}

abbrev pub in_flow : Parts → OpenFlow → Parts
in_flow s o = record { flow = o; outer = s.outer; flows = s.flows; rows = s.rows; stacks = s.stacks }

abbrev pub item_in : Parts → Item → Option LineCounts → Parts
item_in s item counts = in_flow s (with_item s.flow item counts)

abbrev pub stack_in : Parts → Placed → Parts
stack_in s p = record {
  flow = open_flow (length s.flows) true [] no_boxes;
  outer = with_item s.flow (Atom p.h (Bounded p.number (length s.stacks) p.content_x)) None ∷ s.outer;
  flows = s.flows ++ no_flow ∷ [];
  rows = s.rows;
  stacks = s.stacks ++ record { flow = length s.flows; w = p.w; bound = Left p.h } ∷ [];
}

abbrev pub row_in : Parts → Placed → (x : ℕ) → (is_last : Bool) → List ℕ → Around → Parts
row_in s p x is_last opened around = record {
  flow = open_flow (length s.flows) false opened around;
  outer = with_item s.flow (Row (length s.rows)) None ∷ s.outer;
  flows = s.flows ++ no_flow ∷ [];
  rows = s.rows ++ record {
    flow = length s.flows;
    n = p.columns.n;
    w = p.columns.w;
    step = p.columns.step;
    x = x;
    auto = s.flow.in_stack && p.style.fill_auto && is_last;
  } ∷ [];
  stacks = s.stacks;
}

abbrev pub nearest : List OpenFlow → OpenFlow
nearest [] = open_flow 0 false [] no_boxes
nearest (o ∷ outer) = o

abbrev pub farther : List OpenFlow → List OpenFlow
farther [] = []
farther (o ∷ outer) = outer

abbrev pub close : Parts → Parts
close s = record {
  flow = nearest s.outer;
  outer = farther s.outer;
  flows = slice_set s.flows s.flow.flow (closed s.flow);
  rows = s.rows;
  stacks = s.stacks;
}

-- ---- a mark; a number of no box, or of no line in its box, says nothing

abbrev pub at_box : Parts → (Placed → Parts) → Option Placed → Parts
at_box s then_of None = s
at_box s then_of (Some p) = then_of p

-- the counts before a line don't depend on its size
abbrev pub no_size : Line
no_size = record { from = 0; to = 0; w = 0; h = 0 }

abbrev pub at_line : Parts → Placed → (index : ℕ) → Option Line → Parts
at_line s p index None = s
at_line s p index (Some l) = item_in s (leaf_item (line p index l)) (leaf_counts (line p index l))

abbrev pub step : List Placed → Parts → Mark → Parts
step places s (marked.Opens n) = at_box s (λ p. in_flow s (with_start s.flow p)) (slice_get places n)
step places s (marked.Closes n) = at_box s (λ p. in_flow s (with_close s.flow p)) (slice_get places n)
step places s (marked.Line n index) = at_box s (λ p. at_line s p index (slice_get p.lines index)) (slice_get places n)
step places s (marked.Image n) = at_box s (λ p. item_in s (leaf_item (image p)) None) (slice_get places n)
step places s (marked.Void n x) = at_box s (λ p. item_in s (leaf_item (void p x)) None) (slice_get places n)
step places s (marked.Stack n) = at_box s (λ p. stack_in s p) (slice_get places n)
step places s (marked.Row n x is_last opened) =
    at_box s (λ p. row_in s p x is_last opened (within places no_boxes opened)) (slice_get places n)
step places s marked.Spanner = s
step places s marked.End = close s

abbrev pub run : List Placed → Parts → List Mark → Parts
run places s [] = s
run places s (m ∷ marks) = run places (step places s m) marks

abbrev pub data_of : List BoxInfo → Parts → FlowsData
data_of boxes s = record { flows = s.flows; rows = s.rows; boxes = boxes; stacks = s.stacks }
