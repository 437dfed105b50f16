-- How flows are made of the lines of a flow file, line by line.
use Rattle.std.specs.Prelude.{ℕ, ◌+◌, ◌-◌, ◌*◌, ◌^◌, ◌≤◌, Bool, true, false, List, [], ◌∷◌, ◌++◌, length, slice_set, Option}
use Rattle.std.specs.List.{AllByRecursion}
use Rattle.mc_base.specs.declared.level.Level.{Level}
use Rattle.flow_text.specs.declared.line.Line.{Line}
use Rattle.flow_text.specs.declared.line.Form.{Form}
use Rattle.flow_text.specs.declared.line.Form.TheVariants as forms
use Rattle.flow_text.specs.Limits.{numbers}
use Rattle.flow_list.specs.declared.build.OpenRow.{OpenRow}
use Rattle.flow_list.specs.declared.build.Parts.{Parts}
use Rattle.flow_list.specs.Data.{BoxInfo, Edge, Flow, FlowsData, Item, Seam, Plain, Margin, Solid, Wall, Start, End, Atom, Row}
use Rattle.flow_list.specs.FileFlows.{bound_of, outer_flow}
use Rattle.flow_data.specs.Flows.{no_flow, no_seam}

-- the numbers of a line are at most 2^24
abbrev pub IsLow : Form → Type 0
IsLow form = AllByRecursion (λ n. n ≤ 2 ^ 24) (numbers form)

abbrev pub open_row : ℕ → OpenRow
open_row flow = record { flow = flow; items = []; seams = []; seam = no_seam; in_tail = false }

-- nothing is read yet: row 0 is open, and has flow 1
abbrev pub begun : Parts
begun = record { row = open_row 1; outer = []; flows = outer_flow ∷ no_flow ∷ []; rows = []; boxes = []; stacks = [] }

-- ---- the innermost open row

abbrev pub edge_in : Bool → Seam → Edge → Seam
edge_in true seam e = record { tail = seam.tail ++ e ∷ []; head = seam.head; level = seam.level }
edge_in false seam e = record { tail = seam.tail; head = seam.head ++ e ∷ []; level = seam.level }

abbrev pub with_edge : OpenRow → Edge → OpenRow
with_edge row e = record {
  flow = row.flow;
  items = row.items;
  seams = row.seams;
  seam = edge_in row.in_tail row.seam e;
  in_tail = row.in_tail;
}

abbrev pub with_item : OpenRow → Item → OpenRow
with_item row item =
    record { flow = row.flow; items = row.items ++ item ∷ []; seams = row.seams ++ row.seam ∷ []; seam = no_seam; in_tail = true }

abbrev pub with_place : OpenRow → Level → OpenRow
with_place row level =
    record {
      flow = row.flow;
      items = row.items;
      seams = row.seams;
      seam = record { tail = row.seam.tail; head = row.seam.head; level = level };
      in_tail = false;
    }

abbrev pub closed : OpenRow → Flow
closed row = record { opened = []; items = row.items; seams = row.seams ++ row.seam ∷ [] }

-- ---- lines

abbrev pub in_row : Parts → OpenRow → Parts
in_row s row = record { row = row; outer = s.outer; flows = s.flows; rows = s.rows; boxes = s.boxes; stacks = s.stacks }

abbrev pub first : Parts → ℕ → ℕ → ℕ → Option ℕ → Bool → Parts
first s n w step available auto = record {
  row = s.row;
  outer = s.outer;
  flows = s.flows;
  rows = s.rows ++ record { flow = 1; n = n; w = w; step = step; x = 0; auto = auto } ∷ [];
  boxes = s.boxes;
  stacks = s.stacks ++ record { flow = 0; w = (n - 1) * step + w; bound = bound_of available } ∷ [];
}

abbrev pub edge : Parts → Edge → Parts
edge s e = in_row s (with_edge s.row e)

abbrev pub start : Parts → ℕ → BoxInfo → Parts
start s number box = record {
  row = with_edge s.row (Start number);
  outer = s.outer;
  flows = s.flows;
  rows = s.rows;
  boxes = s.boxes ++ box ∷ [];
  stacks = s.stacks;
}

abbrev pub inner_row : Parts → ℕ → ℕ → ℕ → ℕ → Parts
inner_row s n w step x = record {
  row = open_row (length s.flows);
  outer = with_item s.row (Row (length s.rows)) ∷ s.outer;
  flows = s.flows ++ no_flow ∷ [];
  rows = s.rows ++ record { flow = length s.flows; n = n; w = w; step = step; x = x; auto = false } ∷ [];
  boxes = s.boxes;
  stacks = s.stacks;
}

abbrev pub nearest : List OpenRow → OpenRow
nearest [] = open_row 0
nearest (row ∷ outer) = row

abbrev pub farther : List OpenRow → List OpenRow
farther [] = []
farther (row ∷ outer) = outer

abbrev pub close : Parts → Parts
close s = record {
  row = nearest s.outer;
  outer = farther s.outer;
  flows = slice_set s.flows s.row.flow (closed s.row);
  rows = s.rows;
  boxes = s.boxes;
  stacks = s.stacks;
}

abbrev pub step : Parts → Form → Parts
step s forms.Flow = s
step s (forms.First n w st available auto) = first s n w st available auto
step s (forms.Margin u) = edge s (Margin u)
step s (forms.Solid u) = edge s (Solid u)
step s forms.Wall = edge s Wall
step s (forms.Start number x w avoid top bottom) =
    start s number (record { x = x; w = w; avoid = avoid; top = top; bottom = bottom })
step s (forms.End number) = edge s (End number)
step s (forms.Atom u) = in_row s (with_item s.row (Atom u Plain))
step s (forms.Row n w st x) = inner_row s n w st x
step s (forms.Break level) = in_row s (with_place s.row level)
step s forms.Close = close s

-- the parts after these lines
abbrev pub run : Parts → List Line → Parts
run s [] = s
run s (l ∷ lines) = run (step s l.form) lines

abbrev pub parts_of : Parts → FlowsData
parts_of s = record { flows = s.flows; rows = s.rows; boxes = s.boxes; stacks = s.stacks }
