-- The parts of flows by their numbers, and which boxes are open where. A number out of range names an empty part.
use Rattle.std.specs.Prelude.{ℕ, ◌+◌, ◌==◌, Bool, false, not, List, [], ◌∷◌, ◌++◌, filter, flat_map, take, get_or}
use Rattle.std.specs.List.{list_any}
use Rattle.mc_base.specs.declared.level.Level.TheVariants.{L0}
use Rattle.flow_data.specs.Data.{BoxInfo, Edge, Flow, FlowsData, Item, RowInfo, Seam, Stack, Plain, Free, Margin, Solid, Wall}
use Rattle.flow_data.specs.Data.{Start, End, Atom, Row}

abbrev pub no_item : Item
no_item = Atom 0 Plain

abbrev pub no_seam : Seam
no_seam = record { tail = []; head = []; level = L0 }

abbrev pub no_flow : Flow
no_flow = record { opened = []; items = []; seams = [] }

abbrev pub no_row : RowInfo
no_row = record { flow = 0; n = 1; w = 0; step = 0; x = 0; auto = false }

abbrev pub no_box : BoxInfo
no_box = record { x = 0; w = 0; avoid = false; top = 0; bottom = 0 }

abbrev pub no_stack : Stack
no_stack = record { flow = 0; w = 0; bound = Free }

-- flow f, row r, box b and stack s of the data
abbrev pub flow_of : FlowsData → ℕ → Flow
flow_of d f = get_or d.flows f no_flow

abbrev pub row_of : FlowsData → ℕ → RowInfo
row_of d r = get_or d.rows r no_row

abbrev pub box_of : FlowsData → ℕ → BoxInfo
box_of d b = get_or d.boxes b no_box

abbrev pub stack_of : FlowsData → ℕ → Stack
stack_of d s = get_or d.stacks s no_stack

-- item i and seam k of a flow
abbrev pub item_of : Flow → ℕ → Item
item_of f i = get_or f.items i no_item

abbrev pub seam_of : Flow → ℕ → Seam
seam_of f k = get_or f.seams k no_seam

-- the flow that stands in row r
abbrev pub flow_in : FlowsData → ℕ → Flow
flow_in d r = flow_of d (row_of d r).flow

-- the row that an item is
abbrev pub row_in : Item → List ℕ
row_in (Atom h k) = []
row_in (Row r) = r ∷ []

-- the rows that stand directly in a flow
abbrev pub rows_in : Flow → List ℕ
rows_in f = flat_map row_in f.items

abbrev pub atom_height : Item → ℕ
atom_height (Atom h k) = h
atom_height (Row r) = 0

-- the margin or the solid amount that an edge is
abbrev pub amount : Edge → ℕ
amount (Margin m) = m
amount (Solid a) = a
amount Wall = 0
amount (Start b) = 0
amount (End b) = 0

-- the box that an edge starts, and the one that it ends
abbrev pub started : Edge → List ℕ
started (Margin m) = []
started (Solid a) = []
started Wall = []
started (Start b) = b ∷ []
started (End b) = []

abbrev pub ended : Edge → List ℕ
ended (Margin m) = []
ended (Solid a) = []
ended Wall = []
ended (Start b) = []
ended (End b) = b ∷ []

-- the boxes that start in the heads of these seams, and those that end in their tails
abbrev pub starts_in : List Seam → List ℕ
starts_in seams = flat_map (λ (s : Seam). flat_map started s.head) seams

abbrev pub ends_in : List Seam → List ℕ
ends_in seams = flat_map (λ (s : Seam). flat_map ended s.tail) seams

abbrev pub is_among : List ℕ → ℕ → Bool
is_among bs b = list_any (λ c. c == b) bs

-- the boxes that are open at item k: they are open at the flow's start or start in a head up to seam k, and end in no
-- tail up to seam k
abbrev pub open_at : Flow → ℕ → List ℕ
open_at f k =
    let seams = take (k + 1) f.seams in
    filter (λ b. not (is_among (ends_in seams) b)) (f.opened ++ starts_in seams)

-- the boxes that stand in a flow: they are open at its start, or start in it
abbrev pub boxes_in : Flow → List ℕ
boxes_in f = f.opened ++ starts_in f.seams
