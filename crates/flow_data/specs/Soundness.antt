-- Sound data: what is true of the flows that a document or a flow file gives, and of each sealed value.
-- The limits are this project's own, and so is the order of numbers.
use Rattle.std.specs.Prelude.{◌≡◌, ℕ, zero, suc, ◌+◌, ◌^◌, ◌<◌, ◌≤◌, ◌==◌, Bool, true, false, if◌then◌else◌, List, [], ◌∷◌, ◌++◌}
use Rattle.std.specs.Prelude.{Some, All, AllPairs, Contains, EachIndex, SomeIndex, ◌≢◌, length, count_by, sum_by, map, reverse}
use Rattle.std.specs.Prelude.{flat_map, slice_get, ◌-◌}
use Rattle.flow_data.specs.Data.{AtomKind, BoxInfo, Edge, Flow, FlowsData, Item, RowInfo, Seam, Stack, Plain, Line, Void, Image}
use Rattle.flow_data.specs.Data.{Bounded, Left, Margin, Solid, Wall, Start, End, Atom, Row}
use Rattle.flow_data.specs.Flows.{flow_of, row_of, box_of, stack_of, flow_in, rows_in, atom_height, amount, started, ended}
use Rattle.flow_data.specs.Flows.{open_at, boxes_in}

-- how often a number stands in a list
abbrev pub count_of : ℕ → List ℕ → ℕ
count_of n ns = count_by (λ m. m == n) ns

-- ---- atoms

-- the boxes that an atom names, and the stacks
abbrev pub owners_in : AtomKind → List ℕ
owners_in Plain = []
owners_in (Line owner index x w) = owner ∷ []
owners_in (Void owner x w) = owner ∷ []
owners_in (Image owner x w) = owner ∷ []
owners_in (Bounded owner stack x) = owner ∷ []

abbrev pub stack_in : Item → List ℕ
stack_in (Atom h Plain) = []
stack_in (Atom h (Line owner index x w)) = []
stack_in (Atom h (Void owner x w)) = []
stack_in (Atom h (Image owner x w)) = []
stack_in (Atom h (Bounded owner stack x)) = stack ∷ []
stack_in (Row r) = []

-- the stacks that atoms of a flow name
abbrev pub stacks_in : Flow → List ℕ
stacks_in f = flat_map stack_in f.items

abbrev pub kind_x : AtomKind → ℕ
kind_x Plain = 0
kind_x (Line owner index x w) = x
kind_x (Void owner x w) = x
kind_x (Image owner x w) = x
kind_x (Bounded owner stack x) = x

abbrev pub kind_w : AtomKind → ℕ
kind_w Plain = 0
kind_w (Line owner index x w) = w
kind_w (Void owner x w) = w
kind_w (Image owner x w) = w
kind_w (Bounded owner stack x) = 0

-- the stack that an atom names has that atom's height as its own
abbrev pub HasStackOfItsHeight : FlowsData → ℕ → AtomKind → Type 0
HasStackOfItsHeight d height Plain = Unit {0}
HasStackOfItsHeight d height (Line owner index x w) = Unit {0}
HasStackOfItsHeight d height (Void owner x w) = Unit {0}
HasStackOfItsHeight d height (Image owner x w) = Unit {0}
HasStackOfItsHeight d height (Bounded owner stack x) = (stack < length d.stacks) × ((stack_of d stack).bound ≡ Left height)

pub record IsSoundAtom (d : FlowsData) (height : ℕ) (kind : AtomKind) : Type 0 where
  pub height_limit : height ≤ 2 ^ 24
  pub owners : All (λ b. b < length d.boxes) (owners_in kind)
  pub x_limit : kind_x kind < 2 ^ 60
  pub w_limit : kind_w kind < 2 ^ 60
  pub stack : HasStackOfItsHeight d height kind

abbrev pub IsSoundItem : FlowsData → Item → Type 0
IsSoundItem d (Atom height kind) = IsSoundAtom d height kind
IsSoundItem d (Row r) = r < length d.rows

-- ---- boxes and seams

-- each end closes the innermost of the boxes that are open there, which are listed from the innermost outwards
abbrev pub AreNested : List ℕ → List Edge → Type 0
AreNested boxes [] = Unit {0}
AreNested boxes (Margin m ∷ edges) = AreNested boxes edges
AreNested boxes (Solid a ∷ edges) = AreNested boxes edges
AreNested boxes (Wall ∷ edges) = AreNested boxes edges
AreNested boxes (Start b ∷ edges) = AreNested (b ∷ boxes) edges
AreNested [] (End b ∷ edges) = ⊥
AreNested (innermost ∷ outer) (End b ∷ edges) = (innermost ≡ b) × AreNested outer edges

-- the edges of a flow in order
abbrev pub edges_of : Flow → List Edge
edges_of f = flat_map (λ (s : Seam). s.tail ++ s.head) f.seams

-- Starts stand in heads and ends in tails. A box with cloned edges has its upper edge directly after its start, and
-- its lower edge directly before its end.
pub record IsSoundSeam (d : FlowsData) (s : Seam) : Type 0 where
  pub tail : flat_map started s.tail ≡ []
  pub head : flat_map ended s.head ≡ []
  pub cloned_top : (k b : ℕ) → slice_get s.head k ≡ Some (Start b) → 0 < (box_of d b).top
      → slice_get s.head (k + 1) ≡ Some (Solid (box_of d b).top)
  pub cloned_bottom : (k b : ℕ) → slice_get s.tail k ≡ Some (End b) → 0 < (box_of d b).bottom
      → slice_get s.tail (k - 1) ≡ Some (Solid (box_of d b).bottom)

pub record IsSoundFlow (d : FlowsData) (f : Flow) : Type 0 where
  pub count : length f.items < 2 ^ 32
  pub items : All (IsSoundItem d) f.items
  pub seam_count : length f.seams ≡ length f.items + 1
  pub seams : All (IsSoundSeam d) f.seams
  pub boxes : All (λ b. b < length d.boxes) (boxes_in f)
  pub distinct : AllPairs (λ a b. a ≢ b) (boxes_in f)
  pub nested : AreNested (reverse f.opened) (edges_of f)
  -- no box of a flow is empty there
  pub filled : All (λ b. SomeIndex f.items (λ k. Contains (open_at f k) b)) (boxes_in f)

-- ---- rows

pub record IsSoundRow (d : FlowsData) (r : RowInfo) : Type 0 where
  pub flow : r.flow < length d.flows
  pub some_column : 0 < r.n
  pub column_limit : r.n ≤ 32
  pub step_limit : r.step ≤ 2 ^ 25
  pub x_limit : r.x < 2 ^ 60
  pub w_limit : r.w < 2 ^ 60

-- a row that stands directly in the flow of another row
pub record IsInnerRow (d : FlowsData) (outer inner : ℕ) : Type 0 where
  pub later : outer < inner
  pub some_item : 0 < length (flow_in d inner).items
  pub item_limit : length (flow_in d inner).items ≤ 2000
  pub balanced : (row_of d inner).auto ≡ false

-- at most n rows stand one inside another from this row on, itself included
abbrev pub NestsAtMost : FlowsData → ℕ → ℕ → Type 0
NestsAtMost d zero r = ⊥
NestsAtMost d (suc n) r = All (λ inner. NestsAtMost d n inner) (rows_in (flow_in d r))

-- ---- stacks

-- the flows that are laid in flow f: itself and those of the rows in it, n rows deep
abbrev pub flows_within : FlowsData → ℕ → ℕ → List ℕ
flows_within d zero f = f ∷ []
flows_within d (suc n) f = f ∷ flat_map (λ r. flows_within d n (row_of d r).flow) (rows_in (flow_of d f))

-- the stacks that are named in stack s, directly or within its rows, of which three stand one inside another
abbrev pub stacks_within : FlowsData → ℕ → List ℕ
stacks_within d s = flat_map (λ f. stacks_in (flow_of d f)) (flows_within d 3 (stack_of d s).flow)

pub record IsSoundStack (d : FlowsData) (s : ℕ) : Type 0 where
  pub flow : (stack_of d s).flow < length d.flows
  pub w_limit : (stack_of d s).w < 2 ^ 60
  -- the first stack is named by no atom, each further one by one atom, which stands in an earlier stack
  pub named : count_of s (flat_map stacks_in d.flows) ≡ (if s == 0 then 0 else 1)
  pub later : All (λ named. s < named) (stacks_within d s)

-- ---- the whole

-- the flows by what they belong to
abbrev pub flow_owners : FlowsData → List ℕ
flow_owners d = map (λ (r : RowInfo). r.flow) d.rows ++ map (λ (s : Stack). s.flow) d.stacks

abbrev pub is_atom : Item → Bool
is_atom (Atom h k) = true
is_atom (Row r) = false

-- the items of rows, and the atoms of stacks
abbrev pub item_total : FlowsData → ℕ
item_total d = sum_by (λ (r : RowInfo). length (flow_of d r.flow).items) d.rows + sum_by
    (λ (s : Stack). count_by is_atom (flow_of d s.flow).items) d.stacks

-- the heights of a flow's atoms, its edges, and the cloned edges of its boxes
abbrev pub flow_height : FlowsData → Flow → ℕ
flow_height d f = sum_by atom_height f.items + sum_by (λ (s : Seam). sum_by amount s.tail + sum_by amount s.head) f.seams + sum_by
    (λ b. (box_of d b).top + (box_of d b).bottom) (boxes_in f)

-- how far an item stands from the left of its flow
abbrev pub item_x : FlowsData → Item → ℕ
item_x d (Atom h kind) = kind_x kind
item_x d (Row r) = (row_of d r).x

-- a flow that an item of another flow holds, and how far it stands from the left there
pub record Held : Type 0 where
  pub flow : ℕ
  pub x : ℕ

abbrev pub held_in : FlowsData → Item → List Held
held_in d (Atom h Plain) = []
held_in d (Atom h (Line owner index x w)) = []
held_in d (Atom h (Void owner x w)) = []
held_in d (Atom h (Image owner x w)) = []
held_in d (Atom h (Bounded owner stack x)) = record { flow = (stack_of d stack).flow; x = x } ∷ []
held_in d (Row r) = record { flow = (row_of d r).flow; x = (row_of d r).x } ∷ []

-- Each place of flow f, whose left edge is at left, is below 2^60 from the left of stack 0, and so is each place in the
-- rows and in the atoms of f that have a stack, n of them deep.
abbrev pub FitsAcross : FlowsData → ℕ → ℕ → ℕ → Type 0
FitsAcross d zero left f = Unit {0}
FitsAcross d (suc n) left f =
    All (λ b. left + (box_of d b).x < 2 ^ 60) (boxes_in (flow_of d f))
    × All (λ item. left + item_x d item < 2 ^ 60) (flow_of d f).items
    × All (λ (h : Held). FitsAcross d n (left + h.x) h.flow) (flat_map (held_in d) (flow_of d f).items)

pub record IsSound (d : FlowsData) : Type 0 where
  pub flow_count : length d.flows < 2 ^ 32
  pub row_count : length d.rows < 2 ^ 32
  pub box_count : length d.boxes < 2 ^ 32
  pub stack_count : length d.stacks < 2 ^ 32
  pub some_stack : 0 < length d.stacks
  pub flows : All (IsSoundFlow d) d.flows
  pub rows : All (IsSoundRow d) d.rows
  pub boxes : All (λ (b : BoxInfo). (b.x < 2 ^ 60) × (b.w < 2 ^ 60)) d.boxes
  pub stacks : EachIndex d.stacks (IsSoundStack d)
  -- each flow belongs to one row or stack, and each row to one item
  pub flow_belongs : EachIndex d.flows (λ f. count_of f (flow_owners d) ≡ 1)
  pub row_belongs : EachIndex d.rows (λ r. count_of r (flat_map rows_in d.flows) ≡ 1)
  pub inner_rows : EachIndex d.rows (λ outer. All (IsInnerRow d outer) (rows_in (flow_in d outer)))
  pub nest_limit : EachIndex d.rows (NestsAtMost d 3)
  pub item_limit : item_total d ≤ 100000
  pub heights : sum_by (flow_height d) d.flows < 2 ^ 60
  pub across : FitsAcross d (length d.flows) 0 (stack_of d 0).flow
