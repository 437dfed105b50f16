-- The nodes of a region of fragments.
use Rattle.std.specs.Prelude.{◌≡◌, ℕ, ◌<◌, List, [], ◌∷◌, ◌++◌, All, length, take, slice_get, Option, Some}
use Rattle.mc_base.specs.declared.fragment.FragId.{FragId}
use Rattle.mc_base.specs.declared.fragment.FragId.TheVariants.{Kept, Trial}
use Rattle.mc_base.specs.declared.fragment.Node.{Node}
use Rattle.mc_base.specs.declared.fragment.Node.TheVariants.{Atom, Piece, RowPiece, Column}

-- the kept nodes and those of a trial, each in the order in which they were made
pub record Nodes : Type 0 where
  pub kept : List Node
  pub trial : List Node

abbrev pub no_nodes : Nodes
no_nodes = record { kept = []; trial = [] }

abbrev pub kept_more : Nodes → Node → Nodes
kept_more p node = record { kept = p.kept ++ node ∷ []; trial = p.trial }

abbrev pub trial_more : Nodes → Node → Nodes
trial_more p node = record { kept = p.kept; trial = p.trial ++ node ∷ [] }

-- with the first n trial nodes alone
abbrev pub back_to : Nodes → ℕ → Nodes
back_to p n = record { kept = p.kept; trial = take n p.trial }

-- ---- ids

-- the ids in a node
abbrev pub ids_of : Node → List FragId
ids_of (Atom item y) = []
ids_of (Piece owner starts y bottom kids) = kids
ids_of (RowPiece row from y height columns) = columns
ids_of (Column flow from end extent kids) = kids

-- the node of an id
abbrev pub node_of : Nodes → FragId → Option Node
node_of p (Kept n) = slice_get p.kept n
node_of p (Trial n) = slice_get p.trial n

abbrev pub IsLive : Nodes → FragId → Type 0
IsLive p (Kept n) = n < length p.kept
IsLive p (Trial n) = n < length p.trial

abbrev pub IsKept : FragId → Type 0
IsKept (Kept n) = Unit {0}
IsKept (Trial n) = ⊥

-- a node names kept nodes made before it, or where it is a trial one, any live ones before it
abbrev pub IsBelow : Nodes → FragId → FragId → Type 0
IsBelow p (Kept n) (Kept m) = m < n
IsBelow p (Kept n) (Trial m) = ⊥
IsBelow p (Trial n) (Kept m) = m < length p.kept
IsBelow p (Trial n) (Trial m) = m < n

-- each node names only nodes below it
pub record IsClosed (p : Nodes) : Type 0 where
  pub kept : (n : ℕ) (node : Node) → slice_get p.kept n ≡ Some node → All (IsBelow p (Kept n)) (ids_of node)
  pub trial : (n : ℕ) (node : Node) → slice_get p.trial n ≡ Some node → All (IsBelow p (Trial n)) (ids_of node)

-- every kept node is unchanged, and the trial nodes are as they were
pub record SameTrial (old new : Nodes) : Type 0 where
  pub more_kept : List Node
  pub kept : new.kept ≡ old.kept ++ more_kept
  pub trial : new.trial ≡ old.trial

-- a trial node all of whose ids are kept ones
abbrev pub IsOverKept : Nodes → FragId → Type 0
IsOverKept p (Kept n) = ⊥
IsOverKept p (Trial n) = (node : Node) → slice_get p.trial n ≡ Some node → All IsKept (ids_of node)

-- a node with these ids in place of its own
abbrev pub node_with : Node → List FragId → Node
node_with (Atom item y) ids = Atom item y
node_with (Piece owner starts y bottom kids) ids = Piece owner starts y bottom ids
node_with (RowPiece row from y height columns) ids = RowPiece row from y height ids
node_with (Column flow from end extent kids) ids = Column flow from end extent ids
