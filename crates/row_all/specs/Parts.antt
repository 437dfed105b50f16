-- What stands in a tree whose pieces are lowered (this project's own).
use Rattle.std.specs.Prelude.{◌≡◌, ℕ, ◌<◌, All, List, Some, length, map, slice_get}
use Rattle.flow_list.specs.Data.{FlowsData}
use Rattle.flow_data.specs.Flows.{stack_of}
use Rattle.flow_list.specs.Fragments.{stack_fragment}
use Rattle.flow_list.specs.Stacks.{stack_height}
use Rattle.frag_pool.specs.Growing.{Grows}
use Rattle.frag_pool.specs.Nodes.{Nodes}
use Rattle.piece_data.specs.Lowering.{CutPiece, Flags, pieces_at, pieces_in, pieces_in_stack}
use Rattle.tree_lowering.specs.Met.{Met, all_met, cut_met, stack_met}
use Rattle.row_all.specs.Answered.{IsTrueLine, piece_of}
use Rattle.row_all.specs.declared.engine.Part.{Part}
use Rattle.row_all.specs.declared.engine.Part.TheVariants.{Piece, Stack}

abbrev pub met_of : Part → Met
met_of (Piece line) = cut_met (piece_of line)
met_of (Stack number) = stack_met number

-- a piece is told truly, and a stack is there
abbrev pub IsTruePart : FlowsData → Nodes → Part → Type 0
IsTruePart d p (Piece line) = IsTrueLine d p line
IsTruePart d p (Stack number) = number < length d.stacks

-- these were told truly of a region that this one grew from
pub record WereTrue (d : FlowsData) (p : Nodes) (parts : List Part) : Type 0 where
  pub before : Nodes
  pub grown : Grows before p
  pub each : All (IsTruePart d before) parts

-- the flagged pieces of the fragment of stack s, with those in other stacks in their places
abbrev pub pieces_of_stack : FlowsData → Flags → (s : ℕ) → (stacks : ℕ → List CutPiece) → List CutPiece
pieces_of_stack d flags s stacks = pieces_in d flags stacks (pieces_at d flags stacks (length d.rows)) (stack_of d s).flow
    (stack_height d s) (stack_fragment d s)

-- the pieces among these parts, with those in stacks in their places; at most n stacks stand one inside another in these
abbrev pub pieces_of_parts : FlowsData → Flags → (n : ℕ) → List Part → List CutPiece
pieces_of_parts d flags n parts = all_met (pieces_in_stack d flags n) (map met_of parts)

-- these are what stands in stack s, in order
pub record ArePartsOf (d : FlowsData) (flags : Flags) (p : Nodes) (s : ℕ) (parts : List Part) : Type 0 where
  pub met : (stacks : ℕ → List CutPiece) → all_met stacks (map met_of parts) ≡ pieces_of_stack d flags s stacks
  pub each : All (IsTruePart d p) parts

-- these are what stands in the stacks, by their numbers
pub record AreParts (d : FlowsData) (flags : Flags) (p : Nodes) (parts : List (List Part)) : Type 0 where
  pub count : length parts ≡ length d.stacks
  pub each : (s : ℕ) (own : List Part) → slice_get parts s ≡ Some own → ArePartsOf d flags p s own

-- each stack that stands in one of these is one of these
abbrev pub IsBelow : (n : ℕ) → Part → Type 0
IsBelow n (Piece line) = Unit {0}
IsBelow n (Stack number) = number < n

abbrev pub AreInside : List (List Part) → Type 0
AreInside parts = (s : ℕ) (own : List Part) → slice_get parts s ≡ Some own → All (IsBelow (length parts)) own
