-- What is answered of a layout whose flagged pieces are lowered (this project's own).
use Rattle.std.specs.Prelude.{◌≡◌, ℕ, All, List, Some, length, map, slice_get}
use Rattle.flow_list.specs.Data.{FlowsData}
use Rattle.flow_list.specs.Stacks.{stack_height}
use Rattle.flow_list.specs.declared.laid.LaidStack.{LaidStack}
use Rattle.frag_pool.specs.Nodes.{Nodes}
use Rattle.frag_pool.specs.Standing.{StandsFor}
use Rattle.piece_data.specs.Lowering.{CutPiece, Flags, lowered_pieces, stack_lowered}
use Rattle.piece_finder.specs.Lowered.{IsLeastPiece}
use Rattle.piece_finder.specs.Telling.{piece_tree}
use Rattle.row_all.specs.declared.answer.AllOut.{AllOut}
use Rattle.row_all.specs.declared.answer.PieceLine.{PieceLine}

-- the cut piece that a line is of
abbrev pub piece_of : PieceLine → CutPiece
piece_of line = record { row = line.row; from = line.from; height = line.height }

-- a line tells the least height of its piece, why no lesser height will do, and the piece at that height
pub record IsTrueLine (d : FlowsData) (p : Nodes) (line : PieceLine) : Type 0 where
  pub least : IsLeastPiece d line.row line.from line.height line.out
  pub frag : StandsFor p line.out.frag (piece_tree d line.row line.from line.out.height)

-- a stack has the height that the definitions give it, and its id stands for its tree with the flagged pieces lowered
pub record IsLoweredStack (d : FlowsData) (flags : Flags) (p : Nodes) (s : ℕ) (out : LaidStack) : Type 0 where
  pub height : out.height ≡ stack_height d s
  pub frag : StandsFor p out.frag (stack_lowered d flags s)

abbrev pub AreLoweredStacks : FlowsData → Flags → Nodes → List LaidStack → Type 0
AreLoweredStacks d flags p outs = (s : ℕ) (out : LaidStack) → slice_get outs s ≡ Some out → IsLoweredStack d flags p s out

-- the layout of the flows with its flagged pieces lowered, and these pieces in the order of its tree
pub record IsLowered (d : FlowsData) (flags : Flags) (p : Nodes) (out : AllOut) : Type 0 where
  pub count : length out.laid.stacks ≡ length d.stacks
  pub stacks : AreLoweredStacks d flags p out.laid.stacks
  pub pieces : map piece_of out.pieces ≡ lowered_pieces d flags
  pub lines : All (IsTrueLine d p) out.pieces
