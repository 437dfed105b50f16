-- What a walk over a tree meets: cut pieces that are lowered, and stacks (this project's own).
use Rattle.std.specs.Prelude.{◌≡◌, ℕ, List, [], ◌∷◌, ◌++◌}
use Rattle.std.specs.List.{flat_map}
use Rattle.mc_base.specs.PlainTree.{PlainTree, PlainTrees}
use Rattle.mc_base.specs.declared.fragment.FragId.{FragId}
use Rattle.flow_list.specs.Tokens.{Token}
use Rattle.frag_pool.specs.Nodes.{Nodes}
use Rattle.frag_pool.specs.Standing.{StandsFor, AllStandFor}
use Rattle.piece_data.specs.Lowering.{CutPiece}

pub data Met : Type 0 where
  cut_met : (p : CutPiece) → Met
  stack_met : (number : ℕ) → Met

abbrev pub piece_met : (r : ℕ) → Token → (height : ℕ) → Met
piece_met r from height = cut_met (record { row = r; from = from; height = height })

-- the pieces among what was met, with those in each stack in its place
abbrev pub one_met : (stacks : ℕ → List CutPiece) → Met → List CutPiece
one_met stacks (cut_met p) = p ∷ []
one_met stacks (stack_met number) = stacks number

abbrev pub all_met : (stacks : ℕ → List CutPiece) → List Met → List CutPiece
all_met stacks met = flat_map (one_met stacks) met

-- between an old list and a new one these pieces were met, whatever pieces the stacks have
abbrev pub Meets : (old new : List Met) → (pieces : (ℕ → List CutPiece) → List CutPiece) → Type 0
Meets old new pieces = (stacks : ℕ → List CutPiece) → all_met stacks new ≡ all_met stacks old ++ pieces stacks

-- those of the tree that an id stands for, and of the trees that ids stand for
abbrev pub MeetsTree : Nodes → (old new : List Met) → (pieces : (ℕ → List CutPiece) → PlainTree → List CutPiece) → FragId → Type 0
MeetsTree p old new pieces id =
    (tree : PlainTree) → StandsFor p id tree → Meets old new (λ stacks. pieces stacks tree)

abbrev pub MeetsTrees : Nodes → (old new : List Met) → (pieces : (ℕ → List CutPiece) → PlainTrees → List CutPiece) → List FragId
    → Type 0
MeetsTrees p old new pieces ids =
    (trees : PlainTrees) → AllStandFor p ids trees → Meets old new (λ stacks. pieces stacks trees)
