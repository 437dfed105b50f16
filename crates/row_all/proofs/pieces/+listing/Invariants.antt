-- How many stacks may stand inside, and then how far a call is from entering one.
use Rattle.std.proofs.Common.{◌≡◌, ◌+◌, ◌*◌, ◌++◌, All, map, take}
use Rattle.flow_list.specs.Data.{FlowsData}
use Rattle.frag_pool.specs.Nodes.{Nodes}
use Rattle.piece_data.specs.Lowering.{Flags}
use Rattle.row_all.specs.Answered.{IsTrueLine, piece_of}
use Rattle.row_all.specs.Parts.{AreParts, IsTruePart, pieces_of_parts}
use Rattle.row_all.proofs.pieces.+listing.Given as goal

abbrev pub decreases-put_pieces : goal.decreases-put_pieces
decreases-put_pieces l = 3 * l.nested

abbrev pub decreases-put_part : goal.decreases-put_part
decreases-put_part l = 3 * l.nested + 1

abbrev pub decreases-put_parts : goal.decreases-put_parts
decreases-put_parts l = 3 * l.nested + 2

abbrev pub invariant-put_parts-loop-part : goal.invariant-put_parts-loop-part
invariant-put_parts-loop-part l = record {
  pieces : (d : FlowsData) (flags : Flags) (p : Nodes) → AreParts d flags p l.parts →
      map piece_of l.out ≡ map piece_of l.initial.out ++ pieces_of_parts d flags l.nested (take l.part-index l.own);
  lines : (d : FlowsData) (flags : Flags) (p : Nodes) → AreParts d flags p l.parts → All (IsTruePart d p) l.own →
      All (IsTrueLine d p) l.initial.out → All (IsTrueLine d p) l.out;
}
