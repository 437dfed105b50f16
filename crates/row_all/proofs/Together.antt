-- Stacks and pieces, all together.
use Rattle.std.proofs.Common.{◌≡◌, ℕ, ◌<◌, List, [], ◌++◌, length, map, sym, ◌∙◌, ap, subst}
use Rattle.std.proofs.lemmas.List.Elements.{All-weaker}
use Rattle.flow_list.specs.Data.{FlowsData}
use Rattle.flow_data.specs.Flows.{stack_of}
use Rattle.flow_list.specs.Fragments.{stack_fragment}
use Rattle.flow_list.specs.Stacks.{stack_height}
use Rattle.mc_base.specs.declared.fragment.FragId.{FragId}
use Rattle.frag_pool.specs.Nodes.{Nodes}
use Rattle.frag_pool.specs.Standing.{StandsFor}
use Rattle.piece_data.specs.Lowering.{CutPiece, Flags, columns_lowered, lowered_in, lowered_pieces, pieces_at, pieces_in}
use Rattle.piece_data.specs.Lowering.{pieces_in_stack, stack_lowered}
use Rattle.tree_lowering.specs.Met.{MeetsTree, all_met}
use Rattle.row_all.specs.Answered.{piece_of}
use Rattle.row_all.specs.Parts.{AreInside, AreParts, IsBelow, IsTruePart, met_of, pieces_of_stack}
use Rattle.row_all.specs.declared.answer.PieceLine.{PieceLine}
use Rattle.row_all.specs.declared.engine.Part.{Part}
use Rattle.row_all.specs.declared.engine.Part.TheVariants.{Piece, Stack}

-- this is where a stack stands
pub record IsInStack (d : FlowsData) (s flow room nested : ℕ) : Type 0 where
  pub flow_is : flow ≡ (stack_of d s).flow
  pub room_is : room ≡ stack_height d s
  pub nested_is : nested ≡ length d.rows

pub stack-tree : (d : FlowsData) (flags : Flags) (s flow room nested : ℕ) → IsInStack d s flow room nested →
    lowered_in d flags (columns_lowered d flags nested) room (stack_fragment d s) ≡ stack_lowered d flags s
unfolding stack_lowered
stack-tree d flags s flow room nested is =
    ap (λ (n : ℕ). lowered_in d flags (columns_lowered d flags n) room (stack_fragment d s)) is.nested_is
    ∙ ap (λ (h : ℕ). lowered_in d flags (columns_lowered d flags (length d.rows)) h (stack_fragment d s)) is.room_is

stack-pieces : (d : FlowsData) (flags : Flags) (s flow room nested : ℕ) → IsInStack d s flow room nested →
    (stacks : ℕ → List CutPiece) →
    pieces_in d flags stacks (pieces_at d flags stacks nested) flow room (stack_fragment d s)
    ≡ pieces_of_stack d flags s stacks
stack-pieces d flags s flow room nested is stacks =
    ap (λ (n : ℕ). pieces_in d flags stacks (pieces_at d flags stacks n) flow room (stack_fragment d s)) is.nested_is
    ∙ ap (λ (f : ℕ). pieces_in d flags stacks (pieces_at d flags stacks (length d.rows)) f room (stack_fragment d s)) is.flow_is
    ∙ ap (λ (h : ℕ). pieces_in d flags stacks (pieces_at d flags stacks (length d.rows)) (stack_of d s).flow h
    (stack_fragment d s)) is.room_is

-- what was met in a stack, where nothing was met before
pub stack-met : (d : FlowsData) (flags : Flags) (p : Nodes) (s flow room nested : ℕ) (id : FragId) (old new : List Part) →
    IsInStack d s flow room nested → StandsFor p id (stack_fragment d s) → old ≡ [] →
    MeetsTree p (map met_of old) (map met_of new)
    (λ stacks tree. pieces_in d flags stacks (pieces_at d flags stacks nested) flow room tree) id →
    (stacks : ℕ → List CutPiece) → all_met stacks (map met_of new) ≡ pieces_of_stack d flags s stacks
stack-met d flags p s flow room nested id old new is stands none meets stacks =
    meets (stack_fragment d s) stands stacks
    ∙ ap (λ (ps : List Part). all_met stacks (map met_of ps)
    ++ pieces_in d flags stacks (pieces_at d flags stacks nested) flow room (stack_fragment d s)) none
    ∙ stack-pieces d flags s flow room nested is stacks

part-below : (d : FlowsData) (p : Nodes) (n : ℕ) → n ≡ length d.stacks → (part : Part) → IsTruePart d p part → IsBelow n part
part-below d p n is (Piece line) known = tt
part-below d p n is (Stack number) known = subst (λ (m : ℕ). number < m) (sym is) known

pub parts-inside : (d : FlowsData) (flags : Flags) (p : Nodes) (parts : List (List Part)) → AreParts d flags p parts →
    AreInside parts
parts-inside d flags p parts are = λ s own at.
    All-weaker (IsTruePart d p) (IsBelow (length parts)) (part-below d p (length parts) are.count) own (are.each s own at).each

pub all-pieces : (d : FlowsData) (flags : Flags) (n : ℕ) (outs new : List PieceLine) → n ≡ length d.stacks → outs ≡ [] →
    map piece_of new ≡ map piece_of outs ++ pieces_in_stack d flags n 0 → map piece_of new ≡ lowered_pieces d flags
unfolding lowered_pieces
all-pieces d flags n outs new count none are =
    are ∙ ap (λ (os : List PieceLine). map piece_of os ++ pieces_in_stack d flags n 0) none
    ∙ ap (λ (m : ℕ). pieces_in_stack d flags m 0) count
