use Rattle.std.proofs.Common.{◌≡◌, ℕ, List, All, ap, sym, subst, map}
use Rattle.mc_base.specs.PlainTree.{PlainTree}
use Rattle.flow_list.specs.Data.{Stack}
use Rattle.flow_list.specs.Fragments.{stack_fragment}
use Rattle.frag_pool.specs.Standing.{StandsFor}
use Rattle.frag_pool.proofs.Growth.{stands-live}
use Rattle.piece_data.specs.Lowering.{CutPiece}
use Rattle.tree_lowering.specs.Met.{all_met}
use Rattle.row_all.specs.Parts.{IsTruePart, met_of, pieces_of_stack}
use Rattle.row_all.specs.declared.engine.Part.{Part}
use Rattle.row_all.proofs.Standing.{none-told, told-now}
use Rattle.row_all.proofs.Together.{IsInStack, stack-met, stack-tree}
use Rattle.row_all.proofs.stacks.lower_stack.Goals as goal

pub lower_tree-requires-clause-live : goal.lower_tree-requires-clause-live
lower_tree-requires-clause-live g c = stands-live _ _ _ c.requires.frag

pub lower_tree-requires-clause-engine : goal.lower_tree-requires-clause-engine
lower_tree-requires-clause-engine g c =
    (c.requires.depth, c.requires.engine, none-told c.args.flows.now c.args.pool.now c.args.engine.now.parts c.requires.none)

pub returns-clause-stack : goal.returns-clause-stack
returns-clause-stack g c =
    let d = c.args.flows.now in
    let s = c.args.stack in
    let flow = c.stack_at.result.now.flow in
    let room = c.args.laid.height in
    let nested = c.flow_counts.result.rows in
    let is : IsInStack d s flow room nested = record {
      flow_is = ap (λ (i : Stack). i.flow) c.stack_at.ensures.same;
      room_is = c.requires.height;
      nested_is = c.flow_counts.ensures.rows;
    } in
    record {
      height = c.requires.height;
      frag = subst (λ (tree : PlainTree). StandsFor c.lower_tree.new.pool c.in_ok-frag.frag tree)
          (stack-tree d c.args.flags.now s flow room nested is) (c.in_ok-frag.ensures.tree (stack_fragment d s) c.requires.frag);
    }

pub returns-clause-parts : goal.returns-clause-parts
returns-clause-parts g c =
    let d = c.args.flows.now in
    let flags = c.args.flags.now in
    let s = c.args.stack in
    let flow = c.stack_at.result.now.flow in
    let room = c.args.laid.height in
    let nested = c.flow_counts.result.rows in
    let is : IsInStack d s flow room nested = record {
      flow_is = ap (λ (i : Stack). i.flow) c.stack_at.ensures.same;
      room_is = c.requires.height;
      nested_is = c.flow_counts.ensures.rows;
    } in
    record {
      met = subst
          (λ (ps : List Part). (stacks : ℕ → List CutPiece) → all_met stacks (map met_of ps) ≡ pieces_of_stack d flags s stacks)
          (sym c.take_parts.ensures.parts)
          (stack-met d flags c.args.pool.now s flow room nested c.args.laid.frag c.args.engine.now.parts
          c.lower_tree.new.lowerer.parts is c.requires.frag c.requires.none c.in_ok-frag.ensures.told);
      each = subst (λ (ps : List Part). All (IsTruePart d c.lower_tree.new.pool) ps) (sym c.take_parts.ensures.parts)
          (told-now d c.lower_tree.new.pool c.lower_tree.new.lowerer.parts c.in_ok-frag.ensures.engine.2);
    }
