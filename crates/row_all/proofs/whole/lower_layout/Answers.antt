use Rattle.std.proofs.Common.{◌≡◌, List, [], sym, subst, map}
use Rattle.std.proofs.lemmas.List.Elements.{All-nil}
use Rattle.flow_list.specs.Certificate.{rows_in_stacks}
use Rattle.flow_list.specs.declared.laid.LaidRow.{LaidRow}
use Rattle.flow_list.specs.declared.laid.LaidStack.{LaidStack}
use Rattle.container_layout.specs.Laid.{AreLaidStacks}
use Rattle.piece_data.specs.Lowering.{Flags}
use Rattle.tree_lowering.specs.Lower.{laid_row}
use Rattle.row_all.specs.Answered.{AreLoweredStacks, IsTrueLine}
use Rattle.row_all.specs.Parts.{AreParts}
use Rattle.row_all.specs.declared.engine.Part.{Part}
use Rattle.row_all.proofs.Stacking.{rows-known}
use Rattle.row_all.proofs.Together.{all-pieces}
use Rattle.row_all.proofs.whole.lower_layout.Goals as goal

pub lower_stacks-requires-clause-rows : goal.lower_stacks-requires-clause-rows
lower_stacks-requires-clause-rows g c =
    let d = c.args.flows.now in
    subst (λ (rows : List LaidRow). map laid_row rows ≡ rows_in_stacks d) (sym c.as_slice-2.ensures)
    (rows-known d c.args.pool.now [] (rows_in_stacks d) c.args.laid.now.rows c.requires.rows)

pub lower_stacks-requires-clause-laid : goal.lower_stacks-requires-clause-laid
lower_stacks-requires-clause-laid g c =
    subst (λ (outs : List LaidStack). AreLaidStacks c.args.flows.now c.args.pool.now outs) (sym c.as_slice-3.ensures)
    c.requires.stacks

pub returns-clause-lowered : goal.returns-clause-lowered
returns-clause-lowered g c =
    let d = c.args.flows.now in
    let flags = c.args.flags.now in
    let p = c.lower_stacks.new.pool in
    let parts : AreParts d flags p c.as_slice-4.result.now =
    subst (λ (ps : List (List Part)). AreParts d flags p ps) (sym c.as_slice-4.ensures)
    (subst (λ (fs : Flags). AreParts d fs p c.in_ok-out.out.parts) c.as_slice.ensures c.in_ok-out.ensures.parts) in
    record {
      count = c.in_ok-out.ensures.count;
      stacks = subst (λ (fs : Flags). AreLoweredStacks d fs p c.in_ok-out.out.stacks) c.as_slice.ensures
          c.in_ok-out.ensures.stacks;
      pieces = all-pieces d flags c.flow_counts.result.stacks c.new-pieces.result c.put_pieces.new.out
          c.flow_counts.ensures.stacks c.new-pieces.ensures (c.in_ok-put_pieces.ensures.pieces d flags p parts);
      lines = c.in_ok-put_pieces.ensures.lines d flags p parts (rw c.new-pieces.ensures (All-nil (IsTrueLine d p)));
    }
