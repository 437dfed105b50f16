use Rattle.std.proofs.Common.{refl, false}
use Rattle.mc_base.specs.PlainTree.{plain_trees}
use Rattle.frag_pool.proofs.Growth.{stands-live}
use Rattle.container_layout.specs.Laid.{columns_in, in_stack}
use Rattle.container_layout.proofs.Walks.{made-row, row-laid}
use Rattle.container_layout.proofs.walk.standing_row.Goals as goal

pub piece_with-requires : goal.piece_with-requires
piece_with-requires c = stands-live _ _ _ c.requires.stands.frag

pub returns-clause-laid : goal.returns-clause-laid
returns-clause-laid c =
    row-laid c.args.flows.now c.args.row c.args.stands (record {
      row = c.args.row;
      from = c.start.result;
      height = c.args.stands.height;
      made_at = c.columns_height.result;
      filled = false;
      made = c.in_ok-made.made;
    })
    refl c.start.ensures refl c.requires.stands.height
    c.columns_height.ensures refl

pub returns-clause-made : goal.returns-clause-made
returns-clause-made c =
    made-row c.args.flows.now c.args.row c.args.stands c.piece_with.new.pool (record {
      row = c.args.row;
      from = c.start.result;
      height = c.args.stands.height;
      made_at = c.columns_height.result;
      filled = false;
      made = c.in_ok-made.made;
    })
    refl c.start.ensures
    (row-laid c.args.flows.now c.args.row c.args.stands (record {
      row = c.args.row;
      from = c.start.result;
      height = c.args.stands.height;
      made_at = c.columns_height.result;
      filled = false;
      made = c.in_ok-made.made;
    })
    refl c.start.ensures refl c.requires.stands.height
    c.columns_height.ensures refl)
    (c.in_ok-made.ensures.tree _ (plain_trees (columns_in c.args.flows.now (in_stack c.args.flows.now c.args.row
    c.args.stands.available))) c.requires.stands.frag)
