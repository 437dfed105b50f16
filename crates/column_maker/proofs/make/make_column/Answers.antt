use Rattle.std.proofs.Common.{◌≡◌, List, ◌∙◌, ap, map, subst}
use Rattle.mc_base.specs.PlainTree.{plain_trees}
use Rattle.flow_data.specs.Flows.{flow_of}
use Rattle.flow_list.specs.Column.{column}
use Rattle.flow_list.specs.Fragments.{all_trees}
use Rattle.flow_list.specs.Placing.{Placed}
use Rattle.flow_list.specs.Rows.{all_rows}
use Rattle.frag_pool.specs.Standing.{AllStandFor}
use Rattle.frag_pool.proofs.Growth.{grows-trans, kept-grows-grows}
use Rattle.frag_maker.specs.Building.{RowsAreMade, placed_as}
use Rattle.frag_maker.proofs.Growing.{grows-same, grows-trial}
use Rattle.inner_rows.proofs.Calls.{extends-refl}
use Rattle.column_maker.specs.Making.{columns_in, placed_to}
use Rattle.column_maker.proofs.Parts.{column-made}
use Rattle.column_maker.proofs.Rows.{live-placed}
use Rattle.column_maker.proofs.make.make_column.Goals as goal

pub build_all-requires : goal.build_all-requires
build_all-requires g c =
    record {
      rows = rw c.as_slice.ensures.value
          (live-placed c.args.flows.now c.place_column.new.pool c.in_ok-placed.placed.items c.in_ok-placed.ensures.made);
    }

pub returns-in_err-kids-clause-engine : goal.returns-in_err-kids-clause-engine
returns-in_err-kids-clause-engine g c =
    g.met.I.InnerRows.stays c.place_column.new.inner c.args.flows.now c.place_column.new.book c.place_column.new.book
    c.place_column.new.pool c.build_all.new.pool c.in_ok-placed.ensures.engine (extends-refl c.place_column.new.book)
    (kept-grows-grows c.place_column.new.pool c.build_all.new.pool c.in_err-kids.ensures.grown)

pub returns-in_err-id-clause-engine : goal.returns-in_err-id-clause-engine
returns-in_err-id-clause-engine g c =
    g.met.I.InnerRows.stays c.place_column.new.inner c.args.flows.now c.place_column.new.book c.place_column.new.book
    c.place_column.new.pool c.add_node.new.pool c.in_ok-placed.ensures.engine (extends-refl c.place_column.new.book)
    (kept-grows-grows c.place_column.new.pool c.add_node.new.pool
    (grows-trans c.place_column.new.pool c.build_all.new.pool c.add_node.new.pool c.in_ok-kids.ensures.grown
    (grows-same c.build_all.new.pool c.add_node.new.pool c.in_err-id.ensures.err)))

pub returns-clause-frag : goal.returns-clause-frag
returns-clause-frag g c =
    let d = c.args.flows.now in
    let f = flow_of d c.args.flow in
    let t = c.args.from.now in
    let h = c.args.height in
    let pool = c.build_all.new.pool in
    let rows : RowsAreMade c.place_column.new.pool (columns_in d) c.as_slice.result.now =
    rw c.as_slice.ensures.value c.in_ok-placed.ensures.made in
    let placed : map placed_as c.as_slice.result.now ≡ placed_to d f t h (column (all_rows d) d f t h).end =
    ap (map placed_as) c.as_slice.ensures.value ∙ c.in_ok-placed.ensures.placed ∙ ap (placed_to d f t h) c.requires.end in
    let stand : AllStandFor pool c.in_ok-kids.kids
    (plain_trees (all_trees (columns_in d) (placed_to d f t h (column (all_rows d) d f t h).end))) =
    subst (λ (ps : List Placed). AllStandFor pool c.in_ok-kids.kids (plain_trees (all_trees (columns_in d) ps))) placed
    (c.in_ok-kids.ensures.trees (columns_in d) rows) in
    rw c.in_ok-id.ensures.id
    (column-made pool c.add_node.new.pool c.args.flow t c.copy.result _ c.copy-2.result _ c.args.decided.now.extent
    c.in_ok-kids.kids _ c.copy.ensures (c.copy-2.ensures ∙ c.requires.end) c.requires.extent c.in_ok-id.ensures.ok stand)

pub returns-clause-engine : goal.returns-clause-engine
returns-clause-engine g c =
    g.met.I.InnerRows.stays c.place_column.new.inner c.args.flows.now c.place_column.new.book c.place_column.new.book
    c.place_column.new.pool c.add_node.new.pool c.in_ok-placed.ensures.engine (extends-refl c.place_column.new.book)
    (kept-grows-grows c.place_column.new.pool c.add_node.new.pool
    (grows-trans c.place_column.new.pool c.build_all.new.pool c.add_node.new.pool c.in_ok-kids.ensures.grown
    (grows-trial c.build_all.new.pool c.add_node.new.pool _ c.in_ok-id.ensures.ok)))

pub returns-clause-grown : goal.returns-clause-grown
returns-clause-grown g c =
    grows-trans c.args.pool.now c.place_column.new.pool c.add_node.new.pool c.in_ok-placed.ensures.grown
    (grows-trans c.place_column.new.pool c.build_all.new.pool c.add_node.new.pool c.in_ok-kids.ensures.grown
    (grows-trial c.build_all.new.pool c.add_node.new.pool _ c.in_ok-id.ensures.ok))
