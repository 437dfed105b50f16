use Rattle.std.proofs.Common.{◌∙◌, ap, arith, map}
use Rattle.frag_pool.proofs.Growth.{grows-trans}
use Rattle.frag_maker.specs.Building.{RowsAreMade, placed_as}
use Rattle.frag_maker.proofs.Growing.{grows-same, grows-trial}
use Rattle.container_layout.specs.Laid.{columns_in}
use Rattle.container_layout.proofs.Rooms.{extent-room}
use Rattle.container_layout.proofs.StackParts.{extent-is, height-is, stack-made}
use Rattle.container_layout.proofs.Walks.{live-placed, made-placed}
use Rattle.container_layout.proofs.stack.make_stack.Goals as goal

pub end_bottoms-requires : goal.end_bottoms-requires
end_bottoms-requires c = record {
  stack = record {
    number = c.args.number;
    known = c.requires.number;
    is =
        c.stack_at-stack.ensures.same;
  };
}

pub build_all-requires : goal.build_all-requires
build_all-requires c =
    record {
      rows = rw c.as_slice.ensures.value (live-placed c.args.flows.now c.place_stack.new.pool
          c.in_ok-placement.placement.placed.items (made-placed c.args.flows.now c.place_stack.new.pool
          c.in_ok-placement.placement.placed.items c.in_ok-placement.ensures.made));
    }

pub returns-clause-grown : goal.returns-clause-grown
returns-clause-grown c =
    grows-trans c.args.pool.now c.place_stack.new.pool c.add_node.new.pool c.in_ok-placement.ensures.grown
    (grows-trans c.place_stack.new.pool c.build_all.new.pool c.add_node.new.pool c.in_ok-kids.ensures.grown
    (grows-trial c.build_all.new.pool c.add_node.new.pool _ c.in_ok-frag.ensures.ok))

pub returns-in_err-frag-clause-grown : goal.returns-in_err-frag-clause-grown
returns-in_err-frag-clause-grown c =
    grows-trans c.args.pool.now c.place_stack.new.pool c.add_node.new.pool c.in_ok-placement.ensures.grown
    (grows-trans c.place_stack.new.pool c.build_all.new.pool c.add_node.new.pool c.in_ok-kids.ensures.grown
    (grows-same c.build_all.new.pool c.add_node.new.pool c.in_err-frag.ensures.err))

pub returns-in_err-kids-clause-grown : goal.returns-in_err-kids-clause-grown
returns-in_err-kids-clause-grown c =
    grows-trans c.args.pool.now c.place_stack.new.pool c.build_all.new.pool c.in_ok-placement.ensures.grown
    c.in_err-kids.ensures.grown

pub overflow_add-extent : goal.overflow_add-extent
overflow_add-extent c =
    let d = c.args.flows.now in
    let s = c.stack_at-stack.result.now in
    let far = extent-is d c.args.number s c.stack_at-stack.ensures.same c.in_ok-placement.placement.y _
    c.in_ok-placement.ensures.y c.in_ok-extent.ensures in
    let room = extent-room d c.flow_counts-counts.ensures.sound s (record {
      number = c.args.number;
      known = c.requires.number;
      is = c.stack_at-stack.ensures.same;
    }) in
    omega arith

pub returns-clause-height : goal.returns-clause-height
returns-clause-height c =
    let d = c.args.flows.now in
    let s = c.stack_at-stack.result.now in
    height-is d c.args.number s c.stack_at-stack.ensures.same _ c.height_of.result
    (extent-is d c.args.number s c.stack_at-stack.ensures.same c.in_ok-placement.placement.y _
    c.in_ok-placement.ensures.y c.in_ok-extent.ensures) c.height_of.ensures

pub returns-clause-frag : goal.returns-clause-frag
returns-clause-frag c =
    let d = c.args.flows.now in
    let s = c.stack_at-stack.result.now in
    let pool = c.build_all.new.pool in
    let rows : RowsAreMade c.place_stack.new.pool (columns_in d) c.as_slice.result.now =
    rw c.as_slice.ensures.value (made-placed d c.place_stack.new.pool c.in_ok-placement.placement.placed.items
    c.in_ok-placement.ensures.made) in
    rw c.in_ok-frag.ensures.id
    (stack-made d c.args.number s c.stack_at-stack.ensures.same pool c.add_node.new.pool c.start.result c.start-2.result _
    c.item_count.result c.in_ok-kids.kids (map placed_as c.as_slice.result.now) c.start.ensures c.start-2.ensures
    c.item_count.ensures
    (extent-is d c.args.number s c.stack_at-stack.ensures.same c.in_ok-placement.placement.y _
    c.in_ok-placement.ensures.y c.in_ok-extent.ensures) c.in_ok-frag.ensures.ok
    (ap (map placed_as) c.as_slice.ensures.value ∙ c.in_ok-placement.ensures.placed)
    (c.in_ok-kids.ensures.trees (columns_in d) rows))
