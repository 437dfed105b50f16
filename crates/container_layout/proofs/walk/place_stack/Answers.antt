use Rattle.std.proofs.Common.{◌≡◌, ◌≤◌, ◌∙◌, sym, ap, subst, arith, List, length}
use Rattle.flow_data.specs.Flows.{flow_of}
use Rattle.flow_list.specs.Data.{Stack}
use Rattle.flow_list.specs.Stacks.{stack_strip}
use Rattle.flow_list.specs.Strip.{Strip}
use Rattle.frag_pool.proofs.Growth.{grows-refl, grows-trans}
use Rattle.frag_maker.specs.declared.placed.MadeRow.{MadeRow}
use Rattle.column_places.specs.Placing.{rows_of, strip_of}
use Rattle.container_layout.specs.Placed.{AllHaveColumns, laid_in, places_in}
use Rattle.container_layout.proofs.Rooms.{in-flows, strip-room}
use Rattle.container_layout.proofs.Standing.{standing-grows}
use Rattle.container_layout.proofs.Tables.{all_of}
use Rattle.container_layout.proofs.Walks.{no-rows, places-begin, places-end, places-go}
use Rattle.container_layout.proofs.walk.place_stack.Goals as goal

pub begin_stack-requires : goal.begin_stack-requires
begin_stack-requires c = record {
  stack = record {
    number = c.args.number;
    known = c.requires.number;
    is =
        c.stack_at-stack.ensures.same;
  };
}

pub item_count-count-requires : goal.item_count-count-requires
item_count-count-requires c =
    in-flows c.args.flows.now c.flow_counts-counts.ensures.sound c.stack_at-stack.result.now
    (record { number = c.args.number; known = c.requires.number; is = c.stack_at-stack.ensures.same })

pub loop-k-init : goal.loop-k-init
loop-k-init c = record {
  places = places-begin c.args.flows.now c.stack_at-stack.result.now c.item_count-count.result c.item_count-count.ensures
      c.in_ok-at.at c.in_ok-at.ensures.places;
  strip = c.in_ok-at.ensures.strip;
  margin = c.in_ok-at.ensures.margin;
  made = no-rows c.args.flows.now c.args.pool.now (rows_of c.in_ok-at.at) c.in_ok-at.ensures.rows;
  grown = grows-refl c.args.pool.now;
}

pub pass_item-requires-clause-stack : goal.pass_item-requires-clause-stack
pass_item-requires-clause-stack c =
    record { number = c.args.number; known = c.requires.number; is = c.stack_at-stack.ensures.same }

pub pass_item-requires-clause-table : goal.pass_item-requires-clause-table
pass_item-requires-clause-table c =
    standing-grows c.args.flows.now c.args.pool.now c.loop-k.pool c.loop-k.invariant.grown (all_of c.args.flows.now)
    c.args.table.now c.requires.table

pub loop-k-preserved : goal.loop-k-preserved
loop-k-preserved c =
    let d = c.args.flows.now in
    let s = c.stack_at-stack.result.now in
    let e = c.in_ok-pass_item.ensures in
    record {
      places = places-go d s.bound (flow_of d s.flow) c.loop-k.k c.item_count-count.result c.loop-k-test.true c.loop-k.at
          c.pass_item.new.at _ e.leads _ c.loop-k.invariant.places;
      strip = e.leads.strip;
      margin = e.leads.margin;
      made = e.made;
      grown = grows-trans c.args.pool.now c.loop-k.pool c.pass_item.new.pool c.loop-k.invariant.grown e.grown;
    }

pub finish-requires-clause-room : goal.finish-requires-clause-room
finish-requires-clause-room c =
    let d = c.args.flows.now in
    let s = c.stack_at-stack.result.now in
    let room = strip-room d c.flow_counts-counts.ensures.sound s
    (record { number = c.args.number; known = c.requires.number; is = c.stack_at-stack.ensures.same }) c.loop-k.k
    (strip_of c.loop-k.at) c.loop-k.invariant.strip in
    omega arith

pub returns-clause-placed : goal.returns-clause-placed
returns-clause-placed c =
    let d = c.args.flows.now in
    let s = c.stack_at-stack.result.now in
    c.in_ok-finish.ensures.placed
    ∙ places-end d s.bound (flow_of d s.flow) c.loop-k.k c.item_count-count.result c.loop-k-test.false c.loop-k.at _
    c.loop-k.invariant.places
    ∙ ap (λ (s : Stack). places_in d s (laid_in d s)) c.stack_at-stack.ensures.same

pub returns-clause-made : goal.returns-clause-made
returns-clause-made c =
    let P : List MadeRow → Type 0 = λ rows. AllHaveColumns c.args.flows.now c.loop-k.pool rows in
    subst P (sym c.in_ok-finish.ensures.rows) c.loop-k.invariant.made

pub returns-clause-y : goal.returns-clause-y
returns-clause-y c =
    let d = c.args.flows.now in
    let s = c.stack_at-stack.result.now in
    let f = flow_of d s.flow in
    let n : c.item_count-count.result ≡ length f.items = c.item_count-count.ensures in
    let a : c.loop-k.k ≤ c.item_count-count.result = c.loop-k.auto.k-end in
    let t = c.loop-k-test.false in
    let end : c.loop-k.k ≡ length f.items = omega arith in
    c.in_ok-finish.ensures.y ∙ ap (λ (s : Strip). s.y) c.loop-k.invariant.strip
    ∙ ap (λ k. (stack_strip d s.bound f k).y) end
    ∙ ap (λ (s : Stack). (stack_strip d s.bound (flow_of d s.flow) (length (flow_of d s.flow).items)).y)
    c.stack_at-stack.ensures.same

pub returns-in_err-at-clause-grown : goal.returns-in_err-at-clause-grown
returns-in_err-at-clause-grown c = grows-refl c.args.pool.now
