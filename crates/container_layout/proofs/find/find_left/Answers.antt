use Rattle.std.proofs.Common.{◌≡◌, ◌<◌, ◌≤◌, ◌∙◌, sym, ap, arith, length, subst, ℕ, ◌++◌}
use Rattle.flow_data.specs.Flows.{flow_of}
use Rattle.flow_list.specs.Data.{Stack}
use Rattle.flow_list.specs.Stacks.{available_at}
use Rattle.flow_list.specs.Strip.{Strip, begins}
use Rattle.column_strip.specs.Strips.{strip_of}
use Rattle.frag_pool.proofs.Growth.{same-trial-refl, same-trial-trans}
use Rattle.inner_rows.proofs.Calls.{book-refl, book-trans}
use Rattle.container_layout.specs.Found.{HasFound, rows_before}
use Rattle.container_layout.proofs.Rooms.{in-flows, strip-room}
use Rattle.container_layout.proofs.Tables.{all_of, item-goes, none-noted}
use Rattle.container_layout.proofs.find.find_left.Goals as goal

pub first_strip-requires : goal.first_strip-requires
first_strip-requires g c = record {
  stack = record {
    number = c.args.number;
    known = c.requires.number;
    is =
        c.stack_at-stack.ensures.same;
  };
}

pub returns-in_err-strip-clause-book : goal.returns-in_err-strip-clause-book
returns-in_err-strip-clause-book g c = book-refl c.args.flows.now c.args.book.now c.requires.book

pub returns-in_err-strip-clause-pool : goal.returns-in_err-strip-clause-pool
returns-in_err-strip-clause-pool g c = same-trial-refl c.args.pool.now

pub item_count-count-requires : goal.item_count-count-requires
item_count-count-requires g c =
    in-flows c.args.flows.now c.flow_counts-counts.ensures.sound c.stack_at-stack.result.now
    (record { number = c.args.number; known = c.requires.number; is = c.stack_at-stack.ensures.same })

pub loop-k-init : goal.loop-k-init
loop-k-init g c = record {
  found = λ rows more split has. none-noted c.args.flows.now c.stack_at-stack.result.now.bound
      (flow_of c.args.flows.now c.stack_at-stack.result.now.flow) rows c.args.table.now.items has;
  table = c.requires.table;
  strip = c.in_ok-strip.ensures;
  depth = c.requires.depth;
  engine = c.requires.engine;
  book = book-refl c.args.flows.now c.args.book.now c.requires.book;
  pool = same-trial-refl c.args.pool.now;
}

pub overflow_add-y : goal.overflow_add-y
overflow_add-y g c =
    let room = strip-room c.args.flows.now c.flow_counts-counts.ensures.sound c.stack_at-stack.result.now
    (record { number = c.args.number; known = c.requires.number; is = c.stack_at-stack.ensures.same }) c.loop-k.k (strip_of
    c.loop-k.strip) c.loop-k.invariant.strip in
    omega arith

pub note_item-requires-clause-stack : goal.note_item-requires-clause-stack
note_item-requires-clause-stack g c = record {
  number = c.args.number;
  known = c.requires.number;
  is =
      c.stack_at-stack.ensures.same;
}

pub note_item-requires-clause-item : goal.note_item-requires-clause-item
note_item-requires-clause-item g c = let n = c.item_count-count.ensures in let t = c.loop-k-test.true in omega arith

pub note_item-requires-clause-available : goal.note_item-requires-clause-available
note_item-requires-clause-available g c =
    ap (λ (s : Strip). available_at c.stack_at-stack.result.now.bound (begins s)) c.loop-k.invariant.strip

pub item_height-requires-clause-stack : goal.item_height-requires-clause-stack
item_height-requires-clause-stack g c = record {
  number = c.args.number;
  known = c.requires.number;
  is =
      c.stack_at-stack.ensures.same;
}

pub item_height-requires-clause-item : goal.item_height-requires-clause-item
item_height-requires-clause-item g c = let n = c.item_count-count.ensures in let t = c.loop-k-test.true in omega arith

pub item_height-requires-clause-book : goal.item_height-requires-clause-book
item_height-requires-clause-book g c = c.loop-k.invariant.book.is_true

pub next_strip-strip-requires-clause-stack : goal.next_strip-strip-requires-clause-stack
next_strip-strip-requires-clause-stack g c = record {
  number = c.args.number;
  known = c.requires.number;
  is =
      c.stack_at-stack.ensures.same;
}

pub next_strip-strip-requires-clause-item : goal.next_strip-strip-requires-clause-item
next_strip-strip-requires-clause-item g c = let n = c.item_count-count.ensures in let t = c.loop-k-test.true in omega arith

pub next_strip-strip-requires-clause-height : goal.next_strip-strip-requires-clause-height
next_strip-strip-requires-clause-height g c = c.in_ok-height.ensures.height

pub returns-in_err-height-clause-book : goal.returns-in_err-height-clause-book
returns-in_err-height-clause-book g c =
    book-trans c.args.flows.now c.args.book.now c.loop-k.book c.item_height.new.book c.loop-k.invariant.book
    c.in_err-height.ensures.book

pub returns-in_err-height-clause-pool : goal.returns-in_err-height-clause-pool
returns-in_err-height-clause-pool g c = same-trial-trans _ _ _ c.loop-k.invariant.pool c.in_err-height.ensures.pool

pub loop-k-preserved : goal.loop-k-preserved
loop-k-preserved g c =
    let s = c.stack_at-stack.result.now in
    let f = flow_of c.args.flows.now s.flow in
    let n = c.item_count-count.ensures in
    let t = c.loop-k-test.true in
    let lt : c.loop-k.k < length f.items = omega arith in
    let e = c.in_ok-height.ensures in
    let old = c.loop-k.invariant in
    record {
      found = λ rows more split has. item-goes c.args.flows.now s.bound f c.loop-k.k lt rows more c.loop-k.table.items
          c.note_item.new.table.items split (old.found rows more split has) c.note_item.ensures.found;
      table = c.note_item.ensures.table ∙ old.table;
      strip = c.next_strip-strip.ensures;
      depth = e.depth ∙ old.depth;
      engine = e.engine;
      book = book-trans c.args.flows.now c.args.book.now c.loop-k.book c.item_height.new.book old.book e.book;
      pool = same-trial-trans _ _ _ old.pool e.pool;
    }

pub returns-clause-found : goal.returns-clause-found
returns-clause-found g c = λ rows more split has.
    let d = c.args.flows.now in
    let s = c.stack_at-stack.result.now in
    let f = flow_of d s.flow in
    let n = c.item_count-count.ensures in
    let a : c.loop-k.k ≤ c.item_count-count.result = c.loop-k.auto.k-end in
    let t = c.loop-k-test.false in
    let end : c.loop-k.k ≡ length f.items = omega arith in
    let all : Stack → Type 0 = λ s. all_of d ≡ (rows ++ rows_before d s.bound (flow_of d s.flow)
    (length (flow_of d s.flow).items)) ++ more in
    let P : ℕ → Type 0 = λ k. HasFound d (rows ++ rows_before d s.bound f k) c.loop-k.table.items in
    let Q : Stack → Type 0 = λ s. HasFound d (rows ++ rows_before d s.bound (flow_of d s.flow)
    (length (flow_of d s.flow).items)) c.loop-k.table.items in
    subst Q c.stack_at-stack.ensures.same (subst P end
    (c.loop-k.invariant.found rows more (subst all (sym c.stack_at-stack.ensures.same) split) has))
