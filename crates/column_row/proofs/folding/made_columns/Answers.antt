use Rattle.std.proofs.Common.{◌≡◌, ◌∙◌, ap, refl, sym, arith}
use Rattle.flow_data.specs.Flows.{flow_in, flow_of}
use Rattle.flow_data.specs.declared.data.RowInfo.{RowInfo}
use Rattle.flow_list.specs.Entries.{uses_in}
use Rattle.frag_pool.proofs.Growth.{grows-refl, grows-trans}
use Rattle.inner_rows.proofs.Calls.{book-refl, book-trans}
use Rattle.column_row.specs.Adding.{is_over}
use Rattle.column_row.specs.Folding.{folding_of}
use Rattle.column_row.proofs.SoFar.{goes-on, made-count, made-first, made-last, made-next, next-cost, place-inside}
use Rattle.column_row.proofs.folding.made_columns.Goals as goal

pub loop-init : goal.loop-init
loop-init g c = record {
  within = omega arith;
  made = made-first c.args.flows.now c.args.row c.args.from.now c.args.height (folding_of c.args.mode) c.args.pool.now
      c.none_yet-told.result (uses_in c.args.book.now) (g.C.Tally.read_count c.args.tally.now)
      (c.none_yet-told.ensures.told (flow_in c.args.flows.now c.args.row) c.args.height) c.none_yet-told.ensures.frags
      (c.uses_enter.ensures c.args.flows.now);
  place = rw c.none_yet-told.ensures.end c.requires.place;
  depth = refl;
  engine = c.requires.engine;
  book = book-refl c.args.flows.now c.args.book.now c.requires.book;
  grown = grows-refl c.args.pool.now;
  folds = refl;
}

pub next_column-requires-clause-place : goal.next_column-requires-clause-place
next_column-requires-clause-place g c =
    place-inside c.args.flows.now (flow_in c.args.flows.now c.args.row) c.loop.told.end c.loop.invariant.place
    (goes-on (folding_of c.args.mode) (flow_in c.args.flows.now c.args.row) c.loop.told.end c.loop.told.broken
    (ap (λ (i : RowInfo). is_over (folding_of c.args.mode) (flow_of c.args.flows.now i.flow) c.loop.told.end c.loop.told.broken)
    (sym c.row_at.ensures.same) ∙ sym c.is_done.ensures ∙ c.if-is_done.false))

pub next_column-requires-clause-count : goal.next_column-requires-clause-count
next_column-requires-clause-count g c =
    let few = made-count c.args.flows.now c.args.row c.args.from.now c.args.height (folding_of c.args.mode) c.loop.counter
    c.loop.pool c.loop.told (uses_in c.args.book.now) (uses_in c.loop.book) (g.C.Tally.read_count c.args.tally.now)
    (g.C.Tally.read_count c.loop.tally) c.loop.invariant.made in
    let test = c.loop-test.true in
    let fits = c.ranges.most.fits in
    omega arith

pub loop-preserved : goal.loop-preserved
loop-preserved g c = record {
  within = let test = c.loop-test.true in omega arith;
  made = made-next c.args.flows.now c.args.row c.args.from.now c.args.height (folding_of c.args.mode) c.loop.counter c.loop.pool
      c.loop.told (uses_in c.args.book.now) (uses_in c.loop.book) (g.C.Tally.read_count c.args.tally.now)
      (g.C.Tally.read_count c.loop.tally) c.loop.invariant.made c.next_column.new.pool c.in_ok-told.told
      (uses_in c.next_column.new.book) (g.C.Tally.read_count c.next_column.new.tally)
      (ap (λ (i : RowInfo). is_over (folding_of c.args.mode) (flow_of c.args.flows.now i.flow) c.loop.told.end
      c.loop.told.broken) (sym c.row_at.ensures.same) ∙ sym c.is_done.ensures ∙ c.if-is_done.false)
      (c.uses_enter.ensures c.args.flows.now) c.in_ok-told.ensures.told c.in_ok-told.ensures.frags c.in_ok-told.ensures.uses
      c.in_ok-told.ensures.read;
  place = c.in_ok-told.ensures.place;
  depth = c.in_ok-told.ensures.depth ∙ c.loop.invariant.depth;
  engine = c.in_ok-told.ensures.engine;
  book = book-trans c.args.flows.now c.args.book.now c.loop.book c.next_column.new.book c.loop.invariant.book
      c.in_ok-told.ensures.book;
  grown = grows-trans c.args.pool.now c.loop.pool c.next_column.new.pool c.loop.invariant.grown c.in_ok-told.ensures.grown;
  folds = c.in_ok-told.ensures.folds ∙ c.loop.invariant.folds;
}

pub returns-then-is_done-clause-told : goal.returns-then-is_done-clause-told
returns-then-is_done-clause-told g c =
    (made-last c.args.flows.now c.args.row c.args.from.now c.args.height (folding_of c.args.mode) c.loop.counter c.loop.pool
    c.loop.told (uses_in c.args.book.now) (uses_in c.loop.book) (g.C.Tally.read_count c.args.tally.now)
    (g.C.Tally.read_count c.loop.tally) c.loop.invariant.made c.args.most c.loop.invariant.within
    (ap (λ (i : RowInfo). is_over (folding_of c.args.mode) (flow_of c.args.flows.now i.flow) c.loop.told.end c.loop.told.broken)
    (sym c.row_at.ensures.same) ∙ sym c.is_done.ensures ∙ c.if-is_done.true)).told

pub returns-then-is_done-clause-frags : goal.returns-then-is_done-clause-frags
returns-then-is_done-clause-frags g c =
    (made-last c.args.flows.now c.args.row c.args.from.now c.args.height (folding_of c.args.mode) c.loop.counter c.loop.pool
    c.loop.told (uses_in c.args.book.now) (uses_in c.loop.book) (g.C.Tally.read_count c.args.tally.now)
    (g.C.Tally.read_count c.loop.tally) c.loop.invariant.made c.args.most c.loop.invariant.within
    (ap (λ (i : RowInfo). is_over (folding_of c.args.mode) (flow_of c.args.flows.now i.flow) c.loop.told.end c.loop.told.broken)
    (sym c.row_at.ensures.same) ∙ sym c.is_done.ensures ∙ c.if-is_done.true)).frags

pub returns-then-is_done-clause-uses : goal.returns-then-is_done-clause-uses
returns-then-is_done-clause-uses g c =
    (made-last c.args.flows.now c.args.row c.args.from.now c.args.height (folding_of c.args.mode) c.loop.counter c.loop.pool
    c.loop.told (uses_in c.args.book.now) (uses_in c.loop.book) (g.C.Tally.read_count c.args.tally.now)
    (g.C.Tally.read_count c.loop.tally) c.loop.invariant.made c.args.most c.loop.invariant.within
    (ap (λ (i : RowInfo). is_over (folding_of c.args.mode) (flow_of c.args.flows.now i.flow) c.loop.told.end c.loop.told.broken)
    (sym c.row_at.ensures.same) ∙ sym c.is_done.ensures ∙ c.if-is_done.true)).uses

pub returns-then-is_done-clause-read : goal.returns-then-is_done-clause-read
returns-then-is_done-clause-read g c =
    (made-last c.args.flows.now c.args.row c.args.from.now c.args.height (folding_of c.args.mode) c.loop.counter c.loop.pool
    c.loop.told (uses_in c.args.book.now) (uses_in c.loop.book) (g.C.Tally.read_count c.args.tally.now)
    (g.C.Tally.read_count c.loop.tally) c.loop.invariant.made c.args.most c.loop.invariant.within
    (ap (λ (i : RowInfo). is_over (folding_of c.args.mode) (flow_of c.args.flows.now i.flow) c.loop.told.end c.loop.told.broken)
    (sym c.row_at.ensures.same) ∙ sym c.is_done.ensures ∙ c.if-is_done.true)).cost

pub returns-in_err-told-clause-read : goal.returns-in_err-told-clause-read
returns-in_err-told-clause-read g c =
    next-cost c.args.flows.now c.args.row c.args.from.now c.args.height (folding_of c.args.mode) c.loop.counter c.loop.pool
    c.loop.told (uses_in c.args.book.now) (uses_in c.loop.book) (g.C.Tally.read_count c.args.tally.now)
    (g.C.Tally.read_count c.loop.tally) c.loop.invariant.made c.args.most (g.C.Tally.read_count c.next_column.new.tally)
    (let test = c.loop-test.true in omega arith)
    (ap (λ (i : RowInfo). is_over (folding_of c.args.mode) (flow_of c.args.flows.now i.flow) c.loop.told.end c.loop.told.broken)
    (sym c.row_at.ensures.same) ∙ sym c.is_done.ensures ∙ c.if-is_done.false) c.in_err-told.ensures.read

pub returns-clause-told : goal.returns-clause-told
returns-clause-told g c =
    let test = c.loop-test.false in
    let within = c.loop.invariant.within in
    let all : c.args.most ≡ c.loop.counter = omega arith in
    rw all c.loop.invariant.made.told

pub returns-clause-frags : goal.returns-clause-frags
returns-clause-frags g c =
    let test = c.loop-test.false in
    let within = c.loop.invariant.within in
    let all : c.args.most ≡ c.loop.counter = omega arith in
    rw all c.loop.invariant.made.frags

pub returns-clause-uses : goal.returns-clause-uses
returns-clause-uses g c =
    let test = c.loop-test.false in
    let within = c.loop.invariant.within in
    let all : c.args.most ≡ c.loop.counter = omega arith in
    rw all c.loop.invariant.made.uses

pub returns-clause-read : goal.returns-clause-read
returns-clause-read g c =
    let test = c.loop-test.false in
    let within = c.loop.invariant.within in
    let all : c.args.most ≡ c.loop.counter = omega arith in
    rw all c.loop.invariant.made.cost
