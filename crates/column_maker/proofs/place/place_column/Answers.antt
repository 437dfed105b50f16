use Rattle.std.proofs.Common.{◌≡◌, ℕ, true, ◌+◌, ◌-◌, ◌≤◌, ◌∙◌, Bool, [], ◌++◌, refl, sym, subst, ap, arith}
use Rattle.std.specs.Option.{option_map}
use Rattle.std.proofs.lemmas.List.{append-nil}
use Rattle.std.proofs.lemmas.List.Elements.{All-nil}
use Rattle.flow_data.specs.Flows.{flow_of, item_of}
use Rattle.flow_list.specs.Book.{after_uses}
use Rattle.flow_list.specs.Certificate.{stands_in}
use Rattle.flow_list.specs.Column.{row_from, row_list}
use Rattle.flow_list.specs.Entries.{uses_in}
use Rattle.flow_list.specs.Tokens.{item_number, within}
use Rattle.column_places.specs.Placing.{strip_of, with_more}
use Rattle.frag_pool.proofs.Growth.{grows-refl, grows-trans}
use Rattle.inner_rows.proofs.Calls.{book-refl, book-trans}
use Rattle.column_maker.specs.Making.{HasColumns, cut_room, ends_at_seam, last_laid, last_rows}
use Rattle.column_maker.specs.Walking.{HasRoom, whole_rows}
use Rattle.column_maker.proofs.Columns.{at-last, begins-there, cut-there, goes-on, last-known, place-there, starts}
use Rattle.column_maker.proofs.Ending.{first-taken, next-taken, taken_of}
use Rattle.column_maker.proofs.Rooms.{first-room, next-room, room-same}
use Rattle.column_maker.proofs.Rows.{made-placed}
use Rattle.column_maker.proofs.Sizes.{rows-end, rows-next, rows-none}
use Rattle.column_maker.proofs.place.place_column.Goals as goal

-- the loop ends at the last item
there : (k last from : ℕ) → last ≤ k → from ≤ last → (from ≤ last → k ≤ last) → k ≡ last
there k last from a b le = let c = le b in omega arith

pub returns-in_err-at-clause-grown : goal.returns-in_err-at-clause-grown
returns-in_err-at-clause-grown g c = grows-refl c.args.pool.now

pub loop-k-init : goal.loop-k-init
loop-k-init g c =
    let d = c.args.flows.now in
    let f = flow_of d c.args.flow in
    let t = c.args.from.now in
    let b = c.in_ok-at.ensures in
    record {
      later = rw c.item-k.ensures (omega arith);
      taken = rw c.item-k.ensures (c.taken_first-taken.ensures ∙ first-taken d f t);
      places = rw c.item-k.ensures
          (starts d c.args.flow c.flow_counts-counts.ensures.sound c.requires.flow t c.requires.place c.requires.some
          c.args.pool.now c.args.height c.args.end.now c.args.cut c.requires.end c.requires.cut c.last_of-last.result
          c.last_of-last.ensures c.in_ok-at.at b.strip b.places c.taken_first-taken.result c.taken_first-taken.ensures);
      margin = b.margin;
      room = room-same d f c.item-k.result _ c.taken_first-taken.result _ (strip_of c.in_ok-at.at) _ c.item-k.ensures
          c.taken_first-taken.ensures b.strip (first-room d c.args.flow c.flow_counts-counts.ensures.sound c.requires.flow t);
      made = rw b.rows (All-nil (HasColumns d c.args.pool.now));
      depth = refl;
      engine = c.requires.engine;
      book = book-refl d c.args.book.now c.requires.book;
      grown = grows-refl c.args.pool.now;
      uses = sym (ap (after_uses d (uses_in c.args.book.now)) (rows-none f (item_number t) (within t) _
          (rw c.item-k.ensures (omega arith)))
          ∙ (c.uses_enter.ensures d).none_new (uses_in c.args.book.now) [] (All-nil (λ u. stands_in (uses_in c.args.book.now) u
          ≡ true)));
      reads = omega arith;
      folds = refl;
    }

pub pass_item-requires-clause-item : goal.pass_item-requires-clause-item
pass_item-requires-clause-item g c =
    let known = last-known c.args.flows.now c.args.flow c.flow_counts-counts.ensures.sound c.requires.flow c.args.from.now
    c.requires.place c.requires.some c.args.pool.now c.args.height c.args.end.now c.args.cut c.requires.end c.requires.cut
    c.last_of-last.result c.last_of-last.ensures in
    let lt = c.loop-k-test.true in
    omega arith

pub pass_item-requires-clause-place : goal.pass_item-requires-clause-place
pass_item-requires-clause-place g c =
    place-there c.args.flows.now c.args.flow c.flow_counts-counts.ensures.sound c.requires.flow c.args.from.now
    c.requires.place c.requires.some c.args.pool.now c.args.height c.args.end.now c.args.cut c.requires.end c.requires.cut
    c.last_of-last.result c.last_of-last.ensures c.loop-k.k c.loop-k.taken c.loop-k.invariant.later c.loop-k.invariant.taken

pub loop-k-preserved : goal.loop-k-preserved
loop-k-preserved g c =
    let d = c.args.flows.now in
    let f = flow_of d c.args.flow in
    let t = c.args.from.now in
    let before = c.loop-k.invariant in
    let step = c.in_ok-pass_item.ensures in
    let le = before.later in
    record {
      later = omega arith;
      taken = c.start-taken.ensures ∙ next-taken d f t c.loop-k.k before.later;
      places = goes-on d c.args.flow c.flow_counts-counts.ensures.sound c.requires.flow t c.requires.place c.requires.some
          c.args.pool.now c.args.height c.args.end.now c.args.cut c.requires.end c.requires.cut c.last_of-last.result
          c.last_of-last.ensures c.loop-k.k c.loop-k.taken c.loop-k-test.true c.loop-k.at c.pass_item.new.at step.leads _
          before.places c.start-taken.result c.start-taken.ensures;
      margin = step.leads.margin;
      room = room-same d f (c.loop-k.k + 1) _ c.start-taken.result _ (strip_of c.pass_item.new.at) _ refl c.start-taken.ensures
          step.leads.strip (next-room d f c.loop-k.k c.loop-k.taken _ before.room);
      made = step.made;
      depth = step.depth ∙ before.depth;
      engine = step.engine;
      book = book-trans d c.args.book.now c.loop-k.book c.pass_item.new.book before.book step.book;
      grown = grows-trans c.args.pool.now c.loop-k.pool c.pass_item.new.pool before.grown step.grown;
      uses = step.uses ∙ ap (λ b. after_uses d b (row_list (row_from (item_of f c.loop-k.k) c.loop-k.taken))) before.uses
          ∙ (c.uses_enter.ensures d).one_list (uses_in c.args.book.now) _ _
          ∙ ap (after_uses d (uses_in c.args.book.now)) (rows-next f t c.loop-k.k c.loop-k.taken before.later before.taken);
      reads = let r = before.reads in let s = step.reads in omega arith;
      folds = step.folds ∙ before.folds;
    }

pub stand_last-requires-clause-item : goal.stand_last-requires-clause-item
stand_last-requires-clause-item g c =
    last-known c.args.flows.now c.args.flow c.flow_counts-counts.ensures.sound c.requires.flow c.args.from.now
    c.requires.place c.requires.some c.args.pool.now c.args.height c.args.end.now c.args.cut c.requires.end c.requires.cut
    c.last_of-last.result c.last_of-last.ensures

pub stand_last-requires-clause-place : goal.stand_last-requires-clause-place
stand_last-requires-clause-place g c =
    let d = c.args.flows.now in
    let f = flow_of d c.args.flow in
    let from_there = begins-there d c.args.flow c.flow_counts-counts.ensures.sound c.requires.flow c.args.from.now
    c.requires.place c.requires.some c.args.pool.now c.args.height c.args.end.now c.args.cut c.requires.end c.requires.cut
    c.last_of-last.result c.last_of-last.ensures in
    let is = there c.loop-k.k c.last_of-last.result c.item-k.result c.loop-k-test.false (rw c.item-k.ensures from_there)
    c.loop-k.auto.k-end in
    place-there d c.args.flow c.flow_counts-counts.ensures.sound c.requires.flow c.args.from.now
    c.requires.place c.requires.some c.args.pool.now c.args.height c.args.end.now c.args.cut c.requires.end c.requires.cut
    c.last_of-last.result c.last_of-last.ensures c.last_of-last.result c.loop-k.taken from_there
    (c.loop-k.invariant.taken ∙ ap (taken_of d f c.args.from.now) is)

pub stand_last-requires-clause-cut : goal.stand_last-requires-clause-cut
stand_last-requires-clause-cut g c =
    let d = c.args.flows.now in
    let f = flow_of d c.args.flow in
    let from_there = begins-there d c.args.flow c.flow_counts-counts.ensures.sound c.requires.flow c.args.from.now
    c.requires.place c.requires.some c.args.pool.now c.args.height c.args.end.now c.args.cut c.requires.end c.requires.cut
    c.last_of-last.result c.last_of-last.ensures in
    let is = there c.loop-k.k c.last_of-last.result c.item-k.result c.loop-k-test.false (rw c.item-k.ensures from_there)
    c.loop-k.auto.k-end in
    cut-there d c.args.flow c.flow_counts-counts.ensures.sound c.requires.flow c.args.from.now
    c.requires.place c.requires.some c.args.pool.now c.args.height c.args.end.now c.args.cut c.requires.end c.requires.cut
    c.last_of-last.result c.last_of-last.ensures c.loop-k.taken (c.loop-k.invariant.taken ∙ ap (taken_of d f c.args.from.now) is)
    c.loop-k.pool c.loop-k.invariant.grown

pub stand_last-requires-clause-room : goal.stand_last-requires-clause-room
stand_last-requires-clause-room g c =
    let d = c.args.flows.now in
    let f = flow_of d c.args.flow in
    let from_there = begins-there d c.args.flow c.flow_counts-counts.ensures.sound c.requires.flow c.args.from.now
    c.requires.place c.requires.some c.args.pool.now c.args.height c.args.end.now c.args.cut c.requires.end c.requires.cut
    c.last_of-last.result c.last_of-last.ensures in
    let is = there c.loop-k.k c.last_of-last.result c.item-k.result c.loop-k-test.false (rw c.item-k.ensures from_there)
    c.loop-k.auto.k-end in
    let P : ℕ → Type 0 = λ k. HasRoom d f k c.loop-k.taken (strip_of c.loop-k.at) in
    subst P is c.loop-k.invariant.room

pub returns-clause-placed : goal.returns-clause-placed
returns-clause-placed g c =
    let d = c.args.flows.now in
    let f = flow_of d c.args.flow in
    let from_there = begins-there d c.args.flow c.flow_counts-counts.ensures.sound c.requires.flow c.args.from.now
    c.requires.place c.requires.some c.args.pool.now c.args.height c.args.end.now c.args.cut c.requires.end c.requires.cut
    c.last_of-last.result c.last_of-last.ensures in
    let is = there c.loop-k.k c.last_of-last.result c.item-k.result c.loop-k-test.false (rw c.item-k.ensures from_there)
    c.loop-k.auto.k-end in
    let all = at-last d c.args.flow c.flow_counts-counts.ensures.sound c.requires.flow c.args.from.now
    c.requires.place c.requires.some c.args.pool.now c.args.height c.args.end.now c.args.cut c.requires.end c.requires.cut
    c.last_of-last.result c.last_of-last.ensures c.loop-k.k c.loop-k.taken is c.loop-k.at _ c.loop-k.invariant.places in
    let lastly = λ (b : Bool). last_laid d f c.last_of-last.result (option_map cut_room c.args.cut) b (strip_of c.loop-k.at)
    c.loop-k.taken in
    c.in_ok-finish.ensures.placed ∙ sym (c.in_ok-stand_last.ensures.places [])
    ∙ ap (λ b. with_more c.loop-k.at (lastly b ++ [])) c.is_at_seam-reached.ensures
    ∙ ap (with_more c.loop-k.at) (append-nil (lastly (ends_at_seam c.args.end.now))) ∙ all

pub returns-clause-made : goal.returns-clause-made
returns-clause-made g c =
    made-placed c.args.flows.now c.stand_last.new.pool c.finish.new.self.placed.items
    (rw c.in_ok-finish.ensures.rows c.in_ok-stand_last.ensures.made)

pub returns-clause-uses : goal.returns-clause-uses
returns-clause-uses g c =
    let d = c.args.flows.now in
    let f = flow_of d c.args.flow in
    let from_there = begins-there d c.args.flow c.flow_counts-counts.ensures.sound c.requires.flow c.args.from.now
    c.requires.place c.requires.some c.args.pool.now c.args.height c.args.end.now c.args.cut c.requires.end c.requires.cut
    c.last_of-last.result c.last_of-last.ensures in
    let is = there c.loop-k.k c.last_of-last.result c.item-k.result c.loop-k-test.false (rw c.item-k.ensures from_there)
    c.loop-k.auto.k-end in
    c.in_ok-stand_last.ensures.uses
    ∙ ap (λ b. after_uses d b (last_rows f c.last_of-last.result (option_map cut_room c.args.cut) c.loop-k.taken))
    c.loop-k.invariant.uses
    ∙ (c.uses_enter.ensures d).one_list (uses_in c.args.book.now) _ _
    ∙ ap (after_uses d (uses_in c.args.book.now))
    (ap (λ m. whole_rows f (item_number c.args.from.now) (within c.args.from.now) (m - item_number c.args.from.now)
    ++ last_rows f c.last_of-last.result (option_map cut_room c.args.cut) c.loop-k.taken) is
    ∙ rows-end f c.args.from.now c.args.end.now (option_map cut_room c.args.cut) c.last_of-last.result c.loop-k.taken
    c.last_of-last.ensures from_there (c.loop-k.invariant.taken ∙ ap (taken_of d f c.args.from.now) is))

pub returns-in_err-stand_last-clause-reads : goal.returns-in_err-stand_last-clause-reads
returns-in_err-stand_last-clause-reads g c =
    let from_there = begins-there c.args.flows.now c.args.flow c.flow_counts-counts.ensures.sound c.requires.flow
    c.args.from.now c.requires.place c.requires.some c.args.pool.now c.args.height c.args.end.now c.args.cut c.requires.end
    c.requires.cut c.last_of-last.result c.last_of-last.ensures in
    let is = there c.loop-k.k c.last_of-last.result c.item-k.result c.loop-k-test.false (rw c.item-k.ensures from_there)
    c.loop-k.auto.k-end in
    let so_far = c.loop-k.invariant.reads in
    let one = c.in_err-stand_last.ensures.reads in
    let end = c.last_of-last.ensures in
    omega (arith, from_there, is, so_far, one, end)

pub returns-in_err-finish-clause-reads : goal.returns-in_err-finish-clause-reads
returns-in_err-finish-clause-reads g c =
    let from_there = begins-there c.args.flows.now c.args.flow c.flow_counts-counts.ensures.sound c.requires.flow
    c.args.from.now c.requires.place c.requires.some c.args.pool.now c.args.height c.args.end.now c.args.cut c.requires.end
    c.requires.cut c.last_of-last.result c.last_of-last.ensures in
    let is = there c.loop-k.k c.last_of-last.result c.item-k.result c.loop-k-test.false (rw c.item-k.ensures from_there)
    c.loop-k.auto.k-end in
    let so_far = c.loop-k.invariant.reads in
    let one = c.in_ok-stand_last.ensures.reads in
    let end = c.last_of-last.ensures in
    omega (arith, from_there, is, so_far, one, end)

pub returns-clause-reads : goal.returns-clause-reads
returns-clause-reads g c =
    let from_there = begins-there c.args.flows.now c.args.flow c.flow_counts-counts.ensures.sound c.requires.flow
    c.args.from.now c.requires.place c.requires.some c.args.pool.now c.args.height c.args.end.now c.args.cut c.requires.end
    c.requires.cut c.last_of-last.result c.last_of-last.ensures in
    let is = there c.loop-k.k c.last_of-last.result c.item-k.result c.loop-k-test.false (rw c.item-k.ensures from_there)
    c.loop-k.auto.k-end in
    let so_far = c.loop-k.invariant.reads in
    let one = c.in_ok-stand_last.ensures.reads in
    let end = c.last_of-last.ensures in
    omega (arith, from_there, is, so_far, one, end)
