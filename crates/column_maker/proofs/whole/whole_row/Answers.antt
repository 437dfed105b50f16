use Rattle.std.proofs.Common.{◌∙◌, refl}
use Rattle.frag_pool.proofs.Growth.{grows-refl, grows-trans, kept-grows-grows}
use Rattle.frag_maker.proofs.Growing.{grows-trial, they-live}
use Rattle.inner_rows.proofs.Calls.{book-refl, book-trans, extends-refl}
use Rattle.flow_list.specs.Entries.{uses_in}
use Rattle.column_maker.proofs.Parts.{part-first, piece-made, same-book}
use Rattle.column_maker.proofs.whole.whole_row.Goals as goal

pub loop-at-init : goal.loop-at-init
loop-at-init g c = record {
  place = rw c.copy-at.ensures c.requires.place;
  part = rw (c.new-columns.ensures, c.copy-at.ensures)
      (part-first c.args.flows.now c.flow_counts-counts.ensures.sound c.args.row c.requires.row c.args.from.now c.args.height
      (uses_in c.args.book.now) c.args.pool.now c.requires.place c.requires.book.order c.requires.stands c.requires.size);
  uses = refl;
  depth = refl;
  engine = c.requires.engine;
  book = book-refl c.args.flows.now c.args.book.now c.requires.book;
  grown = grows-refl c.args.pool.now;
}

pub loop-at-preserved : goal.loop-at-preserved
loop-at-preserved g c =
    let before = c.loop-at.invariant in
    let step = c.in_ok-next.ensures in
    record {
      place = rw c.in-Some.is at step.place;
      part = rw c.in-Some.is at (step.columns c.args.from.now (uses_in c.args.book.now) before.part);
      uses = step.uses c.args.from.now (same-book c.args.flows.now c.args.row c.args.from.now c.args.height
          (uses_in c.args.book.now) (uses_in c.loop-at.book)
          c.loop-at.pool c.loop-at.columns c.loop-at.at before.uses before.part)
          ∙ before.uses;
      depth = step.depth ∙ before.depth;
      engine = step.engine;
      book = book-trans c.args.flows.now c.args.book.now c.loop-at.book c.add_fill.new.book before.book step.book;
      grown = grows-trans c.args.pool.now c.loop-at.pool c.add_fill.new.pool before.grown step.grown;
    }

pub add_node-requires : goal.add_node-requires
add_node-requires g c =
    they-live c.add_fill.new.pool c.add_fill.new.columns _
    (rw c.in_default.is at (c.in_ok-next.ensures.columns c.args.from.now (uses_in c.args.book.now) c.loop-at.invariant.part))

pub returns-clause-frag : goal.returns-clause-frag
returns-clause-frag g c = rw c.in_ok-id.ensures.id
    (piece-made c.add_fill.new.pool c.add_node.new.pool c.args.row c.args.from.now c.copy.result c.add_fill.new.columns _
    c.copy.ensures c.in_ok-id.ensures.ok
    (rw c.in_default.is at (c.in_ok-next.ensures.columns c.args.from.now (uses_in c.args.book.now) c.loop-at.invariant.part)))

pub returns-clause-engine : goal.returns-clause-engine
returns-clause-engine g c =
    g.met.I.InnerRows.stays c.add_fill.new.inner c.args.flows.now c.add_fill.new.book c.add_fill.new.book c.add_fill.new.pool
    c.add_node.new.pool c.in_ok-next.ensures.engine (extends-refl c.add_fill.new.book)
    (kept-grows-grows c.add_fill.new.pool c.add_node.new.pool
    (grows-trial c.add_fill.new.pool c.add_node.new.pool _ c.in_ok-id.ensures.ok))

pub returns-clause-grown : goal.returns-clause-grown
returns-clause-grown g c =
    grows-trans c.args.pool.now c.add_fill.new.pool c.add_node.new.pool
    (grows-trans c.args.pool.now c.loop-at.pool c.add_fill.new.pool c.loop-at.invariant.grown c.in_ok-next.ensures.grown)
    (grows-trial c.add_fill.new.pool c.add_node.new.pool _ c.in_ok-id.ensures.ok)

pub returns-clause-uses : goal.returns-clause-uses
returns-clause-uses g c =
    c.in_ok-next.ensures.uses c.args.from.now (same-book c.args.flows.now c.args.row c.args.from.now c.args.height
    (uses_in c.args.book.now) (uses_in c.loop-at.book) c.loop-at.pool c.loop-at.columns c.loop-at.at c.loop-at.invariant.uses
    c.loop-at.invariant.part) ∙ c.loop-at.invariant.uses
