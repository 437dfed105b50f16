use Rattle.std.proofs.Common.{sym}
use Rattle.flow_list.specs.Entries.{uses_in}
use Rattle.flow_list.specs.Rows.{all_rows}
use Rattle.frag_pool.proofs.Growth.{grows-refl, grows-same-trial, kept-grows-grows, stands-kept-here, stands-live}
use Rattle.inner_rows.specs.Filling.{fill_tree}
use Rattle.inner_rows.proofs.Calls.{extends-refl}
use Rattle.kept_fills.proofs.Kept.{kept-stays}
use Rattle.balancer.proofs.KeptRows.{grown-since, kept-since, made-anew}
use Rattle.balancer.proofs.rows.RowsInnerRows.fill.Goals as goal

-- ---- a fill that is kept

pub returns-in-Some-clause-fill : goal.returns-in-Some-clause-fill
returns-in-Some-clause-fill g c = rw c.in_ok-copy.ensures
    (c.in-Some.ensures.kept c.args.flows.now c.args.book.now c.args.pool.now c.requires.engine.2).told

pub returns-in-Some-clause-frag : goal.returns-in-Some-clause-frag
returns-in-Some-clause-frag g c = rw c.in_ok-copy.ensures
    (stands-kept-here c.args.pool.now c.in-Some.kept.now.frag
    (fill_tree c.args.flows.now c.args.row c.args.from.now c.args.height)
    (c.in-Some.ensures.kept c.args.flows.now c.args.book.now c.args.pool.now c.requires.engine.2).frag)

pub returns-in-Some-clause-uses : goal.returns-in-Some-clause-uses
returns-in-Some-clause-uses g c = sym ((c.uses_enter.ensures c.args.flows.now).none_new (uses_in c.args.book.now)
    ((all_rows c.args.flows.now).fill c.args.row c.args.from.now c.args.height).uses
    (c.in-Some.ensures.kept c.args.flows.now c.args.book.now c.args.pool.now c.requires.engine.2).uses)

pub returns-in-Some-clause-grown : goal.returns-in-Some-clause-grown
returns-in-Some-clause-grown g c = grows-refl c.args.pool.now

-- ---- one that is made anew

pub returns-in_err-made-clause-engine : goal.returns-in_err-made-clause-engine
returns-in_err-made-clause-engine g c = (
  rw c.in_err-made.ensures.depth c.requires.engine.0,
  c.in_err-made.ensures.engine,
  kept-stays c.args.flows.now c.args.book.now c.fill_anew.new.book c.args.pool.now c.fill_anew.new.pool
      c.args.self.now.fills.fills.entries c.in_err-made.ensures.book.held
      (kept-grows-grows c.args.pool.now c.fill_anew.new.pool
      (grows-same-trial c.args.pool.now c.fill_anew.new.pool c.in_err-made.ensures.refused)) c.requires.engine.2,
)

pub returns-then-is_full-clause-engine : goal.returns-then-is_full-clause-engine
returns-then-is_full-clause-engine g c = (
  rw c.in_ok-made.ensures.depth c.requires.engine.0,
  c.in_ok-made.ensures.engine,
  kept-stays c.args.flows.now c.args.book.now c.fill_anew.new.book c.args.pool.now c.fill_anew.new.pool
      c.args.self.now.fills.fills.entries c.in_ok-made.ensures.book.held
      (kept-grows-grows c.args.pool.now c.fill_anew.new.pool c.in_ok-made.ensures.grown) c.requires.engine.2,
)

pub keep_made-requires-clause-live : goal.keep_made-requires-clause-live
keep_made-requires-clause-live g c = stands-live c.fill_anew.new.pool c.in_ok-made.made.frag
    (fill_tree c.args.flows.now c.args.row c.args.from.now c.args.height) c.in_ok-made.ensures.frag

pub returns-in_err-kept-clause-engine : goal.returns-in_err-kept-clause-engine
returns-in_err-kept-clause-engine g c = (
  rw c.in_ok-made.ensures.depth c.requires.engine.0,
  g.met.I.InnerRows.stays c.fill_anew.new.inner c.args.flows.now c.fill_anew.new.book c.fill_anew.new.book c.fill_anew.new.pool
      c.keep_made.new.pool c.in_ok-made.ensures.engine (extends-refl c.fill_anew.new.book)
      (kept-since c.fill_anew.new.pool c.keep_made.new.pool c.mark-mark.result.trial c.in_err-kept.ensures.given_up),
  c.in_err-kept.ensures.kept c.args.flows.now c.fill_anew.new.book
      (kept-stays c.args.flows.now c.args.book.now c.fill_anew.new.book c.args.pool.now c.fill_anew.new.pool
      c.args.self.now.fills.fills.entries c.in_ok-made.ensures.book.held
      (kept-grows-grows c.args.pool.now c.fill_anew.new.pool c.in_ok-made.ensures.grown) c.requires.engine.2)
      (made-anew c.args.flows.now (c.uses_enter.ensures c.args.flows.now) c.args.book.now c.fill_anew.new.book
      c.fill_anew.new.pool c.args.row c.args.from.now c.args.height c.in_ok-made.made c.in_ok-made.ensures.fill
      c.in_ok-made.ensures.uses c.in_ok-made.ensures.frag),
)

pub returns-clause-fill : goal.returns-clause-fill
returns-clause-fill g c = (c.in_ok-kept.ensures.fill c.args.flows.now c.fill_anew.new.book
    (made-anew c.args.flows.now (c.uses_enter.ensures c.args.flows.now) c.args.book.now c.fill_anew.new.book
    c.fill_anew.new.pool c.args.row c.args.from.now c.args.height c.in_ok-made.made c.in_ok-made.ensures.fill
    c.in_ok-made.ensures.uses c.in_ok-made.ensures.frag)).told

pub returns-clause-frag : goal.returns-clause-frag
returns-clause-frag g c = stands-kept-here c.keep_made.new.pool c.in_ok-kept.kept.frag
    (fill_tree c.args.flows.now c.args.row c.args.from.now c.args.height)
    (c.in_ok-kept.ensures.fill c.args.flows.now c.fill_anew.new.book
    (made-anew c.args.flows.now (c.uses_enter.ensures c.args.flows.now) c.args.book.now c.fill_anew.new.book
    c.fill_anew.new.pool c.args.row c.args.from.now c.args.height c.in_ok-made.made c.in_ok-made.ensures.fill
    c.in_ok-made.ensures.uses c.in_ok-made.ensures.frag)).frag

pub returns-clause-engine : goal.returns-clause-engine
returns-clause-engine g c = (
  rw c.in_ok-made.ensures.depth c.requires.engine.0,
  g.met.I.InnerRows.stays c.fill_anew.new.inner c.args.flows.now c.fill_anew.new.book c.fill_anew.new.book c.fill_anew.new.pool
      c.keep_made.new.pool c.in_ok-made.ensures.engine (extends-refl c.fill_anew.new.book)
      (kept-since c.fill_anew.new.pool c.keep_made.new.pool c.mark-mark.result.trial c.in_ok-kept.ensures.given_up),
  c.in_ok-kept.ensures.kept c.args.flows.now c.fill_anew.new.book
      (kept-stays c.args.flows.now c.args.book.now c.fill_anew.new.book c.args.pool.now c.fill_anew.new.pool
      c.args.self.now.fills.fills.entries c.in_ok-made.ensures.book.held
      (kept-grows-grows c.args.pool.now c.fill_anew.new.pool c.in_ok-made.ensures.grown) c.requires.engine.2)
      (made-anew c.args.flows.now (c.uses_enter.ensures c.args.flows.now) c.args.book.now c.fill_anew.new.book
      c.fill_anew.new.pool c.args.row c.args.from.now c.args.height c.in_ok-made.made c.in_ok-made.ensures.fill
      c.in_ok-made.ensures.uses c.in_ok-made.ensures.frag),
)

pub returns-clause-grown : goal.returns-clause-grown
returns-clause-grown g c = grown-since c.fill_anew.new.pool c.keep_made.new.pool c.mark-mark.result.trial
    c.in_ok-kept.ensures.given_up c.args.pool.now c.mark-mark.ensures.trial c.in_ok-made.ensures.grown
