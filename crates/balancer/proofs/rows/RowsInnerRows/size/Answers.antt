use Rattle.std.proofs.Common.{◌≡◌, ◌∷◌, [], false, refl, sym, ◌∙◌, ap}
use Rattle.flow_list.specs.Book.{after_uses}
use Rattle.flow_list.specs.Certificate.{stands_in}
use Rattle.flow_list.specs.Entries.{uses_in}
use Rattle.frag_pool.proofs.Growth.{given-up-kept, grows-same-trial, kept-grows-grows, kept-grows-trans}
use Rattle.inner_rows.proofs.Calls.{extends-same, extends-trans}
use Rattle.kept_fills.proofs.Kept.{kept-stays}
use Rattle.balancer.proofs.Sizes.{entered-book, entered-uses, found-size, found-stands, none-stands, own-uses}
use Rattle.balancer.proofs.rows.RowsInnerRows.size.Goals as goal

pub returns-in-Some-clause-size : goal.returns-in-Some-clause-size
returns-in-Some-clause-size g c =
    found-size c.args.flows.now c.args.book.now c.args.row c.args.from.now c.in-Some.entry.now c.requires.book
    (sym c.in-Some.ensures)
    ∙ sym ((c.depths_are_alike.ensures.told c.args.flows.now c.flow_counts-counts.ensures.sound).size_is c.args.row
    c.args.from.now c.requires.row)

pub returns-in-Some-clause-uses : goal.returns-in-Some-clause-uses
returns-in-Some-clause-uses g c =
    sym ((c.uses_enter.ensures c.args.flows.now).none_new (uses_in c.args.book.now) ((c.args.row, c.args.from.now) ∷ [])
    (found-stands c.args.book.now (c.args.row, c.args.from.now) c.in-Some.entry.now (sym c.in-Some.ensures)))

pub put-requires : goal.put-requires
put-requires g c =
    let none : stands_in (uses_in c.args.book.now) (c.args.row, c.args.from.now) ≡ false =
    none-stands c.args.book.now (c.args.row, c.args.from.now) (sym c.in_default.ensures) in
    rw (c.copy.ensures, c.in_ok-made.ensures.uses, own-uses c.args.flows.now c.args.row c.args.from.now)
    ((c.book_stays_true.ensures c.args.flows.now c.flow_counts-counts.ensures.sound).not_itself (uses_in c.args.book.now)
    (c.args.row, c.args.from.now) c.requires.row none)

pub returns-in_err-put-clause-engine : goal.returns-in_err-put-clause-engine
returns-in_err-put-clause-engine g c = (
  rw c.in_ok-made.ensures.depth c.requires.engine.0,
  g.met.I.InnerRows.stays c.least.new.inner c.args.flows.now c.least.new.book c.put.new.book c.least.new.pool
      c.release.new.self c.in_ok-made.ensures.engine (extends-same _ _ c.in_err-put.ensures.err)
      (given-up-kept _ _ _ c.release.ensures.back),
  kept-stays c.args.flows.now c.args.book.now c.put.new.book c.args.pool.now c.release.new.self
      c.args.self.now.fills.fills.entries
      (extends-trans c.args.book.now c.least.new.book c.put.new.book c.in_ok-made.ensures.book.held
      (extends-same _ _ c.in_err-put.ensures.err))
      (kept-grows-trans c.args.pool.now c.least.new.pool c.release.new.self
      (kept-grows-grows c.args.pool.now c.least.new.pool c.in_ok-made.ensures.grown) (given-up-kept _ _ _ c.release.ensures.back))
      c.requires.engine.2,
)

pub returns-clause-engine : goal.returns-clause-engine
returns-clause-engine g c = (
  rw c.in_ok-made.ensures.depth c.requires.engine.0,
  g.met.I.InnerRows.stays c.least.new.inner c.args.flows.now c.least.new.book c.put.new.book c.least.new.pool
      c.release.new.self c.in_ok-made.ensures.engine (record { more = _; is = c.in_ok-put.ensures.ok })
      (given-up-kept _ _ _ c.release.ensures.back),
  kept-stays c.args.flows.now c.args.book.now c.put.new.book c.args.pool.now c.release.new.self
      c.args.self.now.fills.fills.entries
      (extends-trans c.args.book.now c.least.new.book c.put.new.book c.in_ok-made.ensures.book.held
      (record { more = _; is = c.in_ok-put.ensures.ok }))
      (kept-grows-trans c.args.pool.now c.least.new.pool c.release.new.self
      (kept-grows-grows c.args.pool.now c.least.new.pool c.in_ok-made.ensures.grown) (given-up-kept _ _ _ c.release.ensures.back))
      c.requires.engine.2,
)

pub returns-clause-uses : goal.returns-clause-uses
returns-clause-uses g c =
    let none : stands_in (uses_in c.args.book.now) (c.args.row, c.args.from.now) ≡ false =
    none-stands c.args.book.now (c.args.row, c.args.from.now) (sym c.in_default.ensures) in
    entered-uses c.args.flows.now (c.book_stays_true.ensures c.args.flows.now c.flow_counts-counts.ensures.sound) c.args.book.now
    c.least.new.book c.put.new.book _ c.requires.row (rw c.copy.ensures none)
    (rw c.copy.ensures (c.in_ok-made.ensures.uses ∙ ap (after_uses c.args.flows.now (uses_in c.args.book.now))
    (own-uses c.args.flows.now c.args.row c.args.from.now))) c.in_ok-put.ensures.ok
    ∙ rw c.copy.ensures refl

pub returns-clause-book : goal.returns-clause-book
returns-clause-book g c =
    let none : stands_in (uses_in c.args.book.now) (c.args.row, c.args.from.now) ≡ false =
    none-stands c.args.book.now (c.args.row, c.args.from.now) (sym c.in_default.ensures) in
    entered-book c.args.flows.now (c.book_stays_true.ensures c.args.flows.now c.flow_counts-counts.ensures.sound) c.args.book.now
    c.least.new.book c.put.new.book _ c.requires.book c.in_ok-made.ensures.book
    (record {
      of_a_row = c.requires.row;
      size = c.in_ok-made.ensures.least.height ∙ rw c.copy.ensures refl;
      reasons = c.in_ok-made.ensures.least.rejected ∙ rw c.copy.ensures refl;
    }) (rw c.copy.ensures none)
    (rw c.copy.ensures (c.in_ok-made.ensures.uses ∙ ap (after_uses c.args.flows.now (uses_in c.args.book.now))
    (own-uses c.args.flows.now c.args.row c.args.from.now))) c.in_ok-put.ensures.ok

pub returns-in_err-made-clause-engine : goal.returns-in_err-made-clause-engine
returns-in_err-made-clause-engine g c = (
  rw c.in_err-made.ensures.depth c.requires.engine.0,
  c.in_err-made.ensures.engine,
  kept-stays c.args.flows.now c.args.book.now c.least.new.book c.args.pool.now c.least.new.pool
      c.args.self.now.fills.fills.entries c.in_err-made.ensures.book.held
      (kept-grows-grows c.args.pool.now c.least.new.pool
      (grows-same-trial c.args.pool.now c.least.new.pool c.in_err-made.ensures.refused)) c.requires.engine.2,
)
