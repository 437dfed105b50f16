use Rattle.std.proofs.Common.{sym, ◌∙◌}
use Rattle.flow_list.specs.Entries.{uses_in}
use Rattle.frag_pool.proofs.Growth.{given-up, given-up-kept}
use Rattle.inner_rows.proofs.Calls.{book-trans, extends-refl}
use Rattle.piece_finder.proofs.Calls.{grows-after, refused-after, uses-after}
use Rattle.piece_finder.proofs.Progress.{kept-at}
use Rattle.piece_finder.proofs.Telling.{filled-tells}
use Rattle.piece_finder.proofs.Uses.{kept-used}
use Rattle.piece_finder.proofs.lowering.find.Goals as goal

pub search-requires-clause-engine : goal.search-requires-clause-engine
search-requires-clause-engine g c =
    g.met.I.InnerRows.stays c.fill_row.new.inner c.args.flows.now c.fill_row.new.book c.fill_row.new.book c.fill_row.new.pool
    c.release.new.self c.in_ok-wanted.ensures.engine (extends-refl _) (given-up-kept _ _ _ c.release.ensures.back)

pub returns-clause-book : goal.returns-clause-book
returns-clause-book g c =
    book-trans c.args.flows.now c.args.book.now c.fill_row.new.book c.search.new.book c.in_ok-wanted.ensures.book
    c.search.ensures.book

pub returns-clause-uses : goal.returns-clause-uses
returns-clause-uses g c =
    uses-after c.args.flows.now (c.uses_enter.ensures c.args.flows.now) c.args.row c.args.from.now c.args.height
    (uses_in c.args.book.now) (uses_in c.fill_row.new.book) (uses_in c.search.new.book) c.search.result
    c.in_ok-wanted.ensures.uses c.search.ensures.found c.search.ensures.uses

pub returns-clause-grown : goal.returns-clause-grown
returns-clause-grown g c =
    grows-after c.search.result c.args.pool.now c.release.new.self c.search.new.pool
    (given-up _ _ _ _ c.mark-mark.ensures.trial c.in_ok-wanted.ensures.grown c.release.ensures.back) c.search.ensures.grown

pub returns-clause-refused : goal.returns-clause-refused
returns-clause-refused g c =
    refused-after c.search.result c.args.pool.now c.release.new.self c.search.new.pool
    (given-up _ _ _ _ c.mark-mark.ensures.trial c.in_ok-wanted.ensures.grown c.release.ensures.back) c.search.ensures.refused

pub returns-then-wanted-clause-found : goal.returns-then-wanted-clause-found
returns-then-wanted-clause-found g c =
    kept-at c.args.flows.now c.args.row c.args.from.now c.args.height c.new.result c.in_ok-wanted.wanted.frag
    (sym (filled-tells c.args.flows.now c.args.row c.args.from.now c.args.height c.in_ok-wanted.wanted
    c.in_ok-wanted.ensures.fill).overflow ∙ c.if-wanted.true) c.new.ensures

pub returns-then-wanted-clause-uses : goal.returns-then-wanted-clause-uses
returns-then-wanted-clause-uses g c =
    kept-used c.args.flows.now (c.uses_enter.ensures c.args.flows.now) c.args.row c.args.from.now c.args.height
    (uses_in c.args.book.now) (uses_in c.fill_row.new.book)
    (sym (filled-tells c.args.flows.now c.args.row c.args.from.now c.args.height c.in_ok-wanted.wanted
    c.in_ok-wanted.ensures.fill).overflow ∙ c.if-wanted.true) c.in_ok-wanted.ensures.uses
