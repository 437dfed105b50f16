use Rattle.flow_list.specs.Entries.{uses_in}
use Rattle.flow_list.specs.RowHeights.{size_of}
use Rattle.frag_pool.proofs.Growth.{kept-grows-grows, stands-live}
use Rattle.inner_rows.proofs.Calls.{extends-refl}
use Rattle.balancer.proofs.Costs.{fit-folds, fit-reads, high-folds, high-reads}
use Rattle.balancer.proofs.Ends.{ends-fit, ends-high, fit-stands, fit-used, high-used}
use Rattle.balancer.proofs.balancing.balance.Goals as goal

pub with_height-requires : goal.with_height-requires
with_height-requires g c =
    let d = c.args.flows.now in
    let own = c.own_columns_enter.ensures d c.flow_counts-counts.ensures.sound c.args.row c.requires.row c.args.from.now
    c.requires.place in
    let end = ends-fit c.args.available (size_of d c.args.row c.args.from.now) c.in_ok-found.found.height c.in_ok-found.found.frag
    c.in-Some.piece c.in-Some.is c.in_ok-found.ensures.found.end in
    stands-live c.search.new.pool c.in-Some.piece _ (fit-stands d c.args.row c.args.from.now own c.search.new.pool
    c.in_ok-found.found.height c.in_ok-found.found.frag c.in-Some.piece c.in-Some.is end.0 c.in_ok-found.ensures.frag)

pub returns-in_err-frag-in-Some-clause-engine : goal.returns-in_err-frag-in-Some-clause-engine
returns-in_err-frag-in-Some-clause-engine g c =
    g.met.I.InnerRows.stays c.search.new.inner c.args.flows.now c.search.new.book c.search.new.book c.search.new.pool
    c.with_height.new.pool c.in_ok-found.ensures.engine (extends-refl _) (kept-grows-grows _ _
    c.in_err-frag-in-Some.ensures.grown)

pub with_height-requires-in-None : goal.with_height-requires-in-None
with_height-requires-in-None g c =
    stands-live c.whole_piece.new.pool c.in_ok-piece-in-None.piece _ c.in_ok-piece-in-None.ensures.frag

pub returns-in_err-frag-in-None-clause-engine : goal.returns-in_err-frag-in-None-clause-engine
returns-in_err-frag-in-None-clause-engine g c =
    g.met.I.InnerRows.stays c.whole_piece.new.inner c.args.flows.now c.whole_piece.new.book c.whole_piece.new.book
    c.whole_piece.new.pool c.with_height-in-None.new.pool c.in_ok-piece-in-None.ensures.engine (extends-refl _)
    (kept-grows-grows _ _ c.in_err-frag-in-None.ensures.grown)

pub returns-in_ok-frag-in-Some-clause-engine : goal.returns-in_ok-frag-in-Some-clause-engine
returns-in_ok-frag-in-Some-clause-engine g c =
    g.met.I.InnerRows.stays c.search.new.inner c.args.flows.now c.search.new.book c.search.new.book c.search.new.pool
    c.with_height.new.pool c.in_ok-found.ensures.engine (extends-refl _) (kept-grows-grows _ _ c.in_ok-frag-in-Some.ensures.grown)

pub returns-in_ok-frag-in-Some-clause-uses : goal.returns-in_ok-frag-in-Some-clause-uses
returns-in_ok-frag-in-Some-clause-uses g c =
    let d = c.args.flows.now in
    let own = c.own_columns_enter.ensures d c.flow_counts-counts.ensures.sound c.args.row c.requires.row c.args.from.now
    c.requires.place in
    let end = ends-fit c.args.available (size_of d c.args.row c.args.from.now) c.in_ok-found.found.height c.in_ok-found.found.frag
    c.in-Some.piece c.in-Some.is c.in_ok-found.ensures.found.end in
    fit-used d c.args.row c.args.from.now own c.args.available c.in_ok-found.found.height c.in_ok-found.found.ranges
    c.in_ok-found.found.frag c.in-Some.piece (uses_in c.args.book.now) (uses_in c.search.new.book) c.in-Some.is
    c.in_ok-found.ensures.found.ranges end.0 end.1 c.in_ok-found.ensures.uses

pub returns-in_ok-frag-in-None-clause-engine : goal.returns-in_ok-frag-in-None-clause-engine
returns-in_ok-frag-in-None-clause-engine g c =
    g.met.I.InnerRows.stays c.whole_piece.new.inner c.args.flows.now c.whole_piece.new.book c.whole_piece.new.book
    c.whole_piece.new.pool c.with_height-in-None.new.pool c.in_ok-piece-in-None.ensures.engine (extends-refl _)
    (kept-grows-grows _ _ c.in_ok-frag-in-None.ensures.grown)

pub returns-in_ok-frag-in-None-clause-uses : goal.returns-in_ok-frag-in-None-clause-uses
returns-in_ok-frag-in-None-clause-uses g c =
    let d = c.args.flows.now in
    let size = size_of d c.args.row c.args.from.now in
    let high = ends-high c.args.available size c.in_ok-found.found.height c.in_ok-found.found.frag c.in-None.is
    c.in_ok-found.ensures.found.end in
    high-used d (c.uses_enter.ensures d) c.args.row c.args.from.now c.args.available c.in_ok-found.found.height
    c.height_within-height.result c.in_ok-found.found.ranges c.in_ok-found.found.frag (uses_in c.args.book.now)
    (uses_in c.search.new.book) (uses_in c.whole_piece.new.book) c.in-None.is c.in_ok-found.ensures.found.ranges
    (c.height_within-height.ensures size high) c.in_ok-found.ensures.uses c.in_ok-piece-in-None.ensures.uses

pub returns-in_ok-frag-in-Some-clause-folds : goal.returns-in_ok-frag-in-Some-clause-folds
returns-in_ok-frag-in-Some-clause-folds g c =
    fit-folds c.in_ok-found.found.ranges c.in_ok-found.found.frag c.in-Some.piece (g.C.Tally.fold_count c.args.tally.now)
    (g.C.Tally.fold_count c.search.new.tally) c.in-Some.is c.in_ok-found.ensures.folds

pub returns-in_ok-frag-in-Some-clause-reads : goal.returns-in_ok-frag-in-Some-clause-reads
returns-in_ok-frag-in-Some-clause-reads g c =
    let d = c.args.flows.now in
    let own = c.own_columns_enter.ensures d c.flow_counts-counts.ensures.sound c.args.row c.requires.row c.args.from.now
    c.requires.place in
    let end = ends-fit c.args.available (size_of d c.args.row c.args.from.now) c.in_ok-found.found.height c.in_ok-found.found.frag
    c.in-Some.piece c.in-Some.is c.in_ok-found.ensures.found.end in
    fit-reads d c.args.row c.args.from.now own c.in_ok-found.found.height c.in_ok-found.found.ranges c.in_ok-found.found.frag
    c.in-Some.piece (g.C.Tally.read_count c.args.tally.now) (g.C.Tally.read_count c.search.new.tally) c.in-Some.is end.0
    c.in_ok-found.ensures.reads

pub returns-in_ok-frag-in-None-clause-folds : goal.returns-in_ok-frag-in-None-clause-folds
returns-in_ok-frag-in-None-clause-folds g c =
    high-folds c.in_ok-found.found.ranges c.in_ok-found.found.frag (g.C.Tally.fold_count c.args.tally.now)
    (g.C.Tally.fold_count c.search.new.tally) (g.C.Tally.fold_count c.whole_piece.new.tally) c.in-None.is
    c.in_ok-found.ensures.folds c.whole_piece.ensures.folds

pub returns-in_ok-frag-in-None-clause-reads : goal.returns-in_ok-frag-in-None-clause-reads
returns-in_ok-frag-in-None-clause-reads g c =
    high-reads c.args.flows.now c.args.row c.args.from.now c.in_ok-found.found.height c.height_within-height.result
    c.in_ok-found.found.ranges c.in_ok-found.found.frag (g.C.Tally.read_count c.args.tally.now)
    (g.C.Tally.read_count c.search.new.tally) (g.C.Tally.read_count c.whole_piece.new.tally) c.in-None.is
    c.in_ok-found.ensures.reads c.whole_piece.ensures.reads
