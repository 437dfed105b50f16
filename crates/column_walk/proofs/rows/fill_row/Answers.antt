use Rattle.column_walk.proofs.Chain.{extends-same, given-up, kept-back, trial-within}
use Rattle.column_walk.proofs.Filled.{if-ok, made-end, made-of, made-shallow, made-some}
use Rattle.column_walk.proofs.rows.fill_row.Goals as goal

pub release-requires : goal.release-requires
release-requires g c =
    trial-within c.args.pool.now c.fill-filled.new.pool c.mark-mark.result.trial c.mark-mark.ensures.trial c.fill-filled.result
    c.fill-filled.ensures.grown c.fill-filled.ensures.refused

pub returns-clause-fill : goal.returns-clause-fill
returns-clause-fill g c =
    if-ok c.fill-filled.result _ _
    (λ out told. made-of c.args.flows.now c.flow_counts-counts.ensures.sound c.args.row c.requires.row c.args.from.now
    c.args.height out told) c.fill-filled.ensures.fill

pub returns-clause-some : goal.returns-clause-some
returns-clause-some g c =
    if-ok c.fill-filled.result _ _
    (λ out told. made-some c.args.flows.now c.flow_counts-counts.ensures.sound c.args.row c.args.from.now c.args.height
    c.requires.row c.requires.place out
    (made-of c.args.flows.now c.flow_counts-counts.ensures.sound c.args.row c.requires.row c.args.from.now c.args.height out
    told)) c.fill-filled.ensures.fill

pub returns-clause-end : goal.returns-clause-end
returns-clause-end g c =
    if-ok c.fill-filled.result _ _
    (λ out told. made-end c.args.flows.now c.flow_counts-counts.ensures.sound (g.I.InnerRows.depth c.args.inner.now)
    c.args.row c.args.from.now c.args.height c.requires.row c.requires.nests c.requires.deep c.requires.place out
    (made-of c.args.flows.now c.flow_counts-counts.ensures.sound c.args.row c.requires.row c.args.from.now c.args.height out
    told)) c.fill-filled.ensures.fill

pub returns-clause-shallow : goal.returns-clause-shallow
returns-clause-shallow g c =
    if-ok c.fill-filled.result _ _
    (λ out told. made-shallow c.args.flows.now c.flow_counts-counts.ensures.sound c.args.row c.args.from.now c.args.height out
    (made-of c.args.flows.now c.flow_counts-counts.ensures.sound c.args.row c.requires.row c.args.from.now c.args.height out
    told)) c.fill-filled.ensures.fill

pub returns-clause-engine : goal.returns-clause-engine
returns-clause-engine g c =
    g.met.I.InnerRows.stays c.fill-filled.new.self c.args.flows.now c.fill-filled.new.book c.fill-filled.new.book
    c.fill-filled.new.pool c.release.new.self c.fill-filled.ensures.engine
    (extends-same c.fill-filled.new.book) (kept-back _ _ _ c.release.ensures.back)

pub returns-clause-pool : goal.returns-clause-pool
returns-clause-pool g c =
    given-up c.args.pool.now c.fill-filled.new.pool c.mark-mark.result.trial c.mark-mark.ensures.trial c.fill-filled.result
    c.fill-filled.ensures.grown c.fill-filled.ensures.refused
    c.release.new.self c.release.ensures.back
