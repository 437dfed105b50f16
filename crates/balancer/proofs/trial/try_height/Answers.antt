use Rattle.std.proofs.Common.{◌∙◌, ap, subst, None, List}
use Rattle.flow_list.specs.Book.{after_uses}
use Rattle.flow_list.specs.Certificate.{uses_of}
use Rattle.flow_list.specs.Column.{Column}
use Rattle.flow_list.specs.Entries.{uses_in}
use Rattle.flow_list.specs.Rows.{all_rows}
use Rattle.frag_pool.specs.Standing.{StandsFor}
use Rattle.frag_pool.proofs.Growth.{given-up, given-up-kept, grows-same-trial}
use Rattle.inner_rows.specs.Filling.{row_tree}
use Rattle.inner_rows.proofs.Calls.{extends-refl}
use Rattle.balancer.proofs.Costs.{made-cost}
use Rattle.balancer.proofs.Trials.{judged-made, judged-of, row-flow, short-fits}
use Rattle.balancer.proofs.trial.try_height.Goals as goal

pub next_range-requires : goal.next_range-requires
next_range-requires g c =
    short-fits c.args.flows.now (c.flows_are_sound.ensures c.args.flows.now c.flow_counts-counts.ensures.sound) c.args.row
    (row-flow c.args.flows.now c.args.row c.flow_counts-counts.ensures.sound c.requires.row) c.args.from.now c.args.low
    c.args.most
    c.ranges.low.fits c.in_ok-made.made c.in_ok-made.ensures.fold

pub returns-in-None-clause-step : goal.returns-in-None-clause-step
returns-in-None-clause-step g c n =
    c.in-None.ensures (all_rows c.args.flows.now) c.args.flows.now c.args.row n c.args.from.now
    (judged-of c.args.flows.now c.args.row c.args.from.now c.args.low c.args.most c.requires.most c.in_ok-made.made
    c.in_ok-made.ensures.fold)

pub returns-in-None-clause-frag : goal.returns-in-None-clause-frag
returns-in-None-clause-frag g c =
    let P : List Column → Type 0 =
    λ cs. StandsFor c.fold.new.pool c.in_ok-made.made.frag
    (row_tree c.args.flows.now c.args.row c.args.from.now c.args.low None cs) in
    subst P (judged-made c.args.flows.now c.args.row c.args.from.now c.args.low c.args.most c.requires.most)
    c.in_ok-made.ensures.frag

pub returns-in-None-clause-uses : goal.returns-in-None-clause-uses
returns-in-None-clause-uses g c =
    c.in_ok-made.ensures.uses
    ∙ ap (λ cs. after_uses c.args.flows.now (uses_in c.args.book.now) (uses_of cs))
    (judged-made c.args.flows.now c.args.row c.args.from.now c.args.low c.args.most c.requires.most)

pub returns-in-Some-clause-step : goal.returns-in-Some-clause-step
returns-in-Some-clause-step g c n =
    c.in-Some.ensures (all_rows c.args.flows.now) c.args.flows.now c.args.row n c.args.from.now
    (judged-of c.args.flows.now c.args.row c.args.from.now c.args.low c.args.most c.requires.most c.in_ok-made.made
    c.in_ok-made.ensures.fold)

pub returns-in-Some-clause-engine : goal.returns-in-Some-clause-engine
returns-in-Some-clause-engine g c =
    g.met.I.InnerRows.stays c.fold.new.inner c.args.flows.now c.fold.new.book c.fold.new.book c.fold.new.pool
    c.release.new.self c.in_ok-made.ensures.engine (extends-refl _) (given-up-kept _ _ _ c.release.ensures.back)

pub returns-in-Some-clause-uses : goal.returns-in-Some-clause-uses
returns-in-Some-clause-uses g c =
    c.in_ok-made.ensures.uses
    ∙ ap (λ cs. after_uses c.args.flows.now (uses_in c.args.book.now) (uses_of cs))
    (judged-made c.args.flows.now c.args.row c.args.from.now c.args.low c.args.most c.requires.most)

pub returns-in-Some-clause-grown : goal.returns-in-Some-clause-grown
returns-in-Some-clause-grown g c =
    grows-same-trial _ _ (given-up _ _ _ _ c.mark-mark.ensures.trial c.in_ok-made.ensures.grown c.release.ensures.back)

pub returns-in_err-made-clause-reads : goal.returns-in_err-made-clause-reads
returns-in_err-made-clause-reads g c =
    made-cost c.args.flows.now c.args.row c.args.from.now c.args.low c.args.most c.requires.most
    (g.C.Tally.read_count c.args.tally.now) (g.C.Tally.read_count c.fold.new.tally) c.fold.ensures.read

pub returns-in-None-clause-reads : goal.returns-in-None-clause-reads
returns-in-None-clause-reads g c =
    made-cost c.args.flows.now c.args.row c.args.from.now c.args.low c.args.most c.requires.most
    (g.C.Tally.read_count c.args.tally.now) (g.C.Tally.read_count c.fold.new.tally) c.fold.ensures.read

pub returns-in-Some-clause-reads : goal.returns-in-Some-clause-reads
returns-in-Some-clause-reads g c =
    made-cost c.args.flows.now c.args.row c.args.from.now c.args.low c.args.most c.requires.most
    (g.C.Tally.read_count c.args.tally.now) (g.C.Tally.read_count c.fold.new.tally) c.fold.ensures.read
