use Rattle.std.proofs.Common.{List, refl, sym, ◌∙◌, ap, subst, arith}
use Rattle.std.specs.List.{flat_map}
use Rattle.std.proofs.lemmas.List.{append-nil}
use Rattle.flow_list.specs.Book.{after_uses}
use Rattle.flow_list.specs.Certificate.{range_uses, uses_of}
use Rattle.flow_list.specs.Entries.{uses_in}
use Rattle.flow_list.specs.Ranges.{Range, judged}
use Rattle.flow_list.specs.RowHeights.{size_of}
use Rattle.flow_list.specs.Rows.{all_rows}
use Rattle.frag_pool.specs.Nodes.{SameTrial}
use Rattle.frag_pool.proofs.Growth.{grows-same-trial, grows-trans, same-trial-refl, same-trial-trans}
use Rattle.inner_rows.proofs.Calls.{book-refl, book-trans}
use Rattle.balancer.specs.Trying.{IfRejected}
use Rattle.balancer.specs.declared.trial.Trial.{Trial}
use Rattle.balancer.proofs.Costs.{first-reads, more-folds, more-reads, trial-cost}
use Rattle.balancer.proofs.Progress.{ended-at, less-left, next-at, on-err, passed-at, start-at}
use Rattle.balancer.proofs.Uses.{firsts-used, last-used, more-used, trial-used}
use Rattle.balancer.proofs.search.search.Goals as goal

pub loop-alloc-init : goal.loop-alloc-init
loop-alloc-init g c =
    let d = c.args.flows.now in
    record {
      search = start-at d c.args.row c.args.from.now (c.ranges_account.ensures d c.flow_counts-counts.ensures.sound c.args.row
          c.requires.row c.args.from.now c.requires.place) c.args.available c.top_above-top.result _ _ c.top_above-top.ensures
          c.in_ok-first.ensures.ranges c.in_ok-first.ensures.low;
      uses = firsts-used d (c.uses_enter.ensures d) c.args.row c.args.from.now c.top_above-top.result _ (uses_in c.args.book.now)
          c.in_ok-first.ensures.ranges;
      depth = refl;
      engine = c.requires.engine;
      book = book-refl d c.args.book.now c.requires.book;
      same = same-trial-refl c.args.pool.now;
      folds = let same = c.in_ok-first.ensures.folds in omega arith;
      reads = first-reads d c.args.row c.args.from.now c.in_ok-first.first.ranges (g.C.Tally.read_count c.args.tally.now)
          (g.C.Tally.read_count c.first_ranges.new.tally) c.in_ok-first.ensures.reads;
    }

pub loop-alloc-preserved : goal.loop-alloc-preserved
loop-alloc-preserved g c =
    let d = c.args.flows.now in
    let old = c.loop-alloc.invariant in
    let told = c.in_ok-trial.ensures in
    record {
      search = (next-at d c.args.row c.args.from.now (c.ranges_account.ensures d c.flow_counts-counts.ensures.sound c.args.row
          c.requires.row c.args.from.now c.requires.place) c.args.available c.top_above-top.result c.loop-alloc.low
          c.loop-alloc.ranges c.in_ok-trial.trial c.in-Rejected.range c.range.inside.hi c.push.new.self c.top_above-top.ensures
          old.search (cc) c.in-Rejected.is told.step (ap (λ (y : Range). y.high) c.range.view_is)
          c.in_ok-push-in-Rejected.ensures.ok).1;
      uses = more-used d (c.uses_enter.ensures d) c.args.row c.args.from.now (uses_in c.args.book.now) (uses_in c.loop-alloc.book)
          (uses_in c.try_height.new.book) (uses_of (judged (all_rows d) d c.args.row c.args.from.now c.loop-alloc.low))
          c.loop-alloc.ranges c.in-Rejected.range old.uses told.uses
          (trial-used d c.args.row c.args.from.now c.top_above-top.result c.loop-alloc.low c.in_ok-trial.trial c.in-Rejected.range
          c.in-Rejected.is told.step)
          ∙ ap (λ (xs : List Range). after_uses d (uses_in c.args.book.now) (flat_map (range_uses d c.args.row c.args.from.now)
          xs))
          (sym c.in_ok-push-in-Rejected.ensures.ok);
      depth = told.depth ∙ old.depth;
      engine = told.engine;
      book = book-trans d c.args.book.now c.loop-alloc.book c.try_height.new.book old.book told.book;
      same = same-trial-trans c.args.pool.now c.loop-alloc.pool c.try_height.new.pool old.same
          (subst (λ (t : Trial). IfRejected t (SameTrial c.loop-alloc.pool c.try_height.new.pool)) c.in-Rejected.is
          told.given_up);
      folds = more-folds (g.C.Tally.fold_count c.args.tally.now) (g.C.Tally.fold_count c.loop-alloc.tally)
          (g.C.Tally.fold_count c.try_height.new.tally) c.loop-alloc.ranges c.push.new.self c.in-Rejected.range old.folds
          told.folds c.in_ok-push-in-Rejected.ensures.ok;
      reads = more-reads d c.args.row c.args.from.now c.loop-alloc.low (g.C.Tally.read_count c.args.tally.now)
          (g.C.Tally.read_count c.loop-alloc.tally) (g.C.Tally.read_count c.try_height.new.tally) c.loop-alloc.ranges
          c.push.new.self c.in-Rejected.range old.reads told.reads
          (trial-cost d c.args.row c.args.from.now c.top_above-top.result c.loop-alloc.low c.in_ok-trial.trial
          c.in-Rejected.range c.in-Rejected.is told.step) c.in_ok-push-in-Rejected.ensures.ok;
    }

pub loop-alloc-smaller : goal.loop-alloc-smaller
loop-alloc-smaller g c =
    let d = c.args.flows.now in
    let more = next-at d c.args.row c.args.from.now (c.ranges_account.ensures d c.flow_counts-counts.ensures.sound c.args.row
    c.requires.row c.args.from.now c.requires.place) c.args.available c.top_above-top.result c.loop-alloc.low
    c.loop-alloc.ranges c.in_ok-trial.trial c.in-Rejected.range c.range.inside.hi c.push.new.self c.top_above-top.ensures
    c.loop-alloc.invariant.search (cc) c.in-Rejected.is c.in_ok-trial.ensures.step
    (ap (λ (y : Range). y.high) c.range.view_is) c.in_ok-push-in-Rejected.ensures.ok in
    less-left c.loop-alloc.low c.range.inside.hi (size_of d c.args.row c.args.from.now) more.0 more.1.within

pub returns-in_err-trial-clause-book : goal.returns-in_err-trial-clause-book
returns-in_err-trial-clause-book g c =
    book-trans c.args.flows.now c.args.book.now c.loop-alloc.book c.try_height.new.book c.loop-alloc.invariant.book
    c.in_err-trial.ensures.book

pub returns-in_err-trial-clause-refused : goal.returns-in_err-trial-clause-refused
returns-in_err-trial-clause-refused g c =
    on-err c.from_residual-in_err-trial.result (same-trial-trans c.args.pool.now c.loop-alloc.pool c.try_height.new.pool
    c.loop-alloc.invariant.same c.in_err-trial.ensures.refused)

pub returns-in-Fits-clause-found : goal.returns-in-Fits-clause-found
returns-in-Fits-clause-found g c =
    let end = ended-at c.args.flows.now c.args.row c.args.from.now (c.ranges_account.ensures c.args.flows.now
    c.flow_counts-counts.ensures.sound c.args.row c.requires.row c.args.from.now c.requires.place) c.args.available
    c.top_above-top.result c.loop-alloc.low c.loop-alloc.ranges c.in_ok-trial.trial c.in-Fits.frag c.top_above-top.ensures
    c.loop-alloc.invariant.search (cc) c.in-Fits.is c.in_ok-trial.ensures.step in
    record { ranges = end.0; end = (end.1, end.2) }

pub returns-in-Fits-clause-book : goal.returns-in-Fits-clause-book
returns-in-Fits-clause-book g c =
    book-trans c.args.flows.now c.args.book.now c.loop-alloc.book c.try_height.new.book c.loop-alloc.invariant.book
    c.in_ok-trial.ensures.book

pub returns-in-Fits-clause-uses : goal.returns-in-Fits-clause-uses
returns-in-Fits-clause-uses g c =
    let d = c.args.flows.now in
    last-used d (c.uses_enter.ensures d) (uses_in c.args.book.now) (uses_in c.loop-alloc.book) (uses_in c.try_height.new.book)
    (flat_map (range_uses d c.args.row c.args.from.now) c.loop-alloc.ranges)
    (uses_of (judged (all_rows d) d c.args.row c.args.from.now c.loop-alloc.low)) c.loop-alloc.invariant.uses
    c.in_ok-trial.ensures.uses

pub returns-in-Fits-clause-grown : goal.returns-in-Fits-clause-grown
returns-in-Fits-clause-grown g c =
    grows-trans c.args.pool.now c.loop-alloc.pool c.try_height.new.pool
    (grows-same-trial c.args.pool.now c.loop-alloc.pool c.loop-alloc.invariant.same) c.in_ok-trial.ensures.grown

pub returns-in_err-push-in-Rejected-clause-book : goal.returns-in_err-push-in-Rejected-clause-book
returns-in_err-push-in-Rejected-clause-book g c =
    book-trans c.args.flows.now c.args.book.now c.loop-alloc.book c.try_height.new.book c.loop-alloc.invariant.book
    c.in_ok-trial.ensures.book

pub returns-in_err-push-in-Rejected-clause-refused : goal.returns-in_err-push-in-Rejected-clause-refused
returns-in_err-push-in-Rejected-clause-refused g c =
    on-err c.from_residual-in_err-push-in-Rejected.result (same-trial-trans c.args.pool.now c.loop-alloc.pool
    c.try_height.new.pool c.loop-alloc.invariant.same (subst (λ (t : Trial). IfRejected t (SameTrial c.loop-alloc.pool
    c.try_height.new.pool)) c.in-Rejected.is c.in_ok-trial.ensures.given_up))

pub returns-clause-found : goal.returns-clause-found
returns-clause-found g c =
    let end = passed-at c.args.flows.now c.args.row c.args.from.now (c.ranges_account.ensures c.args.flows.now
    c.flow_counts-counts.ensures.sound c.args.row c.requires.row c.args.from.now c.requires.place) c.args.available
    c.top_above-top.result c.loop-alloc.low c.loop-alloc.ranges c.top_above-top.ensures c.loop-alloc.invariant.search
    (cc) in
    record { ranges = end.0; end = end.1 }

pub returns-clause-uses : goal.returns-clause-uses
returns-clause-uses g c =
    let d = c.args.flows.now in
    c.loop-alloc.invariant.uses
    ∙ ap (after_uses d (uses_in c.args.book.now))
    (sym (append-nil (flat_map (range_uses d c.args.row c.args.from.now) c.loop-alloc.ranges)))

pub returns-clause-grown : goal.returns-clause-grown
returns-clause-grown g c = grows-same-trial c.args.pool.now c.loop-alloc.pool c.loop-alloc.invariant.same
