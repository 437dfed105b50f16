use Rattle.std.proofs.Common.{◌≤◌, refl, sym, ◌∙◌, subst, arith}
use Rattle.flow_list.specs.Entries.{uses_in}
use Rattle.frag_pool.specs.Nodes.{SameTrial}
use Rattle.frag_pool.proofs.Growth.{grows-same-trial, grows-trans, same-trial-refl, same-trial-trans}
use Rattle.inner_rows.proofs.Calls.{book-refl, book-trans}
use Rattle.piece_data.proofs.Pieces.{piece-holds}
use Rattle.piece_finder.specs.Trying.{IfRejected, IsTrial}
use Rattle.piece_finder.specs.declared.trying.Trial.{Trial}
use Rattle.piece_finder.proofs.Progress.{Searching, found-at, low-rises, next-at, passed-at, start-at}
use Rattle.piece_finder.proofs.Telling.{filled-tells}
use Rattle.piece_finder.proofs.Uses.{last-used, more-used, none-used}
use Rattle.piece_finder.proofs.search.search.Goals as goal

pub loop-low-init : goal.loop-low-init
loop-low-init g c = record {
  search = subst (λ xs. Searching c.args.flows.now c.args.row c.args.from.now c.args.height 0 xs) (sym c.new-ranges.ensures)
      (start-at c.args.flows.now c.args.row c.args.from.now c.args.height
      (c.searches_go_on.ensures c.args.flows.now c.args.row c.args.from.now c.args.height
      (sym (filled-tells c.args.flows.now c.args.row c.args.from.now c.args.height c.args.wanted.now c.requires.wanted).overflow
      ∙ c.requires.fine)));
  uses = none-used c.args.flows.now (c.uses_enter.ensures c.args.flows.now) c.args.row c.args.from.now
      (uses_in c.args.book.now) c.new-ranges.result c.new-ranges.ensures;
  depth = refl;
  engine = c.requires.engine;
  book = book-refl c.args.flows.now c.args.book.now c.requires.book;
  same = same-trial-refl c.args.pool.now;
  read = refl;
  folds = refl;
}

pub returns-in-Found-clause-found : goal.returns-in-Found-clause-found
returns-in-Found-clause-found g c =
    found-at c.args.flows.now c.args.row c.args.from.now c.args.height c.loop-low.low c.loop-low.ranges c.in-Found.frag
    (c.searches_go_on.ensures c.args.flows.now c.args.row c.args.from.now c.args.height
    (sym (filled-tells c.args.flows.now c.args.row c.args.from.now c.args.height c.args.wanted.now c.requires.wanted).overflow
    ∙ c.requires.fine))
    c.loop-low.invariant.search
    (subst (λ (t : Trial). IsTrial c.args.flows.now c.args.row c.args.from.now c.args.height c.loop-low.low t) c.in-Found.is
    c.in_ok-trial.ensures.trial)

pub loop-low-smaller : goal.loop-low-smaller
loop-low-smaller g c =
    let is = subst (λ (t : Trial). IsTrial c.args.flows.now c.args.row c.args.from.now c.args.height c.loop-low.low t)
    c.in-Rejected.is c.in_ok-trial.ensures.trial in
    let begins = low-rises c.args.flows.now c.args.row c.args.from.now c.args.height c.loop-low.low c.loop-low.ranges
    c.in-Rejected.range
    (c.searches_go_on.ensures c.args.flows.now c.args.row c.args.from.now c.args.height
    (sym (filled-tells c.args.flows.now c.args.row c.args.from.now c.args.height c.args.wanted.now
    c.requires.wanted).overflow ∙ c.requires.fine))
    c.loop-low.invariant.search is in
    let above = begins.above in
    let high = begins.no_higher in
    let end = is.high_is in
    let top = (piece-holds c.args.flows.now c.args.row c.args.from.now c.args.height).no_higher in
    omega arith

pub loop-low-preserved : goal.loop-low-preserved
loop-low-preserved g c = record {
  search = next-at c.args.flows.now c.args.row c.args.from.now c.args.height c.loop-low.low c.in-Rejected.range.hi
      c.loop-low.ranges c.push.new.self c.in-Rejected.range
      (c.searches_go_on.ensures c.args.flows.now c.args.row c.args.from.now c.args.height
      (sym (filled-tells c.args.flows.now c.args.row c.args.from.now c.args.height c.args.wanted.now c.requires.wanted).overflow
      ∙ c.requires.fine))
      c.loop-low.invariant.search
      (subst (λ (t : Trial). IsTrial c.args.flows.now c.args.row c.args.from.now c.args.height c.loop-low.low t)
      c.in-Rejected.is c.in_ok-trial.ensures.trial)
      refl c.in_ok-push-in-Rejected.ensures.ok;
  uses = more-used c.args.flows.now (c.uses_enter.ensures c.args.flows.now) c.args.row c.args.from.now c.loop-low.low
      (uses_in c.args.book.now) (uses_in c.loop-low.book) (uses_in c.try_height.new.book) c.loop-low.ranges c.push.new.self
      c.in-Rejected.range c.loop-low.invariant.uses c.in_ok-trial.ensures.uses
      (subst (λ (t : Trial). IsTrial c.args.flows.now c.args.row c.args.from.now c.args.height c.loop-low.low t)
      c.in-Rejected.is c.in_ok-trial.ensures.trial).low_is c.in_ok-push-in-Rejected.ensures.ok;
  depth = c.in_ok-trial.ensures.depth ∙ c.loop-low.invariant.depth;
  engine = c.in_ok-trial.ensures.engine;
  book = book-trans c.args.flows.now c.args.book.now c.loop-low.book c.try_height.new.book c.loop-low.invariant.book
      c.in_ok-trial.ensures.book;
  same = same-trial-trans c.args.pool.now c.loop-low.pool c.try_height.new.pool c.loop-low.invariant.same
      (subst (λ (t : Trial). IfRejected t (SameTrial c.loop-low.pool c.try_height.new.pool)) c.in-Rejected.is
      c.in_ok-trial.ensures.given_up);
  read = c.in_ok-trial.ensures.read ∙ c.loop-low.invariant.read;
  folds = c.in_ok-trial.ensures.folds ∙ c.loop-low.invariant.folds;
}

pub returns-clause-found : goal.returns-clause-found
returns-clause-found g c =
    let past : c.args.height ≤ c.loop-low.low = let t = c.loop-low-test.false in omega arith in
    passed-at c.args.flows.now c.args.row c.args.from.now c.args.height c.loop-low.low c.loop-low.ranges
    c.in_ok-made.made.frag
    (c.searches_go_on.ensures c.args.flows.now c.args.row c.args.from.now c.args.height
    (sym (filled-tells c.args.flows.now c.args.row c.args.from.now c.args.height c.args.wanted.now c.requires.wanted).overflow
    ∙ c.requires.fine))
    c.loop-low.invariant.search past

pub returns-in-Found-clause-uses : goal.returns-in-Found-clause-uses
returns-in-Found-clause-uses g c =
    last-used c.args.flows.now (c.uses_enter.ensures c.args.flows.now) c.args.row c.args.from.now c.loop-low.low
    (uses_in c.args.book.now) (uses_in c.loop-low.book) (uses_in c.try_height.new.book) c.loop-low.ranges
    c.loop-low.invariant.uses c.in_ok-trial.ensures.uses

pub returns-in-Found-clause-book : goal.returns-in-Found-clause-book
returns-in-Found-clause-book g c =
    book-trans c.args.flows.now c.args.book.now c.loop-low.book c.try_height.new.book c.loop-low.invariant.book
    c.in_ok-trial.ensures.book

pub returns-in-Found-clause-grown : goal.returns-in-Found-clause-grown
returns-in-Found-clause-grown g c =
    grows-trans c.args.pool.now c.loop-low.pool c.try_height.new.pool
    (grows-same-trial c.args.pool.now c.loop-low.pool c.loop-low.invariant.same) c.in_ok-trial.ensures.grown

pub returns-clause-uses : goal.returns-clause-uses
returns-clause-uses g c =
    last-used c.args.flows.now (c.uses_enter.ensures c.args.flows.now) c.args.row c.args.from.now c.args.height
    (uses_in c.args.book.now) (uses_in c.loop-low.book) (uses_in c.fill_row.new.book) c.loop-low.ranges
    c.loop-low.invariant.uses c.in_ok-made.ensures.uses

pub returns-clause-book : goal.returns-clause-book
returns-clause-book g c =
    book-trans c.args.flows.now c.args.book.now c.loop-low.book c.fill_row.new.book c.loop-low.invariant.book
    c.in_ok-made.ensures.book

pub returns-clause-grown : goal.returns-clause-grown
returns-clause-grown g c =
    grows-trans c.args.pool.now c.loop-low.pool c.fill_row.new.pool
    (grows-same-trial c.args.pool.now c.loop-low.pool c.loop-low.invariant.same) c.in_ok-made.ensures.grown
