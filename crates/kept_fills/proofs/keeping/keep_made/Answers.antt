use Rattle.std.proofs.Common.{sym, subst}
use Rattle.inner_rows.specs.Keeping.{IsKeptFill}
use Rattle.inner_rows.proofs.Calls.{extends-refl}
use Rattle.kept_fills.proofs.Kept.{kept-after, kept-stays, made-kept}
use Rattle.kept_fills.proofs.keeping.keep_made.Goals as goal

pub returns-in_err-frag-clause-kept : goal.returns-in_err-frag-clause-kept
returns-in_err-frag-clause-kept c = λ d b kept made.
    kept-stays d b b c.args.pool.now c.release.new.self c.args.fills.now.fills.entries (extends-refl b)
    (kept-after c.args.pool.now c.promote-promoted.new.self c.release.new.self c.args.mark.now.trial
    c.promote-promoted.ensures.trial c.release.ensures.back) kept

pub returns-in_err-copy-clause-kept : goal.returns-in_err-copy-clause-kept
returns-in_err-copy-clause-kept c = λ d b kept made.
    kept-stays d b b c.args.pool.now c.release.new.self c.args.fills.now.fills.entries (extends-refl b)
    (kept-after c.args.pool.now c.promote-promoted.new.self c.release.new.self c.args.mark.now.trial
    c.promote-promoted.ensures.trial c.release.ensures.back) kept

pub returns-in_err-keep-clause-kept : goal.returns-in_err-keep-clause-kept
returns-in_err-keep-clause-kept c = λ d b kept made.
    c.keep.ensures.kept d b c.release.new.self
    (kept-stays d b b c.args.pool.now c.release.new.self c.args.fills.now.fills.entries (extends-refl b)
    (kept-after c.args.pool.now c.promote-promoted.new.self c.release.new.self c.args.mark.now.trial
    c.promote-promoted.ensures.trial c.release.ensures.back) kept)
    (made-kept c.args.pool.now c.promote-promoted.new.self c.release.new.self c.args.mark.now.trial
    c.promote-promoted.ensures.trial c.release.ensures.back d b c.args.row c.args.from.now c.args.height c.args.fill
    c.with_frag-fill.result c.in_ok-frag.frag c.mark-all.ensures.closed c.in_ok-frag.ensures.kept c.in_ok-frag.ensures.live
    c.in_ok-frag.ensures.equal c.with_frag-fill.ensures made)

pub returns-clause-fill : goal.returns-clause-fill
returns-clause-fill c = λ d b made.
    subst (IsKeptFill d b c.release.new.self c.args.row c.args.from.now c.args.height) (sym c.in_ok-copy.ensures)
    (made-kept c.args.pool.now c.promote-promoted.new.self c.release.new.self c.args.mark.now.trial
    c.promote-promoted.ensures.trial c.release.ensures.back d b c.args.row c.args.from.now c.args.height c.args.fill
    c.with_frag-fill.result c.in_ok-frag.frag c.mark-all.ensures.closed c.in_ok-frag.ensures.kept c.in_ok-frag.ensures.live
    c.in_ok-frag.ensures.equal c.with_frag-fill.ensures made)

pub returns-clause-kept : goal.returns-clause-kept
returns-clause-kept c = λ d b kept made.
    c.keep.ensures.kept d b c.release.new.self
    (kept-stays d b b c.args.pool.now c.release.new.self c.args.fills.now.fills.entries (extends-refl b)
    (kept-after c.args.pool.now c.promote-promoted.new.self c.release.new.self c.args.mark.now.trial
    c.promote-promoted.ensures.trial c.release.ensures.back) kept)
    (made-kept c.args.pool.now c.promote-promoted.new.self c.release.new.self c.args.mark.now.trial
    c.promote-promoted.ensures.trial c.release.ensures.back d b c.args.row c.args.from.now c.args.height c.args.fill
    c.with_frag-fill.result c.in_ok-frag.frag c.mark-all.ensures.closed c.in_ok-frag.ensures.kept c.in_ok-frag.ensures.live
    c.in_ok-frag.ensures.equal c.with_frag-fill.ensures made)
