use Rattle.std.proofs.Common.{sym, subst}
use Rattle.inner_rows.specs.Keeping.{IsKeptFill}
use Rattle.kept_fills.proofs.store.KeptFills.keep.Goals as goal

pub returns-clause-kept : goal.returns-clause-kept
returns-clause-kept c = λ d b p kept new.
    c.put.ensures.kept d b p kept (subst (λ q. IsKeptFill d b p c.args.row q c.args.height c.args.fill) (sym c.copy.ensures) new)
