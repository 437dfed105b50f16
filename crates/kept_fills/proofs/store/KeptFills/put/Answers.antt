use Rattle.std.proofs.Common.{List, sym, subst, ap}
use Rattle.std.specs.Map.{lookup}
use Rattle.inner_rows.specs.declared.inner.Filled.{Filled}
use Rattle.kept_fills.specs.declared.key.FillKey.{FillKey}
use Rattle.kept_fills.specs.Keeping.{EachIsKept, same_key}
use Rattle.kept_fills.proofs.Kept.{kept-more, other-key}
use Rattle.kept_fills.proofs.store.KeptFills.put.Goals as goal

pub returns-in-Ok-clause-kept : goal.returns-in-Ok-clause-kept
returns-in-Ok-clause-kept c = λ d b p kept new.
    subst (EachIsKept d b p) (sym c.in-Ok.ensures.entries) (kept-more d b p c.args.self.now.fills.entries c.args.key c.args.fill
    kept new)

pub returns-clause-kept : goal.returns-clause-kept
returns-clause-kept c = λ d b p kept new. subst (EachIsKept d b p) (sym c.in-Err.ensures.err) kept

pub returns-in-Ok-clause-added : goal.returns-in-Ok-clause-added
returns-in-Ok-clause-added c = c.in-Ok.ensures.updates.1

pub returns-in-Ok-clause-others : goal.returns-in-Ok-clause-others
returns-in-Ok-clause-others c = λ r q h other.
    let k : FillKey = record { row = r; height = h; from = q } in c.in-Ok.ensures.updates.2 k (other-key c.args.key k other)

pub returns-clause-others : goal.returns-clause-others
returns-clause-others c = λ r q h other.
    ap (λ (es : List (FillKey × Filled)). lookup (same_key (record { row = r; height = h; from = q })) es) c.in-Err.ensures.err
