use Rattle.std.proofs.Common.{ap, subst, ◌∙◌}
use Rattle.std.specs.Prelude.{IfSome}
use Rattle.inner_rows.specs.Keeping.{IsKeptFill}
use Rattle.kept_fills.specs.Keeping.{kept_at}
use Rattle.kept_fills.proofs.Kept.{some-found}
use Rattle.kept_fills.proofs.store.KeptFills.find.Goals as goal

pub returns-clause-kept : goal.returns-clause-kept
returns-clause-kept c = λ d b p kept.
    subst (λ q. IfSome c.get.result (λ fill. IsKeptFill d b p c.args.row q c.args.height fill.now)) c.copy.ensures
    (some-found d b p c.args.self.now.fills.entries (record { row = c.args.row; height = c.args.height; from = c.copy.result })
    c.get.result kept c.get.ensures.value)

pub returns-clause-found : goal.returns-clause-found
returns-clause-found c = c.get.ensures.value ∙ ap (λ q. kept_at c.args.self.now c.args.row q c.args.height) c.copy.ensures
