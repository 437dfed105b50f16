use Rattle.std.proofs.Common.{sym, subst}
use Rattle.std.specs.Prelude.{Contains}
use Rattle.std.proofs.lemmas.List.Elements.{Contains-append_right}
use Rattle.css_winner.proofs.keys.add_filed.Goals as goal

pub returns-clause-added : goal.returns-clause-added
returns-clause-added c = λ p h. subst (λ xs. Contains xs p) (sym c.in_ok-extend_from_slice.ensures.items)
    (Contains-append_right c.args.found.now.items c.filed.result.now p (c.filed.ensures p h))
