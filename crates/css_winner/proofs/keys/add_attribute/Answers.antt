use Rattle.std.proofs.Common.{inl, inr, subst}
use Rattle.css_winner.specs.Filing.{IsFiled}
use Rattle.css_winner.proofs.keys.add_attribute.Goals as goal

pub returns-clause-added : goal.returns-clause-added
returns-clause-added c = λ key p is filed. elim is [
  | inl id ↦ c.in_ok-add_class.ensures.kept p
      (c.in_ok-add_id.ensures.added p id.0 (subst (λ q. IsFiled c.args.filing.now q p) id.1 filed))
  | inr class ↦ c.in_ok-add_class.ensures.added class.1.0 p class.0 class.1.1
      (subst (λ q. IsFiled c.args.filing.now q p) class.1.2 filed)
]
