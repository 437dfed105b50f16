use Rattle.std.proofs.Common.{sym, subst}
use Rattle.css_select.specs.Attributes.{IsWordOf}
use Rattle.css_winner.proofs.keys.add_class.Goals as goal

pub returns-clause-added : goal.returns-clause-added
returns-clause-added c = λ word p same is filed. c.in_ok-add_classes.ensures.added word p
    (subst (IsWordOf word) (sym c.as_slice-value.ensures) is) filed
