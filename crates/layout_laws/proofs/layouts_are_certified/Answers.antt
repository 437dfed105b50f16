-- By the laws of entering and of made certificates.
use Rattle.layout_laws.proofs.Rows.{certified}
use Rattle.layout_laws.proofs.layouts_are_certified.Goals as goal

pub returns : goal.returns
returns c = λ d pool book rows. certified d pool (c.uses_enter.ensures d) book rows
    (c.made_certificates_are_the_layouts.ensures d book rows)
