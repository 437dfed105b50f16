use Rattle.css_cascade.proofs.OneStyling.{one_styling}
use Rattle.css_cascade.proofs.laws.styles_are_one.Goals as goal

pub returns : goal.returns
returns c = one_styling
