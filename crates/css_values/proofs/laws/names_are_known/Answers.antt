use Rattle.css_values.proofs.KnownNames.{property_is_known, shorthand_is_known, barred_is_known}
use Rattle.css_values.proofs.laws.names_are_known.Goals as goal

pub returns : goal.returns
returns c = record { own = property_is_known; short = shorthand_is_known; bars = barred_is_known }
