use Rattle.css_values.proofs.KnownPlaces.{places_known}
use Rattle.css_values.proofs.target.places_are_known.Goals as goal

pub returns : goal.returns
returns c = places_known
