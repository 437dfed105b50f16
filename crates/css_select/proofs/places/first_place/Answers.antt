use Rattle.std.proofs.Common.{sym}
use Rattle.css_select.proofs.PlaceLemmas.{none_up_to_parent}
use Rattle.css_select.proofs.places.first_place.Goals as goal

pub returns-in-Some-clause-count : goal.returns-in-Some-clause-count
returns-in-Some-clause-count c = none_up_to_parent c.args.dom.now c.args.node c.in-Some.parent c.requires.parents
    (sym c.in-Some.ensures)
