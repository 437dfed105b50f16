use Rattle.css_winner.proofs.OrderLemmas.{above_follows, one_place}
use Rattle.css_winner.proofs.laws.precedences_are_ordered.Goals as goal

pub returns : goal.returns
returns c = record { transitive = above_follows; total = one_place }
