use Rattle.css_winner.proofs.LawLemmas.{one_winner}
use Rattle.css_winner.proofs.laws.one_wins.Goals as goal

pub returns : goal.returns
returns c = one_winner
