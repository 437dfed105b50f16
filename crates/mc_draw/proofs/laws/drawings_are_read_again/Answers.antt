use Rattle.mc_draw.proofs.AgainLemmas.{read_again}
use Rattle.mc_draw.proofs.laws.drawings_are_read_again.Goals as goal

pub returns : goal.returns
returns c = read_again
