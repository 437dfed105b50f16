use Rattle.piece_laws.proofs.Chosen.{column-chosen}
use Rattle.piece_laws.proofs.columns_are_chosen.Goals as goal

pub returns : goal.returns
returns c = column-chosen
