use Rattle.column_laws.proofs.Following.{columns-follow, folds-follow}
use Rattle.column_laws.proofs.columns_follow.Goals as goal

pub returns : goal.returns
returns c = record { columns = columns-follow; told = folds-follow }
