use Rattle.column_laws.proofs.Following.{fills-follow}
use Rattle.column_laws.proofs.fills_follow.Goals as goal

pub returns : goal.returns
returns c = fills-follow
