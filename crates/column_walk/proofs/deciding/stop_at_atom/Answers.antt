use Rattle.column_walk.proofs.Filled.{if-ok}
use Rattle.column_walk.proofs.Stopped.{atom-stopped}
use Rattle.column_walk.proofs.deciding.stop_at_atom.Goals as goal

pub returns : goal.returns
returns c =
    if-ok c.decided.result _ _ (λ out told. atom-stopped c.args.here c.args.height c.args.best c.requires.before
    c.seam_or_whole-spot.result c.seam_or_whole-spot.ensures.place c.seam_or_whole-spot.ensures.level out told)
    c.decided.ensures
