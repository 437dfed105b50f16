use Rattle.std.proofs.Common.{sym, [], None}
use Rattle.column_walk.specs.Endings.{place_opt, step_of}
use Rattle.column_walk.proofs.Filled.{if-ok}
use Rattle.column_walk.proofs.Stopped.{not-cut, row-stopped}
use Rattle.column_walk.proofs.deciding.stop_at_row.Goals as goal

pub row_short-short-requires-clause-cut : goal.row_short-short-requires-clause-cut
row_short-short-requires-clause-cut c =
    sym (not-cut (place_opt c.args.best) (step_of c.args.here None []) c.args.height c.requires.unfilled)

pub returns : goal.returns
returns c =
    if-ok c.decided.result _ _ (λ out told. λ made r tail. row-stopped c.args.here c.args.height c.args.best c.requires.before
    c.seam_or_whole-spot.result c.seam_or_whole-spot.ensures.place c.seam_or_whole-spot.ensures.level out
    c.row_short-short.result made r tail c.requires.unfilled (c.row_short-short.ensures made (λ e. absurd (cc))) told)
    c.decided.ensures
