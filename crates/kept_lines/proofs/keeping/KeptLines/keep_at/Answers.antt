use Rattle.std.proofs.Common.{sym, subst}
use Rattle.kept_lines.specs.Keeping.{AreItsLines}
use Rattle.kept_lines.proofs.SameLines.{its_lines, say_again}
use Rattle.kept_lines.proofs.keeping.KeptLines.keep_at.Goals as goal

pub returns-clause-kept : goal.returns-clause-kept
returns-clause-kept c = λ faces all is.
    let narrow = c.in_ok-narrow_run.field-0 in
    record {
      last = all.last;
      used = c.keep.ensures faces all.used (subst (AreItsLines narrow faces c.args.width 0) (sym c.in_ok-copy_of.ensures)
          (its_lines c.args.runs.now narrow c.args.strut 0 (say_again narrow c.args.runs.now 0 c.args.strut
          c.in_ok-narrow_run.ensures) faces c.args.width c.args.lines.now is));
    }
