use Rattle.std.proofs.Common.{sym, subst}
use Rattle.kept_lines.specs.Keeping.{AreItsLines}
use Rattle.kept_lines.proofs.keeping.KeptLines.made_at.Goals as goal

pub returns-in_err-lines-clause-kept : goal.returns-in_err-lines-clause-kept
returns-in_err-lines-clause-kept c = c.break_anew.ensures.kept c.args.fonts.now c.requires.kept

pub returns-in_err-keep_at-clause-kept : goal.returns-in_err-keep_at-clause-kept
returns-in_err-keep_at-clause-kept c =
    c.keep_at.ensures.kept c.args.fonts.now (c.break_anew.ensures.kept c.args.fonts.now c.requires.kept)
    (subst (AreItsLines c.args.runs.now c.args.fonts.now c.args.width c.args.strut) (sym c.as_slice.ensures)
    c.in_ok-lines.ensures.lines)

pub returns-clause-kept : goal.returns-clause-kept
returns-clause-kept c =
    c.keep_at.ensures.kept c.args.fonts.now (c.break_anew.ensures.kept c.args.fonts.now c.requires.kept)
    (subst (AreItsLines c.args.runs.now c.args.fonts.now c.args.width c.args.strut) (sym c.as_slice.ensures)
    c.in_ok-lines.ensures.lines)
