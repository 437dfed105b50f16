use Rattle.std.proofs.Common.{◌≡◌, ◌∙◌, sym, subst}
use Rattle.kept_lines.specs.Keeping.{AreItsLines}
use Rattle.kept_lines.proofs.SameLines.{its_lines}
use Rattle.kept_lines.proofs.keeping.lines_of.Goals as goal

pub returns : goal.returns
returns c = λ faces is.
    let e : c.in_ok-lines.lines ≡ c.args.kept.now.lines = c.in_ok-lines.ensures ∙ c.as_slice.ensures in
    subst (AreItsLines c.args.runs.now faces c.args.width c.args.strut) (sym e)
    (its_lines c.args.kept.now.runs c.args.runs.now 0 c.args.strut (c.say_same.ensures c.if-not-say_same.false) faces c.args.width
    c.args.kept.now.lines
    (subst (λ w. AreItsLines c.args.kept.now.runs faces w 0 c.args.kept.now.lines) c.if-kept-width.false is))
