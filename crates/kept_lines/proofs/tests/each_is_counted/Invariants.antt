use Rattle.kept_lines.specs.Keeping.{AreTrue}
use Rattle.kept_lines.proofs.tests.each_is_counted.Given as goal

abbrev pub invariant-loop-page : goal.invariant-loop-page
invariant-loop-page g l = AreTrue l.fonts l.kept
