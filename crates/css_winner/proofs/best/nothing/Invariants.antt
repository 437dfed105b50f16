use Rattle.std.proofs.Common.{◌≡◌, None, replicate}
use Rattle.css_winner.proofs.best.nothing.Given as goal

abbrev pub invariant-loop-place : goal.invariant-loop-place
invariant-loop-place l = l.best.items ≡ replicate l._place None
