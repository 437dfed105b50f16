use Rattle.std.proofs.Common.{◌≡◌, map, take}
use Rattle.css_cascade.specs.Won.{value_of}
use Rattle.css_cascade.proofs.won.values_of.Given as goal

abbrev pub invariant-loop-place : goal.invariant-loop-place
invariant-loop-place l = l.winning ≡ map value_of (take l.place l.found)
