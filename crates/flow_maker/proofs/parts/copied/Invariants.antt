use Rattle.std.specs.Prelude.{◌≡◌, take}
use Rattle.flow_maker.proofs.parts.copied.Given as goal

abbrev pub invariant-loop-number : goal.invariant-loop-number
invariant-loop-number l = l.list ≡ take l.number-index l.numbers
