use Rattle.std.proofs.Common.{◌≡◌, drop}
use Rattle.flow_text.specs.Limits.{first_above}
use Rattle.flow_text.proofs.limit.first_above.Given as goal

abbrev pub invariant-loop-number : goal.invariant-loop-number
invariant-loop-number l = first_above l.limit (drop l.number-index l.numbers) ≡ first_above l.limit l.numbers
