-- what stands there, and the numbers to come
use Rattle.std.proofs.Common.{◌≡◌, ◌++◌, drop}
use Rattle.tree_lines.specs.Words.{spaced_numbers}
use Rattle.tree_lines.proofs.text.put_numbers.Given as goal

abbrev pub invariant-loop-number : goal.invariant-loop-number
invariant-loop-number l = l.out ++ spaced_numbers (drop l.number-index l.numbers) ≡ l.initial.out ++ spaced_numbers l.numbers
