-- what stands there, and the numbers to come
use Rattle.std.proofs.Common.{◌≡◌, ◌++◌, drop, map}
use Rattle.std.specs.Fmt.{decimal}
use Rattle.flow_list.specs.TreeText.{spaced}
use Rattle.height_cert.proofs.words.put_numbers.Given as goal

abbrev pub invariant-loop-number : goal.invariant-loop-number
invariant-loop-number l = l.out ++ spaced (map decimal (drop l.number-index l.numbers)) ≡ l.initial.out ++ spaced
    (map decimal l.numbers)
