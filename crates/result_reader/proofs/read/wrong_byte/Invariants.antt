use Rattle.std.proofs.Common.{◌≡◌, drop}
use Rattle.result_laws.specs.Reading.{wrong_byte}
use Rattle.result_reader.proofs.read.wrong_byte.Given as goal

abbrev pub invariant-loop-i : goal.invariant-loop-i
invariant-loop-i l = wrong_byte l.i (drop l.i l.text) ≡ wrong_byte 0 l.text
