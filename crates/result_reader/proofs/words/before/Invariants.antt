use Rattle.std.proofs.Common.{◌≡◌, ◌+◌, drop}
use Rattle.flow_text.specs.Text.{len_before}
use Rattle.result_reader.proofs.words.before.Given as goal

abbrev pub invariant-loop-i : goal.invariant-loop-i
invariant-loop-i l = l.i + len_before l.stop (drop l.i l.bytes) ≡ len_before l.stop l.bytes
