use Rattle.std.proofs.Common.{◌≡◌, take, drop}
use Rattle.edit_script.specs.Steps.{word_at}
use Rattle.edit_script.proofs.Words.{with_front}
use Rattle.edit_script.proofs.step.word.Given as goal

abbrev pub invariant-loop-i : goal.invariant-loop-i
invariant-loop-i l = with_front (take l.i l.bytes) (word_at (drop l.i l.bytes)) ≡ word_at l.bytes
