use Rattle.std.proofs.Common.{◌≡◌, take, drop}
use Rattle.font_table.specs.Forms.{word_at}
use Rattle.font_table.proofs.Words.{with_front}
use Rattle.font_table.proofs.line.word.Given as goal

abbrev pub invariant-loop-i : goal.invariant-loop-i
invariant-loop-i l = with_front (take l.i l.bytes) (word_at (drop l.i l.bytes)) ≡ word_at l.bytes
