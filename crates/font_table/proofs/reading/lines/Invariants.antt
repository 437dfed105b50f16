use Rattle.std.proofs.Common.{◌≡◌, ◌≤◌, ◌-◌, [], take, drop}
use Rattle.font_table.specs.Reading.{nothing_yet, read_from}
use Rattle.font_table.proofs.reading.lines.Given as goal

abbrev pub invariant-loop-i : goal.invariant-loop-i
invariant-loop-i l = record {
  begun : l.start ≤ l.i;
  so_far : read_from l.start (take (l.i - l.start) (drop l.start l.text)) l.building (drop l.i l.text)
      ≡ read_from 0 [] nothing_yet l.text;
}
