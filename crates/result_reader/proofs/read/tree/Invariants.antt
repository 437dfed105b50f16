-- what is left to read, with the lines so far; and where the next line begins
use Rattle.std.proofs.Common.{◌≡◌, ◌+◌, ◌-◌, ◌≤◌, Bool, [], length}
use Rattle.result_laws.specs.Reading.{read_tree}
use Rattle.result_reader.specs.Read.{cuts_from}
use Rattle.result_reader.proofs.read.tree.Given as goal

abbrev pub invariant-loop-at : goal.invariant-loop-at
invariant-loop-at l = record {
  read : (cites : Bool) → read_tree cites (length l.text) l.lines (cuts_from l.text l.at)
      ≡ read_tree cites (length l.text) [] (cuts_from l.text l.initial.at);
  bound : l.at ≤ length l.text + 1;
  few : length l.lines + l.initial.at ≤ l.at;
}

abbrev pub decreases-loop-at : goal.decreases-loop-at
decreases-loop-at l = length l.text - l.at
