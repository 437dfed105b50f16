-- what is left to read, with the lines so far; that all is in order; and where the next line begins
use Rattle.std.proofs.Common.{◌≡◌, ◌+◌, ◌-◌, ◌≤◌, [], length}
use Rattle.result_laws.specs.Reading.{read_entries, no_range}
use Rattle.result_reader.specs.Built.{IsBuilt, lines_taken, place_of, taken}
use Rattle.result_reader.specs.Read.{cuts_from}
use Rattle.result_reader.proofs.read.entries.Given as goal

abbrev pub invariant-loop-at : goal.invariant-loop-at
invariant-loop-at l = record {
  read : read_entries l.cites (length l.text) l.tree (place_of l.building) (lines_taken l.building) (cuts_from l.text l.at)
      ≡ read_entries l.cites (length l.text) l.tree no_range [] (cuts_from l.text l.initial.at);
  built : IsBuilt l.cites (3 + length l.tree) l.building;
  number : l.number ≡ 3 + length l.tree + length (taken l.building);
  bound : l.at ≤ length l.text + 1;
  few : length l.tree + length (taken l.building) ≤ l.at;
}

abbrev pub decreases-loop-at : goal.decreases-loop-at
decreases-loop-at l = length l.text - l.at
