use Rattle.std.proofs.Common.{◌≡◌, ◌++◌}
use Rattle.doc_flows.proofs.sheets.joined.Given as goal

abbrev pub invariant-loop-sheet : goal.invariant-loop-sheet
invariant-loop-sheet l = l.all ≡ l.fn.sheets ++ l.yielded
