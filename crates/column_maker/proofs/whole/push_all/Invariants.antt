use Rattle.std.proofs.Common.{◌≡◌, ◌++◌, take}
use Rattle.column_maker.proofs.whole.push_all.Given as goal

abbrev pub invariant-loop-id : goal.invariant-loop-id
invariant-loop-id l = l.into ≡ l.initial.into ++ take l.id-index l.ids
