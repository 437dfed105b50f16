use Rattle.std.proofs.Common.{◌≡◌, ◌-◌, drop}
use Rattle.html_subset.proofs.characters.past.Given as goal

abbrev pub invariant-loop : goal.invariant-loop
invariant-loop l = drop (l.count - l.counter) l.ahead ≡ drop l.count l.cursor
