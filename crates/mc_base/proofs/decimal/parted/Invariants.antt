use Rattle.std.proofs.Common.{◌≡◌, take, drop, ◌++◌}
use Rattle.mc_base.specs.DecimalReading.{parts_at}
use Rattle.mc_base.proofs.decimal.parted.Given as goal

abbrev pub invariant-loop-i : goal.invariant-loop-i
invariant-loop-i l = parts_at l.digits ≡ (take l.i l.digits ++ (parts_at (drop l.i l.digits)).0, (parts_at (drop l.i l.digits)).1)
