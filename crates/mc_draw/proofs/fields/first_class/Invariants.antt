-- none of those before is there
use Rattle.std.proofs.Common.{◌≡◌, drop}
use Rattle.mc_draw.specs.Fields.{first_class}
use Rattle.mc_draw.proofs.fields.first_class.Given as goal

abbrev pub invariant-loop-class : goal.invariant-loop-class
invariant-loop-class l = first_class (drop l.class-index l.classes) l.bytes ≡ first_class l.classes l.bytes
