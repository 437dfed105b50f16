use Rattle.std.proofs.Common.{◌≡◌, drop}
use Rattle.font_table.specs.Choice.{is_named}
use Rattle.font_table.proofs.choice.is_named.Given as goal

abbrev pub invariant-loop-byte : goal.invariant-loop-byte
invariant-loop-byte l = is_named (drop l.byte-index l.family) l.rest ≡ is_named l.family l.name
