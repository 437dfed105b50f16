use Rattle.std.proofs.Common.{◌≡◌, ◌≤◌, drop}
use Rattle.font_table.specs.Forms.{digits_from, base}
use Rattle.font_table.proofs.line.number.Given as goal

abbrev pub invariant-loop-byte : goal.invariant-loop-byte
invariant-loop-byte l = record {
  same_base : l.base ≡ base l.hex;
  small : l.value ≤ l.most;
  so_far : digits_from l.hex l.most l.value (drop l.byte-index l.digits) ≡ digits_from l.hex l.most 0 l.digits;
}
