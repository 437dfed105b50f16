use Rattle.std.proofs.Common.{◌≡◌, ◌+◌, length, drop}
use Rattle.std.specs.Prelude.{take_while}
use Rattle.mc_base.specs.SoundText.{is_nonzero}
use Rattle.mc_base.proofs.sound_text.nonzero_len.Given as goal

abbrev pub invariant-loop-byte : goal.invariant-loop-byte
invariant-loop-byte l = record {
  told : l.count + length (take_while is_nonzero (drop l.byte-index l.text)) ≡ length (take_while is_nonzero l.text);
  all : l.count ≡ l.byte-index;
}
