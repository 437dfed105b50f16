use Rattle.std.proofs.Common.{◌≡◌}
use Rattle.doc_sheets.specs.Bytes.{byte_of}
use Rattle.doc_sheets.proofs.bytes.byte_of.Given as goal

abbrev pub invariant-loop-step : goal.invariant-loop-step
invariant-loop-step l = l.byte ≡ byte_of l.document l.begins l._step
