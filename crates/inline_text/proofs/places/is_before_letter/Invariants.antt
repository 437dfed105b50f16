use Rattle.std.proofs.Common.{◌≡◌, drop}
use Rattle.inline_text.specs.Opportunities.{begins_with_letter}
use Rattle.inline_text.proofs.places.is_before_letter.Given as goal

abbrev pub invariant-loop-piece : goal.invariant-loop-piece
invariant-loop-piece l = begins_with_letter (drop l.piece-index l.after) ≡ begins_with_letter l.after
