use Rattle.std.proofs.Common.{◌≡◌, drop}
use Rattle.inline_text.specs.WhiteSpace.{precedes_content}
use Rattle.inline_text.proofs.collapsing.is_before_content.Given as goal

abbrev pub invariant-loop-piece : goal.invariant-loop-piece
invariant-loop-piece l = precedes_content l.styles (drop l.piece-index l.after) ≡ precedes_content l.styles l.after
