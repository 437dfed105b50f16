use Rattle.std.proofs.Common.{◌≡◌, ◌++◌, false, length}
use Rattle.inline_text.proofs.PlaceLemmas.{opportunities_after}
use Rattle.inline_text.proofs.places.opportunities.Given as goal

abbrev pub invariant-loop-piece : goal.invariant-loop-piece
invariant-loop-piece l =
    l.found.items ++ opportunities_after l.styles l.wraps l.letter l.rest ≡ opportunities_after l.styles false false
    l.fn.runs.pieces

abbrev pub decreases-loop-piece : goal.decreases-loop-piece
decreases-loop-piece l = length l.rest
