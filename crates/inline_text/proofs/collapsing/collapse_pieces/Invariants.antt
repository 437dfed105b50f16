use Rattle.std.proofs.Common.{◌≡◌, ◌++◌, false, length}
use Rattle.inline_text.proofs.Scan.{collapsed_at}
use Rattle.inline_text.proofs.collapsing.collapse_pieces.Given as goal

abbrev pub invariant-loop-piece : goal.invariant-loop-piece
invariant-loop-piece l =
    l.found.items ++ collapsed_at l.styles l.follows l.rest ≡ collapsed_at l.styles false l.fn.pieces

abbrev pub decreases-loop-piece : goal.decreases-loop-piece
decreases-loop-piece l = length l.rest
