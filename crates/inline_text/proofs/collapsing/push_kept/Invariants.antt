use Rattle.std.proofs.Common.{◌≡◌, ◌++◌, replicate}
use Rattle.inline_text.specs.declared.content.Piece.TheVariants.{Char}
use Rattle.inline_text.proofs.collapsing.push_kept.Given as goal

abbrev pub invariant-loop : goal.invariant-loop
invariant-loop l = l.pieces.items ≡ l.initial.pieces.items ++ replicate l.counter (Char 32 l.style)
