use Rattle.std.proofs.Common.{◌≡◌, ◌++◌, length, drop, map}
use Rattle.std.specs.Str.{chars}
use Rattle.inline_text.specs.declared.content.Piece.TheVariants as pieces
use Rattle.box_maker.proofs.inline.push_characters.Given as goal

abbrev pub invariant-loop-ch : goal.invariant-loop-ch
invariant-loop-ch l =
    l.pieces.items ++ map (λ ch. pieces.Char ch l.parent) (drop (length l.yielded) (chars l.text))
    ≡ l.fn.pieces.items ++ map (λ ch. pieces.Char ch l.parent) (chars l.text)
