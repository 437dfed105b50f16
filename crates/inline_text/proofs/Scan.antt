-- The collapsed run piece by piece, by whether content stands before each piece.
use Rattle.std.proofs.Common.{◌≡◌, Bool, ◌&&◌, List, [], ◌∷◌, ◌++◌, refl, ap}
use Rattle.inline_text.specs.declared.content.Piece.{Piece}
use Rattle.inline_text.specs.declared.content.RunStyle.{RunStyle}
use Rattle.inline_text.specs.WhiteSpace.{piece_becomes, kind_of, content_or, follows_content, precedes_content, becomes}
use Rattle.inline_text.specs.WhiteSpace.{collapsed_behind}

-- what these pieces become, where content stands before them or not
abbrev pub collapsed_at : List RunStyle → (follows : Bool) → List Piece → List Piece
collapsed_at styles follows [] = []
collapsed_at styles follows (piece ∷ after) =
    piece_becomes styles piece (follows && precedes_content styles after) ++ collapsed_at styles
    (content_or (kind_of styles piece) follows) after

pub collapsed_behind_at : (styles : List RunStyle) (before pieces : List Piece)
    → collapsed_behind styles before pieces ≡ collapsed_at styles (follows_content styles before) pieces
collapsed_behind_at styles before [] = refl
collapsed_behind_at styles before (piece ∷ after) =
    ap (λ rest. becomes styles before piece after ++ rest) (collapsed_behind_at styles (piece ∷ before) after)
