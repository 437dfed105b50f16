-- Inline content with the used sizes of its images, in order.
use Rattle.std.specs.Prelude.{ℕ, List, [], ◌∷◌, drop, Option, Some, None}
use Rattle.inline_text.specs.declared.content.Piece.{Piece}
use Rattle.inline_text.specs.declared.content.Piece.TheVariants.{Char, Image, Forced, Chance}
use Rattle.inline_text.specs.declared.content.Runs.{Runs}
use Rattle.box_data.specs.declared.placed.ImageSize.{ImageSize}
use Rattle.box_data.specs.Widths.{first_size}

abbrev pub resized : Piece → ImageSize → Piece
resized (Char ch style) size = Char ch style
resized (Image w h style) size = Image size.w size.h style
resized Forced size = Forced
resized Chance size = Chance

abbrev pub taken : Piece → ℕ
taken (Char ch style) = 0
taken (Image w h style) = 1
taken Forced = 0
taken Chance = 0

-- images after the last of these sizes have none
abbrev pub with_sizes : List ImageSize → List Piece → List Piece
with_sizes sizes [] = []
with_sizes sizes (piece ∷ pieces) = resized piece (first_size sizes) ∷ with_sizes (drop (taken piece) sizes) pieces

abbrev pub pieces_of : Option Runs → List Piece
pieces_of None = []
pieces_of (Some runs) = runs.pieces
