-- Runs that say the same: piece by piece the same characters and images in the same styles, whatever numbers the styles have.
use Rattle.std.specs.Prelude.{◌≡◌, ℕ, List, Option, slice_get, map}
use Rattle.inline_text.specs.declared.content.Piece.{Piece}
use Rattle.inline_text.specs.declared.content.Piece.TheVariants as pieces
use Rattle.inline_text.specs.declared.content.RunStyle.{RunStyle}
use Rattle.inline_text.specs.declared.content.Runs.{Runs}

-- a piece with its style itself
pub data Styled : Type 0 where
  Char : ℕ → Option RunStyle → Styled
  Image : ℕ → ℕ → Option RunStyle → Styled
  Forced : Styled
  Chance : Styled

abbrev pub styled : List RunStyle → Piece → Styled
styled styles (pieces.Char ch style) = Char ch (slice_get styles style)
styled styles (pieces.Image w h style) = Image w h (slice_get styles style)
styled styles pieces.Forced = Forced
styled styles pieces.Chance = Chance

-- two runs say the same, and so do the styles of their block containers, which have these numbers
pub record SaySame (a : Runs) (strut : ℕ) (b : Runs) (other : ℕ) : Type 0 where
  pub pieces : map (styled a.styles) a.pieces ≡ map (styled b.styles) b.pieces
  pub own : slice_get a.styles strut ≡ slice_get b.styles other
