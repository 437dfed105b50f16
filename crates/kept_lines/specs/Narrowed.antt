-- A run with just the styles that its pieces name, one after the other.
use Rattle.std.specs.Prelude.{◌≡◌, ℕ, ◌+◌, ◌-◌, ◌<◌, ◌≤◌, List, ◌++◌, length, map, slice_get}
use Rattle.std.specs.List.{AllByRecursion}
use Rattle.inline_text.specs.declared.content.Piece.{Piece}
use Rattle.inline_text.specs.declared.content.Piece.TheVariants.{Char, Image, Forced, Chance}
use Rattle.inline_text.specs.declared.content.RunStyle.{RunStyle}
use Rattle.inline_text.specs.WhiteSpace.{HasStyle}
use Rattle.kept_lines.specs.declared.run.Narrow.{Narrow}
use Rattle.kept_lines.specs.Same.{styled}

abbrev pub style_number : Piece → ℕ → ℕ
style_number (Char ch style) last = style
style_number (Image w h style) last = style
style_number Forced last = last
style_number Chance last = last

abbrev pub with_number : ℕ → Piece → Piece
with_number number (Char ch style) = Char ch number
with_number number (Image w h style) = Image w h number
with_number number Forced = Forced
with_number number Chance = Chance

-- one list begins with another, and has at most one item more
pub record HasMore (before after : List RunStyle) : Type 0 where
  pub more : List RunStyle
  pub is : after ≡ before ++ more
  pub few : length more ≤ 1

-- the last of these styles is that of this number
pub record EndsWith (styles : List RunStyle) (among : List RunStyle) (last : ℕ) : Type 0 where
  pub some : 0 < length among
  pub is : slice_get among (length among - 1) ≡ slice_get styles last

-- These pieces with these styles were taken over, each with its style among those that are named.
pub record IsNarrowed (styles : List RunStyle) (narrow : Narrow) (pieces : List Piece) : Type 0 where
  pub ends : EndsWith styles narrow.runs.styles narrow.last
  pub known : narrow.last < length styles
  pub few : length narrow.runs.styles ≤ length pieces + 1
  pub named : AllByRecursion (HasStyle narrow.runs.styles) narrow.runs.pieces
  pub same : map (styled narrow.runs.styles) narrow.runs.pieces ≡ map (styled styles) pieces
