-- Boxes with their lines, box by box.
use Rattle.std.specs.Prelude.{◌≡◌, ◌<◌, ◌≤◌, ◌^◌, List, [], length, Option, Some, None}
use Rattle.std.specs.List.{All}
use Rattle.font_table.specs.declared.fonts.Face.{Face}
use Rattle.inline_text.specs.declared.content.Runs.{Runs}
use Rattle.inline_text.specs.declared.content.RunStyle.{RunStyle}
use Rattle.inline_text.specs.WhiteSpace.{HasStyle}
use Rattle.line_breaker.specs.declared.line.Line.{Line}
use Rattle.line_breaker.specs.Lines.{AreLines}
use Rattle.box_data.specs.declared.placed.ImageSize.{ImageSize}
use Rattle.box_data.specs.declared.placed.Placed.{Placed}
use Rattle.box_data.specs.declared.tree.BoxNode.{BoxNode}
use Rattle.box_data.specs.declared.tree.BoxKind.TheVariants.{Block, Anonymous, Container, ImageBlock}
use Rattle.box_lines.specs.Sizes.{with_sizes, pieces_of}

-- each style that a box and its pieces name is there, and the pieces are few
pub record IsNamed (texts : List RunStyle) (node : BoxNode) : Type 0 where
  pub element : node.element < length texts
  pub pieces : All (HasStyle texts) (pieces_of node.runs)
  pub few : length (pieces_of node.runs) < 2 ^ 32

pub record IsSmall (size : ImageSize) : Type 0 where
  pub w : size.w ≤ 2 ^ 24
  pub h : size.h ≤ 2 ^ 24

-- the inline content of a box with the used sizes of its images
abbrev pub used_runs : List RunStyle → BoxNode → Placed → Runs
used_runs texts node p = record { pieces = with_sizes p.images (pieces_of node.runs); styles = texts }

-- these are the lines of a box
abbrev pub AreLinesIn : List Face → List RunStyle → BoxNode → Placed → List Line → Type 0
AreLinesIn faces texts node p lines = elim (node.kind) as (λ k. Type 0) [
  | Block ↦ AreLines (used_runs texts node p) faces p.columns.w node.element 0 lines
  | Anonymous ↦ AreLines (used_runs texts node p) faces p.columns.w node.element 0 lines
  | Container ↦ AreLines (used_runs texts node p) faces p.columns.w node.element 0 lines
  | ImageBlock ↦ lines ≡ []
]

abbrev pub AreThin : List Line → Type 0
AreThin lines = All (λ (line : Line). line.w < 2 ^ 60) lines

abbrev pub AreFew : List Line → Type 0
AreFew lines = length lines < 2 ^ 32

-- a box with its lines
pub record HasLines (faces : List Face) (texts : List RunStyle) (node : BoxNode) (old new : Placed) : Type 0 where
  pub same : new ≡ record old { lines = new.lines }
  pub lines : AreLinesIn faces texts node old new.lines
  pub widths : AreThin new.lines
  pub few : AreFew new.lines

abbrev pub IsMade : List Face → List RunStyle → Option BoxNode → Placed → Placed → Type 0
IsMade faces texts None old new = Unit {0}
IsMade faces texts (Some node) old new = HasLines faces texts node old new
