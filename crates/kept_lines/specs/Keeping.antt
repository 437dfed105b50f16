-- What is kept of the lines of runs (this project's own).
use Rattle.std.specs.Prelude.{ℕ, ◌<◌, ◌≤◌, ◌^◌, List, length, nat_eq, IfSome}
use Rattle.std.specs.List.{All}
use Rattle.font_table.specs.declared.fonts.Face.{Face}
use Rattle.inline_text.specs.declared.content.Runs.{Runs}
use Rattle.inline_text.specs.WhiteSpace.{HasStyle}
use Rattle.indexmap.specs.IndexMap.{get}
use Rattle.line_breaker.specs.declared.line.Line.{Line}
use Rattle.line_breaker.specs.Lines.{AreLines}
use Rattle.kept_lines.specs.declared.run.KeptRun.{KeptRun}
use Rattle.kept_lines.specs.declared.store.Store.{Store}
use Rattle.kept_lines.specs.declared.keeping.KeptLines.{KeptLines}

-- these are the lines of a run, this wide and with these faces; there are no more than pieces, and their widths are bounded
pub record AreItsLines (runs : Runs) (faces : List Face) (width strut : ℕ) (lines : List Line) : Type 0 where
  pub cut : AreLines runs faces width strut 0 lines
  pub widths : All (λ (line : Line). line.w < 2 ^ 60) lines
  pub few : length lines ≤ length runs.pieces

-- What is kept are a run's lines with its width and these faces. The block container's style is the run's first.
abbrev pub IsTrueRun : List Face → KeptRun → Type 0
IsTrueRun faces kept = AreItsLines kept.runs faces kept.width 0 kept.lines

-- each that is kept is right for these faces
abbrev pub IsTrueStore : List Face → Store → Type 0
IsTrueStore faces store = (place : ℕ) → IfSome (get nat_eq store.runs place) (IsTrueRun faces)

-- All that is kept is right for these faces.
pub record AreTrue (faces : List Face) (kept : KeptLines) : Type 0 where
  pub last : IsTrueStore faces kept.last
  pub used : IsTrueStore faces kept.used

-- the styles that a run names are there, that of its block container too, and its pieces are few
pub record CanNarrow (runs : Runs) (strut : ℕ) : Type 0 where
  pub named : All (HasStyle runs.styles) runs.pieces
  pub few : length runs.pieces < 2 ^ 32
  pub strut_named : strut < length runs.styles
