-- What is taken for granted of boxes and of a content: boxes whose lengths and counts stay far below what a number holds, and a
-- content
-- that is cut at its spanners.
use Rattle.std.specs.Prelude.{◌^◌, ◌<◌, ◌≤◌, length}
use Rattle.box_data.specs.declared.placed.Placed.{Placed}
use Rattle.box_data.specs.Content.{Content, done, opens, closes, leaf, holds, spanner}

pub record IsSmall (p : Placed) : Type 0 where
  pub content_x : p.content_x < 2 ^ 60
  pub line_w : p.columns.w < 2 ^ 60
  pub columns : p.columns.n < 2 ^ 32
  pub lines : length p.lines ≤ 2 ^ 31

abbrev pub HasNoSpanner : Content → Type 0
HasNoSpanner done = Unit {0}
HasNoSpanner (opens p next) = HasNoSpanner next
HasNoSpanner (closes p next) = HasNoSpanner next
HasNoSpanner (leaf l next) = HasNoSpanner next
HasNoSpanner (holds h inside next) = HasNoSpanner inside × HasNoSpanner next
HasNoSpanner (spanner inside next) = ⊥
