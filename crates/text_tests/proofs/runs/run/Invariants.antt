use Rattle.std.proofs.Common.{◌≡◌, ◌<◌, List, length}
use Rattle.std.specs.List.{All}
use Rattle.font_table.specs.declared.fonts.Face.{Face}
use Rattle.inline_text.specs.WhiteSpace.{HasStyle}
use Rattle.line_breaker.specs.Lines.{IsMeasurable, IsStyle}
use Rattle.text_tests.proofs.runs.run.Given as goal

abbrev pub invariant-loop-ch : goal.invariant-loop-ch
invariant-loop-ch l = record {
  style : l.style_now < 4;
  count : length l.styles.items ≡ 4;
  styles : (faces : List Face) → l.face < length faces → All (IsStyle faces) l.styles.items;
  named : All (HasStyle l.styles.items) l.pieces.items;
  measurable : All IsMeasurable l.pieces.items;
}
