use Rattle.std.proofs.Common.{◌≡◌, ◌<◌, List, length}
use Rattle.std.specs.List.{All}
use Rattle.font_table.specs.declared.fonts.Face.{Face}
use Rattle.line_breaker.specs.Lines.{IsStyle}
use Rattle.kept_lines.proofs.tests.styles_of.Given as goal

abbrev pub invariant-loop : goal.invariant-loop
invariant-loop l = record {
  count : length l.styles.items ≡ l.counter;
  each : (faces : List Face) → l.face < length faces → All (IsStyle faces) l.styles.items;
}
