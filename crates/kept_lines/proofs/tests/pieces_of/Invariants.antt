use Rattle.std.proofs.Common.{◌<◌, List, length}
use Rattle.std.specs.List.{All}
use Rattle.inline_text.specs.declared.content.RunStyle.{RunStyle}
use Rattle.inline_text.specs.WhiteSpace.{HasStyle}
use Rattle.line_breaker.specs.Lines.{IsMeasurable}
use Rattle.kept_lines.proofs.tests.pieces_of.Given as goal

abbrev pub invariant-loop-ch : goal.invariant-loop-ch
invariant-loop-ch l = record {
  named : (styles : List RunStyle) → l.number < length styles → All (HasStyle styles) l.pieces.items;
  measurable : All IsMeasurable l.pieces.items;
}
