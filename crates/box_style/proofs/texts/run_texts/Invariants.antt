use Rattle.std.proofs.Common.{◌≡◌, map, take}
use Rattle.std.specs.Prelude.{All}
use Rattle.line_breaker.specs.Lines.{IsStyle}
use Rattle.box_style.specs.Texts.{entry_text}
use Rattle.box_style.proofs.texts.run_texts.Given as goal

abbrev pub invariant-loop-entry : goal.invariant-loop-entry
invariant-loop-entry l = (l.all ≡ map (entry_text l.fonts) (take l.entry-index l.entries)) × All (IsStyle l.fonts) l.all
