use Rattle.std.proofs.Common.{◌≡◌, take}
use Rattle.std.specs.Prelude.{slice_get}
use Rattle.kept_lines.specs.Narrowed.{IsNarrowed}
use Rattle.kept_lines.proofs.run.add_pieces.Given as goal

abbrev pub invariant-loop-piece : goal.invariant-loop-piece
invariant-loop-piece l = IsNarrowed l.styles l.narrow (take l.piece-index l.pieces)
    × (slice_get l.narrow.runs.styles 0 ≡ slice_get l.initial.narrow.runs.styles 0)
