use Rattle.std.proofs.Common.{◌≡◌, ℕ, ◌<◌, ◌≤◌, get_or, slice_get}
use Rattle.box_data.specs.declared.placed.Placed.{Placed}
use Rattle.box_lines.specs.Made.{IsMade}
use Rattle.box_lines.proofs.breaking.break_all.Given as goal

abbrev pub invariant-loop-number : goal.invariant-loop-number
invariant-loop-number g l = record {
  made : (k : ℕ) (d : Placed) → k < l.number
      → IsMade l.fonts l.fn.runs.styles (slice_get l.nodes k) (get_or l.fn.places k d) (get_or l.places k d);
  rest : (k : ℕ) (d : Placed) → l.number ≤ k → get_or l.places k d ≡ get_or l.fn.places k d;
  styles : l.runs.styles ≡ l.fn.runs.styles;
  kept : g.L.Liner.is_true l.liner l.fonts;
}
