use Rattle.std.proofs.Common.{◌≡◌, ◌+◌, ◌≤◌, drop}
use Rattle.std.specs.Prelude.{if◌then◌else◌, ◌==◌}
use Rattle.css_syntax.specs.Blocks.{trimmed_len}
use Rattle.css_syntax.proofs.blocks.trimmed_len.Given as goal

abbrev pub invariant-loop-i : goal.invariant-loop-i
invariant-loop-i l = record {
  so_far : (if trimmed_len (drop l.i l.lexemes) == 0 then l.len else (l.i + trimmed_len (drop l.i l.lexemes)))
      ≡ trimmed_len l.lexemes;
  few : l.len ≤ l.i;
}
