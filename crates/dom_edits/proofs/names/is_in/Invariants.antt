use Rattle.std.proofs.Common.{◌≡◌, drop}
use Rattle.std.specs.Prelude.{map}
use Rattle.html_grammar.specs.Names.{is_in}
use Rattle.dom_edits.proofs.names.is_in.Given as goal

abbrev pub invariant-loop-other : goal.invariant-loop-other
invariant-loop-other l = is_in l.name (map (λ n. n.now) (drop l.other-index l.names)) ≡ is_in l.name (map (λ n. n.now) l.names)
