use Rattle.std.proofs.Common.{◌≡◌, drop}
use Rattle.std.specs.Prelude.{map}
use Rattle.html_grammar.specs.References.{named_in}
use Rattle.html_subset.proofs.references.value_in.Given as goal

abbrev pub invariant-loop-other : goal.invariant-loop-other
invariant-loop-other l = named_in l.name (map (λ e. (e.0.now, e.1)) (drop l.other-index l.table))
    ≡ named_in l.name (map (λ e. (e.0.now, e.1)) l.table)
