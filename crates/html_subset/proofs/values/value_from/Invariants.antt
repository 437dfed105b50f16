use Rattle.std.proofs.Common.{◌≡◌, ◌-◌}
use Rattle.html_grammar.specs.Lexing.{value_from, empty_value}
use Rattle.html_subset.specs.Classes.{test_of}
use Rattle.html_subset.proofs.values.value_from.Given as goal

abbrev pub invariant-loop : goal.invariant-loop
invariant-loop l = value_from (l.size - l.counter) (test_of l.class) l.value l.rest
    ≡ value_from l.size (test_of l.class) empty_value l.fn.rest
