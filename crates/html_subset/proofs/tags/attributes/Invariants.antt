use Rattle.std.proofs.Common.{◌≡◌, ◌-◌}
use Rattle.html_grammar.specs.Lexing.{attributes_from, no_attributes}
use Rattle.html_subset.proofs.tags.attributes.Given as goal

abbrev pub invariant-loop : goal.invariant-loop
invariant-loop l = attributes_from (l.size - l.counter) l.size l.tag l.read l.rest
    ≡ attributes_from l.size l.size l.tag no_attributes l.fn.rest
