use Rattle.std.proofs.Common.{◌≡◌, ◌-◌, ◌*◌, ◌≤◌, length, chars, None}
use Rattle.html_grammar.specs.Machine.{opening_state}
use Rattle.html_grammar.specs.Places.{places_of}
use Rattle.html_grammar.specs.Whole.{read_from}
use Rattle.html_subset.specs.Building.{state_of}
use Rattle.html_subset.proofs.reading.read_tokens.Given as goal

abbrev pub invariant-loop : goal.invariant-loop
invariant-loop l = record {
  told : read_from (l.size - l.counter) l.size l.seen (state_of l.builder) l.rest ≡ read_from (length l.text) (length l.text) None
      opening_state (places_of (chars l.text));
  few : length l.builder.nodes.items ≤ 6 * l.counter;
}
