use Rattle.std.proofs.Common.{◌≡◌, ◌≤◌, ◌++◌}
use Rattle.doc_gen.specs.Document.{words, word_state}
use Rattle.doc_gen.proofs.page.Page.words.Given as goal

abbrev pub invariant-loop : goal.invariant-loop
invariant-loop l = record {
  some : 1 ≤ l.counter;
  text : l.self.text ≡ l.fn.self.text ++ words l.counter l.fn.self.state;
  state : l.self.state ≡ word_state l.counter l.fn.self.state;
}
