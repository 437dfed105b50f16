use Rattle.std.proofs.Common.{◌≡◌, ◌++◌}
use Rattle.doc_gen.specs.Document.{letters, state_after}
use Rattle.doc_gen.proofs.page.Page.letters.Given as goal

abbrev pub invariant-loop : goal.invariant-loop
invariant-loop l = record {
  text : l.self.text ≡ l.initial.self.text ++ letters l.counter l.initial.self.state;
  state : l.self.state ≡ state_after l.counter l.initial.self.state;
}
