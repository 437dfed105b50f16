use Rattle.std.proofs.Common.{◌≡◌, ◌++◌}
use Rattle.doc_gen.specs.Document.{document_head, parts, part_state}
use Rattle.doc_gen.proofs.generated.generate.Given as goal

abbrev pub invariant-loop-index : goal.invariant-loop-index
invariant-loop-index l = record {
  text : l.page.text ≡ document_head ++ parts l.index l.start;
  state : l.page.state ≡ part_state l.index l.start;
}
