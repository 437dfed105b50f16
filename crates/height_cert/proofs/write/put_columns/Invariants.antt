-- what stands there, and the lines to come; and the lists to come
use Rattle.std.proofs.Common.{◌≡◌, ◌++◌, drop, map}
use Rattle.height_cert.specs.Certs.{cited}
use Rattle.result_laws.specs.Given.{cited_text, ended_lines}
use Rattle.height_cert.proofs.write.put_columns.Given as goal

abbrev pub invariant-loop-line : goal.invariant-loop-line
invariant-loop-line l = record {
  text : l.out ++ ended_lines (map cited_text (cited l.rest (drop l.line-index l.lines)))
      ≡ l.initial.out ++ ended_lines (map cited_text (cited l.initial.rest l.lines));
  rest : l.rest ≡ drop l.line-index l.initial.rest;
}
