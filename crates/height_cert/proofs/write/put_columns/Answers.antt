use Rattle.std.proofs.Common.{◌∙◌, ap, drop}
use Rattle.std.proofs.lemmas.List.{drop-drop}
use Rattle.height_cert.specs.declared.cert.Cites.{Cites}
use Rattle.std.proofs.Common.{List}
use Rattle.height_cert.proofs.Texts.{column-step}
use Rattle.height_cert.proofs.write.put_columns.Goals as goal

pub loop-line-preserved : goal.loop-line-preserved
loop-line-preserved c = record {
  text = rw (c.after-rest.ensures) (column-step c.loop-line.out _ _ c.loop-line.rest.now c.args.lines.now c.loop-line.line-index
      c.line-item.result c.loop-line-test.true c.line-item.is (rw c.first_sizes.ensures at c.in_ok-put_column.ensures)
      c.loop-line.invariant.text);
  rest = c.after-rest.ensures ∙ ap (λ (cs : List Cites). drop 1 cs) c.loop-line.invariant.rest
      ∙ drop-drop 1 c.loop-line.line-index c.args.cites.now;
}
