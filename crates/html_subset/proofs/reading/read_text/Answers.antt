use Rattle.std.proofs.Common.{Result, sym, subst}
use Rattle.mc_base.specs.declared.read_error.Fault.{Fault}
use Rattle.html_grammar.specs.Whole.{Reading}
use Rattle.html_subset.specs.Gives.{Gives}
use Rattle.html_subset.specs.Turn.{reading_of}
use Rattle.html_subset.proofs.ByteLemmas.{text_with_zero, text_without_zero}
use Rattle.html_subset.proofs.reading.read_text.Goals as goal

pub returns-then-zero-bytes : goal.returns-then-zero-bytes
returns-then-zero-bytes c = text_with_zero c.args.bytes.now c.nonzero_len-zero.result c.in-Ok.ensures.cases.1
    c.nonzero_len-zero.ensures c.if-zero-bytes.true

pub returns-else-zero-bytes : goal.returns-else-zero-bytes
returns-else-zero-bytes c =
    let same = c.in-Ok.ensures.cases.0 in
    let read = rw same at c.read_tokens.ensures in
    let e = text_without_zero c.args.bytes.now c.nonzero_len-zero.result c.in-Ok.ensures.cases.1 c.nonzero_len-zero.ensures
    c.if-zero-bytes.false in
    subst (λ (f : Result Reading Fault). Gives (λ r. reading_of r) c.read_tokens.result f) (sym e) read
