use Rattle.std.proofs.Common.{refl}
use Rattle.html_grammar.specs.Whole.{dom_of}
use Rattle.doc_flows.specs.Reading.{with_dom, read_of}
use Rattle.doc_flows.proofs.ReadTexts.{step, refused_step, answer_attributes, answer_constructs}
use Rattle.doc_flows.proofs.texts.read.Goals as goal

pub returns-in-Ok-clause-read : goal.returns-in-Ok-clause-read
unfolding read_of
returns-in-Ok-clause-read c =
    step (with_dom c.args.document.now c.args.sheet.now c.args.metrics.now) c.in-Ok.dom (dom_of c.args.document.now) c.with_own.result
    c.in-Ok.ensures.exact c.with_own.ensures.read

pub returns-in-Ok-clause-attributes : goal.returns-in-Ok-clause-attributes
returns-in-Ok-clause-attributes c =
    answer_attributes c.args.document.now c.args.sheet.now c.args.metrics.now c.with_own.result (returns-in-Ok-clause-read c)

pub returns-in-Ok-clause-constructs : goal.returns-in-Ok-clause-constructs
returns-in-Ok-clause-constructs c =
    answer_constructs c.args.document.now c.args.sheet.now c.args.metrics.now c.with_own.result (returns-in-Ok-clause-read c)

pub returns-in-Err-clause-read : goal.returns-in-Err-clause-read
unfolding read_of
returns-in-Err-clause-read c =
    refused_step (with_dom c.args.document.now c.args.sheet.now c.args.metrics.now) c.in-Err.refusal (dom_of c.args.document.now) refl
    c.in-Err.ensures.exact
