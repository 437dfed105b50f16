-- The bytes that were read are those of the three inputs, and the text of their layout is the command's result.
use Rattle.mc_words.specs.Asked.{page_asked}
use Rattle.mc_run.proofs.Stopping.{all_gives, all_refused}
use Rattle.mc_run.proofs.answer.answer_all.Goals as goal

pub returns-in-Ok-clause-ok : goal.returns-in-Ok-clause-ok
returns-in-Ok-clause-ok g c =
    all_gives (page_asked c.args.page)
    (g.F.Files.held c.args.files.now) c.in_ok-texts.texts.document.items c.in_ok-texts.texts.sheet.items
    c.in_ok-texts.texts.metrics.items c.in-Ok.text
    (record {
      document_is = c.in_ok-texts.ensures.document;
      sheet_is = c.in_ok-texts.ensures.sheet;
      metrics_is = c.in_ok-texts.ensures.metrics;
    }) c.in-Ok.ensures.ok

pub returns-clause-err : goal.returns-clause-err
returns-clause-err g c =
    all_refused (page_asked c.args.page)
    (g.F.Files.held c.args.files.now) (g.F.Files.faults c.args.files.now) (g.F.Files.faults c.read_texts.new.files)
    c.in_ok-texts.texts.document.items c.in_ok-texts.texts.sheet.items c.in_ok-texts.texts.metrics.items c.in-Err.refusal
    (record {
      document_is = c.in_ok-texts.ensures.document;
      sheet_is = c.in_ok-texts.ensures.sheet;
      metrics_is = c.in_ok-texts.ensures.metrics;
    }) c.in-Err.ensures.err
