-- The bytes that were read are those of the four inputs, and what the script prints is what the session prints.
use Rattle.mc_words.specs.Asked.{session_asked}
use Rattle.live_run.proofs.Stopping.{session_result, session_refused}
use Rattle.live_run.proofs.answer.text_of.Goals as goal

pub returns-in-Ok-printed-clause-ok : goal.returns-in-Ok-printed-clause-ok
returns-in-Ok-printed-clause-ok g c =
    session_result (session_asked c.args.session) (g.F.Files.held c.args.files.now)
    c.in-Ok.texts.page.document.items c.in-Ok.texts.page.sheet.items c.in-Ok.texts.page.metrics.items
    c.in-Ok.texts.script.items c.in-Ok-printed.text
    (record {
      document_is = c.in-Ok.ensures.document;
      sheet_is = c.in-Ok.ensures.sheet;
      metrics_is = c.in-Ok.ensures.metrics;
    }) c.in-Ok.ensures.script c.in-Ok-printed.ensures.ok

pub returns-clause-err : goal.returns-clause-err
returns-clause-err g c =
    session_refused (session_asked c.args.session) (g.F.Files.held c.args.files.now) (g.F.Files.faults c.args.files.now)
    (g.F.Files.faults c.read_session.new.files)
    c.in-Ok.texts.page.document.items c.in-Ok.texts.page.sheet.items c.in-Ok.texts.page.metrics.items
    c.in-Ok.texts.script.items c.in-Err-printed.refusal
    (record {
      document_is = c.in-Ok.ensures.document;
      sheet_is = c.in-Ok.ensures.sheet;
      metrics_is = c.in-Ok.ensures.metrics;
    }) c.in-Ok.ensures.script c.in-Err-printed.ensures.err
