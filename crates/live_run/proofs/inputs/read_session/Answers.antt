-- The cause of the read that stopped is a cause of the session.
use Rattle.mc_words.specs.Asked.{session_asked}
use Rattle.live_run.proofs.Stopping.{page_unread, script_unread}
use Rattle.live_run.proofs.inputs.read_session.Goals as goal

pub returns-in-Err-clause-err : goal.returns-in-Err-clause-err
returns-in-Err-clause-err g c =
    page_unread (session_asked c.args.session) (g.F.Files.held c.args.files.now) (g.F.Files.faults c.args.files.now)
    (g.F.Files.faults c.read_texts.new.files) c.in-Err.stop c.in-Err.ensures.err

pub returns-in-Err-read_input-clause-err : goal.returns-in-Err-read_input-clause-err
returns-in-Err-read_input-clause-err g c =
    script_unread (session_asked c.args.session) (g.F.Files.held c.args.files.now) (g.F.Files.held c.read_texts.new.files)
    (g.F.Files.faults c.args.files.now) (g.F.Files.faults c.read_texts.new.files) (g.F.Files.faults c.read_input.new.files)
    c.in-Ok.page.document.items c.in-Ok.page.sheet.items c.in-Ok.page.metrics.items c.in-Err-read_input.stop
    (record {
      document_is = c.in-Ok.ensures.document;
      sheet_is = c.in-Ok.ensures.sheet;
      metrics_is = c.in-Ok.ensures.metrics;
    }) c.in-Ok.ensures.content c.in-Ok.ensures.later c.in-Err-read_input.ensures.err
