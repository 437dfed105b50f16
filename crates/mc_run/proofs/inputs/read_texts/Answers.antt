-- The cause of the read that stopped is a cause of the three.
use Rattle.std.proofs.lemmas.Result.{err_from_is_err_and}
use Rattle.mc_run.proofs.Reading.{document_stops, sheet_after, metrics_after}
use Rattle.mc_run.proofs.inputs.read_texts.Goals as goal

pub returns-in_err-document-clause-err : goal.returns-in_err-document-clause-err
returns-in_err-document-clause-err g c =
    let p = err_from_is_err_and c.from_residual.result c.from_residual.ensures.1 in
    rw (p.1, p.2) (document_stops c.args.page.document.now c.args.page.sheet.now c.args.page.metrics.now
    (g.F.Files.held c.args.files.now) (g.F.Files.faults c.args.files.now) (g.F.Files.faults c.read_input.new.files)
    c.in_err-document.field-0.0 c.in_err-document.ensures.err)

pub returns-in_err-sheet-clause-err : goal.returns-in_err-sheet-clause-err
returns-in_err-sheet-clause-err g c =
    let p = err_from_is_err_and c.from_residual-in_err-sheet.result c.from_residual-in_err-sheet.ensures.1 in
    rw (p.1, p.2) (sheet_after c.args.page.document.now c.args.page.sheet.now c.args.page.metrics.now
    (g.F.Files.held c.args.files.now) (g.F.Files.held c.read_input.new.files) (g.F.Files.faults c.args.files.now)
    (g.F.Files.faults c.read_input.new.files) (g.F.Files.faults c.read_input-2.new.files)
    c.in_err-sheet.field-0.0 c.in_ok-document.document.items c.in_ok-document.ensures.ok
    (c.in_ok-document.ensures.content c.args.page.sheet.now) (c.in_ok-document.ensures.later c.args.page.sheet.now)
    c.in_err-sheet.ensures.err)

pub returns-in_err-metrics-clause-err : goal.returns-in_err-metrics-clause-err
returns-in_err-metrics-clause-err g c =
    let p = err_from_is_err_and c.from_residual-in_err-metrics.result c.from_residual-in_err-metrics.ensures.1 in
    rw (p.1, p.2) (metrics_after c.args.page.document.now c.args.page.sheet.now c.args.page.metrics.now
    (g.F.Files.held c.args.files.now) (g.F.Files.held c.read_input.new.files) (g.F.Files.held c.read_input-2.new.files)
    (g.F.Files.faults c.args.files.now) (g.F.Files.faults c.read_input.new.files) (g.F.Files.faults c.read_input-2.new.files)
    (g.F.Files.faults c.read_input-3.new.files) c.in_err-metrics.field-0.0 c.in_ok-document.document.items
    c.in_ok-sheet.sheet.items c.in_ok-document.ensures.ok c.in_ok-sheet.ensures.ok
    c.in_ok-document.ensures.content c.in_ok-sheet.ensures.content
    c.in_ok-document.ensures.later c.in_ok-sheet.ensures.later c.in_err-metrics.ensures.err)
