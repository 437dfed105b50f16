-- A document that is refused has no text.
use Rattle.mc_run.proofs.OneAll.{refused_all}
use Rattle.mc_run.proofs.all.bytes_all.Goals as goal

pub returns-in-Err-clause-err : goal.returns-in-Err-clause-err
returns-in-Err-clause-err c =
    refused_all c.args.document.now c.args.sheet.now c.args.metrics.now c.args.width c.args.height c.in-Err.refusal
    c.in-Err.ensures.refused
