-- A document that is refused has no result.
use Rattle.mc_run.specs.Viewed.{view_text}
use Rattle.mc_run.proofs.OneDocument.{refused_texts}
use Rattle.mc_run.proofs.pages.bytes_result.Goals as goal

pub returns-in-Err-clause-err : goal.returns-in-Err-clause-err
returns-in-Err-clause-err c =
    refused_texts (view_text c.args.view) c.args.document.now c.args.sheet.now c.args.metrics.now c.args.width c.args.height
    c.in-Err.refusal
    c.in-Err.ensures.refused
