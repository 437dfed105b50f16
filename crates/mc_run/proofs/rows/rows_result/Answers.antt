-- The result of the flows that a flow file says.
use Rattle.std.proofs.lemmas.Result.{err_from_is_err_and}
use Rattle.mc_run.specs.FlowResult.{FlowSays}
use Rattle.mc_run.proofs.OneFlow.{reader_result, bytes_err}
use Rattle.result_writer.specs.Printed.{result_text}
use Rattle.mc_run.proofs.Results.{said_ok, said_err}
use Rattle.mc_run.proofs.rows.rows_result.Goals as goal

pub returns-clause-ok : goal.returns-clause-ok
returns-clause-ok c =
    said_ok result_text (FlowSays c.args.bytes.now) c.in_ok-flows.flows c.print.result c.in_ok-flows.ensures.found
    c.print.ensures.ok

pub returns-clause-err : goal.returns-clause-err
returns-clause-err c =
    bytes_err c.args.bytes.now c.print.result
    (said_err result_text (FlowSays c.args.bytes.now) c.in_ok-flows.flows c.print.result c.in_ok-flows.ensures.found
    c.print.ensures.err)

pub returns-in_err-flows-clause-err : goal.returns-in_err-flows-clause-err
returns-in_err-flows-clause-err c =
    let p = err_from_is_err_and c.from_residual.result c.from_residual.ensures.1 in
    rw (p.1, p.2) (reader_result c.args.bytes.now c.read_flow.result c.in_err-flows.field-0.0 c.in_err-flows.was
    c.read_flow.ensures.only c.read_flow.ensures.refused)
