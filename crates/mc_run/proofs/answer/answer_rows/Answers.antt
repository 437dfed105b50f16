-- The bytes that were read are those of the flow file, and its result is the command's.
use Rattle.std.proofs.Common.{◌≡◌, ◌⊎◌, subst}
use Rattle.mc_base.specs.declared.refusal.Refusal.TheVariants.{NoMemory}
use Rattle.mc_run.specs.FlowResult.{IsFlowResult, RefusesBytes}
use Rattle.mc_run.proofs.Stopping.{flow_result, flow_refused}
use Rattle.mc_run.proofs.answer.answer_rows.Goals as goal

pub returns-in-Ok-clause-ok : goal.returns-in-Ok-clause-ok
returns-in-Ok-clause-ok g c =
    flow_result c.args.flow.now (g.F.Files.held c.args.files.now) c.in_ok-bytes.bytes.items c.in-Ok.text
    c.in_ok-bytes.ensures.ok
    (subst (λ bytes. IsFlowResult bytes c.in-Ok.text) c.as_slice.ensures.value c.in-Ok.ensures.ok)

pub returns-clause-err : goal.returns-clause-err
returns-clause-err g c =
    flow_refused c.args.flow.now (g.F.Files.held c.args.files.now) (g.F.Files.faults c.args.files.now)
    (g.F.Files.faults c.read_input.new.files) c.in_ok-bytes.bytes.items c.in-Err.refusal
    c.in_ok-bytes.ensures.ok
    (subst (λ bytes. (c.in-Err.refusal ≡ NoMemory) ⊎ RefusesBytes bytes c.in-Err.refusal) c.as_slice.ensures.value
    c.in-Err.ensures.err)
