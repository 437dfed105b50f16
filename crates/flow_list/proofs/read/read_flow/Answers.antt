use Rattle.std.proofs.Common.{arith}
use Rattle.std.proofs.lemmas.Result.{err_from_is_err_and}
use Rattle.flow_list.proofs.FileReadings.{read_faultless, read_few, read_low, read_only, read_sound, refused_only, refused_told}
use Rattle.flow_list.proofs.FileReadings.{refuses}
use Rattle.flow_list.proofs.read.read_flow.Goals as goal

pub returns-in_err-lines-clause-only : goal.returns-in_err-lines-clause-only
returns-in_err-lines-clause-only c =
    let p = err_from_is_err_and c.from_residual.result c.from_residual.ensures.1 in
    rw (p.1, p.2) (refused_only c.args.text.now c.in_err-lines.field-0.0 c.in_err-lines.ensures.only)

pub returns-in_err-lines-clause-told : goal.returns-in_err-lines-clause-told
returns-in_err-lines-clause-told c =
    let p = err_from_is_err_and c.from_residual.result c.from_residual.ensures.1 in
    rw (p.1, p.2) (refused_told c.args.text.now c.in_err-lines.field-0.0 c.in_err-lines.ensures.told)

pub returns-in_err-lines-clause-refused : goal.returns-in_err-lines-clause-refused
returns-in_err-lines-clause-refused c =
    let p = err_from_is_err_and c.from_residual.result c.from_residual.ensures.1 in
    rw (p.1, p.2) (refuses c.args.text.now c.in_err-lines.field-0.0 c.in_err-lines.ensures.refused)

pub build-requires-clause-low : goal.build-requires-clause-low
build-requires-clause-low c = rw c.as_slice.ensures (read_low c.args.text.now c.in_ok-lines.lines c.in_ok-lines.ensures.found)

pub build-requires-clause-few : goal.build-requires-clause-few
build-requires-clause-few c =
    let few = read_few c.args.text.now c.in_ok-lines.lines c.in_ok-lines.ensures.found in
    rw c.as_slice.ensures (omega (arith, few, c.requires))

pub seal-requires : goal.seal-requires
seal-requires c =
    let made = rw c.as_slice.ensures at c.in_ok-parts.ensures in
    read_sound c.args.text.now c.in_ok-lines.lines c.in_ok-parts.parts c.requires c.in_ok-lines.ensures.found made

pub returns-clause-only : goal.returns-clause-only
returns-clause-only c =
    let made = rw c.as_slice.ensures at c.in_ok-parts.ensures in
    rw c.seal.ensures (read_only c.args.text.now c.in_ok-lines.lines c.in_ok-parts.parts c.in_ok-lines.ensures.only made)

pub returns-clause-told : goal.returns-clause-told
returns-clause-told c = λ f is. absurd (read_faultless c.args.text.now c.in_ok-lines.lines c.in_ok-lines.ensures.found f is)
