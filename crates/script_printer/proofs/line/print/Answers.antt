-- What the session answers of the document as it is then.
use Rattle.std.proofs.Common.{◌-◌, ap}
use Rattle.script_runs.specs.Runs.{printed_limit}
use Rattle.script_printer.proofs.Lines.{print_fault}
use Rattle.script_printer.proofs.line.print.Goals as goal

pub returns-in-Err-clause-refused : goal.returns-in-Err-clause-refused
returns-in-Err-clause-refused c = λ tree is.
    print_fault tree c.args.session.now c.args.printed.now _ c.in-Err.refusal is c.in-Err.ensures.refused
    (ap (λ n. printed_limit - n) c.len.ensures) c.requires
