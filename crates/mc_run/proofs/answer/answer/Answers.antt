-- The command that the words ask for.
use Rattle.std.proofs.Common.{subst, sym}
use Rattle.mc_run.specs.Inputs.{inputs_of, OnlyThese}
use Rattle.mc_run.proofs.answer.answer.Goals as goal

pub returns-in_err-text-clause-others : goal.returns-in_err-text-clause-others
returns-in_err-text-clause-others g c =
    subst (λ command. OnlyThese (g.F.Files.faults c.args.files.now) (g.F.Files.faults c.result_of.new.files) (inputs_of command))
    (sym c.in-Ok.ensures.asked) c.result_of.ensures.others

pub returns-clause-others : goal.returns-clause-others
returns-clause-others g c =
    subst (λ command. OnlyThese (g.F.Files.faults c.args.files.now) (g.F.Files.faults c.result_of.new.files) (inputs_of command))
    (sym c.in-Ok.ensures.asked) c.result_of.ensures.others
