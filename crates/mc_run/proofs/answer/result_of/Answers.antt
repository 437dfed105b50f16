-- What is said of the generated document is said of the command that asks for it.
use Rattle.std.proofs.Common.{◌≡◌, ap, sym, subst, Some, IfErr}
use Rattle.mc_run.specs.Commands.{built}
use Rattle.mc_words.specs.Asked.{asked}
use Rattle.mc_run.specs.Outcome.{IsCause}
use Rattle.mc_words.specs.Words.{gen, trial}
use Rattle.mc_run.proofs.answer.result_of.Goals as goal

pub returns-in-Gen-clause-err : goal.returns-in-Gen-clause-err
returns-in-Gen-clause-err g c =
    let is : built (asked c.args.command) ≡ Some (gen c.in-Gen.start c.in-Gen.count) = ap (λ h. built (asked h)) c.in-Gen.is in
    subst
    (λ command. IfErr c.answer_gen.result (IsCause command (g.F.Files.held c.args.files.now)
    (g.F.Files.faults c.args.files.now) (g.F.Files.faults c.args.files.now) 0 0)) (sym is)
    (c.answer_gen.ensures.err (g.F.Files.held c.args.files.now) (g.F.Files.faults c.args.files.now)
    (g.F.Files.faults c.args.files.now))

pub returns-in-Trial-clause-err : goal.returns-in-Trial-clause-err
returns-in-Trial-clause-err g c =
    let is : built (asked c.args.command) ≡ Some (trial c.in-Trial.start c.in-Trial.count) =
    ap (λ h. built (asked h)) c.in-Trial.is in
    subst
    (λ command. IfErr c.answer_trial.result (IsCause command (g.F.Files.held c.args.files.now)
    (g.F.Files.faults c.args.files.now) (g.F.Files.faults c.args.files.now) 0 0)) (sym is)
    (c.answer_trial.ensures.err (g.F.Files.held c.args.files.now) (g.F.Files.faults c.args.files.now)
    (g.F.Files.faults c.args.files.now))
