-- Each command is put after those before it.
use Rattle.std.proofs.Common.{◌≡◌, ◌∙◌, IfOk, ap, subst, codes}
use Rattle.clap.specs.Simple.{App, with_subcommand}
use Rattle.clap.specs.Words.{app_of}
use Rattle.mc_words.specs.Grammar.{counted}
use Rattle.mc_words.proofs.parser.with_plain_commands.Goals as goal

pub returns : goal.returns
returns c =
    let before = c.in_ok-program-3.ensures
    ∙ ap (λ (a : App). with_subcommand a (counted (codes "gen") 2)) (c.in_ok-program-2.ensures
    ∙ ap (λ (a : App). with_subcommand a (counted (codes "rows-check") 2)) c.in_ok-program.ensures) in
    subst (λ (a : App). IfOk c.with_command-4.result (λ command. app_of command ≡ with_subcommand a (counted (codes "trial") 2)))
    before c.with_command-4.ensures
