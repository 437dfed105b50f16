-- What a parse gives is what its parts hold.
use Rattle.std.proofs.Common.{◌∙◌, ap₂}
use Rattle.std.specs.Prelude.{map}
use Rattle.mc_words.specs.Words.{command_named}
use Rattle.clap.specs.Matches.{found_of}
use Rattle.mc_words.proofs.Taken.{given_same, given_some}
use Rattle.mc_words.proofs.parser.given_command.Goals as goal

pub returns-in_err-words-clause-asked : goal.returns-in_err-words-clause-asked
returns-in_err-words-clause-asked c = λ name words gives.
    absurd
    (given_some c.args.matches.now name words (found_of c.in_ok-name.given.now) gives c.in_ok-name.ensures.rows
    c.in_err-words.ensures)

pub returns-clause-asked : goal.returns-clause-asked
returns-clause-asked c = λ name words gives.
    let same = given_same c.args.matches.now name words c.in_ok-name.name.now (found_of c.in_ok-name.given.now)
    (map (λ word. word.now) c.in_ok-words.words.now) gives c.in_ok-name.ensures.name c.in_ok-name.ensures.rows
    c.in_ok-words.ensures in
    c.command_named.ensures.asked ∙ ap₂ command_named same.0 same.1
