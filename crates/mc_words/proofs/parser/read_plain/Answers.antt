-- The command is that of the name and the words which were found.
use Rattle.std.proofs.Common.{sym, map, string_bytes, Some, None}
use Rattle.clap.specs.Simple.{subcommand_rows_of}
use Rattle.mc_words.specs.Asked.{asked}
use Rattle.mc_words.proofs.Taken.{plain_ok}
use Rattle.mc_words.proofs.parser.read_plain.Goals as goal

pub returns-in-Some-clause-ok : goal.returns-in-Some-clause-ok
returns-in-Some-clause-ok c =
    sym
    (plain_ok (map string_bytes c.args.words.now) c.requires c.in-Ok.ensures.ok.0 (subcommand_rows_of c.in-Ok.matches)
    c.in-Ok.ensures.ok.1 (Some (asked c.in-Some.command)) c.in-Some.ensures.asked)

pub returns-clause-err : goal.returns-clause-err
returns-clause-err c = λ refused.
    sym
    (plain_ok (map string_bytes c.args.words.now) c.requires c.in-Ok.ensures.ok.0 (subcommand_rows_of c.in-Ok.matches)
    c.in-Ok.ensures.ok.1 None c.in-None.ensures.asked)
