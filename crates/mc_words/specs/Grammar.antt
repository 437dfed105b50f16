-- The command line as clap is told it: each command, and how many words it takes after its name.
use Rattle.std.specs.Prelude.{ℕ, true, [], Some, codes}
use Rattle.clap.specs.Walk.{Rule, Text}
use Rattle.clap.specs.Simple.{App, Shape, new_app, new_rule, new_shape, with_rule, with_subcommand}

-- a subcommand of this name with one argument, which takes exactly this many words
abbrev pub counted_rule : ℕ → Rule
counted_rule count = record (new_rule (codes "words")) {
  range = Some (record { start_inclusive = count; end_inclusive = count });
  required = true;
}

abbrev pub counted : Text → ℕ → Shape
counted name count = (with_rule (new_app name) (counted_rule count)).top

-- the program with no subcommand yet: it wants one, its own name is none of the words, and nothing answers with help
abbrev pub program : App
program = record {
  top = record (new_shape (codes "mcol")) {
    no_binary_name = true;
    disable_help_flag = true;
    disable_help_subcommand = true;
    disable_version_flag = true;
    subcommand_required = true;
  };
  subs = [];
}

-- the commands that lay out no page, and those that do
abbrev pub with_plain_commands : App → App
with_plain_commands app = with_subcommand (with_subcommand (with_subcommand (with_subcommand app
    (counted (codes "rows") 1)) (counted (codes "rows-check") 2)) (counted (codes "gen") 2)) (counted (codes "trial") 2)

abbrev pub with_page_commands : App → App
with_page_commands app = with_subcommand (with_subcommand (with_subcommand (with_subcommand (with_subcommand app
    (counted (codes "layout") 5)) (counted (codes "check") 6)) (counted (codes "all") 5)) (counted (codes "hit") 7))
    (counted (codes "draw") 6)

-- the program with its commands
unfoldable pub grammar : App
grammar = with_page_commands (with_plain_commands program)
