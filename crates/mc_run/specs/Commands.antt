-- The commands that there are.
use Rattle.std.specs.Prelude.{ℕ, List, Option, None, Some, option_and_then}
use Rattle.mc_words.specs.Words.{Command, rows, gen, trial, layout, all, hit, draw, check, rows_check, command_of as words_ask}

-- a command, where it is built
abbrev pub built : Command → Option Command
built (rows flow) = Some (rows flow)
built (gen start count) = Some (gen start count)
built (trial start count) = Some (trial start count)
built (layout page) = Some (layout page)
built (all page) = Some (all page)
built (hit page x y) = Some (hit page x y)
built (draw page rule) = Some (draw page rule)
built (check page printed) = None
built (rows_check flow printed) = None

-- what the words after the program's name ask for
abbrev pub command_of : List (List ℕ) → Option Command
command_of words = option_and_then built (words_ask words)
