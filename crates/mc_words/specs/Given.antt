-- What a parse gives.
use Rattle.std.specs.Prelude.{◌≡◌, List, Option, Some, codes}
use Rattle.clap.specs.Walk.{Row, Text, all_of}

-- the name of a subcommand, and its words
abbrev pub Gives : Option (Text × List Row) → Text → List Text → Type 0
Gives given name words = (rows : List Row) × (given ≡ Some (name, rows)) × (all_of (codes "words") rows ≡ Some words)
