-- The line that tells why a session stopped: the words of its own program, or what any program of these tells.
use Rattle.std.specs.Prelude.{ℕ, List, codes}
use Rattle.mc_run.specs.declared.stop.Stop.{Stop}
use Rattle.mc_run.specs.declared.stop.Stop.TheVariants.{Usage, Read, Write, Refused}
use Rattle.mc_run.specs.Stops.{line_of}

unfoldable pub session_usage : List ℕ
session_usage = codes "usage: mcol_live DOC SHEET METRICS WIDTH HEIGHT SCRIPT\n"

abbrev pub session_line : Stop → List ℕ
session_line Usage = session_usage
session_line (Read input) = line_of (Read input)
session_line Write = line_of Write
session_line (Refused refusal) = line_of (Refused refusal)
