-- What the functions of this crate answer of one line.
use Rattle.std.specs.Prelude.{◌≡◌, ℕ, List}
use Rattle.mc_session.specs.Session.{Asked}
use Rattle.script_runs.specs.Runs.{State}
use Rattle.script_printer.specs.Shown.{Setting, document_of}

abbrev pub setting_in : Asked → Setting
setting_in asked = record { sheets = asked.sheets; faces = asked.faces; width = asked.width; height = asked.height }

-- a session and what it printed so far stand where the lines left off
pub record Stands (asked : Asked) (printed : List ℕ) (state : State) : Type 0 where
  pub dom : asked.dom ≡ document_of state.tree
  pub printed_is : printed ≡ state.printed
