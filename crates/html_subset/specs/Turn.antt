-- One token of a document: it is read, then the structure takes it, then comes what it has after its place.
use Rattle.std.specs.Prelude.{ℕ, List, Option, Result, Ok}
use Rattle.mc_base.specs.declared.refusal.Found.{Found}
use Rattle.mc_base.specs.Reading.{◌>>=◌}
use Rattle.html_grammar.specs.declared.place.Place.{Place}
use Rattle.mc_base.specs.declared.read_error.Fault.{Fault}
use Rattle.html_grammar.specs.Tokens.{late_of, construct_of}
use Rattle.html_grammar.specs.Machine.{State, take_token}
use Rattle.html_grammar.specs.Lexing.{token_at}
use Rattle.html_grammar.specs.Whole.{Reading, not_late}
use Rattle.html_subset.specs.Building.{built_of}
use Rattle.html_subset.specs.declared.reading.Read.{Read}

-- the state after the token that begins here, what it has that isn't laid out, and what stands after it
unfoldable pub turn : ℕ → State → Place → List Place → Result (State × Option Found × List Place) Fault
turn size s p ps = token_at size p ps >>= λ t. not_late (late_of t.0) (take_token s t.0) >>= λ next.
    Ok (next, construct_of t.0, t.1)

abbrev pub reading_of : Read → Reading
reading_of r = record { built = built_of r.finished; construct = r.construct }
