-- Reading line after line.
use Rattle.std.specs.Prelude.{List, [], ◌∷◌, Result, Ok}
use Rattle.mc_base.specs.Reading.{◌>>=◌}
use Rattle.flow_text.specs.declared.line.Line.{Line}
use Rattle.mc_base.specs.declared.read_error.Fault.{Fault}
use Rattle.flow_text.specs.declared.structure.Reading.{Reading}
use Rattle.flow_text.specs.Structure.{take}

-- how far reading comes by these lines, or the first fault
abbrev pub run : Reading → List Line → Result Reading Fault
run r [] = Ok r
run r (l ∷ lines) = take r l >>= λ next. run next lines
