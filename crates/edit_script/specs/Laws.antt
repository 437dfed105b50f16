-- A line has a step just where it is written so.
use Rattle.std.specs.Prelude.{◌≡◌, ℕ, List, Some}
use Rattle.edit_script.specs.declared.script.Step.{Step}
use Rattle.edit_script.specs.Spelling.{IsSpelled}
use Rattle.edit_script.specs.Steps.{step_of}

-- what is written so is that step
abbrev pub WhatIsWrittenIsAStep : Type 0
WhatIsWrittenIsAStep = (step : Step) (line : List ℕ) → IsSpelled step line → step_of line ≡ Some step

-- and a line that is a step is written so
abbrev pub AStepIsWrittenSo : Type 0
AStepIsWrittenSo = (step : Step) (line : List ℕ) → step_of line ≡ Some step → IsSpelled step line
