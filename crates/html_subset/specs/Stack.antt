-- What a stack of open elements stands for.
use Rattle.std.specs.Prelude.{ℕ, List, [], ◌∷◌, reverse, Bool, false}
use Rattle.html_grammar.specs.Names.{closes}
use Rattle.html_grammar.specs.declared.stage.Open.{Open}

abbrev pub open_at : ℕ → List ℕ → Open
open_at number name = record { number = number; name = name }

-- the innermost first
unfoldable pub stack_of : List Open → List Open
stack_of opens = reverse opens

abbrev pub closed_on_top : List ℕ → List Open → Bool
closed_on_top m [] = false
closed_on_top m (o ∷ os) = closes m o.name
