-- Words of a line (this project's own).
use Rattle.std.specs.Prelude.{ℕ, List, [], ◌∷◌, Option, Some, None}
use Rattle.std.specs.List.{flat_map}
use Rattle.std.specs.Fmt.{decimal}

-- numbers, each after a dot
abbrev pub dotted : List ℕ → List ℕ
dotted numbers = flat_map (λ n. 46 ∷ decimal n) numbers

-- the numbers of a place within an item, where the item is entered
abbrev pub numbers_of : Option (List ℕ) → List ℕ
numbers_of None = []
numbers_of (Some numbers) = numbers
