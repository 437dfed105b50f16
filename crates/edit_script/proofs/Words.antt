-- Reading words, as loops do.
use Rattle.std.proofs.Common.{ℕ, List, ◌++◌, Option, Some}
use Rattle.mc_base.specs.Finding.{◌>>=◌}

abbrev Word : Type 0
Word = Option (List ℕ × List ℕ)

abbrev pub with_front : List ℕ → Word → Word
with_front front word = word >>= λ x. Some (front ++ x.0, x.1)
