-- Bands as they are filled with the leaves among lines.
use Rattle.std.specs.Prelude.{◌≡◌, ℕ, List, ◌++◌, All}
use Rattle.hit_index.specs.declared.mark.Mark.{Mark}
use Rattle.hit_index.specs.declared.fill.Filling.{Filling}
use Rattle.hit_index.specs.Scan.{leaves_of}
use Rattle.hit_index.specs.Bands.{best, IsBand, leaves_in}

-- the full bands and the last one have the leaves among these lines
pub record IsFilled (marks : List Mark) (filling : Filling) : Type 0 where
  pub each : All IsBand filling.full
  pub last : IsBand filling.last
  pub same : (px py : ℕ) → best px py (leaves_in filling.full ++ filling.last.leaves.items) ≡ best px py (leaves_of marks)
