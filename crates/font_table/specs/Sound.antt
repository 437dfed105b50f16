-- What holds of each table of faces.
use Rattle.std.specs.Prelude.{ℕ, ◌+◌, ◌^◌, ◌<◌, ◌≤◌, List, [], ◌∷◌, length}
use Rattle.std.specs.List.{AllByRecursion}
use Rattle.font_table.specs.declared.fonts.Advance.{Advance}
use Rattle.font_table.specs.declared.fonts.Face.{Face}

-- the codes rise, none of them below the least, and no advance is above ten times the font size
abbrev pub AreSound : ℕ → List Advance → Type 0
AreSound least [] = Unit {0}
AreSound least (a ∷ more) = (least ≤ a.ch) × (a.amount ≤ 10000) × AreSound (a.ch + 1) more

pub record IsSoundFace (face : Face) : Type 0 where
  pub ascent : face.ascent ≤ 10000
  pub descent : face.descent ≤ 10000
  pub default : face.default_advance ≤ 10000
  pub advances : AreSound 0 face.advances

-- at least one face
pub record IsSound (faces : List Face) : Type 0 where
  pub some : 0 < length faces
  pub few : length faces < 2 ^ 32
  pub faces_sound : AllByRecursion IsSoundFace faces
