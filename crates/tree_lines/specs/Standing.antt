-- Where lines stand.
use Rattle.std.specs.Prelude.{◌≡◌, ℕ, ◌+◌, ◌-◌, max, List, [], ◌∷◌, Option, Some, None}
use Rattle.flow_list.specs.Data.{AtomKind, RowInfo, Plain, Line, Void, Image, Bounded}
use Rattle.flow_list.specs.Tree.{TreeLine, Frame, line, void, image, atom}
use Rattle.tree_lines.specs.declared.place.Place.{Place}
use Rattle.tree_lines.specs.declared.place.RowPlace.{RowPlace}

-- where something ends, if it does, else where it reaches
abbrev pub bottom_at : ℕ → Option ℕ → ℕ
bottom_at reach None = reach
bottom_at reach (Some bottom) = bottom

-- the line of an atom, in a column with this left and width; none for a container with a height
abbrev pub atom_line : (depth left width y item height : ℕ) → AtomKind → List TreeLine
atom_line depth left width y k height Plain = record { depth = depth; kind = atom k; x = left; y = y; w = width; h = height } ∷ []
atom_line depth left width y k height (Line owner index x w) =
    record { depth = depth; kind = line owner index; x = left + x; y = y; w = w; h = height } ∷ []
atom_line depth left width y k height (Void owner x w) =
    record { depth = depth; kind = void owner; x = left + x; y = y; w = w; h = height } ∷ []
atom_line depth left width y k height (Image owner x w) =
    record { depth = depth; kind = image owner; x = left + x; y = y; w = w; h = height } ∷ []
atom_line depth left width y k height (Bounded owner number x) = []

-- this place stands where that frame does
pub record IsAt (frame : Frame) (at : Place) : Type 0 where
  pub x : at.x ≡ frame.x
  pub y : at.y ≡ frame.y
  pub w : at.w ≡ frame.w
  pub room : at.room ≡ frame.h - frame.bottoms
  pub reach : at.reach ≡ max frame.h frame.extent - frame.bottoms

-- this is the place of a piece of a row that stands there in that frame, of this height
pub record IsRowAt (frame : Frame) (r : RowInfo) (top tall : ℕ) (at : RowPlace) : Type 0 where
  pub x : at.x ≡ frame.x + r.x
  pub y : at.y ≡ frame.y + top
  pub w : at.w ≡ r.w
  pub step : at.step ≡ r.step
  pub height : at.height ≡ tall
