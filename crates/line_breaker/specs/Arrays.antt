-- What is measured once for each place of a run.
use Rattle.std.specs.Prelude.{◌≡◌, ℕ, ◌+◌, ◌-◌, ◌*◌, ◌^◌, ◌<◌, ◌≤◌, min, Bool, true, false, ◌&&◌, ◌||◌, nat_lt, nat_le, ◌==◌}
use Rattle.std.specs.Prelude.{if◌then◌else◌, List, [], ◌∷◌, length, slice_index_or, slice_get, Option, Some, None}
use Rattle.std.specs.List.{All}
use Rattle.font_table.specs.declared.fonts.Face.{Face}
use Rattle.inline_text.specs.declared.content.Piece.{Piece}
use Rattle.inline_text.specs.declared.content.RunStyle.{RunStyle}
use Rattle.inline_text.specs.declared.content.Runs.{Runs}
use Rattle.inline_text.specs.Opportunities.{opportunity_at}
use Rattle.line_breaker.specs.declared.places.Place.{Place}
use Rattle.line_breaker.specs.declared.ahead.Ahead.{Ahead}
use Rattle.line_breaker.specs.Measures.{width_of, space_behind, hyphen_of}
use Rattle.line_breaker.specs.Lines.{is_content, is_forced}

-- ---- what stands before a place

abbrev pub start : Place
start = record { before = 0; space = 0; hyphen = 0; contents = 0 }

abbrev pub place_after : List RunStyle → List Face → Place → Piece → Place
place_after styles faces place piece = record {
  before = place.before + width_of styles faces piece;
  space = space_behind styles faces place.space piece;
  hyphen = hyphen_of styles faces piece;
  contents = place.contents + (if is_content piece then 1 else 0);
}

abbrev pub place_behind : List RunStyle → List Face → Place → List Piece → Place
place_behind styles faces place [] = place
place_behind styles faces place (piece ∷ pieces) = place_behind styles faces (place_after styles faces place piece) pieces

abbrev pub places_from : List RunStyle → List Face → Place → List Piece → List Place
places_from styles faces place [] = place ∷ []
places_from styles faces place (piece ∷ pieces) = place ∷ places_from styles faces (place_after styles faces place piece) pieces

-- how far a line reaches that ends at a place: without the space before it, and with a hyphen
abbrev pub edge : Place → ℕ
edge place = place.before - place.space

abbrev pub need : Place → ℕ
need place = edge place + place.hyphen

abbrev pub place_at : List Place → ℕ → Place
place_at places k = slice_index_or places k start

-- ---- what follows a place

abbrev pub nothing_ahead : ℕ → Ahead
nothing_ahead at = record { end = at; content = false; opens = false; least = None }

abbrev pub least_of : ℕ → Option ℕ → Option ℕ
least_of n None = Some n
least_of n (Some m) = Some (min n m)

abbrev pub ahead_before : ℕ → Piece → (opportunity : Bool) → ℕ → Ahead → Ahead
ahead_before at piece opportunity needed next =
    let content = is_content piece || next.content in
    record {
      end = if is_forced piece then at + 1 else next.end;
      content = if is_forced piece then false else content;
      opens = if is_forced piece then false else (opportunity && content);
      least = if is_forced piece then None else (if opportunity && content then least_of needed next.least else next.least);
    }

abbrev pub opportunity_before : List Bool → ℕ → Bool
opportunity_before opportunities at = nat_lt 0 at && slice_index_or opportunities (at - 1) false

abbrev pub ahead_of : List Place → List Bool → ℕ → List Piece → Ahead
ahead_of places opportunities at [] = nothing_ahead at
ahead_of places opportunities at (piece ∷ pieces) =
    ahead_before at piece (opportunity_before opportunities at) (need (place_at places at))
    (ahead_of places opportunities (at + 1) pieces)

abbrev pub aheads_from : List Place → List Bool → ℕ → List Piece → List Ahead
aheads_from places opportunities at [] = nothing_ahead at ∷ []
aheads_from places opportunities at (piece ∷ pieces) =
    ahead_of places opportunities at (piece ∷ pieces) ∷ aheads_from places opportunities (at + 1) pieces

abbrev pub ahead_at : List Ahead → ℕ → Ahead
ahead_at ahead k = slice_index_or ahead k (nothing_ahead 0)

-- ---- the end of a line

abbrev pub fits_in : ℕ → ℕ → Option ℕ → Bool
fits_in base width None = false
fits_in base width (Some needed) = nat_le (needed - base) width

-- the last place before `end` from which on something fits
pub record IsBest (ahead : List Ahead) (from end base width best : ℕ) : Type 0 where
  pub low : from ≤ best
  pub high : best < end
  pub fits : from < best → fits_in base width (ahead_at ahead best).least ≡ true
  pub no_more : best + 1 < end → fits_in base width (ahead_at ahead (best + 1)).least ≡ false

abbrev pub follows : List Place → ℕ → ℕ → Bool
follows places from k = nat_lt (place_at places from).contents (place_at places k).contents

abbrev pub counts : List Place → List Ahead → ℕ → ℕ → Bool
counts places ahead from k = (ahead_at ahead k).opens && follows places from k

-- the first place that counts, or the end
pub record IsFirst (places : List Place) (ahead : List Ahead) (from end first : ℕ) : Type 0 where
  pub low : from < first
  pub high : first ≤ end
  pub found : first < end → counts places ahead from first ≡ true
  pub before : (k : ℕ) → from < k → k < first → counts places ahead from k ≡ false

abbrev pub is_whole : List Place → ℕ → ℕ → ℕ → Bool
is_whole places from end width = nat_le (edge (place_at places end) - (place_at places from).before) width

pub data IsEnd (places : List Place) (ahead : List Ahead) (from end width to : ℕ) : Type 0 where
  all : is_whole places from end width ≡ true → to ≡ end → IsEnd places ahead from end width to
  last : is_whole places from end width ≡ false → IsBest ahead from end (place_at places from).before width to → from < to
      → follows places from to ≡ true → IsEnd places ahead from end width to
  first : (best : ℕ) → is_whole places from end width ≡ false → IsBest ahead from end (place_at places from).before width best
      → (from < best → follows places from best ≡ false)
      → IsFirst places ahead from end to → IsEnd places ahead from end width to

-- the lengths of a place are far from what 64 bits hold
pub record IsSmall (place : Place) : Type 0 where
  pub before : place.before ≤ 10 * 2 ^ 56
  pub hyphen : place.hyphen ≤ 10 * 2 ^ 24

-- how wide a line is between two places, in a stretch that ends at `end`
abbrev pub width_between : List Place → ℕ → ℕ → ℕ → ℕ
width_between places from end to =
    edge (place_at places to) - (place_at places from).before + (if to == end then 0 else (place_at places to).hyphen)

-- what is measured of a run
pub record IsMeasured (runs : Runs) (faces : List Face) (places : List Place) (ahead : List Ahead) : Type 0 where
  pub opportunities : List Bool
  pub places_are : places ≡ places_from runs.styles faces start runs.pieces
  pub ahead_are : ahead ≡ aheads_from places opportunities 0 runs.pieces
  pub opportunities_are : (k : ℕ) → k < length runs.pieces → slice_get opportunities k ≡ Some (opportunity_at runs (k + 1))
  pub small : All IsSmall places
