-- What stands before a place, between two places, and how that makes a line's width.
use Rattle.std.proofs.Common.{◌≡◌, ℕ, zero, suc, ◌+◌, ◌-◌, ◌≤◌, ◌<◌, Bool, true, false, cond, List, [], ◌∷◌, ◌++◌, length, take}
use Rattle.std.proofs.Common.{refl, ap, ◌∙◌, arith}
use Rattle.std.specs.List.{list_any}
use Rattle.std.proofs.Math.Seq.{take-add}
use Rattle.font_table.specs.declared.fonts.Face.{Face}
use Rattle.inline_text.specs.declared.content.Piece.{Piece}
use Rattle.inline_text.specs.declared.content.Piece.TheVariants.{Char, Image, Forced, Chance}
use Rattle.inline_text.specs.declared.content.RunStyle.{RunStyle}
use Rattle.inline_text.specs.Opportunities.{is_collapsed_space}
use Rattle.line_breaker.specs.declared.places.Place.{Place}
use Rattle.line_breaker.specs.Measures.{width_of, width_sum, space_behind, last_space, last_hyphen}
use Rattle.line_breaker.specs.Lines.{is_content, part}
use Rattle.line_breaker.specs.Arrays.{start, place_after, place_behind, places_from, edge, need, place_at}

pub place_at-from : (styles : List RunStyle) (faces : List Face) (place : Place) (pieces : List Piece) (k : ℕ) → k ≤ length pieces
    → place_at (places_from styles faces place pieces) k ≡ place_behind styles faces place (take k pieces)
place_at-from styles faces place [] zero le = refl
place_at-from styles faces place [] (suc k) le = absurd (omega arith)
place_at-from styles faces place (piece ∷ pieces) zero le = refl
place_at-from styles faces place (piece ∷ pieces) (suc k) le =
    place_at-from styles faces (place_after styles faces place piece) pieces k (omega arith)

pub length-places : (styles : List RunStyle) (faces : List Face) (place : Place) (pieces : List Piece)
    → length (places_from styles faces place pieces) ≡ length pieces + 1
length-places styles faces place [] = refl
length-places styles faces place (piece ∷ pieces) =
    let deeper = length-places styles faces (place_after styles faces place piece) pieces in omega (arith, deeper)

behind-append : (styles : List RunStyle) (faces : List Face) (place : Place) (xs ys : List Piece)
    → place_behind styles faces place (xs ++ ys) ≡ place_behind styles faces (place_behind styles faces place xs) ys
behind-append styles faces place [] ys = refl
behind-append styles faces place (x ∷ xs) ys = behind-append styles faces (place_after styles faces place x) xs ys

behind-before : (styles : List RunStyle) (faces : List Face) (place : Place) (ys : List Piece)
    → (place_behind styles faces place ys).before ≡ place.before + width_sum styles faces ys
behind-before styles faces place [] = omega arith
behind-before styles faces place (y ∷ ys) = let deeper = behind-before styles faces (place_after styles faces place y) ys
    in omega (arith, deeper)

behind-space : (styles : List RunStyle) (faces : List Face) (place : Place) (ys : List Piece)
    → (place_behind styles faces place ys).space ≡ last_space styles faces place.space ys
behind-space styles faces place [] = refl
behind-space styles faces place (y ∷ ys) = behind-space styles faces (place_after styles faces place y) ys

behind-hyphen : (styles : List RunStyle) (faces : List Face) (place : Place) (ys : List Piece)
    → (place_behind styles faces place ys).hyphen ≡ last_hyphen styles faces place.hyphen ys
behind-hyphen styles faces place [] = refl
behind-hyphen styles faces place (y ∷ ys) = behind-hyphen styles faces (place_after styles faces place y) ys

pub behind-contents : (styles : List RunStyle) (faces : List Face) (place : Place) (ys : List Piece)
    → place.contents ≤ (place_behind styles faces place ys).contents
behind-contents styles faces place [] = omega arith
behind-contents styles faces place (y ∷ ys) = let deeper = behind-contents styles faces (place_after styles faces place y) ys
    in omega (arith, deeper)

pub record Nothing (styles : List RunStyle) (faces : List Face) (place : Place) (ys : List Piece) : Type 0 where
  pub contents : (place_behind styles faces place ys).contents ≡ place.contents
  pub width : width_sum styles faces ys ≡ 0

pub nothing : (styles : List RunStyle) (faces : List Face) (place : Place) (ys : List Piece) → list_any is_content ys ≡ false
    → Nothing styles faces place ys
nothing styles faces place [] none = record { contents = refl; width = refl }
nothing styles faces place (Char ch style ∷ ys) none = absurd cc
nothing styles faces place (Image w h style ∷ ys) none = absurd cc
nothing styles faces place (Forced ∷ ys) none =
    let deeper = nothing styles faces (place_after styles faces place Forced) ys none in
    record { contents = omega (arith, deeper.contents); width = omega (arith, deeper.width) }
nothing styles faces place (Chance ∷ ys) none =
    let deeper = nothing styles faces (place_after styles faces place Chance) ys none in
    record { contents = omega (arith, deeper.contents); width = omega (arith, deeper.width) }

pub record Something (styles : List RunStyle) (faces : List Face) (place : Place) (ys : List Piece) : Type 0 where
  pub contents : place.contents < (place_behind styles faces place ys).contents
  pub space : (s t : ℕ) → last_space styles faces s ys ≡ last_space styles faces t ys
  pub filled : 0 < length ys

pub something : (styles : List RunStyle) (faces : List Face) (place : Place) (ys : List Piece) → list_any is_content ys ≡ true
    → Something styles faces place ys
something styles faces place [] some = absurd cc
something styles faces place (Char ch style ∷ ys) some =
    let more = behind-contents styles faces (place_after styles faces place (Char ch style)) ys in
    record { contents = omega (arith, more); space = λ s t. refl; filled = omega arith }
something styles faces place (Image w h style ∷ ys) some =
    let more = behind-contents styles faces (place_after styles faces place (Image w h style)) ys in
    record { contents = omega (arith, more); space = λ s t. refl; filled = omega arith }
something styles faces place (Forced ∷ ys) some =
    let deeper = something styles faces (place_after styles faces place Forced) ys some in
    record { contents = omega (arith, deeper.contents); space = deeper.space; filled = omega arith }
something styles faces place (Chance ∷ ys) some =
    let deeper = something styles faces (place_after styles faces place Chance) ys some in
    record { contents = omega (arith, deeper.contents); space = deeper.space; filled = omega arith }

space_or_none : (b : Bool) (n : ℕ) → cond b n 0 ≤ n
space_or_none true n = omega arith
space_or_none false n = omega arith

last_space-le : (styles : List RunStyle) (faces : List Face) (s : ℕ) (ys : List Piece)
    → last_space styles faces s ys ≤ s + width_sum styles faces ys
last_space-le styles faces s [] = omega arith
last_space-le styles faces s (Char ch style ∷ ys) =
    let deeper = last_space-le styles faces (space_behind styles faces s (Char ch style)) ys in
    let less = space_or_none (is_collapsed_space styles (Char ch style)) (width_of styles faces (Char ch style)) in
    omega (arith, deeper, less)
last_space-le styles faces s (Image w h style ∷ ys) = let deeper = last_space-le styles faces 0 ys in omega (arith, deeper)
last_space-le styles faces s (Forced ∷ ys) = let deeper = last_space-le styles faces s ys in omega (arith, deeper)
last_space-le styles faces s (Chance ∷ ys) = let deeper = last_space-le styles faces s ys in omega (arith, deeper)

pub last_hyphen-any : (styles : List RunStyle) (faces : List Face) (s t : ℕ) (ys : List Piece) → 0 < length ys
    → last_hyphen styles faces s ys ≡ last_hyphen styles faces t ys
last_hyphen-any styles faces s t [] filled = absurd (omega arith)
last_hyphen-any styles faces s t (y ∷ ys) filled = refl

-- ---- between two places

-- how far a line reaches that begins at a place
pub edge_is : (styles : List RunStyle) (faces : List Face) (place : Place) (ys : List Piece)
    → edge (place_behind styles faces place ys) - place.before ≡ width_sum styles faces ys - last_space styles faces 0 ys
edge_is styles faces place ys = by_content (list_any is_content ys) refl
  where
    by_content : (b : Bool) → list_any is_content ys ≡ b
        → edge (place_behind styles faces place ys) - place.before ≡ width_sum styles faces ys - last_space styles faces 0 ys
    by_content true some =
        let before = behind-before styles faces place ys in
        let space = behind-space styles faces place ys ∙ (something styles faces place ys some).space place.space 0 in
        omega (arith, before, space)
    by_content false none =
        let before = behind-before styles faces place ys in
        let width = (nothing styles faces place ys none).width in
        omega (arith, before, width)

pub need_is : (styles : List RunStyle) (faces : List Face) (place : Place) (ys : List Piece) → list_any is_content ys ≡ true
    → need (place_behind styles faces place ys) - place.before ≡ width_sum styles faces ys - last_space styles faces 0 ys
    + last_hyphen styles faces 0 ys
need_is styles faces place ys some =
    let h = something styles faces place ys some in
    let before = behind-before styles faces place ys in
    let space = behind-space styles faces place ys ∙ h.space place.space 0 in
    let hyphen = behind-hyphen styles faces place ys ∙ last_hyphen-any styles faces place.hyphen 0 ys h.filled in
    let less = last_space-le styles faces 0 ys in
    omega (arith, before, space, hyphen, less)

pub hyphen_is : (styles : List RunStyle) (faces : List Face) (place : Place) (ys : List Piece) → 0 < length ys
    → (place_behind styles faces place ys).hyphen ≡ last_hyphen styles faces 0 ys
hyphen_is styles faces place ys filled = behind-hyphen styles faces place ys
    ∙ last_hyphen-any styles faces place.hyphen 0 ys filled

pub behind-part : (styles : List RunStyle) (faces : List Face) (pieces : List Piece) (from to : ℕ) → from ≤ to
    → place_behind styles faces start (take to pieces)
    ≡ place_behind styles faces (place_behind styles faces start (take from pieces)) (part pieces from to)
behind-part styles faces pieces from to le =
    let sum : to ≡ from + (to - from) = omega arith in
    ap (λ (n : ℕ). place_behind styles faces start (take n pieces)) sum
    ∙ ap (place_behind styles faces start) (take-add from (to - from) pieces)
    ∙ behind-append styles faces start (take from pieces) (part pieces from to)
