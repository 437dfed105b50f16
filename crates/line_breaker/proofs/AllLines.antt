-- What follows for all lines.
use Rattle.std.proofs.Common.{◌≡◌, ℕ, zero, suc, ◌+◌, ◌-◌, ◌≤◌, ◌<◌, Bool, true, false, ◌&&◌, List, [], ◌∷◌, ◌++◌, length, get_or}
use Rattle.std.proofs.Common.{ltb, ℤ, pos, ◌+ℤ◌, drop, Some, All, inl, inr, refl, sym, ap, subst, ◌∙◌, arith, append_assoc}
use Rattle.std.proofs.Common.{length-drop}
use Rattle.std.specs.Prelude.{IsTrue, slice_get}
use Rattle.std.specs.List.{AllByRecursion}
use Rattle.std.proofs.lemmas.List.{drop-drop, take-append-drop}
use Rattle.std.proofs.lemmas.List.Elements.{All-from_recursion}
use Rattle.std.proofs.lemmas.Bool.{lt-ltb}
use Rattle.font_table.specs.declared.fonts.Face.{Face}
use Rattle.inline_text.specs.declared.content.Piece.{Piece}
use Rattle.inline_text.specs.declared.content.RunStyle.{RunStyle}
use Rattle.inline_text.specs.declared.content.Runs.{Runs}
use Rattle.inline_text.specs.Opportunities.{opportunity_at, opportunities_behind}
use Rattle.line_breaker.specs.declared.line.Line.{Line}
use Rattle.line_breaker.specs.declared.places.Place.{Place}
use Rattle.line_breaker.specs.declared.ahead.Ahead.{Ahead}
use Rattle.line_breaker.specs.Lines.{part, stretch_end, Counts, Fits, EndsAt, whole, last_that_fits, first, unbroken, IsLine}
use Rattle.line_breaker.specs.Lines.{AreLines, is_chance, pieces_of, HoldsAll, IsNarrow}
use Rattle.line_breaker.specs.Measures.{greatest_above, greatest_below}
use Rattle.line_breaker.specs.Arrays.{start, place_at, ahead_at, ahead_of, IsMeasured}
use Rattle.line_breaker.proofs.Between.{place_at-from, length-places}
use Rattle.line_breaker.proofs.Following.{ahead_at-from, length-aheads, end_is, stretch-some, stretch-within}
use Rattle.line_breaker.proofs.Ends.{Setting}

abbrev pub IsChance : Piece → Type 0
IsChance piece = IsTrue (is_chance piece)

abbrev pub AreChances : List Piece → Type 0
AreChances pieces = All (λ piece. IsTrue (is_chance piece)) pieces

-- where a line is made, pieces are left
some_left : (pieces : List Piece) → (AreChances pieces → ⊥) → 0 < length pieces
some_left [] h = absurd (h (λ k d lt. absurd (omega arith)))
some_left (p ∷ ps) h = omega arith

pub end_later : (runs : Runs) (faces : List Face) (width from to : ℕ) → (AreChances (drop from runs.pieces) → ⊥)
    → EndsAt runs faces width from to → from < to
end_later runs faces width from to some (whole e fits) =
    omega (arith, e, stretch-some (drop from runs.pieces) (some_left (drop from runs.pieces) some))
end_later runs faces width from to some (last_that_fits wide counted fits later) = counted.behind
end_later runs faces width from to some (first wide none counted before) = counted.behind
end_later runs faces width from to some (unbroken none e) =
    omega (arith, e, stretch-some (drop from runs.pieces) (some_left (drop from runs.pieces) some))

filled_by_recursion : (runs : Runs) (faces : List Face) (width strut from : ℕ) (lines : List Line)
    → AreLines runs faces width strut from lines → AllByRecursion (λ (line : Line). line.from < line.to) lines
filled_by_recursion runs faces width strut from [] are = tt
filled_by_recursion runs faces width strut from (line ∷ lines) are =
    let begins = are.1.begins in
    let later = end_later runs faces width from line.to are.0 are.1.ends in
    (omega (arith, begins, later), filled_by_recursion runs faces width strut line.to lines are.2)

pub filled : (runs : Runs) (faces : List Face) (width strut from : ℕ) (lines : List Line)
    → AreLines runs faces width strut from lines → All (λ (line : Line). line.from < line.to) lines
filled runs faces width strut from lines are =
    All-from_recursion (λ (line : Line). line.from < line.to) lines (filled_by_recursion runs faces width strut from lines are)

narrow_line : (runs : Runs) (faces : List Face) (width strut from : ℕ) (line : Line) → IsLine runs faces width strut from line
    → EndsAt runs faces width from line.to → IsNarrow runs faces width line
narrow_line runs faces width strut from line h (whole e fits) = let w = h.is_width in inl (omega (arith, w, fits))
narrow_line runs faces width strut from line h (last_that_fits wide counted fits later) = let w = h.is_width
    in inl (omega (arith, w, fits))
narrow_line runs faces width strut from line h (first wide none counted before) =
    inr (subst (λ (n : ℕ). (place : ℕ) → Counts runs n place → Fits runs faces width n place → ⊥) (sym h.begins) none)
narrow_line runs faces width strut from line h (unbroken none e) =
    inr (subst (λ (n : ℕ). (place : ℕ) → Counts runs n place → Fits runs faces width n place → ⊥) (sym h.begins)
    (λ place counted fits. none place counted))

narrow_by_recursion : (runs : Runs) (faces : List Face) (width strut from : ℕ) (lines : List Line)
    → AreLines runs faces width strut from lines → AllByRecursion (IsNarrow runs faces width) lines
narrow_by_recursion runs faces width strut from [] are = tt
narrow_by_recursion runs faces width strut from (line ∷ lines) are = (
  narrow_line runs faces width strut from line are.1 are.1.ends,
  narrow_by_recursion runs faces width strut line.to lines are.2,
)

pub narrow : (runs : Runs) (faces : List Face) (width strut from : ℕ) (lines : List Line)
    → AreLines runs faces width strut from lines → All (IsNarrow runs faces width) lines
narrow runs faces width strut from lines are =
    All-from_recursion (IsNarrow runs faces width) lines (narrow_by_recursion runs faces width strut from lines are)

pub record HoldsFrom (pieces : List Piece) (from : ℕ) (lines : List Line) : Type 0 where
  pub rest : List Piece
  pub whole : pieces_of pieces lines ++ rest ≡ drop from pieces
  pub chances : AreChances rest

pub holds_from : (runs : Runs) (faces : List Face) (width strut from : ℕ) (lines : List Line)
    → AreLines runs faces width strut from lines → HoldsFrom runs.pieces from lines
holds_from runs faces width strut from [] are = record { rest = drop from runs.pieces; whole = refl; chances = are }
holds_from runs faces width strut from (line ∷ lines) are =
    let pieces = runs.pieces in
    let deeper = holds_from runs faces width strut line.to lines are.2 in
    let later = end_later runs faces width from line.to are.0 are.1.ends in
    let sum : from + (line.to - from) ≡ line.to = omega (arith, later) in
    let seam : part pieces from line.to ++ drop line.to pieces ≡ drop from pieces =
    ap (λ (n : ℕ). part pieces from line.to ++ drop n pieces) (sym sum)
    ∙ ap (λ (ps : List Piece). part pieces from line.to ++ ps) (sym (drop-drop (line.to - from) from pieces))
    ∙ take-append-drop (line.to - from) (drop from pieces) in
    record {
      rest = deeper.rest;
      whole = ap (λ (n : ℕ). part pieces n line.to ++ pieces_of pieces lines ++ deeper.rest) are.1.begins
          ∙ append_assoc (part pieces from line.to) (pieces_of pieces lines) deeper.rest
          ∙ ap (λ (ps : List Piece). part pieces from line.to ++ ps) deeper.whole ∙ seam;
      chances = deeper.chances;
    }

pub holds_all : (runs : Runs) (faces : List Face) (width strut : ℕ) (lines : List Line) → AreLines runs faces width strut 0 lines
    → HoldsAll runs.pieces lines
holds_all runs faces width strut lines are = let h = holds_from runs faces width strut 0 lines are
    in record { rest = h.rest; whole = h.whole; chances = h.chances }

-- ---- a run that is measured

read_again : (xs : List Bool) (k : ℕ) (b : Bool) → slice_get xs k ≡ Some b → get_or xs k false ≡ b
read_again [] k b e = absurd cc
read_again (x ∷ xs) zero b e = cc
read_again (x ∷ xs) (suc k) b e = read_again xs k b e

pub setting : (runs : Runs) (faces : List Face) (places : List Place) (ahead : List Ahead) (from : ℕ)
    (h : IsMeasured runs faces places ahead) → from < length runs.pieces → Setting runs faces places h.opportunities ahead from
setting runs faces places ahead from h lt = record {
  places_are = λ k le. ap (λ (ps : List Place). place_at ps k) h.places_are
      ∙ place_at-from runs.styles faces start runs.pieces k le;
  ahead_is = λ k le.
      let same : 0 + k ≡ k = omega arith in
      ap (λ (xs : List Ahead). ahead_at xs k) h.ahead_are ∙ ahead_at-from places h.opportunities 0 runs.pieces k le
      ∙ ap (λ (n : ℕ). ahead_of places h.opportunities n (drop k runs.pieces)) same;
  opportunities_are = λ k later le.
      let some : ltb 0 k ≡ true = lt-ltb 0 k later in
      let same : k - 1 + 1 ≡ k = omega arith in
      ap (λ (b : Bool). b && get_or h.opportunities (k - 1) false) some
      ∙ read_again h.opportunities (k - 1) (opportunity_at runs (k - 1 + 1)) (h.opportunities_are (k - 1) (omega arith))
      ∙ ap (opportunity_at runs) same;
  within = lt;
}

pub record Facts (runs : Runs) (places : List Place) (ahead : List Ahead) (from : ℕ) : Type 0 where
  pub places_len : length places ≡ length runs.pieces + 1
  pub ahead_len : length ahead ≡ length runs.pieces + 1
  pub end : (ahead_at ahead from).end ≡ stretch_end runs.pieces from
  pub later : from < stretch_end runs.pieces from
  pub within : stretch_end runs.pieces from ≤ length runs.pieces

pub facts : (runs : Runs) (faces : List Face) (places : List Place) (ahead : List Ahead) (from : ℕ)
    → IsMeasured runs faces places ahead → from < length runs.pieces → Facts runs places ahead from
facts runs faces places ahead from h lt =
    let s = setting runs faces places ahead from h lt in
    record {
      places_len = ap length h.places_are ∙ length-places runs.styles faces start runs.pieces;
      ahead_len = ap length h.ahead_are ∙ length-aheads places h.opportunities 0 runs.pieces;
      end = ap (λ (a : Ahead). a.end) (s.ahead_is from (omega arith))
          ∙ end_is places h.opportunities from (drop from runs.pieces);
      later = omega (arith, stretch-some (drop from runs.pieces) (omega (arith, length-drop from runs.pieces)));
      within = omega (arith, stretch-within (drop from runs.pieces), length-drop from runs.pieces);
    }

pub length-opportunities : (styles : List RunStyle) (before pieces : List Piece)
    → length (opportunities_behind styles before pieces) ≡ length pieces
length-opportunities styles before [] = refl
length-opportunities styles before (p ∷ ps) = ap (λ (n : ℕ). suc n) (length-opportunities styles (p ∷ before) ps)

pub height_is : (styles styles' : List RunStyle) (faces : List Face) (a a' b b' : ℤ) (ps ps' : List Piece) (h : ℕ)
    → styles ≡ styles' → a ≡ a' → b ≡ b' → ps ≡ ps'
    → pos h ≡ greatest_above styles faces a ps +ℤ greatest_below styles faces b ps
    → pos h ≡ greatest_above styles' faces a' ps' +ℤ greatest_below styles' faces b' ps'
height_is styles styles' faces a a' b b' ps ps' h same_styles same_a same_b same_ps e =
    e ∙ ap (λ (s : List RunStyle). greatest_above s faces a ps +ℤ greatest_below s faces b ps) same_styles
    ∙ ap (λ (x : ℤ). greatest_above styles' faces x ps +ℤ greatest_below styles' faces b ps) same_a
    ∙ ap (λ (x : ℤ). greatest_above styles' faces a' ps +ℤ greatest_below styles' faces x ps) same_b
    ∙ ap (λ (xs : List Piece). greatest_above styles' faces a' xs +ℤ greatest_below styles' faces b' xs) same_ps
