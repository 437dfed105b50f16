-- A run has one list of lines, and its lines stay within it.
use Rattle.std.proofs.Common.{◌≡◌, ℕ, ◌+◌, ◌≤◌, ◌<◌, pos, List, [], ◌∷◌, length, drop, All, refl, sym, ap, subst, ◌∙◌, arith}
use Rattle.std.proofs.Common.{length-drop}
use Rattle.std.specs.Prelude.{◌⊎◌}
use Rattle.std.proofs.Common.{inl, inr}
use Rattle.std.specs.List.{AllByRecursion}
use Rattle.std.proofs.lemmas.Bool.{cases_lt}
use Rattle.std.proofs.lemmas.List.Elements.{All-from_recursion}
use Rattle.font_table.specs.declared.fonts.Face.{Face}
use Rattle.inline_text.specs.declared.content.Piece.{Piece}
use Rattle.inline_text.specs.declared.content.Runs.{Runs}
use Rattle.line_breaker.specs.declared.line.Line.{Line}
use Rattle.line_breaker.specs.Lines.{part, stretch_end, Counts, Fits, EndsAt, whole, last_that_fits, first, unbroken, HasHeight}
use Rattle.line_breaker.specs.Lines.{line_width, IsLine, AreLines}
use Rattle.line_breaker.proofs.Following.{stretch-within}
use Rattle.line_breaker.proofs.AllLines.{end_later}

-- ---- one end

-- the lesser of two ends is no last one, and the greater no first one
no_less : (P : ℕ → Type 0) (a b : ℕ) → P a → P b → ((k : ℕ) → a < k → P k → ⊥) → ((k : ℕ) → b < k → P k → ⊥) → a ≡ b
no_less P a b ha hb last_a last_b = by_order (cases_lt a b) (cases_lt b a)
  where
    by_order : ((a < b) ⊎ (b ≤ a)) → ((b < a) ⊎ (a ≤ b)) → a ≡ b
    by_order (inl lt) other = absurd (last_a b lt hb)
    by_order (inr le) (inl lt) = absurd (last_b a lt ha)
    by_order (inr le) (inr ge) = omega arith

no_more : (P : ℕ → Type 0) (a b : ℕ) → P a → P b → ((k : ℕ) → k < a → P k → ⊥) → ((k : ℕ) → k < b → P k → ⊥) → a ≡ b
no_more P a b ha hb first_a first_b = by_order (cases_lt a b) (cases_lt b a)
  where
    by_order : ((a < b) ⊎ (b ≤ a)) → ((b < a) ⊎ (a ≤ b)) → a ≡ b
    by_order (inl lt) other = absurd (first_b a lt ha)
    by_order (inr le) (inl lt) = absurd (first_a b lt hb)
    by_order (inr le) (inr ge) = omega arith

-- a stretch that fits where its end is
stretch_fits : (runs : Runs) (faces : List Face) (width from to : ℕ) → to ≡ stretch_end runs.pieces from
    → Fits runs faces width from to → Fits runs faces width from (stretch_end runs.pieces from)
stretch_fits runs faces width from to e fits = subst (Fits runs faces width from) e fits

pub one_end : (runs : Runs) (faces : List Face) (width from a b : ℕ) → EndsAt runs faces width from a
    → EndsAt runs faces width from b → a ≡ b
one_end runs faces width from a b (whole e fits) (whole e' fits') = e ∙ sym e'
one_end runs faces width from a b (whole e fits) (last_that_fits wide counted fits' later) =
    absurd (wide (stretch_fits runs faces width from a e fits))
one_end runs faces width from a b (whole e fits) (first wide none counted before) =
    absurd (wide (stretch_fits runs faces width from a e fits))
one_end runs faces width from a b (whole e fits) (unbroken none e') = e ∙ sym e'
one_end runs faces width from a b (last_that_fits wide counted fits later) (whole e' fits') =
    absurd (wide (stretch_fits runs faces width from b e' fits'))
one_end runs faces width from a b (last_that_fits wide counted fits later) (last_that_fits wide' counted' fits' later') =
    no_less (λ (k : ℕ). Counts runs from k × Fits runs faces width from k) a b (counted, fits) (counted', fits')
    (λ k lt h. later k lt h.0 h.1) (λ k lt h. later' k lt h.0 h.1)
one_end runs faces width from a b (last_that_fits wide counted fits later) (first wide' none counted' before) =
    absurd (none a counted fits)
one_end runs faces width from a b (last_that_fits wide counted fits later) (unbroken none e') = absurd (none a counted)
one_end runs faces width from a b (first wide none counted before) (whole e' fits') =
    absurd (wide (stretch_fits runs faces width from b e' fits'))
one_end runs faces width from a b (first wide none counted before) (last_that_fits wide' counted' fits' later') =
    absurd (none b counted' fits')
one_end runs faces width from a b (first wide none counted before) (first wide' none' counted' before') =
    no_more (Counts runs from) a b counted counted' before before'
one_end runs faces width from a b (first wide none counted before) (unbroken none' e') = absurd (none' a counted)
one_end runs faces width from a b (unbroken none e) (whole e' fits') = e ∙ sym e'
one_end runs faces width from a b (unbroken none e) (last_that_fits wide' counted' fits' later') = absurd (none b counted')
one_end runs faces width from a b (unbroken none e) (first wide' none' counted' before') = absurd (none b counted')
one_end runs faces width from a b (unbroken none e) (unbroken none' e') = e ∙ sym e'

-- ---- one list

line_of : ℕ → ℕ → ℕ → ℕ → Line
line_of from to w h = record { from = from; to = to; w = w; h = h }

parts_same : (from from' to to' w w' h h' : ℕ) → from ≡ from' → to ≡ to' → w ≡ w' → h ≡ h'
    → line_of from to w h ≡ line_of from' to' w' h'
parts_same from from' to to' w w' h h' e1 e2 e3 e4 = cc

fields_same : (x y : Line) → x.from ≡ y.from → x.to ≡ y.to → x.w ≡ y.w → x.h ≡ y.h → x ≡ y
unfolding line_of
fields_same x y e1 e2 e3 e4 = parts_same x.from y.from x.to y.to x.w y.w x.h y.h e1 e2 e3 e4

height_same : (runs : Runs) (faces : List Face) (strut : ℕ) (pieces : List Piece) (a b : ℕ)
    → HasHeight runs faces strut pieces a → HasHeight runs faces strut pieces b → a ≡ b
height_same runs faces strut pieces a b h k = let same : pos a ≡ pos b = h ∙ sym k in cc

line_same : (runs : Runs) (faces : List Face) (width strut from : ℕ) (x y : Line) → IsLine runs faces width strut from x
    → IsLine runs faces width strut from y → x ≡ y
line_same runs faces width strut from x y h k =
    let to = one_end runs faces width from x.to y.to h.ends k.ends in
    fields_same x y (h.begins ∙ sym k.begins) to
    (h.is_width ∙ ap (line_width runs faces from) to ∙ sym k.is_width)
    (height_same runs faces strut (part runs.pieces from x.to) x.h y.h h.is_height
    (subst (λ (n : ℕ). HasHeight runs faces strut (part runs.pieces from n) y.h) (sym to) k.is_height))

pub one_list : (runs : Runs) (faces : List Face) (width strut from : ℕ) (xs ys : List Line)
    → AreLines runs faces width strut from xs → AreLines runs faces width strut from ys → xs ≡ ys
one_list runs faces width strut from [] [] h k = refl
one_list runs faces width strut from [] (y ∷ ys) h k = absurd (k.0 h)
one_list runs faces width strut from (x ∷ xs) [] h k = absurd (h.0 k)
one_list runs faces width strut from (x ∷ xs) (y ∷ ys) h k =
    let same = line_same runs faces width strut from x y h.1 k.1 in
    let rest = one_list runs faces width strut x.to xs ys h.2
    (subst (λ (line : Line). AreLines runs faces width strut line.to ys) (sym same) k.2) in
    ap (λ (line : Line). line ∷ xs) same ∙ ap (λ (lines : List Line). y ∷ lines) rest

-- ---- lines stay within the run

end_within : (runs : Runs) (faces : List Face) (width from to : ℕ) → from ≤ length runs.pieces
    → EndsAt runs faces width from to → to ≤ length runs.pieces
end_within runs faces width from to le h = by_end h
  where
    most : stretch_end runs.pieces from ≤ length runs.pieces
    most = omega (arith, le, stretch-within (drop from runs.pieces), length-drop from runs.pieces)

    counted_within : Counts runs from to → to ≤ length runs.pieces
    counted_within counted = let lt = counted.before_end in omega (arith, most, lt)

    by_end : EndsAt runs faces width from to → to ≤ length runs.pieces
    by_end (whole e fits) = omega (arith, most, e)
    by_end (last_that_fits wide counted fits later) = counted_within counted
    by_end (first wide none counted before) = counted_within counted
    by_end (unbroken none e) = omega (arith, most, e)

within_by_recursion : (runs : Runs) (faces : List Face) (width strut from : ℕ) (lines : List Line) → from ≤ length runs.pieces
    → AreLines runs faces width strut from lines
    → AllByRecursion (λ (line : Line). line.to ≤ length runs.pieces) lines
within_by_recursion runs faces width strut from [] le are = tt
within_by_recursion runs faces width strut from (line ∷ lines) le are =
    let here = end_within runs faces width from line.to le are.1.ends in
    (here, within_by_recursion runs faces width strut line.to lines here are.2)

pub within : (runs : Runs) (faces : List Face) (width strut : ℕ) (lines : List Line) → AreLines runs faces width strut 0 lines
    → All (λ (line : Line). line.to ≤ length runs.pieces) lines
within runs faces width strut lines are =
    All-from_recursion (λ (line : Line). line.to ≤ length runs.pieces) lines
    (within_by_recursion runs faces width strut 0 lines (omega arith) are)

few_from : (runs : Runs) (faces : List Face) (width strut from : ℕ) (lines : List Line) → from ≤ length runs.pieces
    → AreLines runs faces width strut from lines → from + length lines ≤ length runs.pieces
few_from runs faces width strut from [] le are = omega arith
few_from runs faces width strut from (line ∷ lines) le are =
    let here = end_within runs faces width from line.to le are.1.ends in
    let later = end_later runs faces width from line.to are.0 are.1.ends in
    let rest = few_from runs faces width strut line.to lines here are.2 in
    omega (arith, later, rest)

pub few : (runs : Runs) (faces : List Face) (width strut : ℕ) (lines : List Line) → AreLines runs faces width strut 0 lines
    → length lines ≤ length runs.pieces
few runs faces width strut lines are = let all = few_from runs faces width strut 0 lines (omega arith) are in omega (arith, all)
