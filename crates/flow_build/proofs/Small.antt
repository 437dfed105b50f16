-- What the makers of marks and flows ask for.
use Rattle.std.proofs.Common.{◌≡◌, ℕ, ◌<◌, ◌≤◌, ◌^◌, ◌-◌, Bool, true, false, List, [], ◌∷◌, length, refl, arith}
use Rattle.std.specs.Prelude.{nat_lt, ◌||◌}
use Rattle.std.specs.List.{All, AllByRecursion, list_any}
use Rattle.std.proofs.lemmas.List.Elements.{All-from_recursion, recursion_from_All}
use Rattle.std.proofs.lemmas.Bool.Decides.{nat_tests}
use Rattle.box_data.specs.declared.placed.Placed.{Placed}
use Rattle.box_data.specs.Content.{Content, done, opens, closes, leaf, holds, spanner}
use Rattle.doc_laws.specs.Laws.{IsNear}
use Rattle.doc_laws.specs.Nesting.{NoSpanner}
use Rattle.flow_maker.specs.Premises.{IsSmall, HasNoSpanner}
use Rattle.flow_build.specs.Few.{has_many_lines, most}

not-above : (n m : ℕ) → nat_lt n m ≡ false → m ≤ n
not-above n m h = grind (arith, nat_tests)

few-each : (ps : List Placed) → list_any has_many_lines ps ≡ false → AllByRecursion (λ (p : Placed). length p.lines ≤ most) ps
few-each [] h = tt
few-each (p ∷ ps) h = go (has_many_lines p) refl h (few-each ps)
  where
    go : (b : Bool) → has_many_lines p ≡ b → (b || list_any has_many_lines ps) ≡ false
        → (list_any has_many_lines ps ≡ false → AllByRecursion (λ (p : Placed). length p.lines ≤ most) ps)
        → (length p.lines ≤ most) × AllByRecursion (λ (p : Placed). length p.lines ≤ most) ps
    go true e h more = absurd cc
    go false e h more = (not-above most (length p.lines) e, more h)

countable : (ps : List Placed) → AllByRecursion (λ (p : Placed). length p.lines ≤ most) ps
    → AllByRecursion (λ (p : Placed). length p.lines < 2 ^ 32) ps
countable [] h = tt
countable (p ∷ ps) (h, hs) = (omega (arith, h), countable ps hs)

pub lines-are-few : (ps : List Placed) → list_any has_many_lines ps ≡ false → All (λ (p : Placed). length p.lines < 2 ^ 32) ps
lines-are-few ps h = All-from_recursion (λ (p : Placed). length p.lines < 2 ^ 32) ps (countable ps (few-each ps h))

small : (ps : List Placed) → AllByRecursion IsNear ps → AllByRecursion (λ (p : Placed). length p.lines ≤ most) ps
    → AllByRecursion IsSmall ps
small [] near few = tt
small (p ∷ ps) (h, hs) (f, fs) =
    (record { content_x = h.content_x; line_w = h.columns_w; columns = h.columns_n; lines = omega (arith, f) }, small ps hs fs)

pub all-small : (ps : List Placed) → All IsNear ps → list_any has_many_lines ps ≡ false → All IsSmall ps
all-small ps near few = All-from_recursion IsSmall ps (small ps (recursion_from_All IsNear ps near) (few-each ps few))

pub no-spanner : (c : Content) → NoSpanner c → HasNoSpanner c
no-spanner done h = tt
no-spanner (opens p next) h = no-spanner next h
no-spanner (closes p next) h = no-spanner next h
no-spanner (leaf l next) h = no-spanner next h
no-spanner (holds x inside next) (h, hs) = (no-spanner inside h, no-spanner next hs)
no-spanner (spanner inside next) h = absurd h
