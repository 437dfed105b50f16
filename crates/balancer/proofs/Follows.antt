-- Ranges that follow one another: in parts, and up to the top.
use Rattle.std.proofs.Common.{◌≡◌, ℕ, ◌<◌, ◌≤◌, Bool, true, false, cond, List, [], ◌∷◌, ◌++◌}
use Rattle.std.proofs.Common.{Option, Some, None, refl, sym, ◌∙◌, arith}
use Rattle.std.specs.Prelude.{max, min, nat_lt}
use Rattle.std.proofs.lemmas.Bool.Decides.{nat_tests}
use Rattle.flow_list.specs.Ranges.{Range, Reason, is_past, range_up_to}
use Rattle.flow_laws.specs.RangeLaws.{FollowOn}

pub follow-append : (a b c : ℕ) (xs ys : List Range) → FollowOn a b xs → FollowOn b c ys → FollowOn a c (xs ++ ys)
follow-append a b c [] ys e f = rw e f
follow-append a b c (x ∷ xs) ys e f = (e.0, e.1, follow-append x.high b c xs ys e.2 f)

-- ranges end in one place
pub follow-one : (a b c : ℕ) (xs : List Range) → FollowOn a b xs → FollowOn a c xs → b ≡ c
follow-one a b c [] e f = sym e ∙ f
follow-one a b c (x ∷ xs) e f = follow-one x.high b c xs e.2 f.2

pub follow-le : (a b : ℕ) (xs : List Range) → FollowOn a b xs → a ≤ b
follow-le a b [] e = let same = e in omega arith
follow-le a b (x ∷ xs) e = let rest = follow-le x.high b xs e.2 in let more = e.1 in omega arith

-- what follows the first ones
pub follow-rest : (a b c : ℕ) (xs ys : List Range) → FollowOn a b xs → FollowOn a c (xs ++ ys) → FollowOn b c ys
follow-rest a b c [] ys e f = rw (← e) f
follow-rest a b c (x ∷ xs) ys e f = follow-rest x.high b c xs ys e.2 f.2

-- the lesser of a height and the top, where that is given
abbrev pub capped : Option ℕ → ℕ → ℕ
capped None h = h
capped (Some top) h = min h top

pub capped-below : (top : Option ℕ) (h : ℕ) → is_past top h ≡ false → capped top h ≡ h
capped-below None h e = refl
capped-below (Some t) h e = let lt : h < t = grind (arith, nat_tests) in omega arith

-- a range up to a height goes there, where it is above
pub up-follows : (top : Option ℕ) (low high : ℕ) (reason : Reason) →
    FollowOn (capped top low) (capped top (max low high)) (range_up_to top low high reason)
up-follows None low high reason = go (nat_lt low high) refl
  where
    go : (b : Bool) → nat_lt low high ≡ b → FollowOn low (max low high)
        (cond b (record { low = low; high = high; reason = reason; lines = [] } ∷ []) [])
    go true e = let lt : low < high = grind (arith, nat_tests) in (refl, lt, omega arith)
    go false e = let le : high ≤ low = grind (arith, nat_tests) in omega arith
up-follows (Some t) low high reason = go (nat_lt low (min high t)) refl
  where
    go : (b : Bool) → nat_lt low (min high t) ≡ b → FollowOn (min low t) (min (max low high) t)
        (cond b (record { low = low; high = min high t; reason = reason; lines = [] } ∷ []) [])
    go true e = let lt : low < min high t = grind (arith, nat_tests) in (omega arith, omega arith, omega arith)
    go false e = let le : min high t ≤ low = grind (arith, nat_tests) in omega arith
