-- A height has a reason where it won't do, and keeps it up to the least bound of its columns.
use Rattle.std.proofs.Common.{◌≡◌, ℕ, suc, ◌==◌, ◌<◌, ◌≤◌, Bool, true, false, cond, not, ◌&&◌, List, [], ◌∷◌, refl, sym, ◌∙◌, ap}
use Rattle.std.proofs.Common.{arith}
use Rattle.std.proofs.Common.{length, Option, Some, None}
use Rattle.std.specs.Prelude.{nat_lt, nat_le}
use Rattle.std.proofs.lemmas.Bool.Decides.{nat_tests}
use Rattle.flow_list.specs.Certificate.{same_token}
use Rattle.flow_list.specs.Column.{Filled}
use Rattle.flow_list.specs.Data.{FlowsData}
use Rattle.flow_list.specs.Rows.{fill_in, rows_to, all_rows}
use Rattle.flow_list.specs.Tokens.{Token}
use Rattle.flow_laws.specs.Constant.{IsBelowEach, FillStays}
use Rattle.flow_laws.proofs.BoundsAbove.{rows_to-above}
use Rattle.flow_laws.proofs.RowsStay.{rows_to-stay}
use Rattle.piece_data.specs.LeastPiece.{Unfit, over, worse, other, unfit, will_do, cut_piece}

-- ---- columns that do have no reason, and those that don't have one

number-same : (i : ℕ) → (i == i) ≡ true
number-same i = grind (arith, nat_tests)

pub token-itself : (t : Token) → same_token t t ≡ true
token-itself [] = refl
token-itself (i ∷ t) = rw (number-same i) (token-itself t)

do-tests : (o w b s : Bool) → w ≡ not b → (at : Token) → (not o && b && s) ≡ true →
    cond o (Some over) (cond w (Some worse) (cond s None (Some (other at)))) ≡ None
do-tests true w b s e at k = absurd cc
do-tests false true b s e at k = which b e k
  where
    which : (b : Bool) → true ≡ not b → (b && s) ≡ true → Some worse ≡ None
    which true e k = absurd cc
    which false e k = absurd cc
do-tests false false b true e at k = refl
do-tests false false true false e at k = absurd cc
do-tests false false false false e at k = absurd cc

none-tests : (o w b s : Bool) → w ≡ not b → (at : Token) →
    cond o (Some over) (cond w (Some worse) (cond s None (Some (other at)))) ≡ None → (not o && b && s) ≡ true
none-tests true w b s e at k = absurd cc
none-tests false true b s e at k = absurd cc
none-tests false false b false e at k = absurd cc
none-tests false false true true e at k = refl
none-tests false false false true e at k = absurd cc

level-test : (wanted made : ℕ) → nat_lt wanted made ≡ not (nat_le made wanted)
level-test wanted made = go (nat_lt wanted made) refl (nat_le made wanted) refl
  where
    go : (a : Bool) → nat_lt wanted made ≡ a → (b : Bool) → nat_le made wanted ≡ b → a ≡ not b
    go true e true f = absurd (grind (arith, nat_tests))
    go true e false f = refl
    go false e true f = refl
    go false e false f = absurd (grind (arith, nat_tests))

pub do-none : (wanted made : Filled) → will_do wanted made ≡ true → unfit wanted made ≡ None
do-none wanted made e = do-tests made.overflow (nat_lt wanted.level made.level) (nat_le made.level wanted.level)
    (same_token made.end wanted.end) (level-test wanted.level made.level) made.end e

pub none-does : (wanted made : Filled) → unfit wanted made ≡ None → will_do wanted made ≡ true
none-does wanted made e = none-tests made.overflow (nat_lt wanted.level made.level) (nat_le made.level wanted.level)
    (same_token made.end wanted.end) (level-test wanted.level made.level) made.end e

-- columns that overflow nowhere do in place of themselves
pub does-itself : (wanted : Filled) → wanted.overflow ≡ false → will_do wanted wanted ≡ true
does-itself wanted fine =
    let le : nat_le wanted.level wanted.level ≡ true = grind (arith, nat_tests) in
    rw (fine, le, token-itself wanted.end) refl

-- ---- the reason stays

pub unfit-stays : (wanted a b : Filled) → FillStays a b → unfit wanted b ≡ unfit wanted a
unfit-stays wanted a b same = go a.overflow refl
  where
    go : (o : Bool) → a.overflow ≡ o → unfit wanted b ≡ unfit wanted a
    go true e = rw (same.overflow, e) refl
    go false e = rw (same.overflow, same.level e, same.end e) refl

-- so of a piece, whose bounds are all above its height
pub piece-stays : (d : FlowsData) (r : ℕ) (q : Token) (lo h : ℕ) → lo ≤ h → IsBelowEach h (cut_piece d r q lo).bounds →
    FillStays (cut_piece d r q lo) (cut_piece d r q h)
unfolding rows_to all_rows
piece-stays d r q lo h le below = rows_to-stay d (suc (length d.rows)) r q lo h le below

pub piece-above : (d : FlowsData) (r : ℕ) (q : Token) (h : ℕ) → IsBelowEach h (cut_piece d r q h).bounds
unfolding rows_to all_rows
piece-above d r q h = rows_to-above d (suc (length d.rows)) r q h
