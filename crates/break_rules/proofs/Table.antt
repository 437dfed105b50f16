-- The level by tests is the level of the table, and the only one.
use Rattle.std.proofs.Common.{◌≡◌, ℕ, ◌<◌, ◌∙◌, ◌⊎◌, Bool, true, false, ◌||◌, ◌&&◌, List, Option, Some, None, IsTrue, IsNone}
use Rattle.std.proofs.Common.{get_or, refl, sym, subst, inl, inr, ⊎_elim, cond, ltb, arith}
use Rattle.std.specs.Prelude.{is_none, IsSomeAnd}
use Rattle.std.proofs.lemmas.Bool.Decides.{nat_tests}
use Rattle.std.specs.List.{list_any, Contains, Any}
use Rattle.std.proofs.lemmas.List.Folds.{Any-from_list_any, list_any-from_Any}
use Rattle.mc_base.specs.declared.level.Level.{Level}
use Rattle.mc_base.specs.declared.level.Level.TheVariants.{Forced, L0, L1, L2}
use Rattle.break_rules.specs.declared.seam.BreakValue.{BreakValue}
use Rattle.break_rules.specs.declared.seam.BreakValue.TheVariants.{Auto, Avoid, Column}
use Rattle.break_rules.specs.declared.seam.LineCounts.{LineCounts}
use Rattle.break_rules.specs.declared.seam.SeamBoxes.{SeamBoxes}
use Rattle.break_rules.specs.Levels.{IsForced, AvoidsBreak, LeavesFewLines, IsLevelOf, is_column, is_avoid, is_forced}
use Rattle.break_rules.specs.Levels.{avoids_break, few_of, level_of}

-- what a test says, where it is true and where it is false
Says : Bool → Type 0 → Type 0
Says true P = P
Says false P = ¬ P

says_or : (a b : Bool) (P Q : Type 0) → Says a P → Says b Q → Says (a || b) (P ⊎ Q)
unfolding Says
says_or true b P Q p q = inl p
says_or false true P Q p q = inr q
says_or false false P Q p q = λ h. ⊎_elim p q h

says_and : (a b : Bool) (P Q : Type 0) → Says a P → Says b Q → Says (a && b) (P × Q)
unfolding Says
says_and true true P Q p q = (p, q)
says_and true false P Q p q = λ h. q h.1
says_and false b P Q p q = λ h. p h.0

says_is : (b : Bool) → Says b (IsTrue b)
unfolding Says
says_is true = refl
says_is false = λ h. absurd (cc)

says_none : (lines : Option LineCounts) → Says (is_none lines) (IsNone lines)
unfolding Says
says_none None = refl
says_none (Some lines) = λ h. absurd (cc)

by_test : (b : Bool) (P : Bool → Type 0) → (b ≡ true → P true) → (b ≡ false → P false) → P b
by_test b P at_true at_false = elim b as (λ v. (v ≡ true → P true) → (v ≡ false → P false) → P v)
    [ true ↦ λ f g. f refl | false ↦ λ f g. g refl ] at_true at_false

says_less : (m n : ℕ) → Says (ltb m n) (m < n)
unfolding Says
says_less m n = by_test (ltb m n) (λ b. Says b (m < n)) (λ e. grind (arith, nat_tests)) (λ e h. grind (arith, nat_tests))

-- a list passes a test that one value alone passes where that value is in it
says_contains : (p : BreakValue → Bool) (value : BreakValue) → p value ≡ true → ((y : BreakValue) → p y ≡ true → y ≡ value)
    → (xs : List BreakValue) → Says (list_any p xs) (Contains xs value)
unfolding Says
says_contains p value passes alone xs =
    by_test (list_any p xs) (λ b. Says b (Contains xs value))
    (λ e. let found : Any (λ x. p x ≡ true) xs = Any-from_list_any p xs e in
    (found.0, found.2, subst (λ (y : BreakValue). get_or xs found.0 y ≡ y) (alone found.1 found.4) found.3))
    (λ e h. let passed : list_any p xs ≡ true = list_any-from_Any p xs (h.0, value, h.1, h.2, passes) in cc)

column_alone : (y : BreakValue) → is_column y ≡ true → y ≡ Column
column_alone Auto e = cc
column_alone Avoid e = cc
column_alone Column e = refl

avoid_alone : (y : BreakValue) → is_avoid y ≡ true → y ≡ Avoid
avoid_alone Auto e = cc
avoid_alone Avoid e = refl
avoid_alone Column e = cc

says_forced : (seam : SeamBoxes) → Says (is_forced seam) (IsForced seam)
says_forced seam = says_or _ _ _ _ (says_contains is_column Column refl column_alone seam.after)
    (says_contains is_column Column refl column_alone seam.before)

says_avoids : (seam : SeamBoxes) → Says (avoids_break seam) (AvoidsBreak seam)
says_avoids seam =
    says_or _ _ _ _
    (says_and _ _ _ _ (says_none seam.lines)
    (says_or _ _ _ _ (says_contains is_avoid Avoid refl avoid_alone seam.after)
    (says_contains is_avoid Avoid refl avoid_alone seam.before)))
    (says_is seam.inside_avoid)

says_few_of : (lines : Option LineCounts)
    → Says (few_of lines) (IsSomeAnd lines (λ lines. (lines.before < lines.orphans) ⊎ (lines.after < lines.widows)))
unfolding Says
says_few_of None = λ h. h
says_few_of (Some lines) = says_or (ltb lines.before lines.orphans) (ltb lines.after lines.widows) (lines.before < lines.orphans)
    (lines.after < lines.widows) (says_less lines.before lines.orphans) (says_less lines.after lines.widows)

table_at : (seam : SeamBoxes) (forced avoids few : Bool) → Says forced (IsForced seam) → Says avoids (AvoidsBreak seam)
    → Says few (LeavesFewLines seam) → IsLevelOf seam (cond forced Forced (cond avoids L2 (cond few L1 L0)))
unfolding Says
table_at seam true avoids few p q r = p
table_at seam false true few p q r = (p, q)
table_at seam false false true p q r = (p, q, r)
table_at seam false false false p q r = (p, q, r)

only_at : (seam : SeamBoxes) (forced avoids few : Bool) → Says forced (IsForced seam) → Says avoids (AvoidsBreak seam)
    → Says few (LeavesFewLines seam) → (other : Level) → IsLevelOf seam other
    → other ≡ cond forced Forced (cond avoids L2 (cond few L1 L0))
unfolding Says
only_at seam true avoids few p q r Forced h = refl
only_at seam true avoids few p q r L2 h = absurd (h.0 p)
only_at seam true avoids few p q r L1 h = absurd (h.0 p)
only_at seam true avoids few p q r L0 h = absurd (h.0 p)
only_at seam false true few p q r Forced h = absurd (p h)
only_at seam false true few p q r L2 h = refl
only_at seam false true few p q r L1 h = absurd (h.1 q)
only_at seam false true few p q r L0 h = absurd (h.1 q)
only_at seam false false true p q r Forced h = absurd (p h)
only_at seam false false true p q r L2 h = absurd (q h.1)
only_at seam false false true p q r L1 h = refl
only_at seam false false true p q r L0 h = absurd (h.2 r)
only_at seam false false false p q r Forced h = absurd (p h)
only_at seam false false false p q r L2 h = absurd (q h.1)
only_at seam false false false p q r L1 h = absurd (r h.2)
only_at seam false false false p q r L0 h = refl

pub table_of : (seam : SeamBoxes) (level : Level) → level ≡ level_of seam → IsLevelOf seam level
table_of seam level e =
    subst (λ (l : Level). IsLevelOf seam l) (sym e)
    (table_at seam _ _ _ (says_forced seam) (says_avoids seam) (says_few_of seam.lines))

pub only_of : (seam : SeamBoxes) (level : Level) → level ≡ level_of seam → (other : Level) → IsLevelOf seam other → other ≡ level
only_of seam level e other h = only_at seam _ _ _ (says_forced seam) (says_avoids seam) (says_few_of seam.lines) other h ∙ sym e
