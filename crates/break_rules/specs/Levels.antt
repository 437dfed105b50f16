-- The level of a break at a seam, by what the boxes there ask for (CSS Fragmentation 3, sections 4.1, 4.3 and 4.4).
use Rattle.std.specs.Prelude.{◌<◌, ◌⊎◌, Bool, true, false, ◌||◌, ◌&&◌, Option, Some, None, IsTrue, IsNone, IsSomeAnd, is_none}
use Rattle.std.specs.Prelude.{Contains, nat_lt, if◌then◌else◌}
use Rattle.std.specs.List.{list_any}
use Rattle.mc_base.specs.declared.level.Level.{Level}
use Rattle.mc_base.specs.declared.level.Level.TheVariants.{Forced, L0, L1, L2}
use Rattle.break_rules.specs.declared.seam.BreakValue.{BreakValue}
use Rattle.break_rules.specs.declared.seam.BreakValue.TheVariants.{Auto, Avoid, Column}
use Rattle.break_rules.specs.declared.seam.LineCounts.{LineCounts}
use Rattle.break_rules.specs.declared.seam.SeamBoxes.{SeamBoxes}

-- a box that ends at the seam forces a break after it, or one that starts there forces a break before it
abbrev pub IsForced : SeamBoxes → Type 0
IsForced seam = Contains seam.after Column ⊎ Contains seam.before Column

-- such a box avoids a break there
abbrev pub AvoidsBreakHere : SeamBoxes → Type 0
AvoidsBreakHere seam = Contains seam.after Avoid ⊎ Contains seam.before Avoid

-- a break at the seam is avoided: where it doesn't stand between two lines of one block container (class A) by a box that
-- ends or starts there, at every seam by a box that is open across it
abbrev pub AvoidsBreak : SeamBoxes → Type 0
AvoidsBreak seam = (IsNone seam.lines × AvoidsBreakHere seam) ⊎ IsTrue seam.inside_avoid

-- between two lines of one block container (class B), with fewer lines before it than `orphans` or fewer after it than
-- `widows`
abbrev pub LeavesFewLines : SeamBoxes → Type 0
LeavesFewLines seam = IsSomeAnd seam.lines (λ lines. (lines.before < lines.orphans) ⊎ (lines.after < lines.widows))

-- a forced break overrides one that is avoided, and that one a break that leaves too few lines
abbrev pub IsLevelOf : SeamBoxes → Level → Type 0
IsLevelOf seam Forced = IsForced seam
IsLevelOf seam L2 = ¬ IsForced seam × AvoidsBreak seam
IsLevelOf seam L1 = ¬ IsForced seam × ¬ AvoidsBreak seam × LeavesFewLines seam
IsLevelOf seam L0 = ¬ IsForced seam × ¬ AvoidsBreak seam × ¬ LeavesFewLines seam

-- The same by tests, for definitions that compute a level.

abbrev pub is_column : BreakValue → Bool
is_column Auto = false
is_column Avoid = false
is_column Column = true

abbrev pub is_avoid : BreakValue → Bool
is_avoid Auto = false
is_avoid Avoid = true
is_avoid Column = false

abbrev pub is_forced : SeamBoxes → Bool
is_forced seam = list_any is_column seam.after || list_any is_column seam.before

abbrev pub avoids_break : SeamBoxes → Bool
avoids_break seam = (is_none seam.lines && (list_any is_avoid seam.after || list_any is_avoid seam.before)) || seam.inside_avoid

abbrev pub few_of : Option LineCounts → Bool
few_of None = false
few_of (Some lines) = nat_lt lines.before lines.orphans || nat_lt lines.after lines.widows

abbrev pub leaves_few_lines : SeamBoxes → Bool
leaves_few_lines seam = few_of seam.lines

-- the level of a seam
abbrev pub level_of : SeamBoxes → Level
level_of seam = if is_forced seam then Forced else if avoids_break seam then L2 else if leaves_few_lines seam then L1 else L0
