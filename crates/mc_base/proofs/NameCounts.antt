-- What noting a failed read does to the counts of names.
use Rattle.std.proofs.Common.{◌≡◌, ◌≢◌, ℕ, ◌+◌, ◌<◌, ◌≤◌, List, [], ◌∷◌, ◌++◌, Bool, true, false, cond, length, drop, refl, sym}
use Rattle.std.proofs.Common.{ap, ◌∙◌, arith, length-drop}
use Rattle.std.specs.Str.{bytes_eq}
use Rattle.std.specs.Io.{StartsWith}
use Rattle.std.proofs.lemmas.Slice.Eq.{bytes_eq-Decides}
use Rattle.std.proofs.lemmas.List.Sums.{sum_by_push}
use Rattle.std.proofs.lemmas.List.{take-append-drop}
use Rattle.mc_base.specs.Outside.{times_of, IsNoted, AppendsAtMost}
use Rattle.mc_base.specs.declared.outside.FileFault.{FileFault}
use Rattle.mc_base.specs.declared.outside.FileFault.TheVariants.{Failed, TooLong, NoMemory}

-- a name that is added counts once more
pub times_of-push_same : (names : List (List ℕ)) (name : List ℕ) → times_of name (names ++ name ∷ []) ≡ times_of name names + 1
times_of-push_same names name =
    sum_by_push (λ x. cond (bytes_eq name x) 1 0) names name
    ∙ ap (λ b. times_of name names + cond b 1 0) ((bytes_eq-Decides name name).1 refl)

-- another name counts as before
other_zero : (b : Bool) (n : ℕ) → (b ≡ true → ⊥) → n + cond b 1 0 ≡ n
other_zero true n h = absurd (h refl)
other_zero false n h = omega arith

pub times_of-push_other : (names : List (List ℕ)) (name other : List ℕ) → other ≢ name
    → times_of other (names ++ name ∷ []) ≡ times_of other names
times_of-push_other names name other h =
    sum_by_push (λ x. cond (bytes_eq other x) 1 0) names name
    ∙ other_zero (bytes_eq other name) (times_of other names) (λ e. h ((bytes_eq-Decides other name).0 e))

-- noting a failed read leaves the counts of other names
pub others_noted : (fault : FileFault) (old new : List (List ℕ)) (name other : List ℕ) → IsNoted fault old new name → other ≢ name
    → times_of other new ≡ times_of other old
others_noted Failed old new name other noted h = ap (times_of other) noted ∙ times_of-push_other old name other h
others_noted (TooLong limit) old new name other noted h = absurd noted
others_noted NoMemory old new name other noted h = ap (times_of other) noted

-- the count of a name never falls where one of its reads is noted
pub later_noted : (fault : FileFault) (old new : List (List ℕ)) (name : List ℕ) → IsNoted fault old new name
    → times_of name old ≤ times_of name new
later_noted Failed old new name noted = let e = ap (times_of name) noted ∙ times_of-push_same old name in omega (arith, e)
later_noted (TooLong limit) old new name noted = absurd noted
later_noted NoMemory old new name noted = let e = ap (times_of name) noted in omega (arith, e)

-- where it was noted, the count rose
pub failed_noted : (fault : FileFault) (old new : List (List ℕ)) (name : List ℕ) → IsNoted fault old new name → fault ≡ Failed
    → times_of name old < times_of name new
failed_noted Failed old new name noted _ = let e = ap (times_of name) noted ∙ times_of-push_same old name in omega (arith, e)
failed_noted (TooLong limit) old new name noted _ = absurd noted
failed_noted NoMemory old new name noted is = cc

-- bytes that begin with others have them in front of the rest
pub appends_at_most : (limit : ℕ) (old new : List ℕ) (count : ℕ) → StartsWith new old → length new ≡ length old + count
    → count ≤ limit → AppendsAtMost limit old new
appends_at_most limit old new count starts longer within = (
  drop (length old) new,
  sym (take-append-drop (length old) new) ∙ ap (λ front. front ++ drop (length old) new) starts,
  simp length-drop (omega arith),
)

pub ruleset note_lemmas = (others_noted, later_noted, failed_noted)
