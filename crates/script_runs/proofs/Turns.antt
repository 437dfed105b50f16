-- Running one more line.
use Rattle.std.proofs.Common.{inl, inr, ℕ, List, [], ◌∷◌, ◌++◌, refl, subst}
use Rattle.mc_base.specs.declared.refusal.Refusal.{Refusal}
use Rattle.html_grammar.specs.Tree.{Forest}
use Rattle.edit_script.specs.declared.script.ScriptLine.{ScriptLine}
use Rattle.script_runs.specs.Runs.{State, Does, IsStopped, Runs, Stops}

-- one line after others that ran
pub runs_more : (Shows : Forest → List ℕ → Type 0) (done : List ScriptLine) (line : ScriptLine) (first before now : State)
    → Runs Shows done first before → Does Shows line.step before now → Runs Shows (done ++ line ∷ []) first now
runs_more Shows [] line first before now ran does = (now, subst (λ s. Does Shows line.step s now) ran does, refl)
runs_more Shows (l ∷ done) line first before now ran does =
    (ran.0, ran.1, runs_more Shows done line ran.0 before now ran.2 does)

-- a line that isn't done after others that ran
pub stops_at : (Shows : Forest → List ℕ → Type 0) (Denies : Forest → Refusal → Type 0) (done : List ScriptLine)
    (line : ScriptLine) (others : List ScriptLine) (first before : State) (refusal : Refusal) → Runs Shows done first before
    → IsStopped Shows Denies line.at line.step before refusal → Stops Shows Denies (done ++ line ∷ others) first refusal
stops_at Shows Denies [] line others first before refusal ran stops =
    inl (subst (λ s. IsStopped Shows Denies line.at line.step s refusal) ran stops)
stops_at Shows Denies (l ∷ done) line others first before refusal ran stops =
    inr (ran.0, ran.1, stops_at Shows Denies done line others ran.0 before refusal ran.2 stops)
