-- A script has one outcome: what it prints, or one reason why it stops.
use Rattle.std.proofs.Common.{◌≡◌, inl, inr, ℕ, ◌<◌, ◌≤◌, List, [], ◌∷◌, ◌++◌, length, Result, Ok, Err, sym, ap, ◌∙◌, subst}
use Rattle.std.proofs.Common.{arith}
use Rattle.mc_base.specs.declared.refusal.Refusal.{Refusal}
use Rattle.html_grammar.specs.Tree.{Forest}
use Rattle.edit_script.specs.declared.script.EditFault.{EditFault}
use Rattle.edit_script.specs.declared.script.ScriptLine.{ScriptLine}
use Rattle.edit_script.specs.declared.script.Step.{Step}
use Rattle.edit_script.specs.declared.script.Step.TheVariants as steps
use Rattle.edit_script.specs.Edited.{edited}
use Rattle.script_runs.specs.Runs.{State, begun, printed_limit, edit_refusal, Does, IsStopped, Runs, Stops, Prints}
use Rattle.script_runs.specs.Runs.{HasOneAnswer}

abbrev state_as : Forest → List ℕ → State
state_as tree printed = record { tree = tree; printed = printed }

state_is : (a b : State) → a.tree ≡ b.tree → a.printed ≡ b.printed → a ≡ b
state_is a b trees texts =
    ap (λ t. state_as t a.printed) trees ∙ ap (state_as b.tree) texts

same_tree : (r : Result Forest EditFault) (a b : Forest) → r ≡ Ok a → r ≡ Ok b → a ≡ b
same_tree r a b h k = cc

same_fault : (r : Result Forest EditFault) (a b : EditFault) → r ≡ Err a → r ≡ Err b → a ≡ b
same_fault r a b h k = cc

tree_or_fault : (r : Result Forest EditFault) (a : Forest) (b : EditFault) → r ≡ Ok a → r ≡ Err b → ⊥
tree_or_fault r a b h k = cc

-- ---- one step

does_once : (Shows : Forest → List ℕ → Type 0) (Denies : Forest → Refusal → Type 0) → HasOneAnswer Shows Denies
    → (step : Step) (before a b : State) → Does Shows step before a → Does Shows step before b → a ≡ b
does_once Shows Denies one (steps.Change edit) before a b h k =
    state_is a b (same_tree (edited edit before.tree) a.tree b.tree h.0 k.0) (h.1 ∙ sym k.1)
does_once Shows Denies one steps.Print before a b h k =
    let same = one.text before.tree h.0 k.0 h.1 k.1 in
    state_is a b (h.2 ∙ sym k.2) (h.3 ∙ ap (λ t. before.printed ++ t) same ∙ sym k.3)

stopped_once : (Shows : Forest → List ℕ → Type 0) (Denies : Forest → Refusal → Type 0) → HasOneAnswer Shows Denies
    → (at : ℕ) (step : Step) (before : State) (a b : Refusal) → IsStopped Shows Denies at step before a
    → IsStopped Shows Denies at step before b → a ≡ b
stopped_once Shows Denies one at (steps.Change edit) before a b h k =
    h.2 ∙ ap (edit_refusal at) (same_fault (edited edit before.tree) h.0 k.0 h.1 k.1) ∙ sym k.2
stopped_once Shows Denies one at steps.Print before a b (inl h) (inl k) = one.reason before.tree a b h k
stopped_once Shows Denies one at steps.Print before a b (inl h) (inr k) = absurd (one.either before.tree k.0 a k.1 h)
stopped_once Shows Denies one at steps.Print before a b (inr h) (inl k) = absurd (one.either before.tree h.0 b h.1 k)
stopped_once Shows Denies one at steps.Print before a b (inr h) (inr k) = h.3 ∙ sym k.3

does_or_stops : (Shows : Forest → List ℕ → Type 0) (Denies : Forest → Refusal → Type 0) → HasOneAnswer Shows Denies
    → (at : ℕ) (step : Step) (before now : State) (refusal : Refusal) → Does Shows step before now
    → IsStopped Shows Denies at step before refusal → ⊥
does_or_stops Shows Denies one at (steps.Change edit) before now refusal h k =
    tree_or_fault (edited edit before.tree) now.tree k.0 h.0 k.1
does_or_stops Shows Denies one at steps.Print before now refusal h (inl k) = one.either before.tree h.0 refusal h.1 k
does_or_stops Shows Denies one at steps.Print before now refusal h (inr k) =
    let same : k.0 ≡ h.0 = one.text before.tree k.0 h.0 k.1 h.1 in
    let over : printed_limit < length (before.printed ++ h.0) =
    subst (λ t. printed_limit < length (before.printed ++ t)) same k.2 in
    let within : length (before.printed ++ h.0) ≤ printed_limit = subst (λ t. length t ≤ printed_limit) h.3 h.4 in
    omega (arith, over, within)

-- ---- all lines

pub runs_once : (Shows : Forest → List ℕ → Type 0) (Denies : Forest → Refusal → Type 0) → HasOneAnswer Shows Denies
    → (lines : List ScriptLine) (before a b : State) → Runs Shows lines before a → Runs Shows lines before b → a ≡ b
runs_once Shows Denies one [] before a b h k = h ∙ sym k
runs_once Shows Denies one (line ∷ lines) before a b h k =
    let same = does_once Shows Denies one line.step before k.0 h.0 k.1 h.1 in
    runs_once Shows Denies one lines h.0 a b h.2 (subst (λ s. Runs Shows lines s b) same k.2)

pub stops_once : (Shows : Forest → List ℕ → Type 0) (Denies : Forest → Refusal → Type 0) → HasOneAnswer Shows Denies
    → (lines : List ScriptLine) (before : State) (a b : Refusal) → Stops Shows Denies lines before a
    → Stops Shows Denies lines before b → a ≡ b
stops_once Shows Denies one [] before a b h k = absurd h
stops_once Shows Denies one (line ∷ lines) before a b (inl h) (inl k) =
    stopped_once Shows Denies one line.at line.step before a b h k
stops_once Shows Denies one (line ∷ lines) before a b (inl h) (inr k) =
    absurd (does_or_stops Shows Denies one line.at line.step before k.0 a k.1 h)
stops_once Shows Denies one (line ∷ lines) before a b (inr h) (inl k) =
    absurd (does_or_stops Shows Denies one line.at line.step before h.0 b h.1 k)
stops_once Shows Denies one (line ∷ lines) before a b (inr h) (inr k) =
    let same = does_once Shows Denies one line.step before k.0 h.0 k.1 h.1 in
    stops_once Shows Denies one lines h.0 a b h.2 (subst (λ s. Stops Shows Denies lines s b) same k.2)

pub runs_or_stops : (Shows : Forest → List ℕ → Type 0) (Denies : Forest → Refusal → Type 0) → HasOneAnswer Shows Denies
    → (lines : List ScriptLine) (before now : State) (refusal : Refusal) → Runs Shows lines before now
    → Stops Shows Denies lines before refusal → ⊥
runs_or_stops Shows Denies one [] before now refusal h k = k
runs_or_stops Shows Denies one (line ∷ lines) before now refusal h (inl k) =
    does_or_stops Shows Denies one line.at line.step before h.0 refusal h.1 k
runs_or_stops Shows Denies one (line ∷ lines) before now refusal h (inr k) =
    let same = does_once Shows Denies one line.step before k.0 h.0 k.1 h.1 in
    runs_or_stops Shows Denies one lines h.0 now refusal h.2 (subst (λ s. Stops Shows Denies lines s refusal) same k.2)

-- ---- one script

pub prints_once : (Shows : Forest → List ℕ → Type 0) (Denies : Forest → Refusal → Type 0) → HasOneAnswer Shows Denies
    → (lines : List ScriptLine) (tree : Forest) (a b : List ℕ) → Prints Shows lines tree a → Prints Shows lines tree b → a ≡ b
prints_once Shows Denies one lines tree a b h k =
    h.2 ∙ ap (λ (s : State). s.printed) (runs_once Shows Denies one lines (begun tree) h.0 k.0 h.1 k.1) ∙ sym k.2

pub prints_or_stops : (Shows : Forest → List ℕ → Type 0) (Denies : Forest → Refusal → Type 0) → HasOneAnswer Shows Denies
    → (lines : List ScriptLine) (tree : Forest) (text : List ℕ) (refusal : Refusal) → Prints Shows lines tree text
    → Stops Shows Denies lines (begun tree) refusal → ⊥
prints_or_stops Shows Denies one lines tree text refusal h k =
    runs_or_stops Shows Denies one lines (begun tree) h.0 refusal h.1 k
