-- What the lines of a script come to, one after the other, over the tree of a document. `Shows` says which text a print of a tree
-- has, and `Denies` why it has none. Scripts are this project's own.
use Rattle.std.specs.Prelude.{◌≡◌, ◌⊎◌, ℕ, ◌+◌, ◌<◌, ◌≤◌, List, [], ◌∷◌, ◌++◌, length, Err, Ok}
use Rattle.mc_base.specs.declared.refusal.Input.TheVariants as inputs
use Rattle.mc_base.specs.declared.refusal.LimitName.TheVariants as limits
use Rattle.mc_base.specs.declared.refusal.Refusal.{Refusal}
use Rattle.mc_base.specs.declared.refusal.Refusal.TheVariants as refusals
use Rattle.html_grammar.specs.Tree.{Forest}
use Rattle.edit_script.specs.declared.script.EditFault.{EditFault}
use Rattle.edit_script.specs.declared.script.EditFault.TheVariants as faults
use Rattle.edit_script.specs.declared.script.ScriptLine.{ScriptLine}
use Rattle.edit_script.specs.declared.script.Step.{Step}
use Rattle.edit_script.specs.declared.script.Step.TheVariants as steps
use Rattle.edit_script.specs.Edited.{edited}

-- how many bytes all texts that a script prints may have together
abbrev pub printed_limit : ℕ
printed_limit = 268435456

-- what there is between two lines: the document's tree as it is then, and all that was printed
pub record State : Type 0 where
  pub tree : Forest
  pub printed : List ℕ

-- before the first line
abbrev pub begun : Forest → State
begun tree = record { tree = tree; printed = [] }

abbrev pub fault_of : ℕ → ℕ → Refusal
fault_of at rule = refusals.Grammar inputs.Script at (record { letter = 108; number = rule })

-- Why a script whose edit isn't done is refused, at the edit's line: l4 where no element has the id, l5 where the edit isn't
-- allowed there.
abbrev pub edit_refusal : ℕ → EditFault → Refusal
edit_refusal at faults.NoElement = fault_of at 4
edit_refusal at faults.NotAllowed = fault_of at 5
edit_refusal at faults.NoMemory = refusals.NoMemory

-- why a script that prints too much is refused
abbrev pub too_much : Refusal
too_much = refusals.Limit limits.Result (printed_limit + 1) printed_limit

-- What a step does: an edit changes the tree, and a print adds the text of the tree as it is then.
abbrev pub Does : (Shows : Forest → List ℕ → Type 0) → Step → State → State → Type 0
Does Shows (steps.Change edit) before now = (edited edit before.tree ≡ Ok now.tree) × (now.printed ≡ before.printed)
Does Shows steps.Print before now = (text : List ℕ) × Shows before.tree text × (now.tree ≡ before.tree)
    × (now.printed ≡ before.printed ++ text) × (length now.printed ≤ printed_limit)

-- Why a step of the line at this offset isn't done: the edit has a fault, the tree as it is then has no text, or all texts with
-- its are too much.
abbrev pub IsStopped : (Shows : Forest → List ℕ → Type 0) → (Denies : Forest → Refusal → Type 0) → ℕ → Step → State → Refusal
    → Type 0
IsStopped Shows Denies at (steps.Change edit) before refusal = (fault : EditFault) × (edited edit before.tree ≡ Err fault)
    × (refusal ≡ edit_refusal at fault)
IsStopped Shows Denies at steps.Print before refusal = Denies before.tree refusal
    ⊎ ((text : List ℕ) × Shows before.tree text × (printed_limit < length (before.printed ++ text)) × (refusal ≡ too_much))

-- all lines run, each from where the one before it left off
abbrev pub Runs : (Shows : Forest → List ℕ → Type 0) → List ScriptLine → State → State → Type 0
Runs Shows [] before now = now ≡ before
Runs Shows (line ∷ lines) before now = (next : State) × Does Shows line.step before next × Runs Shows lines next now

-- a line isn't done, and all before it run
abbrev pub Stops : (Shows : Forest → List ℕ → Type 0) → (Denies : Forest → Refusal → Type 0) → List ScriptLine → State → Refusal
    → Type 0
Stops Shows Denies [] before refusal = ⊥
Stops Shows Denies (line ∷ lines) before refusal = IsStopped Shows Denies line.at line.step before refusal
    ⊎ ((next : State) × Does Shows line.step before next × Stops Shows Denies lines next refusal)

-- all lines of a script run over a document of this tree, and they print these texts together
abbrev pub Prints : (Shows : Forest → List ℕ → Type 0) → List ScriptLine → Forest → List ℕ → Type 0
Prints Shows lines tree text = (last : State) × Runs Shows lines (begun tree) last × (text ≡ last.printed)

-- a tree has one text, or one reason why it has none
pub record HasOneAnswer (Shows : Forest → List ℕ → Type 0) (Denies : Forest → Refusal → Type 0) : Type 0 where
  pub text : (tree : Forest) (a b : List ℕ) → Shows tree a → Shows tree b → a ≡ b
  pub reason : (tree : Forest) (a b : Refusal) → Denies tree a → Denies tree b → a ≡ b
  pub either : (tree : Forest) (text : List ℕ) (refusal : Refusal) → Shows tree text → Denies tree refusal → ⊥
