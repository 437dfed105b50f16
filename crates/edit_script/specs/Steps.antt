-- The step of a line, read from the front.
use Rattle.std.specs.Prelude.{ℕ, ◌==◌, List, [], ◌∷◌, Option, Some, None, if◌then◌else◌, codes}
use Rattle.mc_base.specs.Finding.{◌>>=◌}
use Rattle.html_grammar.specs.Names.{same}
use Rattle.edit_script.specs.declared.script.Edit.TheVariants as edits
use Rattle.edit_script.specs.declared.script.Step.{Step}
use Rattle.edit_script.specs.declared.script.Step.TheVariants as steps
use Rattle.edit_script.specs.Spelling.{is_id}

-- the word in front of the first space, and what follows the space
abbrev pub word_at : List ℕ → Option (List ℕ × List ℕ)
word_at [] = None
word_at (b ∷ bs) = if b == 32 then Some ([], bs) else (word_at bs >>= λ x. Some (b ∷ x.0, x.1))

-- an id, and what follows the space after it
unfoldable pub id_at : List ℕ → Option (List ℕ × List ℕ)
id_at bytes = word_at bytes >>= λ x. if is_id x.0 then Some x else None

unfoldable pub words_at : List ℕ → Option Step
words_at bytes = id_at bytes >>= λ x. Some (steps.Change (edits.Words x.0 x.1))

unfoldable pub class_at : List ℕ → Option Step
class_at bytes = id_at bytes >>= λ x. Some (steps.Change (edits.Class x.0 x.1))

unfoldable pub removal_at : List ℕ → Option Step
removal_at bytes = if is_id bytes then Some (steps.Change (edits.Remove bytes)) else None

-- the edit of this word
unfoldable pub edit_at : List ℕ → List ℕ → Option Step
edit_at word bytes =
    if same word (codes "text") then words_at bytes
    else (if same word (codes "class") then class_at bytes
    else (if same word (codes "remove") then removal_at bytes else None))

unfoldable pub step_of : List ℕ → Option Step
step_of line = if same line (codes "print") then Some steps.Print else (word_at line >>= λ x. edit_at x.0 x.1)
