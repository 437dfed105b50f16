-- How the steps of a script are written.
use Rattle.std.specs.Prelude.{◌≡◌, ℕ, nat_lt, List, ◌∷◌, ◌++◌, length, Bool, true, not, ◌&&◌, codes}
use Rattle.std.specs.List.{list_all}
use Rattle.html_grammar.specs.Tokens.{is_space}
use Rattle.edit_script.specs.declared.script.Edit.{Edit}
use Rattle.edit_script.specs.declared.script.Edit.TheVariants as edits
use Rattle.edit_script.specs.declared.script.Step.{Step}
use Rattle.edit_script.specs.declared.script.Step.TheVariants as steps

abbrev pub is_no_space : ℕ → Bool
is_no_space c = not (is_space c)

-- an id is not empty and has no white space
abbrev pub is_id : List ℕ → Bool
is_id bytes = nat_lt 0 (length bytes) && list_all is_no_space bytes

-- one space stands before the id, and one before the rest, which is taken as it is
abbrev pub spelled_edit : Edit → List ℕ
spelled_edit (edits.Words id rest) = codes "text" ++ 32 ∷ (id ++ 32 ∷ rest)
spelled_edit (edits.Class id rest) = codes "class" ++ 32 ∷ (id ++ 32 ∷ rest)
spelled_edit (edits.Remove id) = codes "remove" ++ 32 ∷ id

abbrev pub spelled : Step → List ℕ
spelled (steps.Change edit) = spelled_edit edit
spelled steps.Print = codes "print"

abbrev pub id_of : Edit → List ℕ
id_of (edits.Words id rest) = id
id_of (edits.Class id rest) = id
id_of (edits.Remove id) = id

-- the id that an edit names is one
abbrev pub HasId : Step → Type 0
HasId (steps.Change edit) = is_id (id_of edit) ≡ true
HasId steps.Print = Unit {0}

-- a line is written so, for this step
pub record IsSpelled (step : Step) (line : List ℕ) : Type 0 where
  pub written : line ≡ spelled step
  pub named : HasId step
