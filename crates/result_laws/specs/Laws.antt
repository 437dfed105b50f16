-- What a valid result tells (this project's own).
use Rattle.std.specs.Prelude.{◌≡◌, true, map, All}
use Rattle.flow_list.specs.Data.{FlowsData}
use Rattle.flow_list.specs.Tokens.{row_start}
use Rattle.flow_list.specs.RowHeights.{size_of, row_height, balanced_fits}
use Rattle.flow_list.specs.Certificate.{StackRow, rows_in_stacks}
use Rattle.flow_list.specs.Tree.{tree_of}
use Rattle.flow_list.specs.TreeText.{tree_line_words}
use Rattle.result_laws.specs.Clauses.{available_of, has_entry}
use Rattle.result_laws.specs.Given.{Head, size, balanced, filled, GivenEntry, GivenResult}
use Rattle.result_laws.specs.Verdict.{IsValid}

-- An entry says what is so: the size; or what is available to the row, its height, and whether that fits.
abbrev pub IsTrue : FlowsData → Head → Type 0
IsTrue d (size r q h) = h ≡ size_of d r q
IsTrue d (balanced r a h fits) = (a ≡ available_of d r) × (h ≡ row_height d r a)
    × (fits ≡ balanced_fits a (size_of d r row_start))
IsTrue d (filled r a h) = (a ≡ available_of d r) × (h ≡ row_height d r a)

-- What a result tells is what the layout is.
pub record TellsLayout (d : FlowsData) (r : GivenResult) : Type 0 where
  pub each_is_true : All (λ (e : GivenEntry). IsTrue d e.head) r.entries
  pub none_missing : All (λ (s : StackRow). has_entry r.entries s.row ≡ true) (rows_in_stacks d)
  pub same_tree : r.tree ≡ map tree_line_words (tree_of d)

-- The law: a valid result tells the layout, whoever made it.
abbrev pub ValidTells : FlowsData → Type 0
ValidTells d = (r : GivenResult) → IsValid d r → TellsLayout d r
