-- What a row makes of a height: what is told of its columns, and their fragment (CSS Fragmentation 3, sections 2 and 4.5).
use Rattle.std.specs.Prelude.{◌≡◌, ℕ, false, List, Option, Some, None}
use Rattle.mc_base.specs.PlainTree.{PlainTree, plain_trees, row_piece}
use Rattle.mc_base.specs.declared.level.Level.{Level}
use Rattle.flow_data.specs.declared.data.FlowsData.{FlowsData}
use Rattle.flow_data.specs.Flows.{row_of, flow_in}
use Rattle.flow_list.specs.Column.{Column, rank, is_forced}
use Rattle.flow_list.specs.Folds.{Folded}
use Rattle.flow_list.specs.Fragments.{column_fragment, fragments_from}
use Rattle.flow_list.specs.Rows.{all_rows, columns}
use Rattle.flow_list.specs.Tokens.{Token}
use Rattle.inner_rows.specs.declared.inner.Filled.{Filled}

-- a level of this rank that isn't forced
pub record IsLevel (level : Level) (n : ℕ) : Type 0 where
  pub ranked : rank level ≡ n
  pub unforced : is_forced level ≡ false

-- what is answered of a row that is filled is what is told of its columns
pub record IsFilled (told : Folded) (out : Filled) : Type 0 where
  pub end : out.end ≡ told.end
  pub at_end : out.at_end ≡ told.at_end
  pub level : IsLevel out.level told.level
  pub overflow : out.overflow ≡ told.overflow
  pub short : out.short ≡ told.short
  pub lines : out.lines ≡ told.lines

-- a piece of row r from place q on that stands at the top, with this height or none, and with the fragments of these columns,
-- which are made at height h
abbrev pub row_tree : FlowsData → (r : ℕ) → (q : Token) → (h : ℕ) → Option ℕ → List Column → PlainTree
row_tree d r q h height cs = row_piece r q 0 height (plain_trees (fragments_from (column_fragment d r (Some h)) q cs))

-- the fragment of what row r makes of height h from place q on
abbrev pub fill_tree : FlowsData → (r : ℕ) → (q : Token) → (h : ℕ) → PlainTree
fill_tree d r q h = row_tree d r q h None (columns (all_rows d) d (flow_in d r) (row_of d r).n q h)
