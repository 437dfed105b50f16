-- What is answered of a column.
use Rattle.std.specs.Prelude.{◌≡◌, ℕ, List, [], Option, Some, None}
use Rattle.flow_data.specs.declared.data.FlowsData.{FlowsData}
use Rattle.flow_list.specs.Certificate.{Use}
use Rattle.flow_list.specs.Column.{Column}
use Rattle.flow_list.specs.Folds.{shortage}
use Rattle.flow_list.specs.Rows.{all_rows}
use Rattle.frag_pool.specs.Nodes.{Nodes}
use Rattle.frag_pool.specs.Standing.{StandsFor}
use Rattle.column_maker.specs.declared.place.Cut.{Cut}
use Rattle.column_walk.specs.declared.deciding.FilledRow.{FilledRow}
use Rattle.inner_rows.specs.Filling.{IsLevel, fill_tree}
use Rattle.block_flow.specs.declared.making.ColumnOut.{ColumnOut}

-- a column of this height
pub record IsColumn (h : ℕ) (c : Column) (out : ColumnOut) : Type 0 where
  pub end : out.end ≡ c.end
  pub level : IsLevel out.level c.level
  pub overflow : out.overflow ≡ c.overflow
  pub extent : out.extent ≡ c.extent
  pub short : out.short ≡ shortage h c.bounds
  pub lines : out.lines ≡ c.lines

-- what is made of the row that a column fills: it has the row's room, and is a fragment of what the row makes of that
abbrev pub IsCutOf : FlowsData → Nodes → Option FilledRow → Option Cut → Type 0
IsCutOf d p None None = Unit {0}
IsCutOf d p None (Some cut) = ⊥
IsCutOf d p (Some r) None = ⊥
IsCutOf d p (Some r) (Some cut) = (cut.room ≡ r.height) × StandsFor p cut.made (fill_tree d r.row r.from r.height)

-- the sizes that this row uses, where a column fills one
abbrev pub uses_filled : FlowsData → Option FilledRow → List Use
uses_filled d None = []
uses_filled d (Some r) = ((all_rows d).fill r.row r.from r.height).uses
