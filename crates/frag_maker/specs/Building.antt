-- What is placed as the definitions have it, and what is known of the rows among it.
use Rattle.std.specs.Prelude.{ℕ, cond, List, Some, None, All}
use Rattle.mc_base.specs.PlainTree.{PlainTree, PlainTrees, plain_trees, row_piece}
use Rattle.flow_list.specs.Placing.{RowLaid, Placed as AnyPlaced, opens_at, closes_at, atom_at, row_at}
use Rattle.frag_pool.specs.Nodes.{Nodes, IsLive}
use Rattle.frag_pool.specs.Standing.{StandsFor}
use Rattle.frag_maker.specs.declared.placed.MadeRow.{MadeRow}
use Rattle.frag_maker.specs.declared.placed.Placed.{Placed}
use Rattle.frag_maker.specs.declared.placed.Placed.TheVariants.{Opens, Closes, Atom, Row}

-- a row as it is laid
abbrev pub laid_row : MadeRow → RowLaid
laid_row r = record { row = r.row; from = r.from; height = r.height; made_at = r.made_at; filled = r.filled }

abbrev pub placed_as : Placed → AnyPlaced
placed_as (Opens number y starts) = opens_at number y starts
placed_as (Closes number y) = closes_at number y
placed_as (Atom item y) = atom_at item y
placed_as (Row r y) = row_at (laid_row r) y

-- what is made of a row is a piece of it with these columns
abbrev pub IsMade : Nodes → PlainTrees → MadeRow → Type 0
IsMade p columns r = StandsFor p r.made (row_piece r.row r.from 0 None columns)

-- the piece of a row that stands at a place of a column
abbrev pub piece_at : MadeRow → (y : ℕ) → PlainTrees → PlainTree
piece_at r y columns = row_piece r.row r.from y (cond r.filled None (Some r.height)) columns

-- what is made of a row that is placed has the columns that it has as it is laid
abbrev pub row_made : Nodes → (RowLaid → List PlainTree) → Placed → Type 0
row_made p columns (Opens number y starts) = Unit {0}
row_made p columns (Closes number y) = Unit {0}
row_made p columns (Atom item y) = Unit {0}
row_made p columns (Row r y) = IsMade p (plain_trees (columns (laid_row r))) r

abbrev pub RowsAreMade : Nodes → (RowLaid → List PlainTree) → List Placed → Type 0
RowsAreMade p columns placed = All (row_made p columns) placed

-- what is made of it is live
abbrev pub row_live : Nodes → Placed → Type 0
row_live p (Opens number y starts) = Unit {0}
row_live p (Closes number y) = Unit {0}
row_live p (Atom item y) = Unit {0}
row_live p (Row r y) = IsLive p r.made
