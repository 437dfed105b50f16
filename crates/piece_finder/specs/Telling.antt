-- What is answered of a cut piece, as the definitions have it (this project's own).
use Rattle.std.specs.Prelude.{◌≡◌, ℕ, List, map, Some}
use Rattle.mc_base.specs.PlainTree.{PlainTree}
use Rattle.flow_data.specs.declared.data.FlowsData.{FlowsData}
use Rattle.flow_data.specs.Flows.{row_of, flow_in}
use Rattle.flow_list.specs.Column.{Filled as Told, rank}
use Rattle.flow_list.specs.Rows.{all_rows, columns}
use Rattle.flow_list.specs.Tokens.{Token}
use Rattle.inner_rows.specs.Filling.{row_tree}
use Rattle.inner_rows.specs.declared.inner.Filled.{Filled}
use Rattle.piece_data.specs.LeastPiece.{Unfit, over, worse, other, UnfitRange}
use Rattle.piece_finder.specs.declared.reasons.PieceReason.{PieceReason}
use Rattle.piece_finder.specs.declared.reasons.PieceReason.TheVariants.{Over, Worse, Other}
use Rattle.piece_finder.specs.declared.reasons.PieceRange.{PieceRange}

-- a fill as far as it decides whether a height will do
pub record Tells (told : Told) (out : Filled) : Type 0 where
  pub end : out.end ≡ told.end
  pub level : rank out.level ≡ told.level
  pub overflow : out.overflow ≡ told.overflow

abbrev pub told_reason : PieceReason → Unfit
told_reason Over = over
told_reason Worse = worse
told_reason (Other at) = other at

abbrev pub told_range : PieceRange → UnfitRange
told_range x = record { low = x.lo; high = x.hi; reason = told_reason x.reason }

abbrev pub told_ranges : List PieceRange → List UnfitRange
told_ranges xs = map told_range xs

-- a piece of row r that stands at the top, with this height and the columns that the row makes of it from a place on
abbrev pub piece_tree : FlowsData → (r : ℕ) → (q : Token) → (h : ℕ) → PlainTree
piece_tree d r q h = row_tree d r q h (Some h) (columns (all_rows d) d (flow_in d r) (row_of d r).n q h)
