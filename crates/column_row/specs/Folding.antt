-- What a fold answers is what is told of its columns, and how often items may be read for them (this project's own).
use Rattle.std.specs.Prelude.{◌≡◌, ℕ, ◌+◌, List, [], ◌∷◌}
use Rattle.flow_data.specs.declared.data.Flow.{Flow}
use Rattle.flow_data.specs.declared.data.FlowsData.{FlowsData}
use Rattle.flow_list.specs.Column.{Column}
use Rattle.flow_list.specs.Folds.{Folded, Folding, every, fitting}
use Rattle.flow_list.specs.Looks.{look_cost}
use Rattle.flow_list.specs.Rows.{all_rows}
use Rattle.flow_list.specs.Tokens.{Token}
use Rattle.inner_rows.specs.Filling.{IsLevel}
use Rattle.column_row.specs.declared.folding.FoldMode.{FoldMode}
use Rattle.column_row.specs.declared.folding.FoldMode.TheVariants.{All, Fit}
use Rattle.column_row.specs.declared.folding.FoldOut.{FoldOut}

abbrev pub folding_of : FoldMode → Folding
folding_of All = every
folding_of Fit = fitting

pub record IsFold (told : Folded) (out : FoldOut) : Type 0 where
  pub columns : out.columns ≡ told.columns
  pub end : out.end ≡ told.end
  pub at_end : out.at_end ≡ told.at_end
  pub fits : out.fits ≡ told.fits
  pub unforced : out.unforced ≡ told.unforced
  pub level : IsLevel out.level told.level
  pub overflow : out.overflow ≡ told.overflow
  pub extent : out.extent ≡ told.extent
  pub short : out.short ≡ told.short
  pub lines : out.lines ≡ told.lines

-- how often items may be read for these columns, of which the first begins at t: as often as each of them asks for
abbrev pub looks_cost : FlowsData → Flow → (t : Token) → (h : ℕ) → List Column → ℕ
looks_cost d f t h [] = 0
looks_cost d f t h (c ∷ cs) = look_cost (all_rows d) d f t h + looks_cost d f c.end h cs
