-- Columns that are made one after another: what is told of those so far, their fragments, and whether more are made (this
-- project's own).
use Rattle.std.specs.Prelude.{◌≡◌, ℕ, Bool, ◌||◌, List, length, Some}
use Rattle.std.specs.List.{list_any}
use Rattle.mc_base.specs.PlainTree.{plain_trees}
use Rattle.mc_base.specs.declared.fragment.FragId.{FragId}
use Rattle.flow_data.specs.declared.data.Flow.{Flow}
use Rattle.flow_data.specs.declared.data.FlowsData.{FlowsData}
use Rattle.flow_list.specs.Column.{Column}
use Rattle.flow_list.specs.Folds.{Folding, every, fitting, folded_by}
use Rattle.flow_list.specs.Fragments.{column_fragment, fragments_from}
use Rattle.flow_list.specs.Rows.{fails}
use Rattle.flow_list.specs.Tokens.{Token, is_end}
use Rattle.frag_pool.specs.Nodes.{Nodes}
use Rattle.frag_pool.specs.Standing.{AllStandFor}
use Rattle.inner_rows.specs.Filling.{IsLevel}
use Rattle.column_row.specs.declared.adding.SoFar.{SoFar}

-- whether no further column is made after those that end there: that is the flow's end, or one of them breaks a rule and only
-- the columns up to the first that does are asked for
abbrev pub is_over : Folding → Flow → (end : Token) → (broken : Bool) → Bool
is_over every f end broken = is_end f end
is_over fitting f end broken = is_end f end || broken

-- what is told of these columns of a flow from place q on, made at height h
pub record IsSoFar (f : Flow) (q : Token) (h : ℕ) (cs : List Column) (s : SoFar) : Type 0 where
  pub columns : s.columns ≡ length cs
  pub end : s.end ≡ (folded_by f q h cs).end
  pub broken : s.broken ≡ list_any fails cs
  pub unforced : s.unforced ≡ (folded_by f q h cs).unforced
  pub level : IsLevel s.level (folded_by f q h cs).level
  pub overflow : s.overflow ≡ (folded_by f q h cs).overflow
  pub extent : s.extent ≡ (folded_by f q h cs).extent
  pub short : s.short ≡ (folded_by f q h cs).short
  pub lines : s.lines ≡ (folded_by f q h cs).lines

-- the ids of the fragments of these columns of row r, in order
abbrev pub AreFragments : FlowsData → Nodes → (r : ℕ) → (q : Token) → (h : ℕ) → List Column → List FragId → Type 0
AreFragments d p r q h cs ids = AllStandFor p ids (plain_trees (fragments_from (column_fragment d r (Some h)) q cs))
