-- What is answered of a row that is filled is what a flow around it is told of the row.
use Rattle.std.proofs.Common.{◌≡◌, ℕ}
use Rattle.flow_data.specs.declared.data.FlowsData.{FlowsData}
use Rattle.flow_list.specs.Column.{Filled}
use Rattle.flow_list.specs.Folds.{fill_told, shortage}
use Rattle.flow_list.specs.Rows.{all_rows, fill_in}
use Rattle.flow_list.specs.Tokens.{Token}
use Rattle.inner_rows.specs.Filling.{IsFilled, IsLevel}
use Rattle.inner_rows.specs.declared.inner.Filled.{Filled as FilledOut}

-- an answer is this fill at height h
pub record IsFill (h : ℕ) (fill : Filled) (out : FilledOut) : Type 0 where
  pub end : out.end ≡ fill.end
  pub at_end : out.at_end ≡ fill.at_end
  pub level : IsLevel out.level fill.level
  pub overflow : out.overflow ≡ fill.overflow
  pub short : out.short ≡ shortage h fill.bounds
  pub lines : out.lines ≡ fill.lines

-- in sound flows what is told of a row's fill is what its own columns make
pub filled-fill : (d : FlowsData) (r : ℕ) (q : Token) (h : ℕ) (out : FilledOut) →
    (all_rows d).fill r q h ≡ fill_in (all_rows d) d r q h → IsFilled (fill_told (all_rows d) d r q h) out →
    IsFill h ((all_rows d).fill r q h) out
unfolding fill_in
filled-fill d r q h out told filled =
    rw told (record {
      end = filled.end;
      at_end = filled.at_end;
      level = filled.level;
      overflow = filled.overflow;
      short = filled.short;
      lines = filled.lines;
    })

-- and the other way round
pub fill-filled : (d : FlowsData) (r : ℕ) (q : Token) (h : ℕ) (out : FilledOut) →
    IsFill h (fill_in (all_rows d) d r q h) out → IsFilled (fill_told (all_rows d) d r q h) out
unfolding fill_in
fill-filled d r q h out fill = record {
  end = fill.end;
  at_end = fill.at_end;
  level = fill.level;
  overflow = fill.overflow;
  short = fill.short;
  lines = fill.lines;
}
