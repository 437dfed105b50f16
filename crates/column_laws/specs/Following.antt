-- Columns one after another: each begins where the one before it ends, so what is told of them is told of the first ones and
-- then of the rest (CSS Multi-column 1, section 3.4: content flows from one column into the next).
use Rattle.std.specs.Prelude.{◌≡◌, ℕ, zero, suc, ◌+◌, ◌*◌, ◌<◌, ◌≤◌, max, min, Bool, true, false, cond, not, ◌||◌, ◌&&◌, List, []}
use Rattle.std.specs.Prelude.{◌∷◌, ◌++◌, length, nat_le, Option, Some, None}
use Rattle.std.specs.List.{list_any}
use Rattle.mc_base.specs.PlainTree.{PlainTree}
use Rattle.flow_data.specs.declared.data.Flow.{Flow}
use Rattle.flow_data.specs.declared.data.FlowsData.{FlowsData}
use Rattle.flow_data.specs.Flows.{row_of, flow_in}
use Rattle.flow_list.specs.Tokens.{Token, is_end}
use Rattle.flow_list.specs.Column.{Column, Inner}
use Rattle.flow_list.specs.Rows.{columns, columns_by, end_of, fails, reach_end, most_columns, fits}
use Rattle.flow_list.specs.Ranges.{judged, to_failure}
use Rattle.flow_list.specs.Fragments.{fragments_from}
use Rattle.flow_list.specs.Folds.{Folded, folded_by}

-- ---- columns

-- where the first n columns from a place on end
abbrev pub end_after : (Token → Column) → Flow → ℕ → Token → Token
end_after make f n t = end_of t (columns_by make f n t)

-- The law of a flow's columns, however they are made.
pub record ColumnsFollow (make : Token → Column) (f : Flow) : Type 0 where
  -- the columns of n + m are those of n, and then those of m from where these end
  pub joined : (n m : ℕ) (t : Token) → columns_by make f (n + m) t ≡ columns_by make f n t
      ++ columns_by make f m (end_after make f n t)
  -- they end where the latter do
  pub ends_joined : (n m : ℕ) (t : Token) → end_after make f (n + m) t ≡ end_after make f m (end_after make f n t)
  -- so do their fragments follow one another
  pub fragments_joined : (piece : Token → PlainTree) (n m : ℕ) (t : Token) →
      fragments_from piece t (columns_by make f (n + m) t)
      ≡ fragments_from piece t (columns_by make f n t)
      ++ fragments_from piece (end_after make f n t) (columns_by make f m (end_after make f n t))
  -- before the end there is one more
  pub one_more : (n : ℕ) (t : Token) → is_end f (end_after make f n t) ≡ false →
      columns_by make f (n + 1) t ≡ columns_by make f n t ++ make (end_after make f n t) ∷ []
  -- from the end on there are none
  pub none_at_end : (n : ℕ) (t : Token) → is_end f t ≡ true → columns_by make f n t ≡ []
  -- once the end is reached there are no more
  pub no_more : (n m : ℕ) (t : Token) → n ≤ m → is_end f (end_after make f n t) ≡ true →
      columns_by make f m t ≡ columns_by make f n t
  -- there are n at most, and fewer only where they reach the end
  pub at_most : (n : ℕ) (t : Token) → length (columns_by make f n t) ≤ n
  pub fewer_at_end : (n : ℕ) (t : Token) → length (columns_by make f n t) < n → is_end f (end_after make f n t) ≡ true

-- ---- what is told of columns

-- the lesser of two shortages
abbrev pub lesser : Option ℕ → Option ℕ → Option ℕ
lesser None b = b
lesser (Some a) None = Some a
lesser (Some a) (Some b) = Some (min a b)

-- what is told of columns, and then of further ones that begin where they end, told together; breaks says whether one of the
-- first ones breaks a rule
abbrev pub told_after : (breaks : Bool) → Folded → Folded → Folded
told_after breaks a b = record {
  columns = a.columns + b.columns;
  end = b.end;
  at_end = b.at_end;
  fits = not breaks && b.fits;
  unforced = a.unforced || b.unforced;
  level = max a.level b.level;
  overflow = a.overflow || b.overflow;
  extent = max a.extent b.extent;
  short = cond a.overflow a.short (lesser a.short b.short);
  lines = cond a.overflow a.lines (a.lines ++ b.lines);
}

-- The law of what is told of a flow's columns.
pub record FoldsFollow (f : Flow) : Type 0 where
  -- of columns and further ones it is what is told of both
  pub told_joined : (q : Token) (h : ℕ) (cs ds : List Column) →
      folded_by f q h (cs ++ ds) ≡ told_after (list_any fails cs) (folded_by f q h cs) (folded_by f (end_of q cs) h ds)
  -- the columns up to the first that breaks a rule are those before it where one of these does, else these and then those of the
  -- rest
  pub failure_before : (cs ds : List Column) → list_any fails cs ≡ true → to_failure (cs ++ ds) ≡ to_failure cs
  pub failure_behind : (cs ds : List Column) → list_any fails cs ≡ false → to_failure (cs ++ ds) ≡ cs ++ to_failure ds
  -- whether they fit doesn't depend on the columns after that one
  pub fits_to_failure : (q : Token) (cs : List Column) → reach_end f q (to_failure cs) ≡ reach_end f q cs

-- ---- heights that fit

-- The law of row r from place q on, whatever is told of the rows that stand in it.
pub record FitsExactly (inner : Inner) (d : FlowsData) (r : ℕ) (q : Token) : Type 0 where
  -- where the first n columns reach the end, a height fits exactly where they are no more than may be used, and none breaks a
  -- rule
  pub fits_by_columns : (n h : ℕ) → is_end (flow_in d r) (end_of q (columns inner d (flow_in d r) n q h)) ≡ true →
      fits inner d r q h ≡ (nat_le (length (columns inner d (flow_in d r) n q h))
      (most_columns (row_of d r).n (flow_in d r) q) && not (list_any fails (columns inner d (flow_in d r) n q h)))
  -- it fits exactly where the columns that are judged reach the end, and none breaks a rule
  pub fits_by_judged : (h : ℕ) → fits inner d r q h ≡ reach_end (flow_in d r) q (judged inner d r q h)

-- ---- fills

-- the columns of the first n fills of row r at a height, each of which begins where the one before it ends
abbrev pub columns_of_fills : Inner → FlowsData → (r n : ℕ) → (q : Token) → (h : ℕ) → List Column
columns_of_fills inner d r zero q h = []
columns_of_fills inner d r (suc n) q h =
    columns inner d (flow_in d r) (row_of d r).n q h
    ++ columns_of_fills inner d r n (end_of q (columns inner d (flow_in d r) (row_of d r).n q h)) h

-- and their fragments
abbrev pub fragments_of_fills : (Token → PlainTree) → Inner → FlowsData → (r n : ℕ) → (q : Token) → (h : ℕ) → List PlainTree
fragments_of_fills piece inner d r zero q h = []
fragments_of_fills piece inner d r (suc n) q h =
    fragments_from piece q (columns inner d (flow_in d r) (row_of d r).n q h)
    ++ fragments_of_fills piece inner d r n (end_of q (columns inner d (flow_in d r) (row_of d r).n q h)) h

-- The law of row r, whatever is told of the rows that stand in it.
pub record FillsFollow (inner : Inner) (d : FlowsData) (r : ℕ) : Type 0 where
  -- the columns of n fills are as many as these make of the row
  pub fills_make : (n : ℕ) (q : Token) (h : ℕ) → columns_of_fills inner d r n q h
      ≡ columns inner d (flow_in d r) (n * (row_of d r).n) q h
  pub fragments_make : (piece : Token → PlainTree) (n : ℕ) (q : Token) (h : ℕ) →
      fragments_of_fills piece inner d r n q h ≡ fragments_from piece q (columns inner d (flow_in d r) (n * (row_of d r).n) q h)
