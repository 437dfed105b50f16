-- What is told of columns and one more.
use Rattle.std.proofs.Common.{◌≡◌, ℕ, ◌+◌, max, Bool, true, false, cond, ◌||◌, List, [], ◌∷◌, ◌++◌, refl, sym, ◌∙◌, ap, arith}
use Rattle.std.specs.Prelude.{nat_lt}
use Rattle.std.specs.List.{list_any}
use Rattle.std.proofs.lemmas.List.{append-nil}
use Rattle.std.proofs.lemmas.List.Folds.{list_any-append}
use Rattle.flow_data.specs.declared.data.Flow.{Flow}
use Rattle.flow_list.specs.Column.{Column, rank}
use Rattle.flow_list.specs.Folds.{Folded, folded_by, shortage}
use Rattle.flow_list.specs.Ranges.{bounds_of, lines_of}
use Rattle.flow_list.specs.RowHeights.{is_unforced}
use Rattle.flow_list.specs.Rows.{end_of, fails, to_overflow}
use Rattle.flow_list.specs.Tokens.{Token}
use Rattle.column_laws.specs.Following.{lesser, told_after}
use Rattle.column_laws.proofs.Following.{folds-follow}
use Rattle.inner_rows.specs.Filling.{IsLevel}
use Rattle.block_flow.specs.Columns.{IsColumn}
use Rattle.block_flow.specs.declared.making.ColumnOut.{ColumnOut}
use Rattle.column_row.specs.Adding.{IsSoFar}
use Rattle.column_row.specs.declared.adding.SoFar.{SoFar}

-- what code tells of a column added to others
pub record IsAdded (f : Flow) (before : SoFar) (out : ColumnOut) (next : SoFar) : Type 0 where
  pub columns : next.columns ≡ before.columns + 1
  pub end : next.end ≡ out.end
  pub broken : next.broken ≡ (before.broken || (out.overflow || nat_lt 0 (rank out.level)))
  pub unforced : next.unforced ≡ (before.unforced || is_unforced f out.end)
  pub level : (m n : ℕ) → IsLevel before.level m → IsLevel out.level n → IsLevel next.level (max m n)
  pub overflow : next.overflow ≡ (before.overflow || out.overflow)
  pub extent : next.extent ≡ max before.extent out.extent
  pub short : next.short ≡ cond before.overflow before.short (lesser before.short out.short)
  pub lines : next.lines ≡ cond before.overflow before.lines (before.lines ++ out.lines)

-- ---- one column alone

or-false : (b : Bool) → (b || false) ≡ b
or-false true = refl
or-false false = refl

alone : (c : Column) → to_overflow (c ∷ []) ≡ c ∷ []
alone c = go c.overflow
  where
    go : (b : Bool) → c ∷ cond b [] [] ≡ c ∷ []
    go true = refl
    go false = refl

one-short : (h : ℕ) (c : Column) → shortage h (bounds_of (to_overflow (c ∷ []))) ≡ shortage h c.bounds
one-short h c = ap (λ cs. shortage h (bounds_of cs)) (alone c) ∙ ap (shortage h) (append-nil c.bounds)

one-lines : (c : Column) → lines_of (to_overflow (c ∷ [])) ≡ c.lines
one-lines c = ap lines_of (alone c) ∙ append-nil c.lines

-- ---- columns and one more

pub with-one : (f : Flow) (q : Token) (h : ℕ) (cs : List Column) (c : Column) (before : SoFar) (out : ColumnOut) (next : SoFar) →
    IsAdded f before out next → IsSoFar f q h cs before → IsColumn h c out → IsSoFar f q h (cs ++ c ∷ []) next
with-one f q h cs c before out next added told made =
    let joined : folded_by f q h (cs ++ c ∷ [])
    ≡ told_after (list_any fails cs) (folded_by f q h cs) (folded_by f (end_of q cs) h (c ∷ [])) =
    (folds-follow f).told_joined q h cs (c ∷ []) in
    record {
      columns = added.columns ∙ ap (λ n. n + 1) told.columns ∙ sym (ap (λ (t : Folded). t.columns) joined);
      end = added.end ∙ made.end ∙ sym (ap (λ (t : Folded). t.end) joined);
      broken =
          let a = added.broken in
          let b = told.broken in
          let o = made.overflow in
          let l = made.level.ranked in
          let e : list_any fails (cs ++ c ∷ []) ≡ (list_any fails cs || (fails c || false)) = list_any-append fails cs (c ∷ []) in
          let n = or-false (fails c) in
          cc;
      unforced =
          let a = added.unforced in
          let b = told.unforced in
          let o = made.end in
          let e = ap (λ (t : Folded). t.unforced) joined in
          let n = or-false (is_unforced f c.end) in
          cc;
      level =
          let e = ap (λ (t : Folded). t.level) joined in
          rw e (added.level (folded_by f q h cs).level (max 0 c.level) told.level (level-alone made.level));
      overflow =
          let a = added.overflow in
          let b = told.overflow in
          let o = made.overflow in
          let e = ap (λ (t : Folded). t.overflow) joined in
          let n = or-false c.overflow in
          cc;
      extent =
          let a = added.extent in
          let b = told.extent in
          let o = made.extent in
          let e = ap (λ (t : Folded). t.extent) joined in
          omega arith;
      short =
          let a = added.short in
          let b = told.short in
          let v = told.overflow in
          let o = made.short in
          let e = ap (λ (t : Folded). t.short) joined in
          let n = one-short h c in
          cc;
      lines =
          let a = added.lines in
          let b = told.lines in
          let v = told.overflow in
          let o = made.lines in
          let e = ap (λ (t : Folded). t.lines) joined in
          let n = one-lines c in
          cc;
    }
  where
    level-alone : IsLevel out.level c.level → IsLevel out.level (max 0 c.level)
    level-alone is = let e : max 0 c.level ≡ c.level = omega arith in rw e is
