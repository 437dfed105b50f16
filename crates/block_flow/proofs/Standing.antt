-- Once what a column uses is entered in a book, its rows stand there and what the row that it fills uses: neither enters anything
-- new.
use Rattle.std.proofs.Common.{◌≡◌, ℕ, ◌+◌, ◌-◌, ◌<◌, Bool, true, List, [], ◌∷◌, ◌++◌, Option, Some, None}
use Rattle.std.proofs.Common.{sym, subst, ◌∙◌, ap, arith}
use Rattle.std.specs.List.{AllByRecursion as Each}
use Rattle.std.proofs.lemmas.List.Elements.{All-from_recursion, recursion_from_All}
use Rattle.flow_data.specs.declared.data.Flow.{Flow}
use Rattle.flow_data.specs.declared.data.FlowsData.{FlowsData}
use Rattle.flow_list.specs.Book.{AllStand, after_uses}
use Rattle.flow_list.specs.Certificate.{Use, stands_in}
use Rattle.flow_list.specs.Column.{Step, avoids_at, column, column_up_to, cut, fill_in_room, fills, inner_uses, room}
use Rattle.flow_list.specs.Column.{rows_among, steps_from}
use Rattle.flow_list.specs.Looks.{looks}
use Rattle.flow_list.specs.Rows.{all_rows}
use Rattle.flow_list.specs.Tokens.{IsPlaceBefore, Token, item_number}
use Rattle.flow_list.proofs.ColumnParts.{EachFrom, cut-each, through}
use Rattle.range_laws.specs.Entering.{UsesEnter}
use Rattle.column_maker.specs.Making.{items_in, last_item, rows_in_column}
use Rattle.column_walk.specs.declared.deciding.Decision.{Decision}
use Rattle.column_walk.specs.declared.deciding.FilledRow.{FilledRow}
use Rattle.column_walk.specs.Deciding.{IsDecision, filled_at, fills_to}
use Rattle.block_flow.specs.Columns.{uses_filled}
use Rattle.block_flow.proofs.Endings.{filled-there, stop-row}
use Rattle.block_flow.proofs.Items.{IsItem, back, ends-within, begins-inside, items, rows-used, stop-fills, stop-seams}

-- In the column of flow f that begins at t, of height h, which was decided, and where each of its uses is so.
module _ (P : Use → Type 0) (d : FlowsData) (f : Flow) (t : Token) (h : ℕ) (out : Decision)
    (told : IsDecision (all_rows d) d f t h out) (all : Each P (column (all_rows d) d f t h).uses) where
  -- what the row uses that it fills
  fill-used : (r : FilledRow) → Some r ≡ filled_at h (cut h (steps_from (all_rows d) d f t)).stop out.end →
      Each P ((all_rows d).fill r.row r.from r.height).uses
  unfolding column
  fill-used r fills_is = go (cut h (steps_from (all_rows d) d f t)).before (cut h (steps_from (all_rows d) d f t)).stop
      (cut-each (IsItem d f t) h (item_number t) (steps_from (all_rows d) d f t) (items d f t)) all told.end fills_is
    where
      go : (before : List Step) (stop : Option Step) → EachFrom (IsItem d f t) (item_number t) (through before stop) →
          Each P (column_up_to (all_rows d) (avoids_at d f) h before stop).uses →
          out.end ≡ (column_up_to (all_rows d) (avoids_at d f) h before stop).end → Some r ≡ filled_at h stop out.end →
          Each P ((all_rows d).fill r.row r.from r.height).uses
      go before None of used at fills_is = absurd (cc)
      go before (Some s) of used at fills_is =
          let there = stop-row h s out.end r fills_is in
          let fill : fills before s h ≡ true = stop-fills (avoids_at d f s.item) h before s
          (fill_in_room (all_rows d) s.row (room s h)) (stop-seams d f t (item_number t) before s of).1
          (ap (fills_to h (Some s)) (sym at) ∙ there.filled) in
          let own : Each P (inner_uses (fills before s h) (fill_in_room (all_rows d) s.row (room s h))) =
          back P (rows_among (before ++ s ∷ [])) _ used in
          let filled : Each P (inner_uses true (fill_in_room (all_rows d) s.row (room s h))) =
          subst (λ (b : Bool). Each P (inner_uses b (fill_in_room (all_rows d) s.row (room s h)))) fill own in
          let row : Each P ((all_rows d).fill r.row r.from (room s h)).uses =
          subst (λ (o : Option Use). Each P (inner_uses true (fill_in_room (all_rows d) o (room s h)))) there.row filled in
          subst (λ (a : ℕ). Each P ((all_rows d).fill r.row r.from a).uses) (sym there.height) row

  filled-used : Each P (uses_filled d out.filled)
  filled-used = go out.filled (filled-there d f t h out told)
    where
      go : (filled : Option FilledRow) → filled ≡ filled_at h (cut h (steps_from (all_rows d) d f t)).stop out.end →
          Each P (uses_filled d filled)
      go None is = tt
      go (Some r) is = fill-used r is

  -- the rows in it that stand whole
  rows-in : IsPlaceBefore d f t → (cut_at : Option ℕ) → Each P (rows_in_column f t out.end cut_at)
  rows-in before cut_at = go cut_at
    where
      few : last_item out.end < item_number t + looks (all_rows d) d f t h
      few = let e = ap last_item told.end in let lt = ends-within d f t h (begins-inside d f t before) in omega arith

      go : (cut_at : Option ℕ) → Each P (rows_in_column f t out.end cut_at)
      go None = rows-used d f t P h (items_in t out.end) all (omega (arith, few))
      go (Some a) = rows-used d f t P h (last_item out.end - item_number t) all (omega (arith, few))

-- the book after the column is decided, its row filled again and its fragment made is that after it is decided
pub same-book : (d : FlowsData) → UsesEnter d → (f : Flow) (t : Token) → IsPlaceBefore d f t → (h : ℕ) (out : Decision) →
    IsDecision (all_rows d) d f t h out → (cut_at : Option ℕ) → (old decided again made : List Use) →
    decided ≡ after_uses d old (column (all_rows d) d f t h).uses → again ≡ after_uses d decided (uses_filled d out.filled) →
    made ≡ after_uses d again (rows_in_column f t out.end cut_at) →
    made ≡ after_uses d old (column (all_rows d) d f t h).uses
same-book d law f t before h out told cut_at old decided again made decides fills_again makes =
    let P : Use → Type 0 = λ u. stands_in decided u ≡ true in
    let stand : AllStand decided (column (all_rows d) d f t h).uses =
    subst (λ (b : List Use). AllStand b (column (all_rows d) d f t h).uses) (sym decides) (law.stand old _) in
    let all = recursion_from_All P (column (all_rows d) d f t h).uses stand in
    let same : again ≡ decided = fills_again ∙ law.none_new decided (uses_filled d out.filled)
    (All-from_recursion P (uses_filled d out.filled) (filled-used P d f t h out told all)) in
    makes ∙ ap (λ b. after_uses d b (rows_in_column f t out.end cut_at)) same
    ∙ law.none_new decided (rows_in_column f t out.end cut_at)
    (All-from_recursion P (rows_in_column f t out.end cut_at) (rows-in P d f t h out told all before cut_at))
    ∙ decides
