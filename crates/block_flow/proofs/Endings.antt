-- How a column ends that was decided.
use Rattle.std.proofs.Common.{◌≡◌, ℕ, ◌≤◌, Bool, true, false, cond, [], ◌∷◌, length, Option, Some, None, refl, sym, subst}
use Rattle.std.proofs.Common.{◌∙◌, ap, arith}
use Rattle.std.specs.Prelude.{IfSome, is_some}
use Rattle.std.proofs.lemmas.List.{length-append}
use Rattle.flow_data.specs.declared.data.Flow.{Flow}
use Rattle.flow_data.specs.declared.data.FlowsData.{FlowsData}
use Rattle.flow_list.specs.Column.{Step, cut, room, steps_from}
use Rattle.flow_list.specs.Rows.{all_rows}
use Rattle.flow_list.specs.Tokens.{Token}
use Rattle.frag_pool.specs.Growing.{Grows}
use Rattle.frag_pool.specs.Nodes.{Nodes}
use Rattle.frag_pool.specs.Standing.{StandsFor}
use Rattle.inner_rows.specs.Filling.{fill_tree}
use Rattle.column_maker.specs.declared.place.Cut.{Cut}
use Rattle.column_maker.specs.Making.{IsCutAt, IsEnding, ends_filled}
use Rattle.column_walk.specs.declared.deciding.Decision.{Decision}
use Rattle.column_walk.specs.declared.deciding.FilledRow.{FilledRow}
use Rattle.column_walk.specs.Deciding.{IsDecision, filled_at, filled_row, fills_to}
use Rattle.block_flow.specs.Columns.{IsCutOf}

-- the row that a column fills is the stop's, in the room that is left
pub record IsStopRow (h : ℕ) (s : Step) (end : Token) (r : FilledRow) : Type 0 where
  pub filled : fills_to h (Some s) end ≡ true
  pub row : s.row ≡ Some (r.row, r.from)
  pub height : r.height ≡ room s h

pub stop-row : (h : ℕ) (s : Step) (end : Token) (r : FilledRow) → Some r ≡ filled_at h (Some s) end → IsStopRow h s end r
stop-row h s end r is = go (fills_to h (Some s) end) s.row refl refl is
  where
    go : (b : Bool) (row : Option (ℕ × Token)) → fills_to h (Some s) end ≡ b → s.row ≡ row →
        Some r ≡ cond b (filled_row row s.item (room s h)) None → IsStopRow h s end r
    go false row f at e = absurd (cc)
    go true None f at e = absurd (cc)
    go true (Some u) f at e =
        let same : r ≡ record { item = s.item; row = u.0; from = u.1; height = room s h } = cc in
        record {
          filled = f;
          row = at ∙ ap (λ (z : FilledRow). Some (z.row, z.from)) (sym same);
          height = ap (λ (z : FilledRow). z.height) same;
        }

ends-same : (d : FlowsData) (f : Flow) (t : Token) (h : ℕ) (end : Token) →
    ends_filled d f t h end ≡ fills_to h (cut h (steps_from (all_rows d) d f t)).stop end
ends-same d f t h [] = refl
ends-same d f t h (e ∷ []) = refl
ends-same d f t h (e ∷ (j ∷ rest)) = refl

cut-at : (d : FlowsData) (p : Nodes) (h : ℕ) (stop : Option Step) (end : Token) (r : FilledRow) (c : Cut) →
    Some r ≡ filled_at h stop end → IsCutOf d p (Some r) (Some c) → IsCutAt d p h stop c
cut-at d p h None end r c is made = absurd (cc)
cut-at d p h (Some s) end r c is made =
    let at = stop-row h s end r is in
    let stands : StandsFor p c.made (fill_tree d r.row r.from (room s h)) = rw (sym at.height) made.1 in (
      made.0 ∙ at.height,
      subst (λ (o : Option (ℕ × Token)). IfSome o (λ u. StandsFor p c.made (fill_tree d u.0 u.1 (room s h)))) (sym at.row) stands,
    )

ending-of : (d : FlowsData) (p : Nodes) (f : Flow) (t : Token) (h : ℕ) (end : Token) (filled : Option FilledRow)
    (made : Option Cut) → filled ≡ filled_at h (cut h (steps_from (all_rows d) d f t)).stop end →
    is_some filled ≡ fills_to h (cut h (steps_from (all_rows d) d f t)).stop end → IsCutOf d p filled made →
    IsEnding d p f t h end made
ending-of d p f t h end None None is some cut_is = ends-same d f t h end ∙ sym some
ending-of d p f t h end None (Some c) is some cut_is = absurd cut_is
ending-of d p f t h end (Some r) None is some cut_is = absurd cut_is
ending-of d p f t h end (Some r) (Some c) is some cut_is =
    (ends-same d f t h end ∙ sym some, cut-at d p h (cut h (steps_from (all_rows d) d f t)).stop end r c is cut_is)

-- In the column of flow f that begins at t, of height h, which was decided.
module _ (d : FlowsData) (f : Flow) (t : Token) (h : ℕ) (out : Decision) (told : IsDecision (all_rows d) d f t h out) where
  -- the row that it fills
  pub filled-there : out.filled ≡ filled_at h (cut h (steps_from (all_rows d) d f t)).stop out.end
  filled-there = told.filled ∙ ap (filled_at h (cut h (steps_from (all_rows d) d f t)).stop) (sym told.end)

  -- how it ends, for whoever makes it
  pub ending : (p : Nodes) (made : Option Cut) → IsCutOf d p out.filled made → IsEnding d p f t h out.end made
  ending p made cut_is = ending-of d p f t h out.end out.filled made filled-there
      (told.fills ∙ ap (fills_to h (cut h (steps_from (all_rows d) d f t)).stop) (sym told.end)) cut_is

-- ---- the region

-- one that grew holds the trial nodes that it had
pub grown-within : (p q : Nodes) (n : ℕ) → n ≡ length p.trial → Grows p q → n ≤ length q.trial
grown-within p q n marked grown = let e = ap length grown.trial in let l = length-append p.trial grown.more_trial in omega arith
