-- What a walk keeps that has come to an item, and what it decides there.
use Rattle.std.proofs.Common.{◌≡◌, ℕ, ◌+◌, ◌-◌, ◌<◌, ◌≤◌, Bool, true, false, cond, List, [], ◌∷◌, ◌++◌}
use Rattle.std.proofs.Common.{length, Option, Some, None, sym, subst, ◌∙◌, ap, arith}
use Rattle.std.specs.Prelude.{IfSome, is_none, is_some, nat_lt, ◌||◌, ◌==◌}
use Rattle.flow_data.specs.declared.data.Flow.{Flow}
use Rattle.flow_data.specs.declared.data.FlowsData.{FlowsData}
use Rattle.flow_data.specs.declared.data.Item.{Item}
use Rattle.flow_data.specs.Flows.{item_of, seam_of}
use Rattle.flow_list.specs.Book.{after_uses}
use Rattle.flow_list.specs.Certificate.{Use}
use Rattle.flow_list.specs.Column.{Column, Cut, Place, Step, avoids_at, column, fill_in_room, fills, inner_lines, inner_uses}
use Rattle.flow_list.specs.Column.{is_cut, is_forced, place_in, rank, room, row_from, row_list, rows_among, start_strip, step_at}
use Rattle.flow_list.specs.Column.{stopped, strip_behind, unstopped}
use Rattle.flow_list.specs.Folds.{shortage}
use Rattle.flow_list.specs.Looks.{looks}
use Rattle.flow_list.specs.Rows.{all_rows}
use Rattle.flow_list.specs.Strip.{Strip, lay_all}
use Rattle.flow_list.specs.Tokens.{Token, item_number, row_start, within}
use Rattle.flow_list.proofs.Walk.{behind, consider, stop_place}
use Rattle.column_walk.specs.declared.deciding.Decision.{Decision}
use Rattle.column_walk.specs.declared.endings.Ending.{Ending}
use Rattle.column_walk.specs.declared.endings.Here.{Here}
use Rattle.column_walk.specs.Deciding.{IsDecision, IsStopped, IsUnstopped, filled_at, fills_to, first_line}
use Rattle.column_walk.specs.Endings.{considered, place_of, place_opt, step_of}
use Rattle.column_walk.specs.Stopping.{chosen, stop_of}
use Rattle.column_walk.proofs.Chain.{uses-both, uses-none}
use Rattle.column_walk.proofs.Parting.{IsWalked, chosen-is, considered-is, end-column, end-cut, end-ends, goes-on}
use Rattle.column_walk.proofs.Parting.{looks-more, rows-more, stop-column, stop-cut, stop-ends, stop-fills}
use Rattle.column_walk.proofs.Parting.{walk-start}

-- The walk has come to item k, and these are the uses in the book when it began and now.
pub record HasCome (d : FlowsData) (f : Flow) (t : Token) (h k : ℕ) (q : Token) (s : Strip) (best last : Option Place)
    (book new : List Use) : Type 0 where
  pub passed : List Step
  pub walked : IsWalked d f t h k q s best last passed
  pub uses : new ≡ after_uses d book (rows_among passed)

pub come-first : (d : FlowsData) (f : Flow) (t : Token) (h : ℕ) (s : Strip) (book : List Use) → s ≡ start_strip d f t
    → HasCome d f t h (item_number t) (within t) s None None book book
come-first d f t h s book e = record {
  passed = [];
  walked = let P : Strip → Type 0 = λ s. IsWalked d f t h (item_number t) (within t) s None None []
      in subst P (sym e) (walk-start d f t h);
  uses = sym (uses-none d book);
}

last-is : (k : ℕ) (last : Option Ending) → IfSome last (λ e. (e.item ≡ k) × (e.overflow ≡ false))
    → IfSome (place_opt last) (λ p. (p.end ≡ k ∷ []) × (p.overflow ≡ false))
last-is k None is = tt
last-is k (Some e) (i, o) = (ap (λ n. n ∷ []) i, o)

-- the item that the walk has come to is looked at, whatever comes of it
pub looks-of : (d : FlowsData) (f : Flow) (t : Token) (h k : ℕ) (q : Token) (s : Strip) (best last : Option Ending)
    (book now : List Use) → HasCome d f t h k q s (place_opt best) (place_opt last) book now →
    k < length f.items → k - item_number t + 1 ≤ looks (all_rows d) d f t h
looks-of d f t h k q s best last book now come lt =
    let c = come.walked.count in let l = looks-more d f t h k q s (place_opt best) (place_opt last) come.passed come.walked lt
    in omega arith

module _ (d : FlowsData) (f : Flow) (t : Token) (h k : ℕ) (q : Token) (s : Strip) (best last : Option Ending)
    (book now : List Use) (come : HasCome d f t h k q s (place_opt best) (place_opt last) book now)
    (lt : k < length f.items) (last_is : IfSome last (λ e. (e.item ≡ k) × (e.overflow ≡ false))) (here : Here)
    (step : step_of here (row_from (item_of f k) q) (seam_of f (k + 1)).tail ≡ step_at (all_rows d) d f s k q)
    (new : Option Ending) (new_is : place_opt new ≡ considered (place_opt best) (place_opt last) here.level) (more : List Use)
    (sized : more ≡ after_uses d now (row_list (row_from (item_of f k) q))) where
  abbrev st : Step
  st = step_at (all_rows d) d f s k q

  need-is : here.need ≡ st.need
  need-is = ap (λ (s : Step). s.need) step

  considers : place_opt new ≡ consider (place_opt best) (place_opt last) st
  considers = new_is ∙ considered-is (place_opt best) (place_opt last) st here.level (ap (λ (s : Step). s.level) step)
      (last-is k last last_is)

  passed-uses : more ≡ after_uses d book (rows_among (come.passed ++ st ∷ []))
  passed-uses =
      sized ∙ ap (λ b. after_uses d b (row_list (row_from (item_of f k) q))) come.uses
      ∙ uses-both d book (rows_among come.passed) (row_list (row_from (item_of f k) q))
      ∙ ap (after_uses d book) (sym (rows-more come.passed st))

  -- ---- there is no room for it
  module _ (above : h < here.need) where
    above_st : h < st.need
    above_st = let n = need-is in omega arith

    column-is : column (all_rows d) d f t h ≡ stopped (avoids_at d f k) h come.passed st
        (fill_in_room (all_rows d) st.row (room st h))
    column-is = stop-column d f t h k q s (place_opt best) (place_opt last) come.passed come.walked lt above_st

    abbrev last_stop : Column
    last_stop = stopped (avoids_at d f k) h come.passed st (fill_in_room (all_rows d) st.row (room st h))

    -- the place that is chosen
    place-is : chosen (place_opt new) (avoids_at d f k) st h (fill_in_room (all_rows d) st.row (room st h))
        ≡ place_in (column (all_rows d) d f t h)
    place-is =
        chosen-is (place_opt new) (avoids_at d f) h st (fill_in_room (all_rows d) st.row (room st h))
        ∙ ap (λ b. stop_place (avoids_at d f) h b st (fill_in_room (all_rows d) st.row (room st h))) considers
        ∙ sym (stop-ends d f t h k q s (place_opt best) (place_opt last) come.passed come.walked lt above_st)

    of-stop : (out : Decision) → IsStopped (place_opt new) (avoids_at d f k) st h (fill_in_room (all_rows d) st.row (room st h))
        out → IsDecision (all_rows d) d f t h out
    of-stop out told =
        let end_is : out.end ≡ (column (all_rows d) d f t h).end = told.end ∙ ap (λ (p : Place). p.end) place-is in
        let over_is : out.overflow ≡ (column (all_rows d) d f t h).overflow = told.overflow
        ∙ ap (λ (p : Place). p.overflow) place-is in
        record {
          end = end_is;
          level = record { ranked = told.level.ranked ∙ ap (λ (p : Place). p.level) place-is; unforced = told.level.unforced };
          overflow = over_is;
          extent = told.extent ∙ ap (λ (p : Place). p.extent) place-is;
          short = told.short ∙ ap (λ (c : Column). shortage h c.bounds) (sym column-is);
          lines = told.lines
              ∙ ap (λ o. first_line o out.end (Some k) ∷ inner_lines (is_cut st h) (fill_in_room (all_rows d) st.row (room st h)))
              (over_is ∙ ap (λ (c : Column). c.overflow) column-is)
              ∙ ap (λ e. first_line last_stop.overflow e (Some k) ∷ inner_lines (is_cut st h)
              (fill_in_room (all_rows d) st.row (room st h))) (end_is ∙ ap (λ (c : Column). c.end) column-is)
              ∙ sym (ap (λ (c : Column). c.lines) column-is);
          filled = told.fills ∙ ap (λ e. filled_at h (Some st) e) end_is
              ∙ ap (λ (c : Cut). filled_at h c.stop (column (all_rows d) d f t h).end)
              (sym (stop-cut d f t h k q s (place_opt best) (place_opt last) come.passed come.walked lt above_st));
          fills = told.whole ∙ ap (λ e. fills_to h (Some st) e) end_is
              ∙ ap (λ (c : Cut). fills_to h c.stop (column (all_rows d) d f t h).end)
              (sym (stop-cut d f t h k q s (place_opt best) (place_opt last) come.passed come.walked lt above_st));
        }

    pub stop-decision : (item : Item) → item ≡ item_of f k → here.item ≡ k → here.avoids ≡ avoids_at d f k → (out : Decision) →
        IsStopped (place_opt new) here.avoids (stop_of f here item q) h
        (fill_in_room (all_rows d) (row_from item q) (room (step_of here None []) h)) out →
        IsDecision (all_rows d) d f t h out
    stop-decision item item_is number avoids out told =
        let I : Item → Type 0 = λ i. IsStopped (place_opt new) here.avoids (stop_of f here i q) h
        (fill_in_room (all_rows d) (row_from i q) (room (step_of here None []) h)) out in
        let N : ℕ → Type 0 = λ n. IsStopped (place_opt new) here.avoids
        (step_of here (row_from (item_of f k) q) (seam_of f (n + 1)).tail) h
        (fill_in_room (all_rows d) (row_from (item_of f k) q) (room (step_of here None []) h)) out in
        let S : Step → Type 0 = λ u. IsStopped (place_opt new) here.avoids u h (fill_in_room (all_rows d) u.row (room u h)) out in
        let A : Bool → Type 0 = λ a. IsStopped (place_opt new) a st h (fill_in_room (all_rows d) st.row (room st h)) out in
        of-stop out (subst A avoids (subst S step (subst N number (subst I item_is told))))

    pub stop-uses : (item : Item) → item ≡ item_of f k → (final : List Use) →
        final ≡ after_uses d more (inner_uses
        (cond (is_none (place_opt new)) (nat_lt (room (step_of here None []) h) here.height)
        (is_cut (step_of here None []) h))
        (fill_in_room (all_rows d) (row_from item q) (room (step_of here None []) h)))
        → final ≡ after_uses d book (column (all_rows d) d f t h).uses
    stop-uses item item_is final used =
        let I : Item → Type 0 = λ i. final
        ≡ after_uses d more (inner_uses
        (cond (is_none (place_opt new)) (nat_lt (room (step_of here None []) h) here.height)
        (is_cut (step_of here None []) h))
        (fill_in_room (all_rows d) (row_from i q) (room (step_of here None []) h))) in
        let S : Step → Type 0 = λ u. final
        ≡ after_uses d more (inner_uses (cond (is_none (place_opt new)) (nat_lt (room u h) u.height) (is_cut u h))
        (fill_in_room (all_rows d) u.row (room u h))) in
        let at_step : final ≡ after_uses d more
        (inner_uses (cond (is_none (place_opt new)) (nat_lt (room st h) st.height) (is_cut st h))
        (fill_in_room (all_rows d) st.row (room st h))) = subst S step (subst I item_is used) in
        at_step
        ∙ ap (λ b. after_uses d more (inner_uses (cond (is_none b) (nat_lt (room st h) st.height) (is_cut st h))
        (fill_in_room (all_rows d) st.row (room st h)))) considers
        ∙ ap (λ u. after_uses d more (inner_uses u (fill_in_room (all_rows d) st.row (room st h))))
        (sym (stop-fills d f t h k q s (place_opt best) (place_opt last) come.passed come.walked lt above_st))
        ∙ ap (λ b. after_uses d b (inner_uses (fills come.passed st h) (fill_in_room (all_rows d) st.row (room st h))))
        passed-uses
        ∙ uses-both d book (rows_among (come.passed ++ st ∷ []))
        (inner_uses (fills come.passed st h) (fill_in_room (all_rows d) st.row (room st h)))
        ∙ ap (λ (c : Column). after_uses d book c.uses) (sym column-is)

  -- ---- it fits
  module _ (fits : here.need ≤ h) (ending : Ending) (number : ending.item ≡ here.item + 1) (is_here : here.item ≡ k)
      (level : rank ending.level ≡ 0) (extent : ending.extent ≡ here.need) (over : ending.overflow ≡ false) where
    fits_st : st.need ≤ h
    fits_st = let n = need-is in omega arith

    abbrev made : ℕ → ℕ → ℕ → Bool → Place
    made l i x o = record { level = l; end = i ∷ []; extent = x; overflow = o }

    ending-is : place_of ending ≡ behind st
    ending-is =
        ap (λ l. made l ending.item ending.extent ending.overflow) level
        ∙ ap (λ i. made 0 i ending.extent ending.overflow) (number ∙ ap (λ n. n + 1) is_here)
        ∙ ap (λ x. made 0 (k + 1) x ending.overflow) (extent ∙ need-is) ∙ ap (λ o. made 0 (k + 1) st.need o) over

    -- and the column ends after it
    module _ (ends : (is_forced (seam_of f (k + 1)).level || (k + 1 == length f.items)) ≡ true) where
      whole-is : column (all_rows d) d f t h ≡ unstopped (come.passed ++ st ∷ [])
      whole-is = end-column d f t h k q s (place_opt best) (place_opt last) come.passed come.walked lt fits_st ends

      abbrev whole : Column
      whole = unstopped (come.passed ++ st ∷ [])

      end-is : place_of ending ≡ place_in (column (all_rows d) d f t h)
      end-is = ending-is ∙ sym (end-ends d f t h k q s (place_opt best) (place_opt last) come.passed come.walked lt fits_st ends)

      pub end-decision : (out : Decision) → IsUnstopped (place_of ending) out → IsDecision (all_rows d) d f t h out
      end-decision out told =
          let end_is : out.end ≡ (column (all_rows d) d f t h).end = told.end ∙ ap (λ (p : Place). p.end) end-is in
          let over_is : out.overflow ≡ (column (all_rows d) d f t h).overflow = told.overflow
          ∙ ap (λ (p : Place). p.overflow) end-is in
          record {
            end = end_is;
            level = record { ranked = told.level.ranked ∙ ap (λ (p : Place). p.level) end-is; unforced = told.level.unforced };
            overflow = over_is;
            extent = told.extent ∙ ap (λ (p : Place). p.extent) end-is;
            short = told.short ∙ ap (λ (c : Column). shortage h c.bounds) (sym whole-is);
            lines = told.lines ∙ ap (λ o. first_line o out.end None ∷ []) (over_is ∙ ap (λ (c : Column). c.overflow) whole-is)
                ∙ ap (λ e. first_line whole.overflow e None ∷ []) (end_is ∙ ap (λ (c : Column). c.end) whole-is)
                ∙ sym (ap (λ (c : Column). c.lines) whole-is);
            filled = told.fills ∙ ap (λ (c : Cut). filled_at h c.stop (column (all_rows d) d f t h).end)
                (sym (end-cut d f t h k q s (place_opt best) (place_opt last) come.passed come.walked lt fits_st ends));
            fills = ap is_some told.fills ∙ ap (λ (p : Place). fills_to h None p.end) end-is
                ∙ ap (λ (c : Cut). fills_to h c.stop (column (all_rows d) d f t h).end)
                (sym (end-cut d f t h k q s (place_opt best) (place_opt last) come.passed come.walked lt fits_st ends));
          }

      pub end-uses : more ≡ after_uses d book (column (all_rows d) d f t h).uses
      end-uses = passed-uses ∙ ap (λ (c : Column). after_uses d book c.uses) (sym whole-is)

    -- and the walk goes on
    pub come-next : is_forced (seam_of f (k + 1)).level ≡ false → (after : Strip)
        → after ≡ lay_all (strip_behind (all_rows d) f s k q) (seam_of f (k + 1)).head →
        HasCome d f t h (k + 1) row_start after (place_opt new) (Some (place_of ending)) book more
    come-next unforced after laid = record {
      passed = come.passed ++ st ∷ [];
      walked = rw (laid, ending-is)
          (goes-on d f t h k q s (place_opt best) (place_opt last) come.passed come.walked lt fits_st unforced (place_opt new)
          considers);
      uses = passed-uses;
    }
