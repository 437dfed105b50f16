-- A walk over the items of a column that has come to an item: those before it were passed, and the rest of the column is what the
-- rest of the items make it.
use Rattle.std.proofs.Common.{◌≡◌, ℕ, suc, ◌+◌, ◌-◌, ◌<◌, ◌≤◌, Bool, true, false, cond, List, [], ◌∷◌, ◌++◌, length, Option}
use Rattle.std.proofs.Common.{Some, None, refl, sym, ◌∙◌, ap, append_assoc, arith}
use Rattle.std.specs.Prelude.{nat_lt, is_none, ◌||◌, ◌==◌, IfSome}
use Rattle.std.proofs.lemmas.Bool.{lt-ltb, le-ltb}
use Rattle.std.proofs.lemmas.Bool.Decides.{nat_tests}
use Rattle.std.proofs.lemmas.Grind.{flat_map-append}
use Rattle.std.proofs.lemmas.List.{append-nil, length-append}
use Rattle.mc_base.specs.declared.level.Level.{Level}
use Rattle.flow_data.specs.declared.data.Flow.{Flow}
use Rattle.flow_data.specs.declared.data.FlowsData.{FlowsData}
use Rattle.flow_data.specs.Flows.{seam_of}
use Rattle.flow_list.specs.Column.{Cut, Filled, Place, Step, avoids_at, column, column_up_to, cut, fill_in_room}
use Rattle.flow_list.specs.Column.{fills, is_cut, is_forced, longer, place_in, room, row_list}
use Rattle.flow_list.specs.Column.{rows_among, start_strip, step_at, steps, steps_from, stopped, strip_behind, unstopped}
use Rattle.flow_list.specs.Looks.{looks, stop_count}
use Rattle.flow_list.specs.Rows.{all_rows}
use Rattle.flow_list.specs.Strip.{Strip, lay_all}
use Rattle.flow_list.specs.Tokens.{Token, item_number, row_start, within}
use Rattle.flow_list.proofs.Walk.{behind, column_over-walk, consider, stop_place, walk}
use Rattle.column_walk.specs.Endings.{considered}
use Rattle.column_walk.specs.Stopping.{chosen}

-- what a cut is after items that were passed
abbrev after_passed : List Step → Cut → Cut
after_passed passed c = record { before = passed ++ c.before; stop = c.stop }

abbrev looks_of : Cut → ℕ
looks_of c = length c.before + stop_count c.stop

-- items were passed just where there is a last place
abbrev pub HasPassed : Option Place → List Step → Type 0
HasPassed None passed = passed ≡ []
HasPassed (Some p) passed = 0 < length passed

-- The walk over the column of height h from place t has come to item k, which is taken from q and has this strip before it: these
-- are the best place so far and the last one.
pub record IsWalked (d : FlowsData) (f : Flow) (t : Token) (h k : ℕ) (q : Token) (s : Strip) (best last : Option Place)
    (passed : List Step) : Type 0 where
  pub parted : cut h (steps_from (all_rows d) d f t)
      ≡ after_passed passed (cut h (steps (all_rows d) d f s k q (length f.items - k)))
  pub ends : place_in (column (all_rows d) d f t h) ≡ walk (all_rows d) (avoids_at d f) h best last
      (steps (all_rows d) d f s k q (length f.items - k))
  pub count : item_number t + length passed ≡ k
  pub seen : last ≡ None → best ≡ None
  pub some : HasPassed last passed

pub walk-start : (d : FlowsData) (f : Flow) (t : Token) (h : ℕ)
    → IsWalked d f t h (item_number t) (within t) (start_strip d f t) None None []
unfolding column
walk-start d f t h = record {
  parted = refl;
  ends = column_over-walk (all_rows d) (avoids_at d f) h (steps_from (all_rows d) d f t);
  count = omega arith;
  seen = λ e. refl;
  some = refl;
}

place_to : ℕ → ℕ → Place
place_to e extent = record { level = 0; end = e ∷ []; extent = extent; overflow = false }

longer-after : (passed : List Step) (st : Step) (c : Cut) → after_passed passed (longer st c) ≡ after_passed (passed ++ st ∷ []) c
longer-after passed st c =
    let a : (passed ++ st ∷ []) ++ c.before ≡ passed ++ (st ∷ c.before) = append_assoc passed (st ∷ []) c.before
    in ap (λ xs. record { before = xs; stop = c.stop }) (sym a)

module _ (d : FlowsData) (f : Flow) (t : Token) (h k : ℕ) (q : Token) (s : Strip) (best last : Option Place) (passed : List Step)
    (walked : IsWalked d f t h k q s best last passed) (lt : k < length f.items) where
  abbrev st : Step
  st = step_at (all_rows d) d f s k q

  abbrev more : List Step
  more = elim (is_forced (seam_of f (k + 1)).level) [
    | true ↦ []
    | false ↦ steps (all_rows d) d f (lay_all (strip_behind (all_rows d) f s k q) (seam_of f (k + 1)).head) (k + 1)
        row_start (length f.items - (k + 1))
  ]

  opened : steps (all_rows d) d f s k q (length f.items - k) ≡ st ∷ more
  unfolding steps
  opened = let n : length f.items - k ≡ suc (length f.items - (k + 1)) = omega arith in ap (λ m. steps (all_rows d) d f s k q m) n

  parts : cut h (steps_from (all_rows d) d f t) ≡ after_passed passed (cut h (st ∷ more))
  parts = walked.parted ∙ ap (λ ss. after_passed passed (cut h ss)) opened

  one : place_in (column (all_rows d) d f t h) ≡ walk (all_rows d) (avoids_at d f) h best last (st ∷ more)
  one = walked.ends ∙ ap (walk (all_rows d) (avoids_at d f) h best last) opened

  -- ---- there is no room for the item
  module _ (above : h < st.need) where
    pub stop-cut : cut h (steps_from (all_rows d) d f t) ≡ record { before = passed; stop = Some st }
    stop-cut = parts ∙ rw (lt-ltb h st.need above) (ap (λ xs. record { before = xs; stop = Some st }) (append-nil passed))

    pub stop-column : column (all_rows d) d f t h
        ≡ stopped (avoids_at d f k) h passed st (fill_in_room (all_rows d) st.row (room st h))
    unfolding column
    stop-column = ap (λ (c : Cut). column_up_to (all_rows d) (avoids_at d f) h c.before c.stop) stop-cut

    pub stop-ends : place_in (column (all_rows d) d f t h) ≡ stop_place (avoids_at d f) h (consider best last st) st
        (fill_in_room (all_rows d) st.row (room st h))
    stop-ends = one ∙ rw (lt-ltb h st.need above) refl

    -- it is filled as the column's first item, or where it is cut
    pub stop-fills : fills passed st h ≡ cond (is_none (consider best last st)) (nat_lt (room st h) st.height) (is_cut st h)
    stop-fills = go best last passed walked.seen walked.some
      where
        go : (best last : Option Place) (passed : List Step) → (last ≡ None → best ≡ None) → HasPassed last passed →
            fills passed st h ≡ cond (is_none (consider best last st)) (nat_lt (room st h) st.height) (is_cut st h)
        go None None [] seen some = refl
        go None None (x ∷ xs) seen some = absurd (cc)
        go (Some b) None passed seen some = let n = seen refl in absurd (cc)
        go best (Some p) [] seen some = absurd (omega arith)
        go best (Some p) (x ∷ xs) seen some = refl

    pub stop-looks : looks (all_rows d) d f t h ≡ length passed + 1
    unfolding looks
    stop-looks = ap (λ (c : Cut). length c.before + stop_count c.stop) stop-cut

  -- ---- the item fits
  module _ (fits : st.need ≤ h) where
    fit-cut : cut h (steps_from (all_rows d) d f t) ≡ after_passed (passed ++ st ∷ []) (cut h more)
    fit-cut = parts ∙ rw (le-ltb h st.need fits) (longer-after passed st (cut h more))

    fit-ends : place_in (column (all_rows d) d f t h) ≡ walk (all_rows d) (avoids_at d f) h (consider best last st)
        (Some (behind st)) more
    fit-ends = one ∙ rw (le-ltb h st.need fits) refl

    -- and the column ends after it
    module _ (ends : (is_forced (seam_of f (k + 1)).level || (k + 1 == length f.items)) ≡ true) where
      no-more : more ≡ []
      unfolding steps
      no-more = go (is_forced (seam_of f (k + 1)).level) (k + 1 == length f.items) refl ends
        where
          nothing : (n : ℕ) → n ≡ 0 → steps (all_rows d) d f
              (lay_all (strip_behind (all_rows d) f s k q) (seam_of f (k + 1)).head) (k + 1) row_start n ≡ []
          nothing n e = ap (λ m. steps (all_rows d) d f (lay_all (strip_behind (all_rows d) f s k q) (seam_of f (k + 1)).head)
              (k + 1) row_start m) e

          go : (forced at : Bool) → (k + 1 == length f.items) ≡ at → (forced || at) ≡ true →
              (elim forced as (λ _. List Step) [
                | true ↦ []
                | false ↦ steps (all_rows d) d f
                    (lay_all (strip_behind (all_rows d) f s k q) (seam_of f (k + 1)).head) (k + 1) row_start
                    (length f.items - (k + 1))
              ]) ≡ []
          go true at e some = refl
          go false true e some = nothing (length f.items - (k + 1)) (let l : k + 1 ≡ length f.items = grind (arith, nat_tests)
              in omega arith)
          go false false e some = absurd (cc)

      pub end-cut : cut h (steps_from (all_rows d) d f t) ≡ record { before = passed ++ st ∷ []; stop = None }
      end-cut = fit-cut ∙ ap (λ ss. after_passed (passed ++ st ∷ []) (cut h ss)) no-more
          ∙ ap (λ xs. record { before = xs; stop = None }) (append-nil (passed ++ st ∷ []))

      pub end-column : column (all_rows d) d f t h ≡ unstopped (passed ++ st ∷ [])
      unfolding column
      end-column = ap (λ (c : Cut). column_up_to (all_rows d) (avoids_at d f) h c.before c.stop) end-cut

      pub end-ends : place_in (column (all_rows d) d f t h) ≡ behind st
      end-ends = fit-ends ∙ ap (walk (all_rows d) (avoids_at d f) h (consider best last st) (Some (behind st))) no-more

      pub end-looks : looks (all_rows d) d f t h ≡ length passed + 1
      unfolding looks
      end-looks = let l = length-append passed (st ∷ []) in ap (λ (c : Cut). length c.before + stop_count c.stop) end-cut
          ∙ omega arith

    -- and the walk goes on
    more-goes : is_forced (seam_of f (k + 1)).level ≡ false
        → more ≡ steps (all_rows d) d f (lay_all (strip_behind (all_rows d) f s k q) (seam_of f (k + 1)).head) (k + 1) row_start
        (length f.items - (k + 1))
    more-goes unforced = go (is_forced (seam_of f (k + 1)).level) unforced
      where
        go : (b : Bool) → b ≡ false →
            (elim b as (λ _. List Step) [
              | true ↦ []
              | false ↦ steps (all_rows d) d f (lay_all (strip_behind (all_rows d) f s k q) (seam_of f (k + 1)).head)
                  (k + 1) row_start (length f.items - (k + 1))
            ])
            ≡ steps (all_rows d) d f (lay_all (strip_behind (all_rows d) f s k q) (seam_of f (k + 1)).head) (k + 1) row_start
            (length f.items - (k + 1))
        go true e = absurd (cc)
        go false e = refl

    pub goes-on : is_forced (seam_of f (k + 1)).level ≡ false → (new : Option Place) → new ≡ consider best last st →
        IsWalked d f t h (k + 1) row_start (lay_all (strip_behind (all_rows d) f s k q) (seam_of f (k + 1)).head) new
        (Some (behind st)) (passed ++ st ∷ [])
    goes-on unforced new is = record {
      parted = fit-cut ∙ ap (λ ss. after_passed (passed ++ st ∷ []) (cut h ss)) (more-goes unforced);
      ends = fit-ends ∙ ap (λ ss. walk (all_rows d) (avoids_at d f) h (consider best last st) (Some (behind st)) ss)
          (more-goes unforced)
          ∙ ap (λ b. walk (all_rows d) (avoids_at d f) h b (Some (behind st))
          (steps (all_rows d) d f (lay_all (strip_behind (all_rows d) f s k q) (seam_of f (k + 1)).head) (k + 1) row_start
          (length f.items - (k + 1)))) (sym is);
      count = let c = walked.count in let l = length-append passed (st ∷ []) in omega arith;
      seen = λ e. absurd (cc);
      some = let l = length-append passed (st ∷ []) in omega arith;
    }

  -- the item is looked at, whatever comes of it
  pub looks-more : length passed + 1 ≤ looks (all_rows d) d f t h
  unfolding looks
  looks-more =
      let e = ap looks_of parts in
      let l = go (nat_lt h st.need) in
      omega arith
    where
      go : (b : Bool) → length passed + 1 ≤ looks_of
          (after_passed passed (cond b (record { before = []; stop = Some st }) (longer st (cut h more))))
      go true = let l = length-append passed [] in omega arith
      go false = let l = length-append passed (st ∷ (cut h more).before) in omega arith

-- ---- what code keeps of it

-- the best place with the last one among them
pub considered-is : (best last : Option Place) (s : Step) (level : Level) → level ≡ s.level
    → IfSome last (λ p. (p.end ≡ s.item ∷ []) × (p.overflow ≡ false)) →
    considered best last level ≡ consider best last s
considered-is best None s level l is = refl
considered-is best (Some p) s level l (i, o) = rw (l, i, o) refl

pub chosen-is : (b : Option Place) (avoids : ℕ → Bool) (h : ℕ) (s : Step) (filled : Option Filled)
    → chosen b (avoids s.item) s h filled ≡ stop_place avoids h b s filled
chosen-is None avoids h s filled = refl
chosen-is (Some b) avoids h s filled = refl

-- the rows among the items that were passed, and one more
pub rows-more : (passed : List Step) (s : Step) → rows_among (passed ++ s ∷ []) ≡ rows_among passed ++ row_list s.row
rows-more passed s = flat_map-append (λ (s : Step). row_list s.row) passed (s ∷ [])
    ∙ ap (λ us. rows_among passed ++ us) (append-nil (row_list s.row))
